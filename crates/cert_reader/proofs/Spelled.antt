-- What is read is spelled, and what is spelled is read.
use Rattle.std.proofs.Common.{◌≡◌, ℕ, zero, suc, ◌+◌, ◌≤◌, true, false, List, [], ◌∷◌, ◌++◌, Result, Ok, Err, refl, sym, ap, subst, ◌∙◌, arith}
use Rattle.std.specs.Prelude.{◌^◌, if◌then◌else◌}
use Rattle.std.specs.List.{AllByRecursion, IsDistinct}
use Rattle.std.specs.Str.{bytes_eq}
use Rattle.cert_lines.specs.Statements.{line_of}
use Rattle.cert_lines.specs.Sums.{are_past}
use Rattle.line_words.specs.Words.{lines_of}
use Rattle.cert_lines.specs.declared.certificates.Cert.{Cert}
use Rattle.cert_lines.specs.declared.certificates.Section.{Section}
use Rattle.cert_lines.specs.Statements.{CertLine}
use Rattle.line_words.specs.declared.lines.Line.TheVariants.{Passed, Faulty, Says}
use Rattle.cert_lines.specs.declared.statements.Statement.{Statement}
use Rattle.cert_reader.specs.Grammar.{HasTrees, Spells, amounts_on, spoken, spoken_from, unless_passed}
use Rattle.cert_reader.specs.Reading.{DraftState, after, amounts_of, cert_of, certificate_of, finished_at, going_on, is_past_limits, is_repeated, may_stand, nothing_read, read_lines, take_said, take_statement}
use Rattle.cert_reader.specs.declared.faults.CertFault.{CertFault}
use Rattle.cert_reader.specs.declared.faults.CertFault.TheVariants as fault
use Rattle.cert_reader.specs.declared.stages.Stage.{Stage}
use Rattle.cert_reader.specs.declared.stages.Stage.TheVariants as stage
use Rattle.cert_reader.proofs.Limits.{IsLow, Limited, limited_after, limited_back, limited_before}
use Rattle.cert_reader.proofs.Orders.{Follows, follow_once, follow_order, order_past, past_lines, whole}
use Rattle.cert_reader.proofs.Read.{Past, past_after, past_nothing}
use Rattle.cert_reader.proofs.Unnumbered.{IsTaken, taken}

abbrev IsSmall : ℕ × CertLine → Type 0
IsSmall line = are_past (amounts_on line.1) ≡ false

pub nothing_limited : Limited nothing_read
unfolding IsDistinct
nothing_limited = record { names = tt; steps = tt; ids = tt; nodes = omega arith; trees = tt; grown = tt }

-- a statement that passes the tests is taken
pub passes : (number : ℕ) (draft : DraftState) (statement : Statement) → may_stand draft statement ≡ true → is_repeated draft statement ≡ false
    → are_past (amounts_of statement) ≡ false → is_past_limits draft statement ≡ false → take_statement number draft statement ≡ Ok (after number draft statement)
passes number draft statement stands fresh small within =
    ap (λ t. if t then (if is_repeated draft statement then Err (fault.Repeated number) else if are_past (amounts_of statement) then Err (fault.Coefficient number) else if is_past_limits draft statement then Err (fault.CertLimit number) else Ok (after number draft statement)) else Err (fault.Line number)) stands
    ∙ ap (λ t. if t then Err (fault.Repeated number) else if are_past (amounts_of statement) then Err (fault.Coefficient number) else if is_past_limits draft statement then Err (fault.CertLimit number) else Ok (after number draft statement)) fresh
    ∙ ap (λ t. if t then Err (fault.Coefficient number) else if is_past_limits draft statement then Err (fault.CertLimit number) else Ok (after number draft statement)) small
    ∙ ap (λ t. if t then Err (fault.CertLimit number) else Ok (after number draft statement)) within

-- lines that give a certificate
pub record AreRead (draft : DraftState) (lines : List (ℕ × CertLine)) (cert : Cert) : Type 0 where
  pub last : DraftState
  pub follows : Follows draft lines last
  pub over : last.stage ≡ stage.Nothing
  pub is : cert_of last ≡ cert
  pub limited : Limited last
  pub small : AllByRecursion IsSmall lines

finished_ok : (at : Stage) (number : ℕ) (draft : DraftState) (cert : Cert) → draft.stage ≡ at → finished_at at number draft ≡ Ok cert → (draft.stage ≡ stage.Nothing) × (cert_of draft ≡ cert)
finished_ok stage.Nothing number draft cert is e = (is, cc)
finished_ok at number draft cert is e = absurd (cc)

read_more : (number : ℕ) (draft : DraftState) (front lines : List (ℕ × CertLine)) (cert : Cert) (statement : Statement) → Past draft front → Limited draft
    → IsTaken number draft statement (after number draft statement) → AreRead (after number draft statement) lines cert → AreRead draft ((number, Says statement) ∷ lines) cert
read_more number draft front lines cert statement past limited is read = record {
  last = read.last;
  follows = (statement, refl, is.stands, read.follows);
  over = read.over;
  is = read.is;
  limited = read.limited;
  small = (is.small, read.small);
}

read_ok : (lines : List (List ℕ)) (number : ℕ) (draft : DraftState) (front : List (ℕ × CertLine)) (cert : Cert) → Past draft front → Limited draft
    → read_lines number draft lines ≡ Ok cert → AreRead draft (spoken_from number lines) cert
read_ok [] number draft front cert past limited e =
    let over = finished_ok draft.stage number draft cert refl e in
    record { last = draft; follows = refl; over = over.0; is = over.1; limited = limited; small = tt }
read_ok (line ∷ lines) number draft front cert past limited e = by (line_of line) e (read_ok lines (number + 1))
  where
    by : (said : CertLine) → going_on (take_said number draft said) (λ next. read_lines (number + 1) next lines) ≡ Ok cert
        → ((draft : DraftState) (front : List (ℕ × CertLine)) (cert : Cert) → Past draft front → Limited draft → read_lines (number + 1) draft lines ≡ Ok cert → AreRead draft (spoken_from (number + 1) lines) cert)
        → AreRead draft (unless_passed number said ++ spoken_from (number + 1) lines) cert
    by Passed e later = later draft front cert past limited e
    by Faulty e later = absurd (cc)
    by (Says statement) e later = on (take_statement number draft statement) refl e
      where
        on : (r : Result DraftState CertFault) → take_statement number draft statement ≡ r → going_on r (λ next. read_lines (number + 1) next lines) ≡ Ok cert
            → AreRead draft ((number, Says statement) ∷ spoken_from (number + 1) lines) cert
        on (Err refusal) is e = absurd (cc)
        on (Ok next) is e =
            let t = taken number draft statement next is in
            let again : IsTaken number draft statement (after number draft statement) = record { stands = t.stands; fresh = t.fresh; small = t.small; within = t.within; is = refl } in
            read_more number draft front (spoken_from (number + 1) lines) cert statement past limited again
            (later (after number draft statement) (front ++ (number, Says statement) ∷ []) cert (past_after number draft front statement past t.stands)
            (limited_after number draft front past statement t.stands t.fresh t.within limited)
            (subst (λ d. read_lines (number + 1) d lines ≡ Ok cert) (sym t.is) e))

read_is : (lines : List (List ℕ)) (number : ℕ) (draft last : DraftState) (front : List (ℕ × CertLine)) → Past draft front → Follows draft (spoken_from number lines) last
    → last.stage ≡ stage.Nothing → Limited last → AllByRecursion IsSmall (spoken_from number lines) → read_lines number draft lines ≡ Ok (cert_of last)
read_is [] number draft last front past follows over limited small =
    ap (λ s. finished_at s number draft) (ap (λ d. d.stage) (sym follows) ∙ over) ∙ ap (λ d. Ok (cert_of d)) (sym follows)
read_is (line ∷ lines) number draft last front past follows over limited small = by (line_of line) follows small (read_is lines (number + 1))
  where
    by : (said : CertLine) → Follows draft (unless_passed number said ++ spoken_from (number + 1) lines) last → AllByRecursion IsSmall (unless_passed number said ++ spoken_from (number + 1) lines)
        → ((draft last : DraftState) (front : List (ℕ × CertLine)) → Past draft front → Follows draft (spoken_from (number + 1) lines) last
        → last.stage ≡ stage.Nothing → Limited last → AllByRecursion IsSmall (spoken_from (number + 1) lines) → read_lines (number + 1) draft lines ≡ Ok (cert_of last))
        → going_on (take_said number draft said) (λ next. read_lines (number + 1) next lines) ≡ Ok (cert_of last)
    by Passed follows small later = later draft last front past follows over limited small
    by Faulty (statement, says, stands, follows) small later = absurd (cc)
    by (Says spoken) (statement, says, stands, follows) (first, small) later =
        let same : statement ≡ spoken = cc in
        let now = past_after number draft front statement past stands in
        let before = limited_before number draft front past statement stands (limited_back (spoken_from (number + 1) lines) (after number draft statement) last _ now follows limited) in
        ap (λ s. going_on (take_statement number draft s) (λ next. read_lines (number + 1) next lines)) (sym same)
        ∙ ap (λ r. going_on r (λ next. read_lines (number + 1) next lines))
        (passes number draft statement stands before.fresh (subst (λ s. are_past (amounts_of s) ≡ false) (sym same) first) before.within)
        ∙ later (after number draft statement) last (front ++ (number, Says statement) ∷ []) now follows over limited small

-- trees up to a depth are trees
pub all_trees : (sections : List Section) → AllByRecursion IsLow sections → HasTrees sections
all_trees [] low = tt
all_trees (section ∷ sections) (first, low) = ((256, first), all_trees sections low)

pub spells_read : (bytes : List ℕ) (cert : Cert) → certificate_of bytes ≡ Ok cert → Spells bytes cert
spells_read bytes cert e =
    let read = read_ok (lines_of bytes) 1 nothing_read [] cert past_nothing nothing_limited e in
    let past = past_lines nothing_read read.last [] (spoken bytes) past_nothing read.follows in
    let order = order_past read.last (spoken bytes) read.over past in
    let limited = read.limited in
    let same : read.last ≡ whole (cert_of read.last) =
    follow_once nothing_read read.last (whole (cert_of read.last)) (spoken bytes) read.follows (follow_order (spoken bytes) (cert_of read.last) order.0 order.1) in
    subst (Spells bytes) read.is (record {
      order = order.0;
      names = limited.names;
      steps = limited.steps;
      properties = subst (IsDistinct bytes_eq) (ap (λ d. d.ids) same) limited.ids;
      sums = read.small;
      nodes = subst (λ n. n ≤ 2 ^ 20) (ap (λ d. d.nodes) same) limited.nodes;
      trees = limited.trees;
    })

pub reads_spelled : (bytes : List ℕ) (cert : Cert) → Spells bytes cert → certificate_of bytes ≡ Ok cert
reads_spelled bytes cert is =
    read_is (lines_of bytes) 1 nothing_read (whole cert) [] past_nothing (follow_order (spoken bytes) cert is.order (all_trees cert.sections is.trees)) refl
    (record { names = is.names; steps = is.steps; ids = is.properties; nodes = is.nodes; trees = is.trees; grown = tt })
    is.sums
