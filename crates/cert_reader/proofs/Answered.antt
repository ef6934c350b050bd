-- A file has one answer: the certificate that it spells, or its first fault.
use Rattle.std.proofs.Common.{◌≡◌, ℕ, suc, ◌+◌, ◌⊎◌, inl, inr, List, [], ◌∷◌, ◌++◌, length, Result, Ok, Err, IfErr, refl, sym, ap, subst, ◌∙◌, arith}
use Rattle.std.proofs.lemmas.Bool.{true≢false}
use Rattle.std.proofs.lemmas.List.{append_assoc, append-nil, append_cancel_left}
use Rattle.cert_lines.specs.Statements.{line_of}
use Rattle.line_words.specs.Words.{lines_of}
use Rattle.cert_lines.specs.declared.certificates.Cert.{Cert}
use Rattle.cert_lines.specs.Statements.{CertLine}
use Rattle.line_words.specs.declared.lines.Line.TheVariants.{Passed, Faulty, Says}
use Rattle.cert_lines.specs.declared.statements.Statement.{Statement}
use Rattle.cert_reader.specs.Grammar.{HasFault, HasLineFault, IsAtFault, IsCertificate, IsFaultless, IsInOrder, IsRefusal, HasTrees, HaveOneAnswer, Spells, spoken, spoken_from, unless_passed}
use Rattle.cert_reader.specs.Reading.{DraftState, IsAnswer, after, certificate_of, finished_at, going_on, nothing_read, read_lines, take_said, take_statement}
use Rattle.cert_reader.specs.declared.faults.CertFault.{CertFault}
use Rattle.cert_reader.specs.declared.faults.CertFault.TheVariants as fault
use Rattle.cert_reader.specs.declared.stages.Stage.{Stage}
use Rattle.cert_reader.specs.declared.stages.Stage.TheVariants as stage
use Rattle.cert_reader.proofs.LineFaults.{faulty_fault, line_fault, no_line_fault}
use Rattle.cert_reader.proofs.Lists.{heads, tails}
use Rattle.cert_reader.proofs.Orders.{Follows, follow_on, follow_once, follow_order, whole}
use Rattle.cert_reader.proofs.Read.{Past, past_after, past_nothing}
use Rattle.cert_reader.proofs.Spelled.{all_trees, reads_spelled, spells_read}
use Rattle.cert_reader.proofs.Unnumbered.{taken}

-- where a list is cut in two ways
not_empty : {X : Type 0} (xs : List X) (y : X) (ys : List X) → [] ≡ xs ++ y ∷ ys → ⊥
not_empty [] y ys e = cc
not_empty (x ∷ xs) y ys e = cc

abbrev Cuts : {X : Type 0} → List X → X → List X → X → Type 0
Cuts {X} one x other y =
    ((one ≡ other) × (x ≡ y)) ⊎ (((rest : List X) × (other ≡ one ++ x ∷ rest)) ⊎ ((rest : List X) × (one ≡ other ++ y ∷ rest)))

longer_cut : {X : Type 0} (z : X) (one : List X) (x : X) (other : List X) (y : X) → Cuts one x other y → Cuts (z ∷ one) x (z ∷ other) y
longer_cut z one x other y (inl (is, same)) = inl (ap (λ w. z ∷ w) is, same)
longer_cut z one x other y (inr (inl (rest, is))) = inr (inl (rest, ap (λ w. z ∷ w) is))
longer_cut z one x other y (inr (inr (rest, is))) = inr (inr (rest, ap (λ w. z ∷ w) is))

two_cuts : {X : Type 0} (one : List X) (x : X) (xs other : List X) (y : X) (ys : List X) → one ++ x ∷ xs ≡ other ++ y ∷ ys → Cuts one x other y
two_cuts [] x xs [] y ys e = inl (refl, heads x y xs ys e)
two_cuts [] x xs (o ∷ other) y ys e = inr (inl (other, ap (λ w. w ∷ other) (sym (heads x o xs (other ++ y ∷ ys) e))))
two_cuts (o ∷ one) x xs [] y ys e = inr (inr (one, ap (λ w. w ∷ one) (heads o y (one ++ x ∷ xs) ys e)))
two_cuts (o ∷ one) x xs (p ∷ other) y ys e =
    let same = heads o p (one ++ x ∷ xs) (other ++ y ∷ ys) e in
    subst (λ q. Cuts (o ∷ one) x (q ∷ other) y) same (longer_cut o one x other y (two_cuts one x xs other y ys (tails o p (one ++ x ∷ xs) (other ++ y ∷ ys) e)))

-- one more line without a fault
abbrev NoFault : List (ℕ × CertLine) → ℕ × CertLine → Type 0
NoFault front line = (refusal : CertFault) → HasLineFault front line refusal → ⊥

none_faultless : IsFaultless []
none_faultless before line later refusal is has = not_empty before line later is

faultless_more : (front : List (ℕ × CertLine)) (line : ℕ × CertLine) → IsFaultless front → NoFault front line → IsFaultless (front ++ line ∷ [])
faultless_more front line are none before other later refusal is has = by (two_cuts front line [] before other later is)
  where
    by : Cuts front line before other → ⊥
    by (inl (same, is_line)) = none refusal (subst (λ w. HasLineFault w line refusal) (sym same) (subst (λ l. HasLineFault before l refusal) (sym is_line) has))
    by (inr (inl (rest, longer))) =
        not_empty rest other later
        (tails line line [] (rest ++ other ∷ later) (append_cancel_left front (line ∷ []) (line ∷ (rest ++ other ∷ later))
        (is ∙ ap (λ w. w ++ other ∷ later) longer ∙ append_assoc front (line ∷ rest) (other ∷ later))))
    by (inr (inr (rest, within))) = are before other rest refusal within has

-- a line that is taken has no fault
taken_no_fault : (front : List (ℕ × CertLine)) (draft next : DraftState) (number : ℕ) (statement : Statement) → Follows nothing_read front draft → Past draft front
    → take_statement number draft statement ≡ Ok next → NoFault front (number, Says statement)
taken_no_fault front draft next number statement follows past e = λ refusal has.
    let t = taken number draft statement next e in
    no_line_fault front draft number statement refusal follows past t.stands t.fresh t.small t.within has

-- the lines so far
pub record Reached (front : List (ℕ × CertLine)) (draft : DraftState) : Type 0 where
  pub follows : Follows nothing_read front draft
  pub past : Past draft front
  pub faultless : IsFaultless front

begun : Reached [] nothing_read
begun = record { follows = refl; past = past_nothing; faultless = none_faultless }

reached_more : (front : List (ℕ × CertLine)) (draft next : DraftState) (number : ℕ) (statement : Statement) → Reached front draft → take_statement number draft statement ≡ Ok next
    → Reached (front ++ (number, Says statement) ∷ []) next
reached_more front draft next number statement reached e =
    let t = taken number draft statement next e in
    subst (Reached (front ++ (number, Says statement) ∷ [])) t.is (record {
      follows = follow_on nothing_read draft (after number draft statement) front ((number, Says statement) ∷ []) reached.follows (statement, refl, t.stands, refl);
      past = past_after number draft front statement reached.past t.stands;
      faultless = faultless_more front (number, Says statement) reached.faultless (taken_no_fault front draft next number statement reached.follows reached.past e);
    })

-- the fault that is answered is the first one
abbrev Found : List (ℕ × CertLine) → ℕ → CertFault → Type 0
Found lines end refusal =
    IsAtFault lines refusal ⊎ (IsFaultless lines × ((cert : Cert) → IsInOrder lines cert → HasTrees cert.sections → ⊥) × (refusal ≡ fault.Line end))

unfinished_at : (at : Stage) (number : ℕ) (draft : DraftState) (refusal : CertFault) → draft.stage ≡ at → finished_at at number draft ≡ Err refusal
    → (refusal ≡ fault.Line number) × (draft.stage ≡ stage.Nothing → ⊥)
unfinished_at stage.Nothing number draft refusal is e = absurd (cc)
unfinished_at at number draft refusal is e = (cc, λ over. cc)

found : (lines : List (List ℕ)) (number : ℕ) (draft : DraftState) (front : List (ℕ × CertLine)) (refusal : CertFault) → Reached front draft
    → read_lines number draft lines ≡ Err refusal → Found (front ++ spoken_from number lines) (number + length lines) refusal
found [] number draft front refusal reached e =
    let end = unfinished_at draft.stage number draft refusal refl e in
    subst (λ w. Found w (number + 0) refusal) (sym (append-nil front)) (inr (
      reached.faultless,
      λ cert order trees.
          let same = follow_once nothing_read draft (whole cert) front reached.follows (follow_order front cert order trees) in
          end.1 (ap (λ d. d.stage) same),
      end.0 ∙ ap fault.Line (let none : number ≡ number + 0 = omega arith in none),
    ))
found (line ∷ lines) number draft front refusal reached e = by (line_of line) e (found lines (number + 1))
  where
    ends : number + 1 + length lines ≡ number + suc (length lines)
    ends = omega arith

    by : (said : CertLine) → going_on (take_said number draft said) (λ next. read_lines (number + 1) next lines) ≡ Err refusal
        → ((draft : DraftState) (front : List (ℕ × CertLine)) (refusal : CertFault) → Reached front draft → read_lines (number + 1) draft lines ≡ Err refusal
        → Found (front ++ spoken_from (number + 1) lines) (number + 1 + length lines) refusal)
        → Found (front ++ (unless_passed number said ++ spoken_from (number + 1) lines)) (number + suc (length lines)) refusal
    by Passed e later = subst (λ n. Found (front ++ spoken_from (number + 1) lines) n refusal) ends (later draft front refusal reached e)
    by Faulty e later =
        let same : fault.Line number ≡ refusal = cc in
        inl (
          front,
          (number, Faulty),
          spoken_from (number + 1) lines,
          refl,
          reached.faultless,
          subst (HasLineFault front (number, Faulty)) same (faulty_fault front draft number reached.follows),
        )
    by (Says statement) e later = on (take_statement number draft statement) refl e
      where
        on : (r : Result DraftState CertFault) → take_statement number draft statement ≡ r → going_on r (λ next. read_lines (number + 1) next lines) ≡ Err refusal
            → Found (front ++ (number, Says statement) ∷ spoken_from (number + 1) lines) (number + suc (length lines)) refusal
        on (Err other) is e =
            let same : other ≡ refusal = cc in
            inl (
              front,
              (number, Says statement),
              spoken_from (number + 1) lines,
              refl,
              reached.faultless,
              line_fault front draft number statement refusal reached.follows reached.past (is ∙ ap Err same),
            )
        on (Ok next) is e =
            subst (λ w. Found w (number + suc (length lines)) refusal) (append_assoc front ((number, Says statement) ∷ []) (spoken_from (number + 1) lines))
            (subst (λ n. Found ((front ++ (number, Says statement) ∷ []) ++ spoken_from (number + 1) lines) n refusal) ends
            (later next (front ++ (number, Says statement) ∷ []) refusal (reached_more front draft next number statement reached is) e))

pub fault_read : (bytes : List ℕ) (refusal : CertFault) → certificate_of bytes ≡ Err refusal → HasFault bytes refusal
fault_read bytes refusal e =
    subst (λ n. Found (spoken bytes) n refusal) (let count : 1 + length (lines_of bytes) ≡ length (lines_of bytes) + 1 = omega arith in count)
    (found (lines_of bytes) 1 nothing_read [] refusal begun e)

-- lines that give a certificate have no fault
ok_faultless : (lines : List (List ℕ)) (number : ℕ) (draft : DraftState) (front : List (ℕ × CertLine)) (cert : Cert) → Reached front draft
    → read_lines number draft lines ≡ Ok cert → IsFaultless (front ++ spoken_from number lines)
ok_faultless [] number draft front cert reached e = subst IsFaultless (sym (append-nil front)) reached.faultless
ok_faultless (line ∷ lines) number draft front cert reached e = by (line_of line) e (ok_faultless lines (number + 1))
  where
    by : (said : CertLine) → going_on (take_said number draft said) (λ next. read_lines (number + 1) next lines) ≡ Ok cert
        → ((draft : DraftState) (front : List (ℕ × CertLine)) (cert : Cert) → Reached front draft → read_lines (number + 1) draft lines ≡ Ok cert → IsFaultless (front ++ spoken_from (number + 1) lines))
        → IsFaultless (front ++ (unless_passed number said ++ spoken_from (number + 1) lines))
    by Passed e later = later draft front cert reached e
    by Faulty e later = absurd (cc)
    by (Says statement) e later = on (take_statement number draft statement) refl e
      where
        on : (r : Result DraftState CertFault) → take_statement number draft statement ≡ r → going_on r (λ next. read_lines (number + 1) next lines) ≡ Ok cert
            → IsFaultless (front ++ (number, Says statement) ∷ spoken_from (number + 1) lines)
        on (Err other) is e = absurd (cc)
        on (Ok next) is e =
            subst IsFaultless (append_assoc front ((number, Says statement) ∷ []) (spoken_from (number + 1) lines))
            (later next (front ++ (number, Says statement) ∷ []) cert (reached_more front draft next number statement reached is) e)

-- a line has one fault
one_line_fault : (front : List (ℕ × CertLine)) (line : ℕ × CertLine) (one other : CertFault) → HasLineFault front line one → HasLineFault front line other → one ≡ other
one_line_fault front line (fault.Line m) (fault.Line n) a b = ap fault.Line (a.0 ∙ sym b.0)
one_line_fault front line (fault.Repeated m) (fault.Repeated n) a b = ap fault.Repeated (a.0 ∙ sym b.0)
one_line_fault front line (fault.Coefficient m) (fault.Coefficient n) a b = ap fault.Coefficient (a.0 ∙ sym b.0)
one_line_fault front line (fault.CertLimit m) (fault.CertLimit n) a b = ap fault.CertLimit (a.0 ∙ sym b.0)
one_line_fault front line (fault.Line m) (fault.Repeated n) a b = absurd (a.1 b.1)
one_line_fault front line (fault.Line m) (fault.Coefficient n) a b = absurd (a.1 b.1)
one_line_fault front line (fault.Line m) (fault.CertLimit n) a b = absurd (a.1 b.1)
one_line_fault front line (fault.Repeated m) (fault.Line n) a b = absurd (b.1 a.1)
one_line_fault front line (fault.Coefficient m) (fault.Line n) a b = absurd (b.1 a.1)
one_line_fault front line (fault.CertLimit m) (fault.Line n) a b = absurd (b.1 a.1)
one_line_fault front line (fault.Repeated m) (fault.Coefficient n) a b = absurd (b.2 a.2)
one_line_fault front line (fault.Repeated m) (fault.CertLimit n) a b = absurd (b.2 a.2)
one_line_fault front line (fault.Coefficient m) (fault.Repeated n) a b = absurd (a.2 b.2)
one_line_fault front line (fault.CertLimit m) (fault.Repeated n) a b = absurd (a.2 b.2)
one_line_fault front line (fault.Coefficient m) (fault.CertLimit n) a b = absurd (true≢false (sym a.3 ∙ b.3))
one_line_fault front line (fault.CertLimit m) (fault.Coefficient n) a b = absurd (true≢false (sym b.3 ∙ a.3))
one_line_fault front line fault.Memory other a b = absurd a
one_line_fault front line one fault.Memory a b = absurd b

-- and so have lines
one_at_fault : (lines : List (ℕ × CertLine)) (one other : CertFault) → IsAtFault lines one → IsAtFault lines other → one ≡ other
one_at_fault lines one other (before, line, later, is, none, has) (before_other, line_other, later_other, is_other, none_other, has_other) =
    by (two_cuts before line later before_other line_other later_other (sym is ∙ is_other))
  where
    by : Cuts before line before_other line_other → one ≡ other
    by (inl (same, same_line)) =
        one_line_fault before line one other has
        (subst (λ w. HasLineFault w line other) (sym same) (subst (λ l. HasLineFault before_other l other) (sym same_line) has_other))
    by (inr (inl (rest, longer))) = absurd (none_other before line rest one longer has)
    by (inr (inr (rest, longer))) = absurd (none before_other line_other rest other longer has_other)

no_at_fault : (lines : List (ℕ × CertLine)) (refusal : CertFault) → IsFaultless lines → IsAtFault lines refusal → ⊥
no_at_fault lines refusal faultless (before, line, later, is, none, has) = faultless before line later refusal is has

pub one_fault : (bytes : List ℕ) (one other : CertFault) → HasFault bytes one → HasFault bytes other → one ≡ other
one_fault bytes one other (inl a) (inl b) = one_at_fault (spoken bytes) one other a b
one_fault bytes one other (inl a) (inr b) = absurd (no_at_fault (spoken bytes) one b.0 a)
one_fault bytes one other (inr a) (inl b) = absurd (no_at_fault (spoken bytes) other a.0 b)
one_fault bytes one other (inr a) (inr b) = a.2 ∙ sym b.2

pub fault_or_spelled : (bytes : List ℕ) (cert : Cert) (refusal : CertFault) → Spells bytes cert → HasFault bytes refusal → ⊥
fault_or_spelled bytes cert refusal spells (inl a) =
    no_at_fault (spoken bytes) refusal (ok_faultless (lines_of bytes) 1 nothing_read [] cert begun (reads_spelled bytes cert spells)) a
fault_or_spelled bytes cert refusal spells (inr a) = a.1 cert spells.order (all_trees cert.sections spells.trees)

pub reads_fault : (bytes : List ℕ) (refusal : CertFault) → HasFault bytes refusal → certificate_of bytes ≡ Err refusal
reads_fault bytes refusal has = by (certificate_of bytes) refl
  where
    by : (r : Result Cert CertFault) → certificate_of bytes ≡ r → certificate_of bytes ≡ Err refusal
    by (Ok cert) e = absurd (fault_or_spelled bytes cert refusal (spells_read bytes cert e) has)
    by (Err other) e = e ∙ ap Err (one_fault bytes other refusal (fault_read bytes other e) has)

pub have_one_answer : HaveOneAnswer
have_one_answer bytes = record {
  one = by (certificate_of bytes) refl;
  one_cert = λ cert other a b. same_ok cert other (sym (reads_spelled bytes cert a) ∙ reads_spelled bytes other b);
  one_fault = one_fault bytes;
  apart = fault_or_spelled bytes;
}
  where
    by : (r : Result Cert CertFault) → certificate_of bytes ≡ r → ((cert : Cert) × Spells bytes cert) ⊎ ((refusal : CertFault) × HasFault bytes refusal)
    by (Ok cert) e = inl (cert, spells_read bytes cert e)
    by (Err refusal) e = inr (refusal, fault_read bytes refusal e)

    same_ok : (cert other : Cert) → (let r : Result Cert CertFault = Ok cert in r) ≡ Ok other → cert ≡ other
    same_ok cert other e = cc

-- an answer of the reader, and a fault that stays whatever comes
pub certificate_answer : (bytes : List ℕ) (result : Result Cert CertFault) → IsAnswer result (certificate_of bytes) → IsCertificate bytes result
certificate_answer bytes (Ok cert) e = spells_read bytes cert e
certificate_answer bytes (Err (fault.Line number)) e = fault_read bytes (fault.Line number) e
certificate_answer bytes (Err (fault.Repeated number)) e = fault_read bytes (fault.Repeated number) e
certificate_answer bytes (Err (fault.Coefficient number)) e = fault_read bytes (fault.Coefficient number) e
certificate_answer bytes (Err (fault.CertLimit number)) e = fault_read bytes (fault.CertLimit number) e
certificate_answer bytes (Err fault.Memory) e = tt

-- the answer of every file that begins with these bytes
pub refusal_of : (refusal : CertFault) (front : List ℕ) → ((more : List ℕ) → IsAnswer {A = Cert} (Err refusal) (certificate_of (front ++ more))) → IsRefusal refusal front
refusal_of (fault.Line number) front is = λ more. fault_read (front ++ more) (fault.Line number) (is more)
refusal_of (fault.Repeated number) front is = λ more. fault_read (front ++ more) (fault.Repeated number) (is more)
refusal_of (fault.Coefficient number) front is = λ more. fault_read (front ++ more) (fault.Coefficient number) (is more)
refusal_of (fault.CertLimit number) front is = λ more. fault_read (front ++ more) (fault.CertLimit number) (is more)
refusal_of fault.Memory front is = tt

pub refused_certificate : (refusal : CertFault) (bytes : List ℕ) → IsRefusal refusal bytes → IsCertificate bytes (Err refusal)
refused_certificate (fault.Line number) bytes is = subst (λ w. HasFault w (fault.Line number)) (append-nil bytes) (is [])
refused_certificate (fault.Repeated number) bytes is = subst (λ w. HasFault w (fault.Repeated number)) (append-nil bytes) (is [])
refused_certificate (fault.Coefficient number) bytes is = subst (λ w. HasFault w (fault.Coefficient number)) (append-nil bytes) (is [])
refused_certificate (fault.CertLimit number) bytes is = subst (λ w. HasFault w (fault.CertLimit number)) (append-nil bytes) (is [])
refused_certificate fault.Memory bytes is = tt
