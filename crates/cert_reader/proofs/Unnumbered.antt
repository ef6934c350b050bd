-- Drafts that are the same but for the numbers of their lines go on in the same way.
use Rattle.std.proofs.Common.{◌≡◌, ℕ, ◌+◌, Bool, true, false, ◌||◌, List, [], ◌∷◌, ◌++◌, length, map, Option, None, Some, Ok, Err, refl, sym, ap, subst, ◌∙◌}
use Rattle.std.specs.Prelude.{◌^◌, nat_le, if◌then◌else◌}
use Rattle.std.specs.List.{list_any}
use Rattle.std.specs.Option.{option_map}
use Rattle.std.specs.Str.{bytes_eq}
use Rattle.std.proofs.lemmas.List.{map-append}
use Rattle.cert_lines.specs.Sums.{are_past}
use Rattle.cert_lines.specs.Order.{origin_of, steps_of}
use Rattle.cert_lines.specs.declared.certificates.Fact.{Fact}
use Rattle.cert_lines.specs.declared.certificates.FactKind.{FactKind}
use Rattle.cert_lines.specs.declared.certificates.FactKind.TheVariants.{Flow, Trap, Bound}
use Rattle.cert_lines.specs.declared.certificates.Section.{Section}
use Rattle.cert_lines.specs.declared.certificates.Step.{Step}
use Rattle.cert_lines.specs.declared.certificates.Version.{Version}
use Rattle.cert_lines.specs.declared.statements.Claim.{Claim}
use Rattle.cert_lines.specs.declared.statements.Claim.TheVariants as claim
use Rattle.cert_lines.specs.declared.statements.Statement.{Statement}
use Rattle.cert_lines.specs.declared.statements.Statement.TheVariants as say
use Rattle.prefix_trees.specs.Trees.{opens_after}
use Rattle.cert_reader.specs.Reading.{DraftState, after, at_stage, amounts_of, branches_of, fact_at, grown, is_bound, is_past_limits, is_repeated, kind_of, last_fact, may_stand, may_stand_at, names_of, no_section, node_at, origins_of, same_origin, settled_by, stage_after, stage_behind, step_at, take_statement, takes_steps, with_facts, with_node, with_step}
use Rattle.cert_reader.specs.Rewriting.{unnumbered_fact, unnumbered_kind, unnumbered_node, unnumbered_section, unnumbered_step}
use Rattle.cert_reader.specs.declared.faults.CertFault.TheVariants as fault
use Rattle.cert_reader.specs.declared.stages.Stage.{Stage}
use Rattle.cert_reader.specs.declared.stages.Stage.TheVariants as stage

pub record IsSame (one other : DraftState) : Type 0 where
  pub stage : one.stage ≡ other.stage
  pub version : one.version ≡ other.version
  pub facts : map unnumbered_fact one.facts ≡ map unnumbered_fact other.facts
  pub ids : one.ids ≡ other.ids
  pub sections : map unnumbered_section one.sections ≡ map unnumbered_section other.sections
  pub current : unnumbered_section one.current ≡ unnumbered_section other.current
  pub opens : one.opens ≡ other.opens
  pub nodes : one.nodes ≡ other.nodes

-- what a statement is tested against doesn't depend on the numbers
names_same : (facts : List Fact) → names_of (map unnumbered_fact facts) ≡ names_of facts
names_same [] = refl
names_same (fact ∷ facts) = ap (λ names. fact.name ∷ names) (names_same facts)

last_same : (facts : List Fact) → last_fact (map unnumbered_fact facts) ≡ option_map unnumbered_fact (last_fact facts)
last_same [] = refl
last_same (fact ∷ []) = refl
last_same (fact ∷ next ∷ facts) = last_same (next ∷ facts)

bound_same : (kind : FactKind) → is_bound (unnumbered_kind kind) ≡ is_bound kind
bound_same (Flow weights) = refl
bound_same (Trap places) = refl
bound_same (Bound limit weights steps) = refl

takes_same : (o : Option Fact) → takes_steps (option_map unnumbered_fact o) ≡ takes_steps o
takes_same None = refl
takes_same (Some fact) = bound_same fact.kind

steps_same : (steps : List Step) → map origin_of (map unnumbered_step steps) ≡ map origin_of steps
steps_same [] = refl
steps_same (step ∷ steps) = ap (λ origins. origin_of step ∷ origins) (steps_same steps)

kind_same : (kind : FactKind) → map origin_of (steps_of (unnumbered_kind kind)) ≡ map origin_of (steps_of kind)
kind_same (Flow weights) = refl
kind_same (Trap places) = refl
kind_same (Bound limit weights steps) = steps_same steps

origins_same : (o : Option Fact) → origins_of (option_map unnumbered_fact o) ≡ origins_of o
origins_same None = refl
origins_same (Some fact) = kind_same fact.kind

module _ (one other : DraftState) (same : IsSame one other) where
  same_names : names_of one.facts ≡ names_of other.facts
  same_names = sym (names_same one.facts) ∙ ap names_of same.facts ∙ names_same other.facts

  same_last : option_map unnumbered_fact (last_fact one.facts) ≡ option_map unnumbered_fact (last_fact other.facts)
  same_last = sym (last_same one.facts) ∙ ap last_fact same.facts ∙ last_same other.facts

  same_takes : takes_steps (last_fact one.facts) ≡ takes_steps (last_fact other.facts)
  same_takes = sym (takes_same (last_fact one.facts)) ∙ ap takes_steps same_last ∙ takes_same (last_fact other.facts)

  same_origins : origins_of (last_fact one.facts) ≡ origins_of (last_fact other.facts)
  same_origins = sym (origins_same (last_fact one.facts)) ∙ ap origins_of same_last ∙ origins_same (last_fact other.facts)

  same_at : (at : Stage) (version : Version) (statement : Statement) → may_stand_at at version one.facts statement ≡ may_stand_at at version other.facts statement
  same_at stage.Facts version (say.Step step) = same_takes
  same_at at version statement = refl

  same_stand : (statement : Statement) → may_stand one statement ≡ may_stand other statement
  same_stand statement =
      ap (λ at. may_stand_at at one.version one.facts statement) same.stage
      ∙ ap (λ version. may_stand_at other.stage version one.facts statement) same.version
      ∙ same_at other.stage other.version statement

  same_repeated : (statement : Statement) → is_repeated one statement ≡ is_repeated other statement
  same_repeated (say.Property id) = ap (list_any (bytes_eq id)) same.ids
  same_repeated (say.Fact name said) = ap (list_any (bytes_eq name)) same_names
  same_repeated (say.Step step) = ap (list_any (same_origin step.origin)) same_origins
  same_repeated statement = refl

  same_limits : (statement : Statement) → is_past_limits one statement ≡ is_past_limits other statement
  same_limits (say.Node form) =
      ap (λ n. nat_le (2 ^ 20) n || nat_le 256 (length one.opens)) same.nodes
      ∙ ap (λ opens. nat_le (2 ^ 20) other.nodes || nat_le 256 (length opens)) same.opens
  same_limits statement = refl

-- and neither does the draft after it, numbers aside
grown_same : (kind : FactKind) (step : Step) → unnumbered_kind (grown kind step) ≡ grown (unnumbered_kind kind) (unnumbered_step step)
grown_same (Flow weights) step = refl
grown_same (Trap places) step = refl
grown_same (Bound limit weights steps) step = ap (Bound limit weights) (map-append unnumbered_step steps (step ∷ []))

with_step_same : (facts : List Fact) (step : Step) → map unnumbered_fact (with_step facts step) ≡ with_step (map unnumbered_fact facts) (unnumbered_step step)
with_step_same [] step = refl
with_step_same (fact ∷ []) step = ap (λ kind. record { line = 0; name = fact.name; kind = kind } ∷ []) (grown_same fact.kind step)
with_step_same (fact ∷ next ∷ facts) step = ap (λ later. unnumbered_fact fact ∷ later) (with_step_same (next ∷ facts) step)

kind_begun : (said : Claim) → unnumbered_kind (kind_of said) ≡ kind_of said
kind_begun (claim.Flow weights) = refl
kind_begun (claim.Trap places) = refl
kind_begun (claim.Bound limit weights) = refl

fact_begun : (number : ℕ) (name : List ℕ) (said : Claim) → unnumbered_fact (fact_at number name said) ≡ fact_at 0 name said
fact_begun number name said = ap (λ kind. record { line = 0; name = name; kind = kind }) (kind_begun said)

more_same : (number : ℕ) (facts : List Fact) (name : List ℕ) (said : Claim)
    → map unnumbered_fact (facts ++ fact_at number name said ∷ []) ≡ map unnumbered_fact facts ++ fact_at 0 name said ∷ []
more_same number facts name said =
    map-append unnumbered_fact facts (fact_at number name said ∷ [])
    ∙ ap (λ fact. map unnumbered_fact facts ++ fact ∷ []) (fact_begun number name said)

same_settled : (w : List ℕ) (one other : DraftState) → IsSame one other → IsSame (settled_by w one) (settled_by w other)
same_settled [] one other same = record {
  stage = refl;
  version = same.version;
  facts = same.facts;
  ids = same.ids;
  sections = map-append unnumbered_section one.sections (one.current ∷ [])
      ∙ ap (λ sections. sections ++ unnumbered_section one.current ∷ []) same.sections
      ∙ ap (λ current. map unnumbered_section other.sections ++ current ∷ []) same.current
      ∙ sym (map-append unnumbered_section other.sections (other.current ∷ []));
  current = refl;
  opens = same.opens;
  nodes = same.nodes;
}
same_settled (count ∷ counts) one other same = same

same_facts : (one other : DraftState) (facts again : List Fact) → IsSame one other → map unnumbered_fact facts ≡ map unnumbered_fact again → IsSame (with_facts one facts) (with_facts other again)
same_facts one other facts again same is = record {
  stage = same.stage;
  version = same.version;
  facts = is;
  ids = same.ids;
  sections = same.sections;
  current = same.current;
  opens = same.opens;
  nodes = same.nodes;
}

same_stage : (one other : DraftState) (next : Stage) → IsSame one other → IsSame (at_stage one next) (at_stage other next)
same_stage one other next same = record {
  stage = refl;
  version = same.version;
  facts = same.facts;
  ids = same.ids;
  sections = same.sections;
  current = same.current;
  opens = same.opens;
  nodes = same.nodes;
}

pub same_after : (number again : ℕ) (one other : DraftState) (statement : Statement) → IsSame one other → IsSame (after number one statement) (after again other statement)
same_after number again one other (say.Certificate version) same = record {
  stage = refl;
  version = refl;
  facts = same.facts;
  ids = same.ids;
  sections = same.sections;
  current = same.current;
  opens = same.opens;
  nodes = same.nodes;
}
same_after number again one other (say.Property id) same = record {
  stage = ap stage_behind same.version;
  version = same.version;
  facts = same.facts;
  ids = ap (λ ids. ids ++ id ∷ []) same.ids;
  sections = same.sections;
  current = refl;
  opens = same.opens;
  nodes = same.nodes;
}
same_after number again one other (say.Fact name said) same =
    same_facts one other (one.facts ++ fact_at number name said ∷ []) (other.facts ++ fact_at again name said ∷ []) same
    (more_same number one.facts name said ∙ ap (λ facts. facts ++ fact_at 0 name said ∷ []) same.facts ∙ sym (more_same again other.facts name said))
same_after number again one other (say.Step step) same =
    same_facts one other (with_step one.facts (step_at number step)) (with_step other.facts (step_at again step)) same
    (with_step_same one.facts (step_at number step) ∙ ap (λ facts. with_step facts (step_at 0 step)) same.facts ∙ sym (with_step_same other.facts (step_at again step)))
same_after number again one other say.Proof same = same_stage one other stage.Tree same
same_after number again one other (say.Node form) same =
    let opens = opens_after (branches_of form) one.opens in
    let opens_again = opens_after (branches_of form) other.opens in
    let is : opens ≡ opens_again = ap (opens_after (branches_of form)) same.opens in
    let now : IsSame (with_node one (node_at number form) opens) (with_node other (node_at again form) opens_again) = record {
      stage = refl;
      version = same.version;
      facts = same.facts;
      ids = same.ids;
      sections = same.sections;
      current = ap (λ nodes. record { line = 0; property = one.current.property; tree = nodes }) (map-append unnumbered_node one.current.tree (node_at number form ∷ []))
          ∙ ap (λ section. record { line = 0; property = section.property; tree = section.tree ++ node_at 0 form ∷ [] }) same.current
          ∙ ap (λ nodes. record { line = 0; property = other.current.property; tree = nodes }) (sym (map-append unnumbered_node other.current.tree (node_at again form ∷ [])));
      opens = is;
      nodes = ap (λ n. n + 1) same.nodes;
    } in
    subst (λ w. IsSame (settled_by opens (with_node one (node_at number form) opens)) (settled_by w (with_node other (node_at again form) opens_again))) is
    (same_settled opens (with_node one (node_at number form) opens) (with_node other (node_at again form) opens_again) now)
same_after number again one other say.End same = same_stage one other stage.Nothing same

pub record IsTaken (number : ℕ) (draft : DraftState) (statement : Statement) (next : DraftState) : Type 0 where
  pub stands : may_stand draft statement ≡ true
  pub fresh : is_repeated draft statement ≡ false
  pub small : are_past (amounts_of statement) ≡ false
  pub within : is_past_limits draft statement ≡ false
  pub is : after number draft statement ≡ next

pub taken : (number : ℕ) (draft : DraftState) (statement : Statement) (next : DraftState) → take_statement number draft statement ≡ Ok next → IsTaken number draft statement next
taken number draft statement next e = by (may_stand draft statement) (is_repeated draft statement) (are_past (amounts_of statement)) (is_past_limits draft statement) refl refl refl refl e
  where
    by : (a b c d : Bool) → may_stand draft statement ≡ a → is_repeated draft statement ≡ b → are_past (amounts_of statement) ≡ c → is_past_limits draft statement ≡ d
        → (if a then (if b then Err (fault.Repeated number) else if c then Err (fault.Coefficient number) else if d then Err (fault.CertLimit number) else Ok (after number draft statement)) else Err (fault.Line number)) ≡ Ok next
        → IsTaken number draft statement next
    by false b c d stands fresh small within e = absurd (cc)
    by true true c d stands fresh small within e = absurd (cc)
    by true false true d stands fresh small within e = absurd (cc)
    by true false false true stands fresh small within e = absurd (cc)
    by true false false false stands fresh small within e = record { stands = stands; fresh = fresh; small = small; within = within; is = cc }

pub same_taken : (number again : ℕ) (one other : DraftState) (statement : Statement) → IsSame one other → (next : DraftState) → IsTaken number one statement next
    → take_statement again other statement ≡ Ok (after again other statement)
same_taken number again one other statement same next is =
    ap (λ t. if t then (if is_repeated other statement then Err (fault.Repeated again) else if are_past (amounts_of statement) then Err (fault.Coefficient again) else if is_past_limits other statement then Err (fault.CertLimit again) else Ok (after again other statement)) else Err (fault.Line again))
    (sym (same_stand one other same statement) ∙ is.stands)
    ∙ ap (λ t. if t then Err (fault.Repeated again) else if are_past (amounts_of statement) then Err (fault.Coefficient again) else if is_past_limits other statement then Err (fault.CertLimit again) else Ok (after again other statement))
    (sym (same_repeated one other same statement) ∙ is.fresh)
    ∙ ap (λ t. if t then Err (fault.Coefficient again) else if is_past_limits other statement then Err (fault.CertLimit again) else Ok (after again other statement)) is.small
    ∙ ap (λ t. if t then Err (fault.CertLimit again) else Ok (after again other statement)) (sym (same_limits one other same statement) ∙ is.within)
