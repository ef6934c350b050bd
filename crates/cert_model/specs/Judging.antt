-- What the obligations of a certificate come to, taken in order (this project's own).
use Rattle.std.specs.Prelude.{ℕ, ◌+◌, ◌^◌, List, [], ◌∷◌, ◌++◌, map, flat_map, find, not, nat_le, if◌then◌else◌, Option, Some, None}
use Rattle.cert_model.specs.declared.Check.{Check}
use Rattle.cert_model.specs.declared.Check.TheVariants.{True, False, Wide}
use Rattle.cert_model.specs.Sums.{is_true}
use Rattle.cert_model.specs.Nets.{Net}
use Rattle.cert_model.specs.Facts.{Fact, base_checks, step_check}
use Rattle.cert_model.specs.Formulas.{Formula}
use Rattle.cert_model.specs.Trees.{Node, Arrival, walk, cost, node_check}

-- a fact as it stands on its line
pub record Stated : Type 0 where
  pub line : ℕ
  pub fact : Fact

-- a section of a certificate: the invariant of its property, and the tree that is to refute that it fails
pub record Section : Type 0 where
  pub invariant : Formula
  pub tree : List Node

-- where on a line an obligation stands
pub data Spot : Type 0 where
  -- a fact at the initial marking
  Base : Spot
  -- a fact at the kept instance of this number
  Step : ℕ → Spot
  -- a node of a tree
  AtNode : Spot

pub record Obligation : Type 0 where
  pub line : ℕ
  pub spot : Spot
  pub check : Check

-- what a list of obligations comes to: all are true, or the first one that isn't is false or out of range
pub data Judged : Type 0 where
  Shown : Judged
  NotShown : ℕ → Spot → Judged
  Range : ℕ → Spot → Judged

abbrev pub facts_of : List Stated → List Fact
facts_of stated = map (λ s. s.fact) stated

abbrev pub fact_obligations : Net → List Fact → Stated → List Obligation
fact_obligations net earlier stated =
    map (λ c. record { line = stated.line; spot = Base; check = c }) (base_checks net stated.fact)
    ++ map (λ i. record { line = stated.line; spot = Step i.number; check = step_check net earlier stated.fact i }) net.kept

-- the facts in order, each with those before it
abbrev pub facts_obligations : Net → List Fact → List Stated → List Obligation
facts_obligations net earlier [] = []
facts_obligations net earlier (stated ∷ more) = fact_obligations net earlier stated ++ facts_obligations net (earlier ++ stated.fact ∷ []) more

abbrev pub section_obligations : Net → List Fact → Section → List Obligation
section_obligations net facts section =
    map (λ v. record { line = v.0.line; spot = AtNode; check = node_check net facts v.1.state v.0.kind }) (walk net section.invariant section.tree)

abbrev pub verdict : Obligation → Check → Judged
verdict obligation True = Shown
verdict obligation False = NotShown obligation.line obligation.spot
verdict obligation Wide = Range obligation.line obligation.spot

abbrev pub judged_by : Option Obligation → Judged
judged_by None = Shown
judged_by (Some obligation) = verdict obligation obligation.check

-- the first obligation that isn't true
abbrev pub judgement_of : List Obligation → Judged
judgement_of obligations = judged_by (find (λ o. not (is_true o.check)) obligations)

-- the first of two judgements that isn't `Shown`
abbrev pub and_then : Judged → Judged → Judged
and_then Shown next = next
and_then (NotShown line spot) next = NotShown line spot
and_then (Range line spot) next = Range line spot

abbrev pub facts_judgement : Net → List Stated → Judged
facts_judgement net stated = judgement_of (facts_obligations net [] stated)

-- the facts first, and then the section's tree
abbrev pub section_judgement : Net → List Stated → Section → Judged
section_judgement net stated section = and_then (facts_judgement net stated) (judgement_of (section_obligations net (facts_of stated) section))

abbrev pub sections_judgement : Net → List Fact → List Section → Judged
sections_judgement net facts [] = Shown
sections_judgement net facts (section ∷ more) = and_then (judgement_of (section_obligations net facts section)) (sections_judgement net facts more)

-- the facts first, and then each section in order
abbrev pub judgement : Net → List Stated → List Section → Judged
judgement net stated sections = and_then (facts_judgement net stated) (sections_judgement net (facts_of stated) sections)

-- the line of the first visit at which the costs add up past 2^26
abbrev pub limit_line : ℕ → List (Node × Arrival) → Option ℕ
limit_line spent [] = None
limit_line spent (v ∷ vs) = if nat_le (spent + cost v.1) (2 ^ 26) then limit_line (spent + cost v.1) vs else Some v.0.line

abbrev pub tree_limit : Net → List Section → Option ℕ
tree_limit net sections = limit_line 0 (flat_map (λ section. walk net section.invariant section.tree) sections)
