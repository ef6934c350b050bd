-- State formulas and goals over the places and transitions of a coloured net, by their numbers, and the markings that satisfy them
-- (Model Checking Contest, the format of properties: `integer-le`, `tokens-count`, `is-fireable`, the logical connectives, and the
-- reachability properties).
use Rattle.std.specs.Prelude.{ℕ, ◌≤◌, ◌⊎◌, List, [], ◌∷◌, sum_by, Contains, if◌then◌else◌}
use Rattle.std.specs.List.{range_with_len}
use Rattle.mcc_model.specs.declared.formulas.Count.{Count}
use Rattle.mcc_model.specs.declared.formulas.Count.TheVariants.{Number, Tokens}
use Rattle.mcc_model.specs.declared.formulas.Formula.{Formula, fold-Formula}
use Rattle.mcc_model.specs.declared.formulas.Formula.TheOpen as part
use Rattle.mcc_model.specs.declared.formulas.Goal.{Goal}
use Rattle.net_firing.specs.Coloured.{ColouredNet}
use Rattle.net_firing.specs.Firing.{FiresAt, Mode}
use Rattle.net_firing.specs.Markings.{Marking, place_at, tokens}

mutual
  pub data StateFormula : Type 0 where
    AtMost : Count → Count → StateFormula
    -- one of the listed transitions can fire
    Fireable : List ℕ → StateFormula
    Not : StateFormula → StateFormula
    And : StateFormulas → StateFormula
    Or : StateFormulas → StateFormula

  pub data StateFormulas : Type 0 where
    End : StateFormulas
    More : StateFormula → StateFormulas → StateFormulas

-- the formula of a goal, with its children in a list of their own kind
abbrev pub listed_all : List StateFormula → StateFormulas
listed_all [] = End
listed_all (f ∷ fs) = More f (listed_all fs)

abbrev pub stated_by_parts : part.Formula-F StateFormula → StateFormula
stated_by_parts (part.Not f) = Not f
stated_by_parts (part.And fs) = And (listed_all fs)
stated_by_parts (part.Or fs) = Or (listed_all fs)
stated_by_parts (part.AtMost a b) = AtMost a b
stated_by_parts (part.Fireable transitions) = Fireable transitions

abbrev pub stated : Formula → StateFormula
stated f = fold-Formula StateFormula stated_by_parts f

abbrev pub tokens_at : ColouredNet → Marking → ℕ → ℕ
tokens_at net m p = sum_by (tokens m p) (range_with_len 0 (place_at net.places p).size)

abbrev pub value : ColouredNet → Marking → Count → ℕ
value net m (Number n) = n
value net m (Tokens ps) = sum_by (tokens_at net m) ps

-- a listed transition fires with some binding, to some marking
pub record CanFire (net : ColouredNet) (m : Marking) (transitions : List ℕ) : Type 0 where
  pub mode : Mode
  pub listed : Contains transitions mode.transition
  pub new : Marking
  pub fires : FiresAt net m mode new

abbrev mutual
  pub Sat : ColouredNet → Marking → StateFormula → Type 0
  Sat net m (AtMost a b) = value net m a ≤ value net m b
  Sat net m (Fireable transitions) = CanFire net m transitions
  Sat net m (Not f) = Sat net m f → ⊥
  Sat net m (And fs) = SatAll net m fs
  Sat net m (Or fs) = SatSome net m fs

  pub SatAll : ColouredNet → Marking → StateFormulas → Type 0
  SatAll net m End = Unit {0}
  SatAll net m (More f fs) = Sat net m f × SatAll net m fs

  pub SatSome : ColouredNet → Marking → StateFormulas → Type 0
  SatSome net m End = ⊥
  SatSome net m (More f fs) = Sat net m f ⊎ SatSome net m fs

-- the invariant that decides a goal: the formula itself, or that it isn't satisfied
abbrev pub invariant_of : Goal → StateFormula
invariant_of goal = if goal.universal then stated goal.formula else Not (stated goal.formula)
