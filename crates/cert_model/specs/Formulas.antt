-- State formulas over the counts of a reduced net, and their truth (Model Checking Contest, `integer-le`, `is-fireable`,
-- `negation`, `conjunction`, `disjunction`).
use Rattle.std.specs.Prelude.{ℕ, List, filter, Bool, true, false, ◌&&◌, ◌||◌, not, nat_eq, nat_le, pos, int_le}
use Rattle.std.specs.List.{list_all, list_any}
use Rattle.cert_model.specs.Nets.{Counts, Live, Net}
use Rattle.cert_model.specs.Forms.{Form, value_at}

mutual
  pub data Formula : Type 0 where
    -- the form isn't negative: `b - a` for `a <= b`
    Compare : Form → Formula
    -- some live instance of the listed transitions is enabled
    Fireable : List ℕ → Formula
    Not : Formula → Formula
    And : Formulas → Formula
    Or : Formulas → Formula

  pub data Formulas : Type 0 where
    End : Formulas
    More : Formula → Formulas → Formulas

-- the live instances of the listed transitions, in order
abbrev pub instances_of : Net → List ℕ → List Live
instances_of net transitions = filter (λ live. list_any (nat_eq live.transition) transitions) net.live

-- the inputs are there
abbrev pub fits : List (ℕ × ℕ) → Counts → Bool
fits needs marking = list_all (λ need. nat_le need.1 (marking need.0)) needs

abbrev mutual
  pub truth : Net → Counts → Formula → Bool
  truth net marking (Compare form) = int_le (pos 0) (value_at net form marking)
  truth net marking (Fireable transitions) = list_any (λ live. fits live.needs marking) (instances_of net transitions)
  truth net marking (Not f) = not (truth net marking f)
  truth net marking (And fs) = all_truth net marking fs
  truth net marking (Or fs) = any_truth net marking fs

  pub all_truth : Net → Counts → Formulas → Bool
  all_truth net marking End = true
  all_truth net marking (More f fs) = truth net marking f && all_truth net marking fs

  pub any_truth : Net → Counts → Formulas → Bool
  any_truth net marking End = false
  any_truth net marking (More f fs) = truth net marking f || any_truth net marking fs
