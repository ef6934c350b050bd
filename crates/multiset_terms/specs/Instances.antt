-- Instances of the definitions that were worked out by hand.
use Rattle.std.specs.Prelude.{◌≡◌, ◌-◌, ◌^◌, true, false, [], ◌∷◌, codes, Some, None, Err, if◌then◌else◌}
use Rattle.colour_sorts.specs.declared.rules.Rule.TheVariants as rule
use Rattle.net_model.specs.declared.sorts.SortTerm.TheVariants as written
use Rattle.colour_sorts.specs.declared.sorts.Sort.TheVariants as sort
use Rattle.colour_sorts.specs.declared.sorts.Colour.{Colour}
use Rattle.net_model.specs.declared.terms.Term.{Term}
use Rattle.net_model.specs.declared.terms.Term.TheVariants as term
use Rattle.multiset_terms.specs.Context.{Context}
use Rattle.multiset_terms.specs.Typing.{type_of}
use Rattle.multiset_terms.specs.Values.{Binding, den, is_same}
use Rattle.multiset_terms.specs.Weights.{first_heavy}

-- the variable `x` of the cyclic enumeration `S` of three constants
abbrev pub example : Context
example = record {
  sorts = record { id = codes "S"; sort = written.Cyclic (codes "a" ∷ codes "b" ∷ codes "c" ∷ []) } ∷ [];
  partitions = [];
  variables = record { ids = codes "x" ∷ []; sorts = sort.Cyclic 0 ∷ [] };
}

abbrev pub x : Term
x = term.Variable (codes "x")

pub record WorkedInstances : Type 0 where
  -- 2^63 - 1 times two of a variable is too heavy at its root, and its child isn't
  pub heavy_root : first_heavy example (term.Scalar (2 ^ 63 - 1) (term.Add (x ∷ x ∷ []))) ≡ Some 0
  pub light_child : first_heavy example (term.Add (x ∷ x ∷ [])) ≡ None
  -- the weights of the nodes count from the root on
  pub heavy_child : first_heavy example (term.Add (x ∷ term.Scalar (2 ^ 63 - 1) (term.Add (x ∷ x ∷ [])) ∷ [])) ≡ Some 0
  -- an undeclared variable is the first broken node, also as the second child behind one of two nodes
  pub undeclared : type_of example false (term.Variable (codes "z")) ≡ Err (0, rule.UnknownVariable)
  pub undeclared_child : type_of example false (term.Add (term.NumberOf 2 x ∷ term.Variable (codes "z") ∷ [])) ≡ Err (3, rule.UnknownVariable)
  pub marking : type_of example true (term.Successor x) ≡ Err (1, rule.VariableInMarking)
  -- all colours but the variable's
  pub difference : (b : Binding) (c : Colour) → den example (term.Subtract (term.All (written.Named (codes "S"))) x) b c ≡ 1 - (if is_same (b (codes "x")) c then 1 else 0)
