-- On what the values of terms and the truth of guards depend.
use Rattle.std.specs.Prelude.{◌≡◌, ℕ, Bool, true, List}
use Rattle.std.specs.List.{list_all}
use Rattle.colour_sorts.specs.declared.sorts.Colour.{Colour}
use Rattle.net_model.specs.declared.terms.Guard.{Guard}
use Rattle.net_model.specs.declared.terms.Term.{Term}
use Rattle.multiset_terms.specs.Context.{Context}
use Rattle.multiset_terms.specs.Standing.{occurs, occurs_in_guard, parts_of}
use Rattle.multiset_terms.specs.Values.{Binding, den, is_defined, truth}

-- two bindings give the same colour to each variable that a test is true of
abbrev pub AgreeWhere : (List ℕ → Bool) → Binding → Binding → Type 0
AgreeWhere test b c = (id : List ℕ) → test id ≡ true → b id ≡ c id

-- a term has the same value, or none, under bindings that agree on its variables
abbrev pub ValuesDependOnVariables : Type 0
ValuesDependOnVariables = (ctx : Context) (t : Term) (b c : Binding) → AgreeWhere (λ id. occurs id t) b c
    → ((x : Colour) → den ctx t b x ≡ den ctx t c x) × (is_defined ctx t b ≡ is_defined ctx t c)

-- a guard is as true under one as under the other
abbrev pub TruthDependsOnVariables : Type 0
TruthDependsOnVariables = (ctx : Context) (g : Guard) (b c : Binding) → AgreeWhere (λ id. occurs_in_guard id g) b c → truth ctx g b ≡ truth ctx g c

-- a guard is true where all its parts are
abbrev pub PartsMakeTheGuard : Type 0
PartsMakeTheGuard = (ctx : Context) (g : Guard) (b : Binding) → truth ctx g b ≡ list_all (λ h. truth ctx h b) (parts_of g)
