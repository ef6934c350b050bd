-- Declarations that terms can be compiled over, and the colour indices under which what is compiled has a value.
use Rattle.std.specs.Prelude.{◌≡◌, ℕ, ◌+◌, ◌*◌, ◌<◌, ◌≤◌, ◌^◌, Bool, false, List, length, map, Ok}
use Rattle.std.specs.Str.{bytes_eq}
use Rattle.std.specs.List.{IsDistinct}
use Rattle.bindings.specs.Listed.{IsBinding}
use Rattle.colour_sorts.specs.Colours.{size}
use Rattle.colour_sorts.specs.Domain.{Domain}
use Rattle.colour_sorts.specs.Domain as domains
use Rattle.net_model.specs.Ids.{AreDistinct}
use Rattle.net_model.specs.declared.sorts.NamedSort.{NamedSort}
use Rattle.net_model.specs.declared.sorts.Partition.{Partition}
use Rattle.net_model.specs.declared.terms.Guard.{Guard}
use Rattle.net_model.specs.declared.terms.Term.{Term}
use Rattle.multiset_terms.specs.declared.buffers.Scale.{Scale}
use Rattle.multiset_terms.specs.declared.compiled.CTerm.{CTerm}
use Rattle.multiset_terms.specs.declared.conditions.CGuard.{CGuard}
use Rattle.multiset_terms.specs.declared.kinds.Kind.{Kind}
use Rattle.multiset_terms.specs.Bindings.{AreInRange}
use Rattle.multiset_terms.specs.Context.{Context, Declarations}
use Rattle.multiset_terms.specs.GuardParts.{IsGuardCompiled}
use Rattle.multiset_terms.specs.Parts.{AreSized, IsCompiled, IsDeclared, IsScope}
use Rattle.multiset_terms.specs.Standing.{CanBeAdded, CanBeEvaluated, CanBeJudged, StandsFor}
use Rattle.multiset_terms.specs.Typing.{is_block, type_of}

-- they are a scope, whose variables have a sort each, with some colours and not too many
pub record IsUsable (domain : Domain) (variables : Declarations) : Type 0 where
  pub context : Context
  pub scope : IsScope context domain variables
  pub even : length variables.ids ≡ length variables.sorts
  pub sized : AreSized domain.constants variables.sorts

-- how many colours the sort of each variable has
abbrev pub sizes_of : Domain → Declarations → List ℕ
sizes_of domain variables = map (size domain.constants) variables.sorts

-- it is told of a compiled term whether it is a block
abbrev pub IsTold : CTerm → Bool → Type 0
IsTold c block = (ctx : Context) (marking : Bool) (t : Term) (kind : Kind) → StandsFor ctx marking t c → type_of ctx marking t ≡ Ok kind → block ≡ is_block kind

-- what a term and a guard were compiled to over declarations
abbrev pub IsTermOf : Domain → Declarations → Bool → Term → CTerm → Type 0
IsTermOf d v marking t c = (ctx : Context) → IsScope ctx d v → IsCompiled ctx marking t (Ok c)

abbrev pub IsGuardOf : Domain → Declarations → Guard → CGuard → Type 0
IsGuardOf d v g c = (ctx : Context) → IsScope ctx d v → IsGuardCompiled ctx g (Ok c)

-- declarations that are built, with ids and constants that differ, can be used
abbrev pub BuiltAreUsable : Type 0
BuiltAreUsable = (d : Domain) (sorts : List NamedSort) (partitions : List Partition) (v : Declarations) → domains.StandsFor d sorts partitions → AreDistinct sorts partitions
    → IsDistinct bytes_eq v.ids → length v.ids ≡ length v.sorts → AreSized d.constants v.sorts → IsUsable d v

abbrev pub UsableAreDeclared : Type 0
UsableAreDeclared = (d : Domain) (v : Declarations) → IsUsable d v → IsDeclared d

-- indices are in range exactly where they are a binding of variables with so many values
pub record AreBoundBySizes (ctx : Context) (d : Domain) (v : Declarations) (indices : List ℕ) : Type 0 where
  pub in_range : IsBinding (sizes_of d v) indices → AreInRange ctx indices
  pub bound : AreInRange ctx indices → IsBinding (sizes_of d v) indices

abbrev pub IndicesAreBoundBySizes : Type 0
IndicesAreBoundBySizes = (ctx : Context) (d : Domain) (v : Declarations) (indices : List ℕ) → IsUsable d v → IsScope ctx d v → AreBoundBySizes ctx d v indices

-- what is compiled has a value under each binding, which can be added to a buffer where its counts and places are in range
abbrev pub TermsCanBeEvaluated : Type 0
TermsCanBeEvaluated = (d : Domain) (v : Declarations) (marking : Bool) (t : Term) (c : CTerm) (block : Bool) (indices : List ℕ) → IsUsable d v → IsTermOf d v marking t c → IsTold c block → block ≡ false
    → IsBinding (sizes_of d v) indices → CanBeEvaluated c indices

abbrev pub TermsCanBeAdded : Type 0
TermsCanBeAdded = (d : Domain) (v : Declarations) (marking : Bool) (t : Term) (c : CTerm) (block : Bool) (indices : List ℕ) (scale : Scale) → IsUsable d v → IsTermOf d v marking t c → IsTold c block → block ≡ false
    → IsBinding (sizes_of d v) indices → scale.times * c.gross < 2 ^ 63 → scale.offset + size d.constants c.sort ≤ 2 ^ 32 → CanBeAdded c indices scale

abbrev pub GuardsCanBeJudged : Type 0
GuardsCanBeJudged = (d : Domain) (v : Declarations) (g : Guard) (c : CGuard) (indices : List ℕ) → IsUsable d v → IsGuardOf d v g c → IsBinding (sizes_of d v) indices → CanBeJudged d c indices
