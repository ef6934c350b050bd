-- Bindings by colour indices.
use Rattle.std.specs.Prelude.{◌≡◌, ℕ, ◌<◌, List, length, position, slice_index, slice_index_or}
use Rattle.std.specs.Str.{bytes_eq}
use Rattle.std.specs.List.{IsDistinct}
use Rattle.colour_sorts.specs.declared.sorts.Colour.TheVariants as colour
use Rattle.colour_sorts.specs.Domain as domains
use Rattle.net_model.specs.Ids.{AreDistinct}
use Rattle.multiset_terms.specs.Context.{Context}
use Rattle.multiset_terms.specs.Laws.{IsOnce}
use Rattle.multiset_terms.specs.Parts.{IsScope}
use Rattle.multiset_terms.specs.Standing.{Binds}
use Rattle.multiset_terms.specs.Typing.{at_place, variable_sort}
use Rattle.multiset_terms.specs.Values.{Binding, colours_of}

-- one index for each variable, below the number of colours of its sort
pub record AreInRange (ctx : Context) (indices : List ℕ) : Type 0 where
  pub many : length indices ≡ length ctx.variables.ids
  pub each : (at : ℕ) → at < length indices → slice_index indices at < length (colours_of ctx (variable_sort ctx at))

-- the binding of each variable to the colour of its index
abbrev pub binding_of : Context → List ℕ → Binding
binding_of ctx indices id = at_place colour.Dot (λ at. slice_index_or (colours_of ctx (variable_sort ctx at)) (slice_index indices at) colour.Dot) (position (bytes_eq id) ctx.variables.ids)

-- distinct declarations that are built, and variables of distinct ids, are a scope
abbrev pub BuiltAreAScope : Type 0
BuiltAreAScope = (ctx : Context) (domain : domains.Domain) → domains.StandsFor domain ctx.sorts ctx.partitions → AreDistinct ctx.sorts ctx.partitions → IsDistinct bytes_eq ctx.variables.ids
    → IsScope ctx domain ctx.variables

-- indices in range bind
abbrev pub IndicesBind : Type 0
IndicesBind = (ctx : Context) (indices : List ℕ) → IsOnce ctx.variables.ids → AreInRange ctx indices → Binds ctx (binding_of ctx indices) indices
