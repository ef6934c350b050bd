-- Distinct declarations are a scope, and colour indices in range are a binding.
use Rattle.std.proofs.Common.{◌≡◌, ℕ, ◌+◌, ◌<◌, ◌≤◌, ◌⊎◌, inl, inr, List, [], ◌∷◌, ◌++◌, take, drop, length, refl, sym, ap, ◌∙◌, subst, arith, Some}
use Rattle.std.specs.Prelude.{position, slice_get, slice_index, slice_index_or}
use Rattle.std.specs.List.{IsDistinct}
use Rattle.std.specs.Str.{bytes_eq}
use Rattle.std.proofs.lemmas.Bool.{cases_lt}
use Rattle.std.proofs.lemmas.List.{get_or_default, get_or_past}
use Rattle.std.proofs.lemmas.Option.{slice_get_within, slice_get-get_or}
use Rattle.name_tables.proofs.Places.{position_some}
use Rattle.colour_sorts.specs.declared.sorts.Colour.TheVariants as colour
use Rattle.colour_sorts.specs.Colours.{constants_at}
use Rattle.colour_sorts.specs.Domain as domains
use Rattle.net_model.specs.Ids as own_ids
use Rattle.net_model.specs.Ids.{constants_of, names_in}
use Rattle.colour_sorts.proofs.Constants.{number_in-only}
use Rattle.colour_sorts.proofs.Grouped.{left-get, names-split, place-any, right-get}
use Rattle.multiset_terms.specs.Bindings.{AreInRange, binding_of}
use Rattle.multiset_terms.specs.Context.{Context}
use Rattle.multiset_terms.specs.Laws.{IsOnce}
use Rattle.multiset_terms.specs.Parts.{AreDistinct, IsScope}
use Rattle.multiset_terms.specs.Standing.{Binds}
use Rattle.multiset_terms.specs.Typing.{at_place, variable_sort}
use Rattle.multiset_terms.specs.Values.{colours_of}
use Rattle.multiset_terms.proofs.LeafMakers.{placed}

-- distinct names stand once
pub once-distinct : (names : List (List ℕ)) → IsDistinct bytes_eq names → IsOnce names
once-distinct names distinct i j x first second =
    some-same (sym (number_in-only names x i distinct first) ∙ number_in-only names x j distinct second)
  where
    some-same : {m n : ℕ} → Some m ≡ Some n → m ≡ n
    some-same h = cc h

-- the names of one group of names that stand once
once-group : (groups : List (List (List ℕ))) (at : ℕ) → IsOnce (names_in groups) → IsOnce (constants_at groups at)
once-group groups at once i j x first second = decide (cases_lt at (length groups))
  where
    decide : (at < length groups) ⊎ (length groups ≤ at) → i ≡ j
    decide (inl within) =
        let g = constants_at groups at in
        let front = names_in (take at groups) in
        let split = names-split groups at g within (get_or_default groups at [] g within) in
        let there : (k : ℕ) → slice_get g k ≡ Some x → slice_get (names_in groups) (length front + k) ≡ Some x =
        λ k is. subst (λ l. slice_get l (length front + k) ≡ Some x) (sym split)
        (left-get (front ++ g) (names_in (drop (at + 1) groups)) (length front + k) x (right-get front g (length front + k) k x refl is)) in
        let same = once (length front + i) (length front + j) x (there i first) (there j second) in
        omega (arith, same)
    decide (inr past) =
        let none : constants_at groups at ≡ [] = get_or_past groups at [] past in
        let short = slice_get_within [] i x (subst (λ l. slice_get l i ≡ Some x) none first) in
        omega (arith, short)

pub built-scope : (ctx : Context) (domain : domains.Domain) → domains.StandsFor domain ctx.sorts ctx.partitions → own_ids.AreDistinct ctx.sorts ctx.partitions → IsDistinct bytes_eq ctx.variables.ids
    → IsScope ctx domain ctx.variables
built-scope ctx domain stands apart ids = record {
  domain = stands;
  variables = refl;
  distinct = λ at. once-group (constants_of ctx.sorts) at (once-distinct (names_in (constants_of ctx.sorts)) apart.constants);
  ids = once-distinct ctx.variables.ids ids;
}

pub indices-bind : (ctx : Context) (indices : List ℕ) → IsOnce ctx.variables.ids → AreInRange ctx indices → Binds ctx (binding_of ctx indices) indices
indices-bind ctx indices once range = record {
  many = range.many;
  each = λ at id here.
      let ids = ctx.variables.ids in
      let found = position_some (bytes_eq id) ids (place-any id ids at here) in
      let place = placed ids id _ found in
      let same : _ ≡ at = once _ at id place.here here in
      let within = slice_get_within ids at id here in
      let cs = colours_of ctx (variable_sort ctx at) in
      slice_get-get_or cs (slice_index indices at) colour.Dot (range.each at (omega (arith, within, range.many)))
      ∙ ap (λ p. Some (at_place colour.Dot (λ k. slice_index_or (colours_of ctx (variable_sort ctx k)) (slice_index indices k) colour.Dot) p)) (sym (found ∙ ap Some same));
}
