-- Declarations that are built can be used, and what is compiled over them has a value under each binding.
use Rattle.std.proofs.Common.{◌≡◌, ℕ, ◌+◌, ◌*◌, ◌<◌, ◌≤◌, ◌^◌, ◌⊎◌, inl, inr, Bool, false, List, [], ◌∷◌, ◌++◌, get_or, length, sym, ap, ◌∙◌, subst, arith, Some}
use Rattle.std.specs.Prelude.{slice_get, slice_index}
use Rattle.std.specs.List.{IsDistinct}
use Rattle.std.specs.Str.{bytes_eq}
use Rattle.std.proofs.lemmas.List.{get_or-map, length-map}
use Rattle.std.proofs.lemmas.Option.{get_or_from_slice_get, slice_get_within}
use Rattle.bindings.specs.Listed.{IsBinding}
use Rattle.colour_sorts.specs.Colours.{size}
use Rattle.colour_sorts.specs.Domain.{Domain, StandsFor}
use Rattle.colour_sorts.specs.declared.sorts.Sort.{Sort}
use Rattle.colour_sorts.specs.declared.sorts.Sort.TheVariants as sort
use Rattle.colour_sorts.proofs.Grouped.{part-get}
use Rattle.net_model.specs.Ids.{AreDistinct}
use Rattle.net_model.specs.declared.sorts.NamedSort.{NamedSort}
use Rattle.net_model.specs.declared.sorts.Partition.{Partition}
use Rattle.net_model.specs.declared.terms.Guard.{Guard}
use Rattle.net_model.specs.declared.terms.Term.{Term}
use Rattle.multiset_terms.specs.declared.buffers.Scale.{Scale}
use Rattle.multiset_terms.specs.declared.compiled.CTerm.{CTerm}
use Rattle.multiset_terms.specs.declared.conditions.CGuard.{CGuard}
use Rattle.multiset_terms.specs.Bindings.{binding_of}
use Rattle.multiset_terms.specs.Context.{Context, Declarations}
use Rattle.multiset_terms.specs.Parts.{AreSized, IsDeclared, IsScope}
use Rattle.multiset_terms.specs.Standing.{CanBeAdded, CanBeEvaluated, CanBeJudged}
use Rattle.multiset_terms.specs.Trees.{most_colours}
use Rattle.multiset_terms.specs.Typing.{variable_sort}
use Rattle.multiset_terms.specs.Usable.{AreBoundBySizes, IsGuardOf, IsTermOf, IsTold, IsUsable, sizes_of}
use Rattle.multiset_terms.specs.Values.{colours_of}
use Rattle.multiset_terms.proofs.Scopes.{built-scope, indices-bind}

-- sorts with some colours and not too many, and one more
pub sized-more : (constants : List (List (List ℕ))) (ss : List Sort) (s : Sort) → AreSized constants ss → (0 < size constants s) × (size constants s ≤ most_colours) → AreSized constants (ss ++ s ∷ [])
sized-more constants ss s known sized at t here = decide (part-get ss (s ∷ []) at t here)
  where
    last : (j : ℕ) → slice_get (s ∷ []) j ≡ Some t → s ≡ t
    last j is =
        let within = slice_get_within (s ∷ []) j t is in
        let first : j ≡ 0 = omega (arith, within) in
        let zeroth : slice_get (s ∷ []) 0 ≡ Some t = subst (λ k. slice_get (s ∷ []) k ≡ Some t) first is in
        get_or_from_slice_get (s ∷ []) 0 t s zeroth

    decide : (slice_get ss at ≡ Some t) ⊎ ((j : ℕ) × (at ≡ length ss + j) × (slice_get (s ∷ []) j ≡ Some t)) → (0 < size constants t) × (size constants t ≤ most_colours)
    decide (inl front) = known at t front
    decide (inr behind) = subst (λ x. (0 < size constants x) × (size constants x ≤ most_colours)) (last behind.0 behind.2) sized

abbrev context-of : List NamedSort → List Partition → Declarations → Context
context-of sorts partitions v = record { sorts = sorts; partitions = partitions; variables = v }

pub built-usable : (d : Domain) (sorts : List NamedSort) (partitions : List Partition) (v : Declarations) → StandsFor d sorts partitions → AreDistinct sorts partitions → IsDistinct bytes_eq v.ids
    → length v.ids ≡ length v.sorts → AreSized d.constants v.sorts → IsUsable d v
built-usable d sorts partitions v stands apart ids even sized = record {
  context = context-of sorts partitions v;
  scope = built-scope (context-of sorts partitions v) d stands apart ids;
  even = even;
  sized = sized;
}

pub usable-declared : (d : Domain) (v : Declarations) → IsUsable d v → IsDeclared d
usable-declared d v known = record { sorts = known.context.sorts; partitions = known.context.partitions; stands = known.scope.domain }

-- the number of colours of a variable's sort
counted : (ctx : Context) (d : Domain) (v : Declarations) (at : ℕ) → IsScope ctx d v → at < length v.sorts → length (colours_of ctx (variable_sort ctx at)) ≡ slice_index (sizes_of d v) at
counted ctx d v at scope within =
    ap (λ x. length (colours_of ctx (get_or x.sorts at sort.Dot))) (sym scope.variables)
    ∙ ap (λ x. size x.constants (get_or v.sorts at sort.Dot)) (sym scope.domain.is)
    ∙ sym (get_or-map (size d.constants) v.sorts at sort.Dot 0 within)

pub bound-by-sizes : (ctx : Context) (d : Domain) (v : Declarations) (indices : List ℕ) → IsUsable d v → IsScope ctx d v → AreBoundBySizes ctx d v indices
bound-by-sizes ctx d v indices known scope = record {
  in_range = λ binds. record {
    many = binds.many ∙ many ∙ sym ids;
    each = λ at within. subst (λ n. slice_index indices at < n) (sym (counted ctx d v at scope (omega (arith, within, binds.many, many)))) (binds.each at (omega (arith, within, binds.many)));
  };
  bound = λ range. record {
    many = range.many ∙ ids ∙ sym many;
    each = λ at within. subst (λ n. slice_index indices at < n) (counted ctx d v at scope (omega (arith, within, many))) (range.each at (omega (arith, within, range.many, ids, many)));
  };
}
  where
    many : length (sizes_of d v) ≡ length v.sorts
    many = length-map v.sorts (size d.constants)

    ids : length ctx.variables.ids ≡ length v.sorts
    ids = ap (λ x. length x.ids) (sym scope.variables) ∙ known.even

-- compiled terms and guards
pub can-evaluate : (d : Domain) (v : Declarations) (marking : Bool) (t : Term) (c : CTerm) (block : Bool) (indices : List ℕ) → IsUsable d v → IsTermOf d v marking t c → IsTold c block → block ≡ false
    → IsBinding (sizes_of d v) indices → CanBeEvaluated c indices
can-evaluate d v marking t c block indices known compiled tells none binds =
    let ctx = known.context in
    let made = compiled ctx known.scope in
    record {
      context = ctx;
      marking = marking;
      term = t;
      binding = binding_of ctx indices;
      stands = made.2;
      binds = indices-bind ctx indices known.scope.ids ((bound-by-sizes ctx d v indices known known.scope).in_range binds);
      no_block = sym (made.2.typed made.0.0 made.0.1).0 ∙ sym (tells ctx marking t made.0.0 made.2 made.0.1) ∙ none;
    }

pub can-add : (d : Domain) (v : Declarations) (marking : Bool) (t : Term) (c : CTerm) (block : Bool) (indices : List ℕ) (scale : Scale) → IsUsable d v → IsTermOf d v marking t c → IsTold c block → block ≡ false
    → IsBinding (sizes_of d v) indices → scale.times * c.gross < 2 ^ 63 → scale.offset + size d.constants c.sort ≤ 2 ^ 32 → CanBeAdded c indices scale
unfolding can-evaluate
can-add d v marking t c block indices scale known compiled tells none binds fits room = record {
  evaluated = can-evaluate d v marking t c block indices known compiled tells none binds;
  fits = fits;
  room = subst (λ x. scale.offset + size x.constants c.sort ≤ 2 ^ 32) known.scope.domain.is room;
}

pub can-judge : (d : Domain) (v : Declarations) (g : Guard) (c : CGuard) (indices : List ℕ) → IsUsable d v → IsGuardOf d v g c → IsBinding (sizes_of d v) indices → CanBeJudged d c indices
can-judge d v g c indices known compiled binds =
    let ctx = known.context in
    record {
      context = ctx;
      declared = known.scope.domain.is;
      written = g;
      binding = binding_of ctx indices;
      stands = (compiled ctx known.scope).1;
      binds = indices-bind ctx indices known.scope.ids ((bound-by-sizes ctx d v indices known known.scope).in_range binds);
    }
