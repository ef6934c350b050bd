-- The facts of each kind of sort.
use Rattle.std.proofs.Common.{◌≡◌, ℕ, ◌+◌, true, false, List, length, min, ℤ, pos, negsuc, ◌+ℤ◌, ◌-ℤ◌, ◌≤ℤ◌, refl, sym, ap, ◌∙◌, arith}
use Rattle.std.proofs.lemmas.Int.{ints}
use Rattle.std.specs.Prelude.{int_lt, unsigned_abs, ◌==◌}
use Rattle.colour_sorts.specs.declared.facts.Facts.{Facts}
use Rattle.net_model.specs.declared.sorts.Span.{Span}
use Rattle.colour_sorts.specs.declared.sorts.Sort.TheVariants as sort
use Rattle.colour_sorts.specs.Colours.{constants_at, natural_part, span_length}
use Rattle.colour_sorts.specs.Limits.{depth_part, is_upside_down_part, lacks_components_part, lacks_constants_part, sorts_in_part}
use Rattle.colour_sorts.specs.Judging.{IsFacts}
use Rattle.colour_sorts.proofs.Folds.{size-Cyclic, size-Listed, size-Range, colours-Dot}
use Rattle.colour_sorts.proofs.PlacesIn.{steps_up}
use Rattle.colour_sorts.proofs.Layers.{at-Cyclic, at-Dot, at-Listed, at-Range}

pub facts-Range : (constants : List (List (List ℕ))) (span : Span) (f : Facts)
    → f.is_upside_down ≡ int_lt span.last span.first → f.lacks_constants ≡ false → f.lacks_components ≡ false
    → f.size ≡ min 1048577 (span_length span) → f.sorts ≡ 1 → f.depth ≡ 1 → IsFacts constants (sort.Range span) f
facts-Range constants span f upside none empty is one deep = record {
  upside_down = upside ∙ sym (at-Range is_upside_down_part span);
  no_constants = none ∙ sym (at-Range (lacks_constants_part constants) span);
  no_components = empty ∙ sym (at-Range lacks_components_part span);
  size = is ∙ ap (min 1048577) (sym (size-Range constants span));
  sorts = one ∙ ap (min 4097) (sym (at-Range sorts_in_part span));
  depth = deep ∙ ap (min 257) (sym (at-Range depth_part span));
}

pub facts-Listed : (constants : List (List (List ℕ))) (at : ℕ) (f : Facts)
    → f.is_upside_down ≡ false → f.lacks_constants ≡ (length (constants_at constants at) == 0) → f.lacks_components ≡ false
    → f.size ≡ min 1048577 (length (constants_at constants at)) → f.sorts ≡ 1 → f.depth ≡ 1 → IsFacts constants (sort.Listed at) f
facts-Listed constants at f upside none empty is one deep = record {
  upside_down = upside ∙ sym (at-Listed is_upside_down_part at);
  no_constants = none ∙ sym (at-Listed (lacks_constants_part constants) at);
  no_components = empty ∙ sym (at-Listed lacks_components_part at);
  size = is ∙ ap (min 1048577) (sym (size-Listed constants at));
  sorts = one ∙ ap (min 4097) (sym (at-Listed sorts_in_part at));
  depth = deep ∙ ap (min 257) (sym (at-Listed depth_part at));
}

pub facts-Cyclic : (constants : List (List (List ℕ))) (at : ℕ) (f : Facts)
    → f.is_upside_down ≡ false → f.lacks_constants ≡ (length (constants_at constants at) == 0) → f.lacks_components ≡ false
    → f.size ≡ min 1048577 (length (constants_at constants at)) → f.sorts ≡ 1 → f.depth ≡ 1 → IsFacts constants (sort.Cyclic at) f
facts-Cyclic constants at f upside none empty is one deep = record {
  upside_down = upside ∙ sym (at-Cyclic is_upside_down_part at);
  no_constants = none ∙ sym (at-Cyclic (lacks_constants_part constants) at);
  no_components = empty ∙ sym (at-Cyclic lacks_components_part at);
  size = is ∙ ap (min 1048577) (sym (size-Cyclic constants at));
  sorts = one ∙ ap (min 4097) (sym (at-Cyclic sorts_in_part at));
  depth = deep ∙ ap (min 257) (sym (at-Cyclic depth_part at));
}

pub facts-Dot : (constants : List (List (List ℕ))) (f : Facts)
    → f.is_upside_down ≡ false → f.lacks_constants ≡ false → f.lacks_components ≡ false
    → f.size ≡ 1 → f.sorts ≡ 1 → f.depth ≡ 1 → IsFacts constants sort.Dot f
facts-Dot constants f upside none empty is one deep = record {
  upside_down = upside ∙ sym (at-Dot is_upside_down_part);
  no_constants = none ∙ sym (at-Dot (lacks_constants_part constants));
  no_components = empty ∙ sym (at-Dot lacks_components_part);
  size = is ∙ ap (λ cs. min 1048577 (length cs)) (sym (colours-Dot constants));
  sorts = one ∙ ap (min 4097) (sym (at-Dot sorts_in_part));
  depth = deep ∙ ap (min 257) (sym (at-Dot depth_part));
}

-- a range's length by its ends
pub span-empty : (span : Span) → int_lt span.last span.first ≡ true → span_length span ≡ 0
span-empty span e = none ((span.last +ℤ pos 1) -ℤ span.first) (omega (arith, ints, e))
  where
    none : (z : ℤ) → z ≤ℤ pos 0 → natural_part z ≡ 0
    none (pos n) le = omega (arith, ints, le)
    none (negsuc n) le = refl

pub span-steps : (span : Span) (n : ℕ) → int_lt span.last span.first ≡ false → n ≡ unsigned_abs (span.last -ℤ span.first) → span_length span ≡ n + 1
span-steps span n e is =
    let up = steps_up span.first span.last (omega (arith, ints, e)) in
    let far : span.last -ℤ span.first ≡ pos up.0 = omega (arith, ints, up.1) in
    let more : (span.last +ℤ pos 1) -ℤ span.first ≡ pos (up.0 + 1) = omega (arith, ints, up.1) in
    ap natural_part more ∙ (let same : n ≡ up.0 = is ∙ ap unsigned_abs far in omega (arith, same))
