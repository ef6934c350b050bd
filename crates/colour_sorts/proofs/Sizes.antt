-- A sort that breaks no rule has colours, and not too many.
use Rattle.std.proofs.Common.{◌≡◌, ℕ, zero, suc, ◌*◌, ◌<◌, ◌≤◌, ◌^◌, Bool, true, false, cond, nat_lt, ◌||◌, List, [], ◌∷◌, map, length, refl, sym, ◌∙◌, arith, subst, Some, None}
use Rattle.std.proofs.lemmas.Bool.Decides.{nat_tests}
use Rattle.std.proofs.lemmas.List.{length-map}
use Rattle.std.specs.List.{list_any}
use Rattle.std.specs.Prelude.{unsigned_abs, ◌-ℤ◌}
use Rattle.colour_sorts.specs.declared.rules.Rule.TheVariants as rule
use Rattle.colour_sorts.specs.declared.sorts.Colour.{Colour}
use Rattle.colour_sorts.specs.declared.sorts.Colour.TheVariants as colour
use Rattle.colour_sorts.specs.declared.sorts.Sort.{Sort, map-Sort, roll-Sort, fold-roll-Sort}
use Rattle.colour_sorts.specs.declared.sorts.Sort.TheFolds.{ind-Sort}
use Rattle.colour_sorts.specs.declared.sorts.Sort.TheOpen as layer
use Rattle.colour_sorts.specs.Colours.{colours, colours_of_parts, constants_at, size, span_length, span_numbers, tuple, tuples}
use Rattle.colour_sorts.specs.Limits.{broken_in, depth, is_upside_down, is_upside_down_part, lacks_components, lacks_components_part, lacks_constants, lacks_constants_part, sorts_in}
use Rattle.colour_sorts.proofs.FactsOf.{span-steps}
use Rattle.colour_sorts.proofs.Folds.{length-rising}
use Rattle.colour_sorts.proofs.PlacesIn.{none-is-some}
use Rattle.colour_sorts.proofs.Tuples.{length-tuples}

abbrev Some_ : List (List (List ℕ)) → Sort → Type 0
Some_ constants s = is_upside_down s ≡ false → lacks_constants constants s ≡ false → lacks_components s ≡ false → 0 < size constants s

abbrev Known : List (List (List ℕ)) → Type 0
Known constants = (s : Sort) × Some_ constants s

or-left : (a b : Bool) → (a || b) ≡ false → a ≡ false
or-left true b e = e
or-left false b e = refl

or-right : (a b : Bool) → (a || b) ≡ false → b ≡ false
or-right true b e = absurd (grind (arith, e))
or-right false b e = e

product-some : (m n : ℕ) → 0 < m → 0 < n → 0 < m * n
product-some zero n a b = absurd (omega (arith, a))
product-some (suc m) zero a b = absurd (omega (arith, b))
product-some (suc m) (suc n) a b = omega arith

all-some : (constants : List (List (List ℕ))) (ys : List (Known constants))
    → list_any (λ b. b) (map is_upside_down (map (λ e. e.0) ys)) ≡ false → list_any (λ b. b) (map (lacks_constants constants) (map (λ e. e.0) ys)) ≡ false
    → list_any (λ b. b) (map lacks_components (map (λ e. e.0) ys)) ≡ false → 0 < length (tuples (map (colours constants) (map (λ e. e.0) ys)))
all-some constants [] a b c = omega arith
all-some constants (y ∷ ys) a b c =
    let first = y.1 (or-left _ _ a) (or-left _ _ b) (or-left _ _ c) in
    let rest = all-some constants ys (or-right _ _ a) (or-right _ _ b) (or-right _ _ c) in
    subst (λ n. 0 < n) (sym (length-tuples (colours constants y.0) (map (colours constants) (map (λ e. e.0) ys)))) (product-some (length (colours constants y.0)) _ first rest)

layer-some : (constants : List (List (List ℕ))) (y : layer.Sort-F (Known constants))
    → is_upside_down_part (map-Sort Sort Bool is_upside_down (map-Sort (Known constants) Sort (λ e. e.0) y)) ≡ false
    → lacks_constants_part constants (map-Sort Sort Bool (lacks_constants constants) (map-Sort (Known constants) Sort (λ e. e.0) y)) ≡ false
    → lacks_components_part (map-Sort Sort Bool lacks_components (map-Sort (Known constants) Sort (λ e. e.0) y)) ≡ false
    → 0 < length (colours_of_parts constants (map-Sort Sort (List Colour) (colours constants) (map-Sort (Known constants) Sort (λ e. e.0) y)))
layer-some constants layer.Dot a b c = omega arith
layer-some constants (layer.Listed at) a b c = let n = length-map (constants_at constants at) colour.Constant in grind (arith, nat_tests, n, b)
layer-some constants (layer.Cyclic at) a b c = let n = length-map (constants_at constants at) colour.Constant in grind (arith, nat_tests, n, b)
layer-some constants (layer.Range span) a b c =
    omega (arith, length-map (span_numbers span) colour.Number, length-rising span.first (span_length span), span-steps span (unsigned_abs (span.last -ℤ span.first)) a refl)
layer-some constants (layer.Product ys) a b c =
    subst (λ n. 0 < n) (sym (length-map (tuples (map (colours constants) (map (λ e. e.0) ys))) tuple)) (all-some constants ys a b (or-right _ _ c))

pub sort-some : (constants : List (List (List ℕ))) (s : Sort) → Some_ constants s
sort-some constants = ind-Sort (Some_ constants) (λ x y is.
    subst (λ z. Some_ constants (roll-Sort z)) is
    (λ a b c. (let z = map-Sort (Known constants) Sort (λ e. e.0) y in
    subst (λ cs. 0 < length cs) (sym (fold-roll-Sort (List Colour) (colours_of_parts constants) z))
    (layer-some constants y (sym (fold-roll-Sort Bool is_upside_down_part z) ∙ a) (sym (fold-roll-Sort Bool (lacks_constants_part constants) z) ∙ b)
    (sym (fold-roll-Sort Bool lacks_components_part z) ∙ c)))))

pub unbroken-size : (constants : List (List (List ℕ))) (s : Sort) → broken_in constants s ≡ None → (0 < size constants s) × (size constants s ≤ 2 ^ 20)
unbroken-size constants s e =
    by (is_upside_down s) (lacks_constants constants s) (lacks_components s) (size constants s) (sorts_in s) (depth s) e (sort-some constants s)
  where
    by : (a b c : Bool) (n m k : ℕ)
        → cond a (Some rule.RangeUpsideDown) (cond b (Some rule.EmptySort) (cond c (Some rule.EmptyProduct) (cond (nat_lt (2 ^ 20) n || nat_lt 4096 m || nat_lt 256 k) (Some rule.DomainLimit) None))) ≡ None
        → (a ≡ false → b ≡ false → c ≡ false → 0 < n) → (0 < n) × (n ≤ 2 ^ 20)
    by true b c n m k e some = absurd (none-is-some rule.RangeUpsideDown (sym e))
    by false true c n m k e some = absurd (none-is-some rule.EmptySort (sym e))
    by false false true n m k e some = absurd (none-is-some rule.EmptyProduct (sym e))
    by false false false n m k e some = (some refl refl refl, below n m k (nat_lt (2 ^ 20) n || nat_lt 4096 m || nat_lt 256 k) refl e)
      where
        below : (n m k : ℕ) (t : Bool) → (nat_lt (2 ^ 20) n || nat_lt 4096 m || nat_lt 256 k) ≡ t → cond t (Some rule.DomainLimit) None ≡ None → n ≤ 2 ^ 20
        below n m k true h e = absurd (none-is-some rule.DomainLimit (sym e))
        below n m k false h e = let less = or-left (nat_lt (2 ^ 20) n) _ (or-left _ _ h) in grind (arith, nat_tests, less)

-- the last rule, where the others hold
pub last-rule : (a b c p q : Bool) → a ≡ false → b ≡ false → c ≡ false → p ≡ q
    → cond q (Some rule.DomainLimit) None ≡ cond a (Some rule.RangeUpsideDown) (cond b (Some rule.EmptySort) (cond c (Some rule.EmptyProduct) (cond p (Some rule.DomainLimit) None)))
last-rule a b c p q ea eb ec ep = rw (ea, eb, ec, ep) refl
