-- The places of values in lists, and of colours in ranges.
use Rattle.std.proofs.Common.{◌≡◌, ℕ, zero, suc, ◌<◌, ◌≤◌, List, ℤ, pos, negsuc, ◌+ℤ◌, ◌-ℤ◌, ◌≤ℤ◌, ◌<ℤ◌, map, length, get_or, refl, sym, ap, ◌∙◌, arith, Some, None, Option}
use Rattle.std.proofs.lemmas.Int.{ints}
use Rattle.std.proofs.lemmas.Option.{slice_get-map, slice_get_within, get_or_from_slice_get, slice_get-get_or}
use Rattle.std.specs.List.{slice_get}
use Rattle.std.specs.Option.{option_map}
use Rattle.std.specs.Prelude.{IfSome}
use Rattle.net_model.specs.declared.sorts.Span.{Span}
use Rattle.colour_sorts.specs.Colours.{natural_part, rising, span_length, span_numbers}
use Rattle.colour_sorts.specs.Places.{IsPlace}
use Rattle.colour_sorts.proofs.Folds.{length-rising}

pub get-at : {X : Type 0} (xs : List X) (k : ℕ) (x d : X) → k < length xs → get_or xs k d ≡ x → slice_get xs k ≡ Some x
get-at xs k x d within e = slice_get-get_or xs k d within ∙ ap Some e

pub none-is-some : {X : Type 0} (x : X) → None ≡ Some x → ⊥
none-is-some x e = grind arith

pub some-is-some : {X : Type 0} (x y : X) → Some x ≡ Some y → x ≡ y
some-is-some x y e = ap (λ o. from x o) e
  where
    from : {X : Type 0} → X → Option X → X
    from d None = d
    from d (Some x) = x

-- what is nowhere in the list has no place
pub IsPlace-none : {X : Type 0} (xs : List X) (x : X) → ((at : ℕ) → slice_get xs at ≡ Some x → ⊥) → IsPlace xs x None
IsPlace-none xs x never = record { found = tt; only = λ at e. absurd (never at e) }

-- the places of images
mapped : {X Y : Type 0} (f : X → Y) (o : Option X) (y : Y) → option_map f o ≡ Some y → (x : X) × (o ≡ Some x) × (f x ≡ y)
mapped f None y e = absurd (none-is-some y e)
mapped f (Some x) y e = (x, refl, some-is-some (f x) y e)

pub slice_get-mapped : {X Y : Type 0} (f : X → Y) (xs : List X) (at : ℕ) (y : Y) → slice_get (map f xs) at ≡ Some y
    → (x : X) × (slice_get xs at ≡ Some x) × (f x ≡ y)
slice_get-mapped f xs at y e = mapped f (slice_get xs at) y (sym (slice_get-map f xs at) ∙ e)

pub IsPlace-map : {X Y : Type 0} (f : X → Y) → ((a b : X) → f a ≡ f b → a ≡ b) → (xs : List X) (x : X) (place : Option ℕ) → IsPlace xs x place → IsPlace (map f xs) (f x) place
IsPlace-map f injective xs x place known = record {
  found = found place known.found;
  only = λ at e. (let image = slice_get-mapped f xs at (f x) e in known.only at (image.1 ∙ ap Some (injective image.0 x image.2)));
}
  where
    found : (place : Option ℕ) → IfSome place (λ at. slice_get xs at ≡ Some x) → IfSome place (λ at. slice_get (map f xs) at ≡ Some (f x))
    found None h = tt
    found (Some at) h = slice_get-map f xs at ∙ ap (option_map f) h

pub IsPlace-apart : {X Y : Type 0} (f : X → Y) (xs : List X) (y : Y) → ((x : X) → y ≡ f x → ⊥) → IsPlace (map f xs) y None
IsPlace-apart f xs y apart = IsPlace-none (map f xs) y (λ at e. (let image = slice_get-mapped f xs at y e in apart image.0 (sym image.2)))

-- the numbers of a range
get_or-rising : (first : ℤ) (n k : ℕ) (d : ℤ) → k < n → get_or (rising first n) k d ≡ first +ℤ pos k
get_or-rising first zero k d within = absurd (omega arith)
get_or-rising first (suc n) zero d within = omega (arith, ints)
get_or-rising first (suc n) (suc k) d within = get_or-rising (first +ℤ pos 1) n k d (omega arith) ∙ omega (arith, ints)

pub slice_get-rising : (first : ℤ) (n k : ℕ) (z : ℤ) → k < n → z ≡ first +ℤ pos k → slice_get (rising first n) k ≡ Some z
slice_get-rising first n k z within e = get-at (rising first n) k z z (omega (arith, length-rising first n)) (get_or-rising first n k z within ∙ sym e)

pub rising-only : (first : ℤ) (n k : ℕ) (z : ℤ) → slice_get (rising first n) k ≡ Some z → (k < n) × (z ≡ first +ℤ pos k)
rising-only first n k z e =
    let within : k < n = omega (arith, slice_get_within (rising first n) k z e, length-rising first n) in
    (within, sym (get_or_from_slice_get (rising first n) k z z e) ∙ get_or-rising first n k z within)

-- how long a range is
lt-natural_part : (n : ℕ) (z : ℤ) → n < natural_part z → pos n <ℤ z
lt-natural_part n (pos m) within = omega (arith, ints, within)
lt-natural_part n (negsuc m) within = absurd (omega (arith, within))

natural_part-lt : (n : ℕ) (z : ℤ) → pos n <ℤ z → n < natural_part z
natural_part-lt n (pos m) within = omega (arith, ints, within)
natural_part-lt n (negsuc m) within = absurd (omega (arith, ints, within))

natural_part-le : (n : ℕ) (z : ℤ) → natural_part z ≤ n → z ≤ℤ pos n
natural_part-le n (pos m) within = omega (arith, ints, within)
natural_part-le n (negsuc m) within = omega (arith, ints)

pub span_within : (span : Span) (n : ℕ) → span_length span ≤ n → (span.last -ℤ span.first) <ℤ pos n
span_within span n within = let h = natural_part-le n ((span.last +ℤ pos 1) -ℤ span.first) within in omega (arith, ints, h)

pub number-found : (span : Span) (z : ℤ) (k : ℕ) → z ≤ℤ span.last → z ≡ span.first +ℤ pos k → IsPlace (span_numbers span) z (Some k)
number-found span z k last e =
    let within : k < span_length span = natural_part-lt k ((span.last +ℤ pos 1) -ℤ span.first) (omega (arith, ints, last, e)) in record {
      found = slice_get-rising span.first (span_length span) k z within e;
      only = λ at known. (let there = rising-only span.first (span_length span) at z known in
          let same : k ≡ at = omega (arith, ints, e, there.1) in ap Some same);
    }

pub number-below : (span : Span) (z : ℤ) → z <ℤ span.first → IsPlace (span_numbers span) z None
number-below span z below = IsPlace-none (span_numbers span) z (λ at known.
    (let there = rising-only span.first (span_length span) at z known in omega (arith, ints, below, there.1)))

pub number-above : (span : Span) (z : ℤ) → span.last <ℤ z → IsPlace (span_numbers span) z None
number-above span z above = IsPlace-none (span_numbers span) z (λ at known.
    (let there = rising-only span.first (span_length span) at z known in
    let room = lt-natural_part at ((span.last +ℤ pos 1) -ℤ span.first) there.0 in
    omega (arith, ints, above, there.1, room)))

pub number-last : (span : Span) (k : ℕ) → k < span_length span → (span.first +ℤ pos k) ≤ℤ span.last
number-last span k within = let room = lt-natural_part k ((span.last +ℤ pos 1) -ℤ span.first) within in omega (arith, ints, room)

-- a number that isn't below another is some steps above it
pub steps_up : (a b : ℤ) → a ≤ℤ b → (k : ℕ) × (b ≡ a +ℤ pos k)
steps_up a b le = by (b -ℤ a) refl
  where
    by : (z : ℤ) → z ≡ (b -ℤ a) → (k : ℕ) × (b ≡ a +ℤ pos k)
    by (pos n) e = (n, omega (arith, ints, e))
    by (negsuc n) e = absurd (omega (arith, ints, le, e))
