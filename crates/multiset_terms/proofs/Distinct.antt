-- Each colour stands once in the list of a sort's colours.
use Rattle.std.proofs.Common.{◌≡◌, ℕ, ◌+◌, ◌*◌, List, [], ◌∷◌, map, length, sym, ap, ◌∙◌, subst, arith, Some}
use Rattle.std.proofs.lemmas.Int.{ints}
use Rattle.std.proofs.lemmas.Option.{slice_get_within}
use Rattle.net_model.specs.declared.sorts.Span.{Span}
use Rattle.colour_sorts.specs.declared.sorts.Colour.{Colour}
use Rattle.colour_sorts.specs.declared.sorts.Colour.TheVariants as colour
use Rattle.colour_sorts.specs.declared.sorts.Sort.{Sort, map-Sort, roll-Sort, fold-roll-Sort}
use Rattle.colour_sorts.specs.declared.sorts.Sort.TheFolds.{ind-Sort}
use Rattle.colour_sorts.specs.declared.sorts.Sort.TheOpen as layer
use Rattle.colour_sorts.specs.Colours.{colours, colours_of_parts, constants_at, span_length, span_numbers, tuple, tuples}
use Rattle.colour_sorts.proofs.Folds.{Constant-injective, Number-injective, tuple-injective}
use Rattle.colour_sorts.proofs.PlacesIn.{rising-only, slice_get-mapped}
use Rattle.colour_sorts.proofs.Tuples.{split-tuples}
use Rattle.multiset_terms.specs.Laws.{IsOnce}

-- images of different values
once-map : {X Y : Type 0} (f : X → Y) → ((a b : X) → f a ≡ f b → a ≡ b) → (xs : List X) → IsOnce xs → IsOnce (map f xs)
once-map f injective xs once i j y first second =
    let a = slice_get-mapped f xs i y first in
    let b = slice_get-mapped f xs j y second in
    let same = injective b.0 a.0 (b.2 ∙ sym a.2) in
    once i j a.0 a.1 (b.1 ∙ ap Some same)

once-one : (c : Colour) → IsOnce (c ∷ [])
once-one c i j x first second =
    let a = slice_get_within (c ∷ []) i x first in
    let b = slice_get_within (c ∷ []) j x second in
    omega (arith, a, b)

once-numbers : (span : Span) → IsOnce (span_numbers span)
once-numbers span i j z first second =
    let a = rising-only span.first (span_length span) i z first in
    let b = rising-only span.first (span_length span) j z second in
    omega (arith, ints, a.1, b.1)

abbrev AllOnce : List (List Colour) → Type 0
AllOnce [] = Unit {0}
AllOnce (xs ∷ others) = IsOnce xs × AllOnce others

once-tuples : (lists : List (List Colour)) → AllOnce lists → IsOnce (tuples lists)
once-tuples [] known i j t first second =
    let a = slice_get_within (tuples []) i t first in
    let b = slice_get_within (tuples []) j t second in
    omega (arith, a, b)
once-tuples (xs ∷ others) known i j t first second =
    let a = split-tuples xs others i t first in
    let b = split-tuples xs others j t second in
    let same-head : b.c ≡ a.c = cc (a.whole, b.whole) in
    let same-tail : b.cs ≡ a.cs = cc (a.whole, b.whole) in
    let same-q : a.q ≡ b.q = known.0 a.q b.q a.c a.first (b.first ∙ ap Some same-head) in
    let same-r : a.r ≡ b.r = once-tuples others known.1 a.r b.r a.cs a.rest (b.rest ∙ ap Some same-tail) in
    a.place ∙ ap (λ q. q * length (tuples others) + a.r) same-q ∙ ap (λ r. b.q * length (tuples others) + r) same-r ∙ sym b.place

abbrev Once : List (List (List ℕ)) → Sort → Type 0
Once constants s = IsOnce (colours constants s)

abbrev Known : List (List (List ℕ)) → Type 0
Known constants = (s : Sort) × Once constants s

all-once : (constants : List (List (List ℕ))) (ys : List (Known constants)) → AllOnce (map (colours constants) (map (λ e. e.0) ys))
all-once constants [] = tt
all-once constants (y ∷ ys) = (y.1, all-once constants ys)

once-layer : (constants : List (List (List ℕ))) → ((at : ℕ) → IsOnce (constants_at constants at)) → (y : layer.Sort-F (Known constants))
    → IsOnce (colours_of_parts constants (map-Sort Sort (List Colour) (colours constants) (map-Sort (Known constants) Sort (λ e. e.0) y)))
once-layer constants distinct layer.Dot = once-one colour.Dot
once-layer constants distinct (layer.Listed at) = once-map colour.Constant Constant-injective (constants_at constants at) (distinct at)
once-layer constants distinct (layer.Cyclic at) = once-map colour.Constant Constant-injective (constants_at constants at) (distinct at)
once-layer constants distinct (layer.Range span) = once-map colour.Number Number-injective (span_numbers span) (once-numbers span)
once-layer constants distinct (layer.Product ys) = once-map tuple tuple-injective (tuples (map (colours constants) (map (λ e. e.0) ys))) (once-tuples (map (colours constants) (map (λ e. e.0) ys)) (all-once constants ys))

pub once-sort : (constants : List (List (List ℕ))) → ((at : ℕ) → IsOnce (constants_at constants at)) → (s : Sort) → Once constants s
once-sort constants distinct = ind-Sort (Once constants) (λ x y is.
    subst (λ z. Once constants (roll-Sort z)) is
    (let z = map-Sort (Known constants) Sort (λ e. e.0) y in
    subst IsOnce (sym (fold-roll-Sort (List Colour) (colours_of_parts constants) z)) (once-layer constants distinct y)))
