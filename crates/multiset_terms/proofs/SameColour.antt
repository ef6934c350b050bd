-- The test of colours tells whether they are the same.
use Rattle.std.proofs.Common.{◌≡◌, ℤ, Bool, true, false, List, [], ◌∷◌, map, refl, sym, ap, ◌∙◌, subst}
use Rattle.std.specs.Ordering.{int_eq}
use Rattle.std.specs.Cmp.Lexicographic.{bytes_decides}
use Rattle.std.proofs.lemmas.Bool.Decides.{Decides-int_eq}
use Rattle.colour_sorts.specs.declared.sorts.Colour.{Colour, map-Colour, out-Colour, roll-Colour, out-roll-Colour, roll-out-Colour, fold-roll-Colour}
use Rattle.colour_sorts.specs.declared.sorts.Colour.TheFolds.{ind-Colour}
use Rattle.colour_sorts.specs.declared.sorts.Colour.TheOpen as layer
use Rattle.multiset_terms.specs.Values.{all_same, is_same, is_same_layer, is_same_part}
use Rattle.multiset_terms.proofs.Readings.{and-true}

same-number : (a b : ℤ) → int_eq a b ≡ true → a ≡ b
same-number a b h = (Decides-int_eq a b).0 h

own-number : (a : ℤ) → int_eq a a ≡ true
own-number a = (Decides-int_eq a a).1 refl

abbrev Told : Colour → Type 0
Told c = (d : Colour) → is_same c d ≡ true → c ≡ d

abbrev Known : Type 0
Known = (c : Colour) × Told c

abbrev false-is : Bool → Type 0
false-is false = Unit {0}
false-is true = ⊥

pub not-true : false ≡ true → ⊥
not-true h = subst false-is h tt

all-told : (ys : List Known) (cs : List Colour) → all_same (map is_same (map (λ e. e.0) ys)) cs ≡ true → map (λ e. e.0) ys ≡ cs
all-told [] [] h = refl
all-told [] (c ∷ cs) h = absurd (not-true h)
all-told (y ∷ ys) [] h = absurd (not-true h)
all-told (y ∷ ys) (c ∷ cs) h =
    let both = and-true (is_same y.0 c) (all_same (map is_same (map (λ e. e.0) ys)) cs) h in
    ap (λ first. first ∷ map (λ e. e.0) ys) (y.1 c both.0) ∙ ap (λ rest. c ∷ rest) (all-told ys cs both.1)

-- one layer
open-told : (y : layer.Colour-F Known) (o : layer.Colour-F Colour) → is_same_layer (map-Colour Colour (Colour → Bool) is_same (map-Colour Known Colour (λ e. e.0) y)) o ≡ true
    → map-Colour Known Colour (λ e. e.0) y ≡ o
open-told layer.Dot layer.Dot h = refl
open-told layer.Dot (layer.Constant _) h = absurd (not-true h)
open-told layer.Dot (layer.Number _) h = absurd (not-true h)
open-told layer.Dot (layer.Tuple _) h = absurd (not-true h)
open-told (layer.Constant name) layer.Dot h = absurd (not-true h)
open-told (layer.Constant name) (layer.Constant other) h = ap layer.Constant ((bytes_decides name other).0 h)
open-told (layer.Constant name) (layer.Number _) h = absurd (not-true h)
open-told (layer.Constant name) (layer.Tuple _) h = absurd (not-true h)
open-told (layer.Number number) layer.Dot h = absurd (not-true h)
open-told (layer.Number number) (layer.Constant _) h = absurd (not-true h)
open-told (layer.Number number) (layer.Number other) h = ap layer.Number (same-number number other h)
open-told (layer.Number number) (layer.Tuple _) h = absurd (not-true h)
open-told (layer.Tuple ys) layer.Dot h = absurd (not-true h)
open-told (layer.Tuple ys) (layer.Constant _) h = absurd (not-true h)
open-told (layer.Tuple ys) (layer.Number _) h = absurd (not-true h)
open-told (layer.Tuple ys) (layer.Tuple cs) h = ap layer.Tuple (all-told ys cs h)

pub same-roll : (x : layer.Colour-F Colour) (d : Colour) → is_same (roll-Colour x) d ≡ is_same_layer (map-Colour Colour (Colour → Bool) is_same x) (out-Colour d)
same-roll x d = ap (λ test. test d) (fold-roll-Colour (Colour → Bool) is_same_part x)

roll-told : (y : layer.Colour-F Known) → Told (roll-Colour (map-Colour Known Colour (λ e. e.0) y))
roll-told y d h =
    let x = map-Colour Known Colour (λ e. e.0) y in
    ap roll-Colour (open-told y (out-Colour d) (sym (same-roll x d) ∙ h)) ∙ roll-out-Colour d

pub told : (c : Colour) → Told c
told = ind-Colour Told (λ x y is. subst (λ z. Told (roll-Colour z)) is (roll-told y))

-- a colour is the same as itself
abbrev Own : Colour → Type 0
Own c = is_same c c ≡ true

abbrev Owned : Type 0
Owned = (c : Colour) × Own c

all-own : (ys : List Owned) → all_same (map is_same (map (λ e. e.0) ys)) (map (λ e. e.0) ys) ≡ true
all-own [] = refl
all-own (y ∷ ys) = rw y.1 (all-own ys)

open-own : (y : layer.Colour-F Owned) → is_same_layer (map-Colour Colour (Colour → Bool) is_same (map-Colour Owned Colour (λ e. e.0) y)) (map-Colour Owned Colour (λ e. e.0) y) ≡ true
open-own layer.Dot = refl
open-own (layer.Constant name) = (bytes_decides name name).1 refl
open-own (layer.Number number) = own-number number
open-own (layer.Tuple ys) = all-own ys

roll-own : (y : layer.Colour-F Owned) → Own (roll-Colour (map-Colour Owned Colour (λ e. e.0) y))
roll-own y =
    let x = map-Colour Owned Colour (λ e. e.0) y in
    same-roll x (roll-Colour x) ∙ ap (λ o. is_same_layer (map-Colour Colour (Colour → Bool) is_same x) o) (out-roll-Colour x) ∙ open-own y

pub own : (c : Colour) → Own c
own = ind-Colour Own (λ x y is. subst (λ z. Own (roll-Colour z)) is (roll-own y))
