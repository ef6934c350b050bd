-- The test of sorts tells whether they are the same.
use Rattle.std.proofs.Common.{◌≡◌, Bool, true, false, List, [], ◌∷◌, map, refl, sym, ap, ◌∙◌, subst}
use Rattle.std.specs.Prelude.{◌&&◌}
use Rattle.std.specs.Ordering.{int_eq}
use Rattle.std.proofs.lemmas.Bool.{false≢true}
use Rattle.std.proofs.lemmas.Bool.Decides.{Decides-int_eq, Decides-eqb}
use Rattle.net_model.specs.declared.sorts.Span.{Span}
use Rattle.colour_sorts.specs.declared.sorts.Sort.{Sort, map-Sort, out-Sort, roll-Sort, out-roll-Sort, roll-out-Sort, fold-roll-Sort}
use Rattle.colour_sorts.specs.declared.sorts.Sort.TheFolds.{ind-Sort}
use Rattle.colour_sorts.specs.declared.sorts.Sort.TheOpen as layer
use Rattle.colour_sorts.specs.Comparing.{all_same, is_same_layer, is_same_part, is_same_sort}

not-true : false ≡ true → ⊥
not-true h = false≢true h

and-true : (a b : Bool) → (a && b) ≡ true → (a ≡ true) × (b ≡ true)
and-true true b h = (refl, h)
and-true false b h = absurd (not-true h)

pub and-false : (a b : Bool) → b ≡ false → (a && b) ≡ false
and-false true b h = h
and-false false b h = refl

same-span : (a b : Span) → (int_eq a.first b.first && int_eq a.last b.last) ≡ true → a ≡ b
same-span a b h =
    let both = and-true (int_eq a.first b.first) (int_eq a.last b.last) h in
    ap (λ first. record { first = first; last = a.last }) ((Decides-int_eq a.first b.first).0 both.0)
    ∙ ap (λ last. record { first = b.first; last = last }) ((Decides-int_eq a.last b.last).0 both.1)

abbrev Told : Sort → Type 0
Told s = (d : Sort) → is_same_sort s d ≡ true → s ≡ d

abbrev Known : Type 0
Known = (s : Sort) × Told s

all-told : (ys : List Known) (cs : List Sort) → all_same (map is_same_sort (map (λ e. e.0) ys)) cs ≡ true → map (λ e. e.0) ys ≡ cs
all-told [] [] h = refl
all-told [] (c ∷ cs) h = absurd (not-true h)
all-told (y ∷ ys) [] h = absurd (not-true h)
all-told (y ∷ ys) (c ∷ cs) h =
    let both = and-true (is_same_sort y.0 c) (all_same (map is_same_sort (map (λ e. e.0) ys)) cs) h in
    ap (λ first. first ∷ map (λ e. e.0) ys) (y.1 c both.0) ∙ ap (λ rest. c ∷ rest) (all-told ys cs both.1)

open-told : (y : layer.Sort-F Known) (o : layer.Sort-F Sort) → is_same_layer (map-Sort Sort (Sort → Bool) is_same_sort (map-Sort Known Sort (λ e. e.0) y)) o ≡ true
    → map-Sort Known Sort (λ e. e.0) y ≡ o
open-told layer.Dot layer.Dot h = refl
open-told layer.Dot (layer.Listed _) h = absurd (not-true h)
open-told layer.Dot (layer.Cyclic _) h = absurd (not-true h)
open-told layer.Dot (layer.Range _) h = absurd (not-true h)
open-told layer.Dot (layer.Product _) h = absurd (not-true h)
open-told (layer.Listed at) layer.Dot h = absurd (not-true h)
open-told (layer.Listed at) (layer.Listed other) h = ap layer.Listed ((Decides-eqb at other).0 h)
open-told (layer.Listed at) (layer.Cyclic _) h = absurd (not-true h)
open-told (layer.Listed at) (layer.Range _) h = absurd (not-true h)
open-told (layer.Listed at) (layer.Product _) h = absurd (not-true h)
open-told (layer.Cyclic at) layer.Dot h = absurd (not-true h)
open-told (layer.Cyclic at) (layer.Listed _) h = absurd (not-true h)
open-told (layer.Cyclic at) (layer.Cyclic other) h = ap layer.Cyclic ((Decides-eqb at other).0 h)
open-told (layer.Cyclic at) (layer.Range _) h = absurd (not-true h)
open-told (layer.Cyclic at) (layer.Product _) h = absurd (not-true h)
open-told (layer.Range span) layer.Dot h = absurd (not-true h)
open-told (layer.Range span) (layer.Listed _) h = absurd (not-true h)
open-told (layer.Range span) (layer.Cyclic _) h = absurd (not-true h)
open-told (layer.Range span) (layer.Range other) h = ap layer.Range (same-span span other h)
open-told (layer.Range span) (layer.Product _) h = absurd (not-true h)
open-told (layer.Product ys) layer.Dot h = absurd (not-true h)
open-told (layer.Product ys) (layer.Listed _) h = absurd (not-true h)
open-told (layer.Product ys) (layer.Cyclic _) h = absurd (not-true h)
open-told (layer.Product ys) (layer.Range _) h = absurd (not-true h)
open-told (layer.Product ys) (layer.Product cs) h = ap layer.Product (all-told ys cs h)

same-roll : (x : layer.Sort-F Sort) (d : Sort) → is_same_sort (roll-Sort x) d ≡ is_same_layer (map-Sort Sort (Sort → Bool) is_same_sort x) (out-Sort d)
same-roll x d = ap (λ test. test d) (fold-roll-Sort (Sort → Bool) is_same_part x)

roll-told : (y : layer.Sort-F Known) → Told (roll-Sort (map-Sort Known Sort (λ e. e.0) y))
roll-told y d h =
    let x = map-Sort Known Sort (λ e. e.0) y in
    ap roll-Sort (open-told y (out-Sort d) (sym (same-roll x d) ∙ h)) ∙ roll-out-Sort d

pub sort-told : (s : Sort) → Told s
sort-told = ind-Sort Told (λ x y is. subst (λ z. Told (roll-Sort z)) is (roll-told y))

abbrev Own : Sort → Type 0
Own s = is_same_sort s s ≡ true

abbrev Owned : Type 0
Owned = (s : Sort) × Own s

all-own : (ys : List Owned) → all_same (map is_same_sort (map (λ e. e.0) ys)) (map (λ e. e.0) ys) ≡ true
all-own [] = refl
all-own (y ∷ ys) = rw y.1 (all-own ys)

open-own : (y : layer.Sort-F Owned) → is_same_layer (map-Sort Sort (Sort → Bool) is_same_sort (map-Sort Owned Sort (λ e. e.0) y)) (map-Sort Owned Sort (λ e. e.0) y) ≡ true
open-own layer.Dot = refl
open-own (layer.Listed at) = (Decides-eqb at at).1 refl
open-own (layer.Cyclic at) = (Decides-eqb at at).1 refl
open-own (layer.Range span) = rw ((Decides-int_eq span.first span.first).1 refl) ((Decides-int_eq span.last span.last).1 refl)
open-own (layer.Product ys) = all-own ys

roll-own : (y : layer.Sort-F Owned) → Own (roll-Sort (map-Sort Owned Sort (λ e. e.0) y))
roll-own y =
    let x = map-Sort Owned Sort (λ e. e.0) y in
    same-roll x (roll-Sort x) ∙ ap (λ o. is_same_layer (map-Sort Sort (Sort → Bool) is_same_sort x) o) (out-roll-Sort x) ∙ open-own y

pub sort-own : (s : Sort) → Own s
sort-own = ind-Sort Own (λ x y is. subst (λ z. Own (roll-Sort z)) is (roll-own y))
