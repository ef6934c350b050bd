-- The members of blocks by the numbers of colours.
use Rattle.std.proofs.Common.{◌≡◌, ℕ, Bool, true, false, ◌&&◌, nat_eq, List, ℤ, ◌≤ℤ◌, ◌⊎◌, inl, inr, map, refl, sym, ap, ◌∙◌, arith, Some, None, Option}
use Rattle.std.proofs.lemmas.Bool.{false≢true}
use Rattle.std.proofs.lemmas.Bool.Decides.{Decides-int_eq, nat_tests}
use Rattle.std.proofs.lemmas.Cmp.{nat_list_eq_equiv}
use Rattle.std.proofs.lemmas.Int.{ints}
use Rattle.std.proofs.lemmas.List.{length-map}
use Rattle.std.proofs.lemmas.Option.{slice_get_within}
use Rattle.std.specs.Cmp.Lexicographic.{bytes_decides}
use Rattle.std.specs.List.{list_any, slice_get}
use Rattle.std.specs.Ordering.{int_eq}
use Rattle.std.specs.Prelude.{int_le}
use Rattle.std.specs.Str.{bytes_eq}
use Rattle.colour_sorts.specs.declared.sorts.Colour.{Colour}
use Rattle.colour_sorts.specs.declared.sorts.Colour.TheVariants as colour
use Rattle.colour_sorts.specs.declared.sorts.Sort.{Sort, out-Sort, roll-Sort, roll-out-Sort}
use Rattle.colour_sorts.specs.declared.sorts.Sort.TheOpen as layer
use Rattle.colour_sorts.specs.declared.sorts.Sort.TheVariants as sort
use Rattle.net_model.specs.declared.sorts.Member.{Member}
use Rattle.net_model.specs.declared.sorts.Member.TheVariants as member
use Rattle.net_model.specs.declared.sorts.Span.{Span}
use Rattle.colour_sorts.specs.Colours.{span_length, span_numbers}
use Rattle.colour_sorts.specs.Dividing.{is_colour, is_colour_layer, is_member, is_member_layer}
use Rattle.colour_sorts.specs.Filling.{IsColourAt, IsMemberAt}
use Rattle.colour_sorts.specs.Places.{IsPlace}
use Rattle.colour_sorts.proofs.Grouped.{any-place, not-true, place-any}
use Rattle.colour_sorts.proofs.PlacesIn.{none-is-some, number-found, number-last, rising-only, slice_get-mapped, some-is-some, steps_up}
use Rattle.colour_sorts.proofs.Has.{equal-or-not}

colour-Constant : (name id : List ℕ) → is_colour (colour.Constant name) (member.Constant id) ≡ bytes_eq name id
colour-Constant name id = ap (λ l. is_colour_layer l (member.Constant id)) (colour.outs-Constant name)

colour-Number : (n value : ℤ) (span : Span) → is_colour (colour.Number n) (member.Number value span) ≡ int_eq n value
colour-Number n value span = ap (λ l. is_colour_layer l (member.Number value span)) (colour.outs-Number n)

-- a member is the value at its only place
at-place : {X : Type 0} (f : X → Colour) (same : X → X → Bool) (m : Member) (xs : List X) (x : X) (k : ℕ)
    → ((y : X) → is_colour (f y) m ≡ same y x) → ((y z : X) → same y z ≡ true → y ≡ z) → ((y : X) → same y y ≡ true)
    → IsPlace xs x (Some k) → IsColourAt (map f xs) m k
at-place {X = X} f same m xs x k test tells own is = record {
  within = omega (arith, slice_get_within xs k x is.found, length-map xs f);
  only = λ at c e. (let image = slice_get-mapped f xs at c e in
      ap (λ c. is_colour c m) (sym image.2) ∙ test image.0 ∙ by at image.0 image.1 (equal-or-not at k));
}
  where
    by : (at : ℕ) (y : X) → slice_get xs at ≡ Some y → ((at ≡ k) ⊎ (at ≡ k → ⊥)) → same y x ≡ nat_eq at k
    by at y e (inl here) =
        let value = some-is-some y x (sym e ∙ ap (slice_get xs) here ∙ is.found) in
        ap (λ z. same z x) value ∙ own x ∙ (let yes : true ≡ nat_eq at k = grind (arith, nat_tests, here) in yes)
    by at y e (inr other) =
        not-true (same y x) (λ h. other (sym (some-is-some k at (is.only at (e ∙ ap Some (tells y x h))))))
        ∙ (let no : false ≡ nat_eq at k = sym (not-true (nat_eq at k) (λ h. other (grind (arith, nat_tests, h)))) in no)

-- a constant among the constants of an enumeration
bytes-same : (x y : List ℕ) → bytes_eq x y ≡ true → x ≡ y
bytes-same x y h = (bytes_decides x y).0 h

pub constant-place : (xs : List (List ℕ)) (id : List ℕ) (place : Option ℕ) → IsPlace xs id place → IsMemberAt (map colour.Constant xs) (member.Constant id) (list_any (bytes_eq id) xs) place
constant-place xs id None is = not-true (list_any (bytes_eq id) xs) (λ h. (let there = any-place id xs h in none-is-some there.0 (is.only there.0 there.1)))
constant-place xs id (Some k) is = (
  place-any id xs k is.found,
  at-place colour.Constant bytes_eq (member.Constant id) xs id k (λ y. colour-Constant y id) bytes-same (λ y. nat_list_eq_equiv.refl y) is,
)

-- a number among the numbers of a range
int-same : (a b : ℤ) → int_eq a b ≡ true → a ≡ b
int-same a b h = (Decides-int_eq a b).0 h

int-own : (a : ℤ) → int_eq a a ≡ true
int-own a = (Decides-int_eq a a).1 refl

le-true : (a b : ℤ) → a ≤ℤ b → int_le a b ≡ true
le-true a b h = by (int_le a b) refl
  where
    by : (t : Bool) → int_le a b ≡ t → int_le a b ≡ true
    by true e = e
    by false e = absurd (omega (arith, ints, h, e))

true-le : (a b : ℤ) → int_le a b ≡ true → a ≤ℤ b
true-le a b e = omega (arith, ints, e)

span-same : (s r : Span) → s.first ≡ r.first → s.last ≡ r.last → s ≡ r
span-same s r a b = ap (λ n. record { first = n; last = s.last }) a ∙ ap (λ n. record { first = r.first; last = n }) b

pub spans-same : (s r : Span) → (int_eq s.first r.first && int_eq s.last r.last) ≡ true → s ≡ r
spans-same s r e = span-same s r (int-same s.first r.first (and-first _ _ e)) (int-same s.last r.last (and-second _ _ e))
  where
    and-first : (a b : Bool) → (a && b) ≡ true → a ≡ true
    and-first true b e = refl
    and-first false b e = absurd (false≢true e)

    and-second : (a b : Bool) → (a && b) ≡ true → b ≡ true
    and-second true b e = e
    and-second false b e = absurd (false≢true e)

pub number-place : (range : Span) (value : ℤ) (place : Option ℕ) → IsPlace (span_numbers range) value place
    → IsMemberAt (map colour.Number (span_numbers range)) (member.Number value range)
    (int_eq range.first range.first && int_eq range.last range.last && int_le range.first value && int_le value range.last) place
number-place range value None is = not-true _ (λ h. outside (int_eq range.first range.first) (int_eq range.last range.last) (int_le range.first value) (int_le value range.last) refl refl h)
  where
    outside : (a b c d : Bool) → int_le range.first value ≡ c → int_le value range.last ≡ d → (a && b && c && d) ≡ true → ⊥
    outside a b c d e f h =
        let low : range.first ≤ℤ value = (let c_true : c ≡ true = grind (arith, h) in true-le range.first value (e ∙ c_true)) in
        let high : value ≤ℤ range.last = (let d_true : d ≡ true = grind (arith, h) in true-le value range.last (f ∙ d_true)) in
        let up = steps_up range.first value low in
        let there = number-found range value up.0 high up.1 in
        none-is-some up.0 (is.only up.0 there.found)
number-place range value (Some k) is =
    let there = rising-only range.first (span_length range) k value is.found in
    let low : int_le range.first value ≡ true = le-true range.first value (omega (arith, ints, there.1)) in
    let high : int_le value range.last ≡ true = (let last = number-last range k there.0 in le-true value range.last (omega (arith, ints, there.1, last))) in (
      all (int_eq range.first range.first) (int_eq range.last range.last) (int_le range.first value) (int_le value range.last) (int-own range.first) (int-own range.last) low high,
      at-place colour.Number int_eq (member.Number value range) (span_numbers range) value k (λ y. colour-Number y value range) int-same int-own is,
    )
  where
    all : (a b c d : Bool) → a ≡ true → b ≡ true → c ≡ true → d ≡ true → (a && b && c && d) ≡ true
    all a b c d ea eb ec ed = rw (ea, eb, ec, ed) refl

-- members by the kinds of sorts
pub member-Listed : (constants : List (List (List ℕ))) (at : ℕ) (m : Member) → is_member constants (sort.Listed at) m ≡ is_member_layer {A = Sort} constants (layer.Listed at) m
member-Listed constants at m = ap (λ l. is_member_layer constants l m) (sort.outs-Listed at)

pub member-Cyclic : (constants : List (List (List ℕ))) (at : ℕ) (m : Member) → is_member constants (sort.Cyclic at) m ≡ is_member_layer {A = Sort} constants (layer.Cyclic at) m
member-Cyclic constants at m = ap (λ l. is_member_layer constants l m) (sort.outs-Cyclic at)

pub member-Range : (constants : List (List (List ℕ))) (range : Span) (m : Member) → is_member constants (sort.Range range) m ≡ is_member_layer {A = Sort} constants (layer.Range range) m
member-Range constants range m = ap (λ l. is_member_layer constants l m) (sort.outs-Range range)

pub listed-other : (constants : List (List (List ℕ))) (at : ℕ) (m : Member) → ((id : List ℕ) → m ≡ member.Constant id → ⊥) → is_member_layer {A = Sort} constants (layer.Listed at) m ≡ false
listed-other constants at (member.Constant id) never = absurd (never id refl)
listed-other constants at (member.Number value span) never = refl
listed-other constants at member.Dot never = refl

pub cyclic-other : (constants : List (List (List ℕ))) (at : ℕ) (m : Member) → ((id : List ℕ) → m ≡ member.Constant id → ⊥) → is_member_layer {A = Sort} constants (layer.Cyclic at) m ≡ false
cyclic-other constants at (member.Constant id) never = absurd (never id refl)
cyclic-other constants at (member.Number value span) never = refl
cyclic-other constants at member.Dot never = refl

pub range-other : (constants : List (List (List ℕ))) (range : Span) (m : Member) → ((value : ℤ) (span : Span) → m ≡ member.Number value span → ⊥) → is_member_layer {A = Sort} constants (layer.Range range) m ≡ false
range-other constants range (member.Constant id) never = refl
range-other constants range (member.Number value span) never = absurd (never value span refl)
range-other constants range member.Dot never = refl

-- what is no enumeration and no range has no members
pub sort-other : (constants : List (List (List ℕ))) (s : Sort) (m : Member) → ((at : ℕ) → s ≡ sort.Listed at → ⊥) → ((at : ℕ) → s ≡ sort.Cyclic at → ⊥) → ((span : Span) → s ≡ sort.Range span → ⊥)
    → is_member constants s m ≡ false
sort-other constants s m a b c = by (out-Sort s) refl
  where
    back : (l : layer.Sort-F Sort) → out-Sort s ≡ l → s ≡ roll-Sort l
    back l e = sym (roll-out-Sort s) ∙ ap roll-Sort e

    by : (l : layer.Sort-F Sort) → out-Sort s ≡ l → is_member_layer constants (out-Sort s) m ≡ false
    by layer.Dot e = ap (λ l. is_member_layer constants l m) e ∙ none m
      where
        none : (m : Member) → is_member_layer {A = Sort} constants layer.Dot m ≡ false
        none (member.Constant id) = refl
        none (member.Number value span) = refl
        none member.Dot = refl
    by (layer.Product parts) e = ap (λ l. is_member_layer constants l m) e ∙ none m
      where
        none : (m : Member) → is_member_layer {A = Sort} constants (layer.Product parts) m ≡ false
        none (member.Constant id) = refl
        none (member.Number value span) = refl
        none member.Dot = refl
    by (layer.Listed at) e = absurd (a at (back (layer.Listed at) e ∙ sort.rolls-Listed at))
    by (layer.Cyclic at) e = absurd (b at (back (layer.Cyclic at) e ∙ sort.rolls-Cyclic at))
    by (layer.Range span) e = absurd (c span (back (layer.Range span) e ∙ sort.rolls-Range span))

-- what is no constant is no member of an enumeration
pub no-constant : (constants : List (List (List ℕ))) (at : ℕ) (m : Member) → ((name : List ℕ) → m ≡ member.Constant name → ⊥) → is_member_layer {A = Sort} constants (layer.Listed at) m ≡ false
no-constant constants at member.Dot other = refl
no-constant constants at (member.Constant name) other = absurd (other name refl)
no-constant constants at (member.Number value span) other = refl
