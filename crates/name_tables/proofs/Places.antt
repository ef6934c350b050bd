-- The place of a name among names.
use Rattle.std.proofs.Common.{◌≡◌, ℕ, ◌+◌, ◌<◌, Bool, true, false, cond, not, nat_lt, List, [], ◌∷◌, ◌++◌, map, length, None, Some, position, ◌||◌, refl, sym, ap, ◌∙◌, arith, get_or}
use Rattle.std.proofs.lemmas.List.{length-map}
use Rattle.std.proofs.lemmas.List.Sums.{position_or_len_is}
use Rattle.std.proofs.lemmas.Map.Keys.{apart_from_distinct}
use Rattle.std.specs.List.{IsDistinct}
use Rattle.std.specs.Str.{bytes_eq}
use Rattle.name_tables.specs.Numbering.{IsAdded, number_in}
use Rattle.name_tables.specs.declared.numbering.Added.TheVariants.{New, Old}
use Rattle.std.proofs.lemmas.Cmp.{nat_list_eq_equiv}
use Rattle.std.proofs.lemmas.Bool.{true≢false, not-true, not-false, cond-true, cond-false}
use Rattle.std.proofs.lemmas.Bool.Decides.{nat_tests}
use Rattle.std.specs.List.{list_any, prefix_len, position_or_len}

pub prefix_len-map : {X Y : Type 0} (f : X → Y) (p : Y → Bool) (xs : List X) → prefix_len p (map f xs) ≡ prefix_len (λ x. p (f x)) xs
prefix_len-map f p [] = refl
prefix_len-map f p (x ∷ xs) = ap (λ n. cond (p (f x)) (1 + n) 0) (prefix_len-map f p xs)

pub position-map : {X Y : Type 0} (f : X → Y) (p : Y → Bool) (xs : List X) → position p (map f xs) ≡ position (λ x. p (f x)) xs
position-map f p xs =
    ap (λ n. cond (nat_lt n (length (map f xs))) (Some n) None) (prefix_len-map f (λ y. not (p y)) xs)
    ∙ ap (λ n. cond (nat_lt (position_or_len (λ x. p (f x)) xs) n) (Some (position_or_len (λ x. p (f x)) xs)) None) (length-map xs f)

pub position_or_len_none : {X : Type 0} (p : X → Bool) (xs : List X) → list_any p xs ≡ false → position_or_len p xs ≡ length xs
position_or_len_none p [] none = refl
position_or_len_none p (x ∷ xs) none = by (p x) (list_any p xs) none (position_or_len_none p xs)
  where
    by : (here there : Bool) → (here || there) ≡ false → (there ≡ false → position_or_len p xs ≡ length xs) → cond (not here) (1 + position_or_len p xs) 0 ≡ length (x ∷ xs)
    by true there e ih = absurd (true≢false e)
    by false there e ih = let h = ih e in omega arith

pub position_or_len_some : {X : Type 0} (p : X → Bool) (xs : List X) → list_any p xs ≡ true → position_or_len p xs < length xs
position_or_len_some p [] some = absurd (true≢false (sym some))
position_or_len_some p (x ∷ xs) some = by (p x) (list_any p xs) some (position_or_len_some p xs)
  where
    by : (here there : Bool) → (here || there) ≡ true → (there ≡ true → position_or_len p xs < length xs) → cond (not here) (1 + position_or_len p xs) 0 < length (x ∷ xs)
    by true there e ih = omega arith
    by false there e ih = let h = ih e in omega arith

-- where no key passes, there is no place; where one does, the place is the first
pub position_none : {X : Type 0} (p : X → Bool) (xs : List X) → list_any p xs ≡ false → position p xs ≡ None
position_none p xs none = let e = position_or_len_none p xs none in grind (arith, nat_tests)

pub position_some : {X : Type 0} (p : X → Bool) (xs : List X) → list_any p xs ≡ true → position p xs ≡ Some (position_or_len p xs)
position_some p xs some = let e = position_or_len_some p xs some in grind (arith, nat_tests)

-- what an insertion into a list of names does to it
pub name_added-new : (keys : List (List ℕ)) (key : List ℕ) (at : ℕ) (is_new : Bool) (after : List (List ℕ))
    → is_new ≡ not (list_any (bytes_eq key) keys) → at ≡ position_or_len (bytes_eq key) keys
    → after ≡ cond (list_any (bytes_eq key) keys) keys (keys ++ key ∷ []) → is_new ≡ true
    → IsAdded keys key (New at) after
name_added-new keys key at is_new after added place grown fresh =
    let none = not-true _ (sym added ∙ fresh) in
    (position_none _ keys none, place ∙ position_or_len_none _ keys none, grown ∙ cond-false _ _ _ none)

pub name_added-old : (keys : List (List ℕ)) (key : List ℕ) (at : ℕ) (is_new : Bool) (after : List (List ℕ))
    → is_new ≡ not (list_any (bytes_eq key) keys) → at ≡ position_or_len (bytes_eq key) keys
    → after ≡ cond (list_any (bytes_eq key) keys) keys (keys ++ key ∷ []) → is_new ≡ false
    → IsAdded keys key (Old at) after
name_added-old keys key at is_new after added place kept known =
    let some = not-false _ (sym added ∙ known) in
    (position_some _ keys some ∙ ap Some (sym place), kept ∙ cond-true _ _ _ some)

-- where the keys' names are distinct, each name has the place of its key
pub place_of_key : {X : Type 0} (f : X → List ℕ) (keys : List X) (at : ℕ) (d : X)
    → IsDistinct (λ j k. bytes_eq (f j) (f k)) keys → at < length keys → position (λ k. bytes_eq (f (get_or keys at d)) (f k)) keys ≡ Some at
place_of_key f keys at d distinct within =
    let name = f (get_or keys at d) in
    let place = position_or_len_is (λ k. bytes_eq name (f k)) keys at d (omega arith)
    (λ k before. nat_list_eq_equiv.symm name (f (get_or keys k d)) ∙ apart_from_distinct (λ j k. bytes_eq (f j) (f k)) keys k at d distinct before within)
    (λ _. nat_list_eq_equiv.refl name) in
    found _ (length keys) place within
  where
    found : (n m : ℕ) → n ≡ at → at < m → cond (nat_lt n m) (Some n) None ≡ Some at
    found n m e w = grind (arith, nat_tests)

-- distinct names have the numbers of their places
pub name_has_its_number : (keys : List (List ℕ)) (at : ℕ) (d : List ℕ)
    → IsDistinct bytes_eq keys → at < length keys → number_in keys (get_or keys at d) ≡ Some at
name_has_its_number keys = place_of_key (λ name. name) keys
