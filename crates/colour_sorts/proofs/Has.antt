-- Values that stand in lists.
use Rattle.std.proofs.Common.{◌≡◌, ℕ, zero, suc, ◌+◌, ◌-◌, ◌<◌, ◌≤◌, ◌⊎◌, inl, inr, List, [], ◌∷◌, ◌++◌, map, length, length-append, set, length-set, get_or, refl, sym, ap, ◌∙◌, arith, Some}
use Rattle.std.proofs.lemmas.Bool.{cases_lt}
use Rattle.std.proofs.lemmas.List.{get_or-set_same, get_or-set_other}
use Rattle.std.proofs.lemmas.Option.{get_or_from_slice_get, slice_get_within}
use Rattle.std.specs.List.{slice_get}
use Rattle.std.specs.Prelude.{flat_map}
use Rattle.colour_sorts.specs.Searching.{Has}
use Rattle.colour_sorts.proofs.PlacesIn.{get-at, none-is-some, some-is-some}

pub front-or-end : (k n : ℕ) → k < n + 1 → (k < n) ⊎ (k ≡ n)
front-or-end k n within = by (cases_lt k n)
  where
    by : ((k < n) ⊎ (n ≤ k)) → (k < n) ⊎ (k ≡ n)
    by (inl less) = inl less
    by (inr more) = inr (omega (arith, more, within))

pub equal-or-not : (i j : ℕ) → (i ≡ j) ⊎ (i ≡ j → ⊥)
equal-or-not i j = by (cases_lt i j) (cases_lt j i)
  where
    by : ((i < j) ⊎ (j ≤ i)) → ((j < i) ⊎ (i ≤ j)) → (i ≡ j) ⊎ (i ≡ j → ⊥)
    by (inl less) _ = inr (λ e. omega (arith, less, e))
    by (inr more) (inl less) = inr (λ e. omega (arith, less, e))
    by (inr more) (inr other) = inl (omega (arith, more, other))

-- places in a list that another one follows
pub get-front : {X : Type 0} (xs ys : List X) (k : ℕ) (x : X) → slice_get xs k ≡ Some x → slice_get (xs ++ ys) k ≡ Some x
get-front [] ys k x e = absurd (none-is-some x e)
get-front (z ∷ xs) ys zero x e = e
get-front (z ∷ xs) ys (suc k) x e = get-front xs ys k x e

pub get-back : {X : Type 0} (xs ys : List X) (k : ℕ) (x : X) → slice_get ys k ≡ Some x → slice_get (xs ++ ys) (length xs + k) ≡ Some x
get-back [] ys k x e = (let n : 0 + k ≡ k = omega arith in ap (slice_get ys) n ∙ e)
get-back (z ∷ xs) ys k x e = (let n : suc (length xs) + k ≡ suc (length xs + k) = omega arith in ap (slice_get (z ∷ (xs ++ ys))) n ∙ get-back xs ys k x e)

pub get-cases : {X : Type 0} (xs ys : List X) (k : ℕ) (x : X) → slice_get (xs ++ ys) k ≡ Some x
    → ((k < length xs) × (slice_get xs k ≡ Some x)) ⊎ ((j : ℕ) × (k ≡ length xs + j) × (slice_get ys j ≡ Some x))
get-cases [] ys k x e = inr (k, omega arith, e)
get-cases (z ∷ xs) ys zero x e = inl (omega arith, e)
get-cases (z ∷ xs) ys (suc k) x e = by (get-cases xs ys k x e)
  where
    by : ((k < length xs) × (slice_get xs k ≡ Some x)) ⊎ ((j : ℕ) × (k ≡ length xs + j) × (slice_get ys j ≡ Some x))
        → ((suc k < suc (length xs)) × (slice_get xs k ≡ Some x)) ⊎ ((j : ℕ) × (suc k ≡ suc (length xs) + j) × (slice_get ys j ≡ Some x))
    by (inl (less, e)) = inl (omega (arith, less), e)
    by (inr (j, is, e)) = inr (j, omega (arith, is), e)

pub one-at : {X : Type 0} (x y : X) (j : ℕ) → slice_get (x ∷ []) j ≡ Some y → (j ≡ 0) × (x ≡ y)
one-at x y zero e = (refl, some-is-some x y e)
one-at x y (suc j) e = absurd (none-is-some y e)

-- the last one of a list
pub snoc-cases : {X : Type 0} (xs : List X) (y : X) (k : ℕ) (x : X) → slice_get (xs ++ y ∷ []) k ≡ Some x
    → ((k < length xs) × (slice_get xs k ≡ Some x)) ⊎ ((k ≡ length xs) × (y ≡ x))
snoc-cases xs y k x e = by (get-cases xs (y ∷ []) k x e)
  where
    by : ((k < length xs) × (slice_get xs k ≡ Some x)) ⊎ ((j : ℕ) × (k ≡ length xs + j) × (slice_get (y ∷ []) j ≡ Some x)) → ((k < length xs) × (slice_get xs k ≡ Some x)) ⊎ ((k ≡ length xs) × (y ≡ x))
    by (inl front) = inl front
    by (inr (j, is, e)) = let one = one-at y x j e in inr (omega (arith, is, one.0), one.1)

pub get-last : {X : Type 0} (xs : List X) (y : X) → slice_get (xs ++ y ∷ []) (length xs) ≡ Some y
get-last xs y = (let e : length xs + 0 ≡ length xs = omega arith in ap (slice_get (xs ++ y ∷ [])) (sym e)) ∙ get-back xs (y ∷ []) 0 y refl

pub has-front : {X : Type 0} (xs ys : List X) (x : X) → Has xs x → Has (xs ++ ys) x
has-front xs ys x (k, e) = (k, get-front xs ys k x e)

pub has-back : {X : Type 0} (xs ys : List X) (x : X) → Has ys x → Has (xs ++ ys) x
has-back xs ys x (k, e) = (length xs + k, get-back xs ys k x e)

pub has-cases : {X : Type 0} (xs ys : List X) (x : X) → Has (xs ++ ys) x → Has xs x ⊎ Has ys x
has-cases xs ys x (k, e) = by (get-cases xs ys k x e)
  where
    by : ((k < length xs) × (slice_get xs k ≡ Some x)) ⊎ ((j : ℕ) × (k ≡ length xs + j) × (slice_get ys j ≡ Some x)) → Has xs x ⊎ Has ys x
    by (inl front) = inl (k, front.1)
    by (inr (j, is, e)) = inr (j, e)

pub has-part : {X Y : Type 0} (f : X → List Y) (xs : List X) (i : ℕ) (x : X) (y : Y) → i < length xs → get_or xs i x ≡ x → Has (f x) y → Has (flat_map f xs) y
has-part f [] i x y within e h = absurd (omega (arith, within))
has-part f (z ∷ xs) zero x y within e h = has-front (f z) (flat_map f xs) y (by (f z) (f x) (ap f e) h)
  where
    by : {Y : Type 0} {y : Y} (a b : List Y) → a ≡ b → Has b y → Has a y
    by a b same (k, e) = (k, ap (λ l. slice_get l k) same ∙ e)
has-part f (z ∷ xs) (suc i) x y within e h = has-back (f z) (flat_map f xs) y (has-part f xs i x y (omega (arith, within)) e h)

pub has-mapped : {X Y : Type 0} (f : X → Y) (xs : List X) (x : X) → Has xs x → Has (map f xs) (f x)
has-mapped f [] x (k, e) = absurd (none-is-some x e)
has-mapped f (z ∷ xs) x (zero, e) = (0, ap Some (ap f (some-is-some z x e)))
has-mapped f (z ∷ xs) x (suc k, e) = let h = has-mapped f xs x (k, e) in (suc h.0, h.1)

-- a list with one value set
pub set-cases : {X : Type 0} (xs : List X) (i : ℕ) (y : X) (j : ℕ) (z : X) → i < length xs → slice_get (set xs i y) j ≡ Some z
    → ((j ≡ i) × (y ≡ z)) ⊎ ((j ≡ i → ⊥) × (slice_get xs j ≡ Some z))
set-cases xs i y j z within e = by (equal-or-not j i)
  where
    by : ((j ≡ i) ⊎ (j ≡ i → ⊥)) → ((j ≡ i) × (y ≡ z)) ⊎ ((j ≡ i → ⊥) × (slice_get xs j ≡ Some z))
    by (inl same) = inl (same, sym (get_or-set_same xs i y z within) ∙ ap (λ k. get_or (set xs i y) k z) (sym same) ∙ get_or_from_slice_get (set xs i y) j z z e)
    by (inr other) = inr (
      other,
      get-at xs j z z (omega (arith, slice_get_within (set xs i y) j z e, length-set xs i y)) (sym (get_or-set_other xs i j y z other) ∙ get_or_from_slice_get (set xs i y) j z z e),
    )
