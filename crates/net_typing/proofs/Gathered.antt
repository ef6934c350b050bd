-- Typed parts as a loop gathers them.
use Rattle.std.proofs.Common.{◌≡◌, ◌∙◌, ◌<◌, ◌≤◌, ◌+◌, ◌++◌, ◌∷◌, ◌⊎◌, inl, inr, [], ap, sym, subst, arith, ℕ, List, length, get_or}
use Rattle.std.proofs.Math.Nat.{eq-or-lt_of_le}
use Rattle.std.proofs.lemmas.List.{get_or_append_left, get_or_default, get_or_push, length_push}
use Rattle.net_typing.specs.Standing.{AreTypedBelow}

-- what is kept at a place, the new one at the end
at-place : {A B : Type 0} (Is : A → B → Type 0) (i : ℕ) (xs : List A) (ys : List B) (x : A) (y : B) → AreTypedBelow Is i xs ys → i < length xs → x ≡ get_or xs i x → Is x y
    → (j : ℕ) (d : A) (e : B) → (j ≡ i) ⊎ (j < i) → Is (get_or xs j d) (get_or (ys ++ y ∷ []) j e)
at-place Is i xs ys x y typed lt is here j d e (inl same) =
    let there : get_or xs j d ≡ x = ap (λ k. get_or xs k d) same ∙ get_or_default xs i d x lt ∙ sym is in
    let new : get_or (ys ++ y ∷ []) j e ≡ y = get_or_push ys y e j (typed.many ∙ sym same) in
    subst (λ b. Is (get_or xs j d) b) (sym new) (subst (λ a. Is a y) (sym there) here)
at-place Is i xs ys x y typed lt is here j d e (inr less) =
    subst (λ b. Is (get_or xs j d) b) (sym (get_or_append_left ys (y ∷ []) e j (omega (arith, less, typed.many)))) (typed.each j d e less)

pub typed-more : {A B : Type 0} (Is : A → B → Type 0) (i : ℕ) (xs : List A) (ys : List B) (x : A) (y : B) → AreTypedBelow Is i xs ys → i < length xs → x ≡ get_or xs i x → Is x y → AreTypedBelow Is (i + 1) xs (ys ++ y ∷ [])
typed-more Is i xs ys x y typed lt is here = record {
  many = length_push ys y ∙ ap (λ n. n + 1) typed.many;
  each = λ j d e less. at-place Is i xs ys x y typed lt is here j d e (eq-or-lt_of_le (omega (arith, less)));
}
