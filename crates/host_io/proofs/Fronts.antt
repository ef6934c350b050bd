-- What a read of the first bytes that are left does to them.
use Rattle.std.proofs.Common.{◌≡◌, ℕ, ◌+◌, ◌<◌, ◌≤◌, List, [], ◌++◌, length, take, drop, sym, ap, ◌∙◌, subst}
use Rattle.std.proofs.lemmas.List.{drop-drop, take-append-drop, length-take-le}
use Rattle.std.proofs.Math.Seq.{take-append_seam}

front : (xs ys : List ℕ) (n : ℕ) → length xs ≡ n → take n (xs ++ ys) ≡ xs
front xs ys n e = subst (λ k. take k (xs ++ ys) ≡ xs) e (take-append_seam xs ys)

-- the first n bytes from a place on stand in front of the buffer, and no byte is left only where n is 0 at the end
pub consumed : (xs buf copied : List ℕ) (at n : ℕ) → copied ≡ take n (drop at xs) → n ≤ length (drop at xs) → (n ≡ 0 → drop at xs ≡ [])
    → (drop at xs ≡ take n (copied ++ drop n buf) ++ drop (at + n) xs) × (n ≡ 0 → 0 < length (copied ++ drop n buf) → drop (at + n) xs ≡ [])
consumed xs buf copied at n same within end =
    let left = drop at xs in
    let size : length copied ≡ n = ap length same ∙ length-take-le n left within in
    let taken : take n (copied ++ drop n buf) ≡ take n left = front copied (drop n buf) n size ∙ same in (
      sym (take-append-drop n left) ∙ ap (λ l. l ++ drop n left) (sym taken) ∙ ap (λ l. take n (copied ++ drop n buf) ++ l) (drop-drop n at xs),
      λ e some. sym (drop-drop n at xs) ∙ subst (λ k. drop k left ≡ []) (sym e) (end e),
    )
