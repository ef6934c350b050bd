-- A walk over all declared variables.
use Rattle.std.proofs.Common.{◌≡◌, ℕ, ◌+◌, ◌<◌, List, [], ◌∷◌, ◌++◌, map-id, get_or, length, sym, ap, ◌∙◌, arith}
use Rattle.std.specs.List.{range_with_len}
use Rattle.std.proofs.lemmas.List.FromFn.{get_or-range_with_len, map-range_with_len_more, length-range_with_len}
use Rattle.multiset_terms.specs.declared.conditions.CGuard.{CGuard}
use Rattle.guard_walks.specs.declared.walks.Signature.{Signature}
use Rattle.guard_walks.specs.Walks.{AreVariables, IsOver, all_sizes, values_at}
use Rattle.guard_walks.proofs.Testable.{all_places}

pub range_more : (n : ℕ) → range_with_len 0 (n + 1) ≡ range_with_len 0 n ++ n ∷ []
range_more n = sym (map-id (range_with_len 0 (n + 1))) ∙ map-range_with_len_more (λ i. i) 0 n n (omega arith) ∙ ap (λ xs. xs ++ n ∷ []) (map-id (range_with_len 0 n))

number-at : (n at : ℕ) → at < n → get_or (range_with_len 0 n) at 0 ≡ at
number-at n at within = get_or-range_with_len 0 n at 0 within ∙ omega arith

pub all-declared : (n : ℕ) → AreVariables n (range_with_len 0 n)
all-declared n = record {
  each = λ at within. (let small : at < n = omega (arith, within, length-range_with_len 0 n) in omega (arith, number-at n at small, small));
  once = λ at other within inside same. (let small : at < n = omega (arith, within, length-range_with_len 0 n) in let also : other < n = omega (arith, inside, length-range_with_len 0 n) in
      omega (arith, same, number-at n at small, number-at n other also));
}

pub over-all : (s : Signature) (c : CGuard) → IsOver s c (range_with_len 0 (length (all_sizes s)))
over-all s c v within used = (v, omega (arith, within, length-range_with_len 0 (length (all_sizes s))), number-at (length (all_sizes s)) v within)

pub all-values : (sizes : List ℕ) → values_at sizes (range_with_len 0 (length sizes)) ≡ sizes
all-values sizes = all_places sizes 0

pub length-all : (n : ℕ) → length (range_with_len 0 n) ≡ n
length-all n = length-range_with_len 0 n
