-- The numbers that pass a test, as a rising list, and their ranks.
use Rattle.std.proofs.Common.{◌≡◌, ℕ, zero, suc, ◌+◌, ◌<◌, ◌≤◌, Bool, true, false, cond, inl, inr, refl, List, [], ◌∷◌, ◌++◌, filter, length, get_or, arith, ap, subst, sym, ◌∙◌, map-id, length-append, add-one, append-nil}
use Rattle.std.specs.List.{range_with_len}
use Rattle.std.proofs.Common.{take, sum_by}
use Rattle.std.proofs.lemmas.List.Sums.{sum_by-cons, sum_by-append, sum_by_more}
use Rattle.std.proofs.lemmas.Bool.{cases_lt, cases_Bool}
use Rattle.std.proofs.lemmas.List.FromFn.{filter_of_map_range_with_len_more}
use Rattle.std.proofs.Math.ListN.{get_or-append}
use Rattle.std.proofs.Math.Seq.{get_or-append_seam}
use Rattle.reductions.specs.Numbers.{numbers, rank}

-- one number more
numbers_more : (n : ℕ) (test : ℕ → Bool) → numbers (suc n) test ≡ numbers n test ++ cond (test n) (n ∷ []) []
unfolding numbers
numbers_more n test =
    ap (λ k. filter test (range_with_len 0 k)) (sym (add-one n))
    ∙ ap (filter test) (sym (map-id (range_with_len 0 (n + 1))))
    ∙ filter_of_map_range_with_len_more test (λ (k : ℕ). k) 0 n n (omega arith)
    ∙ ap (λ (ks : List ℕ). filter test ks ++ cond (test n) (n ∷ []) []) (map-id (range_with_len 0 n))

pub numbers_yes : (n : ℕ) (test : ℕ → Bool) → test n ≡ true → numbers (suc n) test ≡ numbers n test ++ n ∷ []
numbers_yes n test passing = numbers_more n test ∙ ap (λ (b : Bool). numbers n test ++ cond b (n ∷ []) []) passing

pub numbers_no : (n : ℕ) (test : ℕ → Bool) → test n ≡ false → numbers (suc n) test ≡ numbers n test
numbers_no n test failing = numbers_more n test ∙ ap (λ (b : Bool). numbers n test ++ cond b (n ∷ []) []) failing ∙ append-nil (numbers n test)

-- a number that passes stands at its rank
pub record StandsAt (n : ℕ) (test : ℕ → Bool) (p : ℕ) : Type 0 where
  pub within : rank test p < length (numbers n test)
  pub is : get_or (numbers n test) (rank test p) 0 ≡ p

stands_push : (n : ℕ) (test : ℕ → Bool) (p : ℕ) (more : List ℕ) → numbers (suc n) test ≡ numbers n test ++ more → StandsAt n test p → StandsAt (suc n) test p
stands_push n test p more grown at = record {
  within = let long = ap length grown ∙ length-append (numbers n test) more in let low = at.within in omega arith;
  is = ap (λ (ks : List ℕ). get_or ks (rank test p) 0) grown ∙ get_or-append (numbers n test) more 0 (rank test p) at.within ∙ at.is;
}

pub stands_at : (n : ℕ) (test : ℕ → Bool) (p : ℕ) → p < n → test p ≡ true → StandsAt n test p
stands_at zero test p within passes = absurd (omega arith)
stands_at (suc n) test p within passes = elim (cases_lt p n) [
  | inl below ↦ stands_push n test p (cond (test n) (n ∷ []) []) (numbers_more n test) (stands_at n test p below passes)
  | inr above ↦
      let last : n ≡ p = omega arith in
      let grown = numbers_yes n test (ap test last ∙ passes) in
      subst (λ q. StandsAt (suc n) test q) last (record {
        within = let long = ap length grown ∙ length-append (numbers n test) (n ∷ []) in omega arith;
        is = ap (λ (ks : List ℕ). get_or ks (rank test n) 0) grown ∙ get_or-append_seam (numbers n test) n [] 0;
      })
]

-- what stands at a place of the list passes, and has that place as its rank
pub record Numbered (n : ℕ) (test : ℕ → Bool) (q p : ℕ) : Type 0 where
  pub below : p < n
  pub passes : test p ≡ true
  pub rank : rank test p ≡ q

numbered_more : (n : ℕ) (test : ℕ → Bool) (q p : ℕ) → Numbered n test q p → Numbered (suc n) test q p
numbered_more n test q p at = record { below = let low = at.below in omega arith; passes = at.passes; rank = at.rank }

none_numbered : (test : ℕ → Bool) (q : ℕ) → q < length (numbers 0 test) → Numbered 0 test q (get_or (numbers 0 test) q 0)
unfolding numbers
none_numbered test q within = absurd (omega arith)

pub numbered : (n : ℕ) (test : ℕ → Bool) (q : ℕ) → q < length (numbers n test) → Numbered n test q (get_or (numbers n test) q 0)
numbered zero test q within = none_numbered test q within
numbered (suc n) test q within = elim (cases_Bool (test n)) [
  | inl passing ↦
      let grown = numbers_yes n test passing in
      let long = ap length grown ∙ length-append (numbers n test) (n ∷ []) in
      elim (cases_lt q (length (numbers n test))) [
        | inl before ↦
            let same : get_or (numbers n test) q 0 ≡ get_or (numbers (suc n) test) q 0 = sym (ap (λ (ks : List ℕ). get_or ks q 0) grown ∙ get_or-append (numbers n test) (n ∷ []) 0 q before) in
            subst (Numbered (suc n) test q) same (numbered_more n test q (get_or (numbers n test) q 0) (numbered n test q before))
        | inr behind ↦
            let last : rank test n ≡ q = omega arith in
            let same : n ≡ get_or (numbers (suc n) test) q 0 = sym (ap (λ (ks : List ℕ). get_or ks q 0) grown ∙ ap (λ k. get_or (numbers n test ++ n ∷ []) k 0) (sym last) ∙ get_or-append_seam (numbers n test) n [] 0) in
            subst (Numbered (suc n) test q) same (record { below = omega arith; passes = passing; rank = last })
      ]
  | inr failing ↦
      let grown = numbers_no n test failing in
      let same : get_or (numbers n test) q 0 ≡ get_or (numbers (suc n) test) q 0 = ap (λ (ks : List ℕ). get_or ks q 0) (sym grown) in
      subst (Numbered (suc n) test q) same (numbered_more n test q (get_or (numbers n test) q 0) (numbered n test q (subst (λ (ks : List ℕ). q < length ks) grown within)))
]

-- ranks rise with the numbers, and the list rises strictly
length-one : (b : Bool) (n : ℕ) → length (cond b (n ∷ []) []) ≤ 1
length-one true n = omega arith
length-one false n = omega arith

pub rank_more : (n : ℕ) (test : ℕ → Bool) → rank test (suc n) ≡ rank test n + length (cond (test n) (n ∷ []) [])
rank_more n test = ap length (numbers_more n test) ∙ length-append (numbers n test) (cond (test n) (n ∷ []) [])

pub rank_none : (test : ℕ → Bool) → rank test 0 ≤ 0
unfolding numbers
rank_none test = omega arith

pub rank-le : (n : ℕ) (test : ℕ → Bool) → rank test n ≤ n
rank-le zero test = rank_none test
rank-le (suc n) test = let rest = rank-le n test in let more = rank_more n test in let one = length-one (test n) n in omega arith

pub rank_rises : (p q : ℕ) (test : ℕ → Bool) → p ≤ q → rank test p ≤ rank test q
rank_rises p zero test le = let same : p ≡ 0 = omega arith in let moved = ap (rank test) same in omega arith
rank_rises p (suc q) test le = elim (cases_lt p (suc q)) [
  | inl below ↦ let rest = rank_rises p q test (omega arith) in let more = rank_more q test in omega arith
  | inr above ↦ let same : p ≡ suc q = omega arith in let moved = ap (rank test) same in omega arith
]

pub numbers_rise : (n : ℕ) (test : ℕ → Bool) (i j : ℕ) → i < j → j < length (numbers n test) → get_or (numbers n test) i 0 < get_or (numbers n test) j 0
numbers_rise n test i j below within =
    let one = numbered n test i (omega arith) in
    let two = numbered n test j within in
    elim (cases_lt (get_or (numbers n test) i 0) (get_or (numbers n test) j 0)) [
      | inl lower ↦ lower
      | inr upper ↦
          let order = rank_rises (get_or (numbers n test) j 0) (get_or (numbers n test) i 0) test upper in
          let first = one.rank in
          let second = two.rank in
          absurd (omega arith)
    ]

-- a sum over the numbers that pass is no more than the sum over all
sum_one : (b : Bool) (f : ℕ → ℕ) (n : ℕ) → sum_by f (cond b (n ∷ []) []) ≤ f n
sum_one true f n = let one = sum_by-cons f n [] in omega arith
sum_one false f n = omega arith

sum_none : (f : ℕ → ℕ) (test : ℕ → Bool) (k : ℕ) → sum_by f (numbers 0 test) ≤ k
unfolding numbers
sum_none f test k = omega arith

pub numbers_sum : {X : Type 0} (xs : List X) (g : X → ℕ) (f : ℕ → ℕ) (d : X) (test : ℕ → Bool) → ((i : ℕ) → i < length xs → f i ≤ g (get_or xs i d)) → (n : ℕ) → n ≤ length xs → sum_by f (numbers n test) ≤ sum_by g (take n xs)
numbers_sum xs g f d test le zero within = sum_none f test (sum_by g (take 0 xs))
numbers_sum xs g f d test le (suc n) within =
    let rest = numbers_sum xs g f d test le n (omega arith) in
    let here = le n (omega arith) in
    let more = ap (sum_by f) (numbers_more n test) ∙ sum_by-append f (numbers n test) (cond (test n) (n ∷ []) []) in
    let one = sum_one (test n) f n in
    let whole = sum_by_more g xs n d (omega arith) in
    let step = ap (λ k. sum_by g (take k xs)) (add-one n) in
    omega arith

pub rank_less : (p q : ℕ) (test : ℕ → Bool) → p < q → test p ≡ true → rank test p < rank test q
rank_less p q test below passes =
    let grown = ap length (numbers_yes p test passes) ∙ length-append (numbers p test) (p ∷ []) in
    let up = rank_rises (suc p) q test below in
    omega arith

-- one number more
pub rank_yes : (n : ℕ) (test : ℕ → Bool) → test n ≡ true → rank test (n + 1) ≡ rank test n + 1
rank_yes n test passes = ap (rank test) (add-one n) ∙ ap length (numbers_yes n test passes) ∙ length-append (numbers n test) (n ∷ [])

pub rank_no : (n : ℕ) (test : ℕ → Bool) → test n ≡ false → rank test (n + 1) ≡ rank test n
rank_no n test fails = ap (rank test) (add-one n) ∙ ap length (numbers_no n test fails)

pub numbers_first : (test : ℕ → Bool) → numbers 0 test ≡ []
unfolding numbers
numbers_first test = refl
