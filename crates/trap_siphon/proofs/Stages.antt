-- The last stage is closed: an active instance whose inputs are in it has its outputs in it.
use Rattle.std.proofs.Common.{◌≡◌, ℕ, zero, suc, ◌<◌, ◌≤◌, Bool, true, false, ◌&&◌, ◌||◌, nat_eq, nat_lt, inl, inr, ◌⊎◌, List, [], ◌∷◌, length, arith, refl, ap, subst, sym, ◌∙◌, slice_index}
use Rattle.std.proofs.lemmas.Bool.{cases_eq, and_from, or_cases, or_left, or_right, false≢true, lt-ltb, eq-eqb, eqb-true}
use Rattle.pt_net.specs.Systems.{NetSystem, places, size, pre, post}
use Rattle.trap_siphon.specs.Sets.{has, some_below}
use Rattle.trap_siphon.specs.Stages.{has_inputs, next_stage, stage, last_stage}
use Rattle.trap_siphon.proofs.Members.{set_of-from, length-set_of, each-at, each-from, some-from}

-- inputs that are in a set, as a fact
pub inputs-at : (net : NetSystem) (set : List Bool) (i : ℕ) → has_inputs net set i ≡ true → (p : ℕ) → p < places net → 0 < pre net i p → has set p ≡ true
unfolding has_inputs
inputs-at net set i all p within takes = elim (or_cases (nat_eq (pre net i p) 0) (has set p) (each-at (places net) (λ q. nat_eq (pre net i q) 0 || has set q) all p within)) [
  | inl none ↦ let is = eqb-true (pre net i p) 0 none in absurd (omega arith)
  | inr here ↦ here
]

pub inputs-from : (net : NetSystem) (set : List Bool) (i : ℕ) → ((p : ℕ) → p < places net → 0 < pre net i p → has set p ≡ true) → has_inputs net set i ≡ true
unfolding has_inputs
inputs-from net set i all = each-from (places net) (λ q. nat_eq (pre net i q) 0 || has set q) (λ p within. elim (cases_eq (pre net i p) 0) [
  | inl none ↦ or_left (nat_eq (pre net i p) 0) (has set p) (eq-eqb (pre net i p) 0 none)
  | inr some ↦ or_right (nat_eq (pre net i p) 0) (has set p) (all p within (omega arith))
])

-- the next stage keeps the set, and adds the outputs
pub next-keeps : (net : NetSystem) (active set : List Bool) (p : ℕ) → p < places net → has set p ≡ true → has (next_stage net active set) p ≡ true
unfolding next_stage
next-keeps net active set p within here =
    set_of-from (places net) (λ q. has set q || some_below (size net) (λ i. has active i && (has_inputs net set i && nat_lt 0 (post net i q)))) p within
    (or_left (has set p) (some_below (size net) (λ i. has active i && (has_inputs net set i && nat_lt 0 (post net i p)))) here)

pub next-adds : (net : NetSystem) (active set : List Bool) (i p : ℕ) → i < size net → has active i ≡ true → has_inputs net set i ≡ true → p < places net → 0 < post net i p → has (next_stage net active set) p ≡ true
unfolding next_stage
next-adds net active set i p inside on inputs within puts =
    set_of-from (places net) (λ q. has set q || some_below (size net) (λ j. has active j && (has_inputs net set j && nat_lt 0 (post net j q)))) p within
    (or_right (has set p) (some_below (size net) (λ j. has active j && (has_inputs net set j && nat_lt 0 (post net j p)))) (some-from (size net) (λ j. has active j && (has_inputs net set j && nat_lt 0 (post net j p))) i inside
    (and_from (has active i) (has_inputs net set i && nat_lt 0 (post net i p)) on (and_from (has_inputs net set i) (nat_lt 0 (post net i p)) inputs (lt-ltb 0 (post net i p) puts)))))

pub length-next : (net : NetSystem) (active set : List Bool) → length (next_stage net active set) ≡ places net
unfolding next_stage
length-next net active set = length-set_of (places net) (λ q. has set q || some_below (size net) (λ i. has active i && (has_inputs net set i && nat_lt 0 (post net i q))))

pub length-stage : (net : NetSystem) (active : List Bool) (marking : List ℕ) (j : ℕ) → length (stage net active marking j) ≡ places net
unfolding stage
length-stage net active marking zero = length-set_of (places net) (λ p. nat_lt 0 (slice_index marking p))
length-stage net active marking (suc j) = length-next net active (stage net active marking j)

-- stage 0 has the marked places, and each stage has those of stage 0
pub stage-marked : (net : NetSystem) (active : List Bool) (marking : List ℕ) (j p : ℕ) → p < places net → 0 < slice_index marking p → has (stage net active marking j) p ≡ true
unfolding stage
stage-marked net active marking zero p within some = set_of-from (places net) (λ q. nat_lt 0 (slice_index marking q)) p within (lt-ltb 0 (slice_index marking p) some)
stage-marked net active marking (suc j) p within some = next-keeps net active (stage net active marking j) p within (stage-marked net active marking j p within some)

-- how many numbers are in a set
abbrev pub count : List Bool → ℕ
count [] = 0
count (true ∷ xs) = suc (count xs)
count (false ∷ xs) = count xs

count-le : (xs : List Bool) → count xs ≤ length xs
count-le [] = omega arith
count-le (true ∷ xs) = let rest = count-le xs in omega arith
count-le (false ∷ xs) = let rest = count-le xs in omega arith

-- a set with all the numbers of another is the same or has more
grows_cons : (x y : Bool) (xs ys : List Bool) → (x ≡ true → y ≡ true) → (ys ≡ xs) ⊎ (count xs < count ys) → ◌≡◌ {A = List Bool} (y ∷ ys) (x ∷ xs) ⊎ (count (x ∷ xs) < count (y ∷ ys))
grows_cons true true xs ys first (inl same) = inl (ap (λ (zs : List Bool). true ∷ zs) same)
grows_cons true true xs ys first (inr more) = inr (omega arith)
grows_cons true false xs ys first rest = absurd (false≢true (first refl))
grows_cons false true xs ys first (inl same) = inr (let as_many = ap count same in omega arith)
grows_cons false true xs ys first (inr more) = inr (omega arith)
grows_cons false false xs ys first (inl same) = inl (ap (λ (zs : List Bool). false ∷ zs) same)
grows_cons false false xs ys first (inr more) = inr more

grows : (xs ys : List Bool) → length xs ≡ length ys → ((p : ℕ) → p < length xs → has xs p ≡ true → has ys p ≡ true) → (ys ≡ xs) ⊎ (count xs < count ys)
grows [] [] long above = inl refl
grows [] (y ∷ ys) long above = absurd (omega arith)
grows (x ∷ xs) [] long above = absurd (omega arith)
grows (x ∷ xs) (y ∷ ys) long above = grows_cons x y xs ys (above 0 (omega arith)) (grows xs ys (omega arith) (λ p within. above (suc p) (omega arith)))

-- a set that has as many numbers as it can has each
full : (xs : List Bool) → length xs ≤ count xs → (p : ℕ) → p < length xs → has xs p ≡ true
full [] many p within = absurd (omega arith)
full (true ∷ xs) many zero within = refl
full (true ∷ xs) many (suc p) within = full xs (omega arith) p (omega arith)
full (false ∷ xs) many p within = let least = count-le xs in absurd (omega arith)

-- a stage is the last that grows, or each before it has grown
settles_more : (net : NetSystem) (active set : List Bool) (j : ℕ) → length set ≡ places net → (next_stage net active set ≡ set) ⊎ (j ≤ count set)
    → (next_stage net active (next_stage net active set) ≡ next_stage net active set) ⊎ (suc j ≤ count (next_stage net active set))
settles_more net active set j long (inl same) = inl (ap (next_stage net active) same)
settles_more net active set j long (inr many) =
    elim (grows set (next_stage net active set) (long ∙ sym (length-next net active set)) (λ p within here. next-keeps net active set p (omega arith) here)) [
      | inl same ↦ inl (ap (next_stage net active) same)
      | inr more ↦ inr (omega arith)
    ]

settles : (net : NetSystem) (active : List Bool) (marking : List ℕ) (j : ℕ) → (next_stage net active (stage net active marking j) ≡ stage net active marking j) ⊎ (j ≤ count (stage net active marking j))
unfolding stage
settles net active marking zero = inr (omega arith)
settles net active marking (suc j) = settles_more net active (stage net active marking j) j (length-stage net active marking j) (settles net active marking j)

-- a set of places holds the outputs of each active instance whose inputs it holds
pub record IsClosed (net : NetSystem) (active set : List Bool) : Type 0 where
  pub outputs : (i p : ℕ) → i < size net → has active i ≡ true → has_inputs net set i ≡ true → p < places net → 0 < post net i p → has set p ≡ true

pub last_stage-closed : (net : NetSystem) (active : List Bool) (marking : List ℕ) → IsClosed net active (last_stage net active marking)
last_stage-closed net active marking = record {
  outputs = λ i p inside on inputs within puts.
      elim (settles net active marking (places net)) [
        | inl same ↦ subst (λ (s : List Bool). has s p ≡ true) same (next-adds net active (last_stage net active marking) i p inside on inputs within puts)
        | inr many ↦ let long = length-stage net active marking (places net) in full (last_stage net active marking) (omega arith) p (omega arith)
      ];
}
