-- Laws of coefficients that rise place by place.
use Rattle.std.proofs.Common.{◌≡◌, ◌≢◌, ℕ, zero, suc, ◌+◌, ◌<◌, Bool, true, false, cond, List, [], ◌∷◌, ◌++◌, map, length, get_or, take, replicate, ℤ, pos, negsuc, ◌+ℤ◌, ◌-ℤ◌, ◌*ℤ◌, neg_ℤ, refl, sym, ◌∙◌, ap, arith, get_or-set_same, get_or-set_other, ◌⊎◌, inl, inr, Some}
use Rattle.std.specs.Prelude.{bytes_eq}
use Rattle.std.proofs.lemmas.Int.{ints}
use Rattle.std.proofs.lemmas.List.{take_more}
use Rattle.std.specs.Cmp.Lexicographic.{bytes_decides}
use Rattle.name_tables.specs.Numbering.{number_in}
use Rattle.plain_model.specs.declared.certificates.Weight.{Weight}
use Rattle.plain_model.specs.Forms.{weight_on, times_in}
use Rattle.plain_model.specs.Plain.{AreDistinct}
use Rattle.plain_model.proofs.Products.{mul_counts, mul_zero}
use Rattle.plain_rows.proofs.Distinct.{compared, named}
use Rattle.plain_judge.specs.Coefficients.{raised, Raises}

same_bytes : (name : List ℕ) → bytes_eq name name ≡ true
same_bytes name = (bytes_decides name name).1 refl

pub other_bytes : (one other : List ℕ) → one ≢ other → bytes_eq one other ≡ false
other_bytes one other apart = cases (bytes_eq one other) (bytes_decides one other).0
  where
    cases : (b : Bool) → (b ≡ true → one ≡ other) → b ≡ false
    cases true tells = absurd (apart (tells refl))
    cases false tells = refl

other_name : (names : List (List ℕ)) (q place : ℕ) → AreDistinct names → q < length names → place < length names → q ≢ place → get_or names q [] ≢ get_or names place []
other_name names q place distinct within there apart = cases (compared q place)
  where
    cases : (q ≡ place) ⊎ ((q < place) ⊎ (place < q)) → get_or names q [] ≢ get_or names place []
    cases (inl same) = absurd (apart same)
    cases (inr (inl below)) = distinct q place [] below there
    cases (inr (inr above)) = λ e. distinct place q [] above within (sym e)

-- raising the coefficient of a named place adds to what each place has risen by
pub Raises-raised : (names : List (List ℕ)) (more now : List ℕ → ℤ) (old mid new : List ℤ) (place : ℕ) (name : List ℕ) (value : ℤ)
    → AreDistinct names → number_in names name ≡ Some place → length mid ≡ length names → new ≡ raised mid place value
    → ((id : List ℕ) → now id ≡ more id +ℤ cond (bytes_eq id name) value (pos 0))
    → Raises names more old mid → Raises names now old new
Raises-raised names more now old mid new place name value distinct found long is adds before q within =
    cases (compared q place)
  where
    at : (place < length names) × (get_or names place [] ≡ name)
    at = named names name place [] found

    here : q ≡ place → get_or new q (pos 0) ≡ get_or old q (pos 0) +ℤ now (get_or names q [])
    here same =
        let named : get_or names q [] ≡ name = ap (λ n. get_or names n []) same ∙ at.1 in
        let test : bytes_eq (get_or names q []) name ≡ true = ap (λ n. bytes_eq n name) named ∙ same_bytes name in
        let rise : now (get_or names q []) ≡ more (get_or names q []) +ℤ value = adds (get_or names q []) ∙ ap (λ b. more (get_or names q []) +ℤ cond b value (pos 0)) test in
        let inside : place < length mid = omega arith in
        let written : get_or new place (pos 0) ≡ get_or mid place (pos 0) +ℤ value = ap (λ xs. get_or xs place (pos 0)) is ∙ (rw get_or-set_same refl) in
        let was : get_or mid q (pos 0) ≡ get_or old q (pos 0) +ℤ more (get_or names q []) = before q within in
        let moved : get_or mid place (pos 0) ≡ get_or old q (pos 0) +ℤ more (get_or names q []) = ap (λ n. get_or mid n (pos 0)) (sym same) ∙ was in
        ap (λ n. get_or new n (pos 0)) same ∙ omega (arith, ints, rise, written, moved)

    there : q ≢ place → get_or new q (pos 0) ≡ get_or old q (pos 0) +ℤ now (get_or names q [])
    there apart =
        let unnamed : get_or names q [] ≢ name = λ e. other_name names q place distinct within at.0 apart (e ∙ sym at.1) in
        let test : bytes_eq (get_or names q []) name ≡ false = other_bytes (get_or names q []) name unnamed in
        let rise : now (get_or names q []) ≡ more (get_or names q []) +ℤ pos 0 = adds (get_or names q []) ∙ ap (λ b. more (get_or names q []) +ℤ cond b value (pos 0)) test in
        let kept : get_or new q (pos 0) ≡ get_or mid q (pos 0) = ap (λ xs. get_or xs q (pos 0)) is ∙ (rw get_or-set_other refl) in
        let was : get_or mid q (pos 0) ≡ get_or old q (pos 0) +ℤ more (get_or names q []) = before q within in
        omega (arith, ints, rise, kept, was)

    cases : (q ≡ place) ⊎ ((q < place) ⊎ (place < q)) → get_or new q (pos 0) ≡ get_or old q (pos 0) +ℤ now (get_or names q [])
    cases (inl same) = here same
    cases (inr (inl below)) = there (omega arith)
    cases (inr (inr above)) = there (omega arith)

pub weight_on-push : (weights : List Weight) (weight : Weight) (id : List ℕ) → weight_on (weights ++ weight ∷ []) id ≡ weight_on weights id +ℤ cond (bytes_eq id weight.place) weight.value (pos 0)
weight_on-push [] weight id = omega (arith, ints)
weight_on-push (w ∷ weights) weight id = omega (arith, ints, weight_on-push weights weight id)

pub times_in-push : (ids : List (List ℕ)) (listed id : List ℕ) → times_in (ids ++ listed ∷ []) id ≡ times_in ids id + cond (bytes_eq id listed) 1 0
times_in-push [] listed id = omega arith
times_in-push (first ∷ ids) listed id = omega (arith, times_in-push ids listed id)

-- a list that agrees with a function of the names at each place
pub list_from_places : (names : List (List ℕ)) (f : List ℕ → ℤ) (xs : List ℤ) → length xs ≡ length names
    → ((q : ℕ) → q < length names → get_or xs q (pos 0) ≡ f (get_or names q [])) → xs ≡ map f names
list_from_places [] f [] long each = refl
list_from_places [] f (x ∷ xs) long each = absurd (omega arith)
list_from_places (name ∷ names) f [] long each = absurd (omega arith)
list_from_places (name ∷ names) f (x ∷ xs) long each =
    let first : x ≡ f name = each 0 (omega arith) in
    let rest : xs ≡ map f names = list_from_places names f xs (omega arith) (λ q within. each (suc q) (omega arith)) in
    ap (λ y. y ∷ xs) first ∙ ap (λ ys. f name ∷ ys) rest

one_more_time : (value : ℤ) (times : ℕ) (b : Bool) → value *ℤ pos (times + cond b 1 0) ≡ (value *ℤ pos times) +ℤ cond b value (pos 0)
one_more_time value times true = mul_counts value times 1 ∙ ap (λ z. (value *ℤ pos times) +ℤ z) (times_one value)
  where
    times_one : (value : ℤ) → value *ℤ pos 1 ≡ value
    times_one (pos n) = omega (arith, ints)
    times_one (negsuc n) = omega (arith, ints)
one_more_time value times false = mul_counts value times 0 ∙ ap (λ z. (value *ℤ pos times) +ℤ z) (mul_zero value)

-- listing one place more
pub listed_more : (value : ℤ) (listed : List (List ℕ)) (i : ℕ) (name : List ℕ) (id : List ℕ) → i < length listed → get_or listed i name ≡ name
    → value *ℤ pos (times_in (take (i + 1) listed) id) ≡ (value *ℤ pos (times_in (take i listed) id)) +ℤ cond (bytes_eq id name) value (pos 0)
listed_more value listed i name id within is =
    ap (λ ids. value *ℤ pos (times_in ids id)) (take_more listed i name within ∙ ap (λ w. take i listed ++ w ∷ []) is)
    ∙ ap (λ n. value *ℤ pos n) (times_in-push (take i listed) name id)
    ∙ one_more_time value (times_in (take i listed) id) (bytes_eq id name)

replicate_at : (n q : ℕ) → get_or (replicate n (pos 0)) q (pos 0) ≡ pos 0
replicate_at zero q = refl
replicate_at (suc n) zero = refl
replicate_at (suc n) (suc q) = replicate_at n q

-- coefficients that rise from zeros are those that they rise by
pub Raises-from_zeros : (names : List (List ℕ)) (f : List ℕ → ℤ) (n : ℕ) (new : List ℤ) → length new ≡ length names → Raises names f (replicate n (pos 0)) new → new ≡ map f names
Raises-from_zeros names f n new long rise =
    list_from_places names f new long (λ q within. rise q within ∙ (let z = replicate_at n q in omega (arith, ints, z)))

minus_one : (n : ℕ) → negsuc 0 *ℤ pos n ≡ neg_ℤ (pos n)
minus_one n = omega (arith, ints)

plus_one : (n : ℕ) → pos 1 *ℤ pos n ≡ pos n
plus_one n = omega (arith, ints)

-- rising by one side and falling by the other
pub Raises-difference : (names : List (List ℕ)) (left right : List ℕ → ℕ) (n : ℕ) (mid new : List ℤ) → length new ≡ length names
    → Raises names (λ id. pos 1 *ℤ pos (left id)) (replicate n (pos 0)) mid → Raises names (λ id. negsuc 0 *ℤ pos (right id)) mid new
    → new ≡ map (λ id. pos (left id) -ℤ pos (right id)) names
Raises-difference names left right n mid new long first second =
    list_from_places names (λ id. pos (left id) -ℤ pos (right id)) new long
    (λ q within.
    let a = first q within in
    let b = second q within in
    let z = replicate_at n q in
    omega (arith, ints, a, b, z, plus_one (left (get_or names q [])), minus_one (right (get_or names q []))))
