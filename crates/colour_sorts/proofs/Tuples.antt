-- How many tuples there are.
use Rattle.std.proofs.Common.{◌≡◌, ℕ, zero, suc, ◌+◌, ◌*◌, ◌/◌, ◌%◌, ◌<◌, ◌≤◌, List, [], ◌∷◌, ◌++◌, map, take, drop, get_or, length, refl, sym, ap, subst, ◌∙◌, arith, length-append, drop-cons, append_assoc, Some, None}
use Rattle.std.proofs.Math.Nat.{add-mul, mul_comm, mul-div_cancel, div-lt_iff_lt-mul, le-mul_of_pos_right, mod-lt, mul-le-mul_right, mul_assoc, mul-one, mul-zero, one-mul, zero-mul}
use Rattle.std.proofs.lemmas.List.{append-nil, drop_all, length-map, length-take-le}
use Rattle.std.proofs.lemmas.List.Concat.{flat_map-cons, get_or-flat_map}
use Rattle.std.proofs.lemmas.Nat.{div-add-mod', row_fits}
use Rattle.std.proofs.lemmas.Option.{get_or_from_slice_get, slice_get-get_or, slice_get-map, slice_get_within}
use Rattle.std.specs.List.{flat_map, slice_get}
use Rattle.std.specs.Option.{option_map}
use Rattle.colour_sorts.specs.declared.sorts.Colour.TheVariants as colour
use Rattle.colour_sorts.specs.Places.{IsPlace}
use Rattle.colour_sorts.proofs.PlacesIn.{IsPlace-none, get-at, none-is-some, some-is-some}
use Rattle.colour_sorts.specs.declared.sorts.Colour.{Colour}
use Rattle.colour_sorts.specs.Colours.{tuples}

length-extended : (ts : List (List Colour)) (firsts : List Colour)
    → length (flat_map (λ first. map (λ rest. first ∷ rest) ts) firsts) ≡ length firsts * length ts
length-extended ts [] = sym (zero-mul (length ts))
length-extended ts (c ∷ cs) =
    ap length (flat_map-cons (λ first. map (λ rest. first ∷ rest) ts) c cs)
    ∙ length-append (map (λ rest. c ∷ rest) ts) _
    ∙ (let here = length-map ts (λ rest. c ∷ rest) in
    let there = length-extended ts cs in
    grind (arith, here, there))

pub length-tuples : (firsts : List Colour) (others : List (List Colour)) → length (tuples (firsts ∷ others)) ≡ length firsts * length (tuples others)
length-tuples firsts others = length-extended (tuples others) firsts

-- the tuples from a component on
pub length-tuples-drop : {X : Type 0} (f : X → List Colour) (xs : List X) (i : ℕ) (d : X) → i < length xs
    → length (tuples (map f (drop i xs))) ≡ length (f (get_or xs i d)) * length (tuples (map f (drop (i + 1) xs)))
length-tuples-drop f xs i d within =
    ap (λ rest. length (tuples (map f rest))) (drop-cons xs i d within)
    ∙ length-tuples (f (get_or xs i d)) (map f (drop (suc i) xs))
    ∙ (let e : suc i ≡ i + 1 = omega arith in ap (λ n. length (f (get_or xs i d)) * length (tuples (map f (drop n xs)))) e)

-- a factor and a partial product of a positive product
pub record Factors (c s r t : ℕ) : Type 0 where
  pub some : 0 < s
  pub least : s ≤ t
  pub partial : c * s ≤ t
  pub again : (c * s) * r ≡ t

pub factors : (c s r t : ℕ) → c * (s * r) ≡ t → 0 < t → Factors c s r t
factors c s r t e positive =
    let whole : (c * s) * r ≡ t = mul_assoc c s r ∙ e in
    by c s r t whole positive
  where
    le-left : (c s : ℕ) → suc s ≤ suc c * suc s
    le-left c s = grind arith

    by : (c s r t : ℕ) → (c * s) * r ≡ t → 0 < t → Factors c s r t
    by zero s r t whole positive = absurd (omega (arith, zero-mul s, zero-mul r, whole, positive))
    by c s zero t whole positive = absurd (omega (arith, mul-zero (c * s), whole, positive))
    by c zero r t whole positive = absurd (omega (arith, mul-zero c, zero-mul r, ap (λ n. n * r) (mul-zero c), whole, positive))
    by (suc c) (suc s) (suc r) t whole positive =
        let h1 : suc c * suc s ≤ (suc c * suc s) * suc r = le-mul_of_pos_right (suc c * suc s) (omega arith) in
        let h2 : suc s ≤ suc c * suc s = le-left c s in
        record { some = omega arith; least = omega (arith, h1, h2, whole); partial = omega (arith, h1, whole); again = whole }

-- one component of the tuples, and the partial count with it
pub factors-drop : {X : Type 0} (f : X → List Colour) (xs : List X) (i : ℕ) (d : X) (count t : ℕ) → i < length xs
    → count * length (tuples (map f (drop i xs))) ≡ t → 0 < t
    → Factors count (length (f (get_or xs i d))) (length (tuples (map f (drop (i + 1) xs)))) t
factors-drop f xs i d count t within e positive =
    factors count _ _ t (sym (ap (λ n. count * n) (length-tuples-drop f xs i d within)) ∙ e) positive

-- a tuple's place is that of its first component times the number of the rests, and that of its rest
pub place-tuples : (firsts : List Colour) (others : List (List Colour)) (q r : ℕ) (c : Colour) (cs : List Colour)
    → slice_get firsts q ≡ Some c → slice_get (tuples others) r ≡ Some cs
    → slice_get (tuples (firsts ∷ others)) (q * length (tuples others) + r) ≡ Some (c ∷ cs)
place-tuples firsts others q r c cs first rest =
    let ts = tuples others in
    let qb : q < length firsts = slice_get_within firsts q c first in
    let rb : r < length ts = slice_get_within ts r cs rest in
    let extend : Colour → List (List Colour) = λ x. map (λ t. x ∷ t) ts in
    let here : get_or firsts q c ≡ c = get_or_from_slice_get firsts q c c first in
    let inner : slice_get (map (λ t. c ∷ t) ts) r ≡ Some (c ∷ cs) = slice_get-map (λ t. c ∷ t) ts r ∙ ap (option_map (λ t. c ∷ t)) rest in
    let long : r < length (extend (get_or firsts q c)) = omega (arith, rb, length-map ts (λ t. get_or firsts q c ∷ t)) in
    let start : length (flat_map extend (take q firsts)) ≡ q * length ts =
    length-extended ts (take q firsts) ∙ ap (λ n. n * length ts) (length-take-le q firsts (omega (arith, qb))) in
    let value : get_or (flat_map extend firsts) (q * length ts + r) [] ≡ c ∷ cs =
    ap (λ n. get_or (flat_map extend firsts) (n + r) []) (sym start)
    ∙ get_or-flat_map extend firsts q r c [] qb long
    ∙ ap (λ x. get_or (extend x) r []) here
    ∙ get_or_from_slice_get (map (λ t. c ∷ t) ts) r (c ∷ cs) [] inner in
    let fits : q * length ts + r < length (flat_map extend firsts) =
    omega (arith, length-extended ts firsts, rb, row_fits q (length ts) (length firsts) (length ts) qb (omega arith)) in
    get-at (flat_map extend firsts) (q * length ts + r) (c ∷ cs) [] fits value

pub record IsSplit (firsts : List Colour) (rests : List (List Colour)) (w : ℕ) (t : List Colour) : Type 0 where
  pub q : ℕ
  pub r : ℕ
  pub c : Colour
  pub cs : List Colour
  pub whole : t ≡ c ∷ cs
  pub first : slice_get firsts q ≡ Some c
  pub rest : slice_get rests r ≡ Some cs
  pub place : w ≡ q * length rests + r

pub split-tuples : (firsts : List Colour) (others : List (List Colour)) (w : ℕ) (t : List Colour)
    → slice_get (tuples (firsts ∷ others)) w ≡ Some t → IsSplit firsts (tuples others) w t
split-tuples firsts others w t e =
    let n = length (tuples others) in
    let within : w < length firsts * n = omega (arith, slice_get_within (tuples (firsts ∷ others)) w t e, length-tuples firsts others) in
    let some : 0 < n = positive (length firsts) n within in
    let q = w / n in
    let r = w % n in
    let qb : q < length firsts = (div-lt_iff_lt-mul some).1 within in
    let rb : r < n = mod-lt w some in
    let c = get_or firsts q colour.Dot in
    let cs = get_or (tuples others) r [] in
    let first = slice_get-get_or firsts q colour.Dot qb in
    let rest = slice_get-get_or (tuples others) r [] rb in
    let back : q * n + r ≡ w = div-add-mod' w n in
    let there = place-tuples firsts others q r c cs first rest in
    record {
      q = q;
      r = r;
      c = c;
      cs = cs;
      whole = some-is-some t (c ∷ cs) (sym e ∙ ap (slice_get (tuples (firsts ∷ others))) (sym back) ∙ there);
      first = first;
      rest = rest;
      place = sym back;
    }
  where
    positive : (m n : ℕ) → w < m * n → 0 < n
    positive m zero h = absurd (omega (arith, h, mul-zero m))
    positive m (suc n) h = omega arith

-- the components up to one are read: the place of the tuple is that of the rest after so many times all rests
pub record IsRead (index : ℕ) (whole rests : List (List Colour)) (all now : List Colour) : Type 0 where
  pub some : 0 < length rests
  pub bound : (index + 1) * length rests ≤ length whole
  pub found : (r : ℕ) → slice_get rests r ≡ Some now → slice_get whole (index * length rests + r) ≡ Some all
  pub only : (w : ℕ) → slice_get whole w ≡ Some all → (r : ℕ) × (w ≡ index * length rests + r) × (slice_get rests r ≡ Some now)

pub read-none : (whole : List (List Colour)) (all : List Colour) → 0 < length whole → IsRead 0 whole whole all all
read-none whole all some = record {
  some = some;
  bound = omega (arith, one-mul (length whole));
  found = λ r e. ap (slice_get whole) (let z = zero-mul (length whole) in omega (arith, z)) ∙ e;
  only = λ w e. (w, (let z = zero-mul (length whole) in omega (arith, z)), e);
}

head-is : (a b : Colour) (xs ys : List Colour) → a ∷ xs ≡ b ∷ ys → a ≡ b
head-is a b xs ys e = ap (λ zs. first zs) e
  where
    first : List Colour → Colour
    first [] = a
    first (x ∷ xs) = x

tail-is : (a b : Colour) (xs ys : List Colour) → a ∷ xs ≡ b ∷ ys → xs ≡ ys
tail-is a b xs ys e = ap (λ zs. rest zs) e
  where
    rest : List Colour → List Colour
    rest [] = []
    rest (x ∷ xs) = xs

-- one more component
pub read-more : (index at : ℕ) (whole : List (List Colour)) (firsts : List Colour) (others : List (List Colour)) (all : List Colour) (c : Colour) (cs : List Colour)
    → IsRead index whole (tuples (firsts ∷ others)) all (c ∷ cs) → IsPlace firsts c (Some at) → at < length firsts
    → IsRead (index * length firsts + at) whole (tuples others) all cs
read-more index at whole firsts others all c cs known place within =
    let n = length (tuples others) in
    let s = length firsts in
    let size = length-tuples firsts others in
    record {
      some = positive s n (omega (arith, known.some, size));
      bound = grown index at s n (length whole) within (rw (← size) known.bound);
      found = λ r e. ap (slice_get whole) (regroup index at s n r (length (tuples (firsts ∷ others))) size) ∙ known.found (at * n + r) (place-tuples firsts others at r c cs place.found e);
      only = λ w e.
          (let there = known.only w e in
          let parts = split-tuples firsts others there.0 (c ∷ cs) there.2 in
          let here = place.only parts.q (parts.first ∙ ap Some (sym (head-is c parts.c cs parts.cs parts.whole))) in
          let same : at ≡ parts.q = some-is-some at parts.q here in (
            parts.r,
            there.1 ∙ ap (λ n. index * length (tuples (firsts ∷ others)) + n) (parts.place ∙ ap (λ q. q * length (tuples others) + parts.r) (sym same)) ∙ sym (regroup index at (length firsts) (length (tuples others)) parts.r (length (tuples (firsts ∷ others))) size),
            parts.rest ∙ ap Some (sym (tail-is c parts.c cs parts.cs parts.whole)),
          ));
    }
  where
    positive : (s n : ℕ) → 0 < s * n → 0 < n
    positive s zero h = absurd (omega (arith, h, mul-zero s))
    positive s (suc n) h = omega arith

    grown : (i a s n t : ℕ) → a < s → (i + 1) * (s * n) ≤ t → ((i * s + a) + 1) * n ≤ t
    grown i a s n t h b =
        let e : (i + 1) * s ≡ i * s + s = add-mul i 1 s ∙ ap (λ n. i * s + n) (one-mul s) in
        let grow : ((i * s + a) + 1) * n ≤ ((i + 1) * s) * n = mul-le-mul_right n (omega (arith, e, h)) in
        omega (arith, grow, mul_assoc (i + 1) s n, b)

    regroup : (i a s n r m : ℕ) → m ≡ s * n → (i * s + a) * n + r ≡ i * m + (a * n + r)
    regroup i a s n r m e =
        let one = add-mul (i * s) a n in
        let two = mul_assoc i s n in
        let three = ap (λ k. i * k) e in
        omega (arith, one, two, three)

-- after the last one
pub read-all : (index : ℕ) (whole : List (List Colour)) (all : List Colour) → IsRead index whole (tuples []) all [] → IsPlace whole all (Some index)
read-all index whole all known = record {
  found = ap (slice_get whole) (end index 0 refl) ∙ known.found 0 refl;
  only = λ w e. (let there = known.only w e in
      let within = slice_get_within (tuples []) there.0 [] there.2 in
      let same : index ≡ w = omega (arith, there.1, within, mul-one index) in ap Some same);
}
  where
    end : (index r : ℕ) → r ≡ 0 → index ≡ index * 1 + r
    end index r e = omega (arith, mul-one index, e)

-- a component that isn't there
pub read-missing : (index : ℕ) (whole : List (List Colour)) (firsts : List Colour) (others : List (List Colour)) (all : List Colour) (c : Colour) (cs : List Colour)
    → IsRead index whole (tuples (firsts ∷ others)) all (c ∷ cs) → IsPlace firsts c None → IsPlace whole all None
read-missing index whole firsts others all c cs known place = IsPlace-none whole all (λ w e.
    (let there = known.only w e in
    let parts = split-tuples firsts others there.0 (c ∷ cs) there.2 in
    none-is-some parts.q (place.only parts.q (parts.first ∙ ap Some (sym (head-is c parts.c cs parts.cs parts.whole))))))

-- a tuple has a component of each list
pub length-tuple : (lists : List (List Colour)) (w : ℕ) (t : List Colour) → slice_get (tuples lists) w ≡ Some t → length t ≡ length lists
length-tuple [] w t e = by w e
  where
    by : (w : ℕ) → slice_get ([] ∷ []) w ≡ Some t → length t ≡ 0
    by zero e = ap length (sym (some-is-some [] t e))
    by (suc w) e = absurd (none-is-some t e)
length-tuple (firsts ∷ others) w t e =
    let parts = split-tuples firsts others w t e in
    ap length parts.whole ∙ ap suc (length-tuple others parts.r parts.cs parts.rest)

pub tuple-of-other-length : (lists : List (List Colour)) (t : List Colour) → (length lists ≡ length t → ⊥) → IsPlace (tuples lists) t None
tuple-of-other-length lists t other = IsPlace-none (tuples lists) t (λ w e. other (sym (length-tuple lists w t e)))

pub step : {Y : Type 0} (xs : List Y) (i : ℕ) (x : Y) → i < length xs → x ≡ get_or xs i x → drop i xs ≡ x ∷ drop (i + 1) xs
step xs i x within is = drop-cons xs i x within ∙ ap (λ y. y ∷ drop (suc i) xs) (sym is) ∙ (let e : suc i ≡ i + 1 = omega arith in ap (λ n. x ∷ drop n xs) e)

-- the same by places in the list of components
pub reads-more : {X : Type 0} (f : X → List Colour) (parts : List X) (components : List Colour) (i index at : ℕ) (whole : List (List Colour)) (part : X) (c : Colour)
    → i < length parts → i < length components → part ≡ get_or parts i part → c ≡ get_or components i c
    → IsRead index whole (tuples (map f (drop i parts))) components (drop i components) → IsPlace (f part) c (Some at) → at < length (f part)
    → IsRead (index * length (f part) + at) whole (tuples (map f (drop (i + 1) parts))) components (drop (i + 1) components)
reads-more f parts components i index at whole part c within inside part-is c-is known place small =
    let first : drop i parts ≡ part ∷ drop (i + 1) parts = step parts i part within part-is in
    let second : drop i components ≡ c ∷ drop (i + 1) components = step components i c inside c-is in
    read-more index at whole (f part) (map f (drop (i + 1) parts)) components c (drop (i + 1) components)
    (subst (λ xs. IsRead index whole (tuples (map f xs)) components (c ∷ drop (i + 1) components)) first
    (subst (λ xs. IsRead index whole (tuples (map f (drop i parts))) components xs) second known))
    place small

pub reads-missing : {X : Type 0} (f : X → List Colour) (parts : List X) (components : List Colour) (i index : ℕ) (whole : List (List Colour)) (part : X) (c : Colour)
    → i < length parts → i < length components → part ≡ get_or parts i part → c ≡ get_or components i c
    → IsRead index whole (tuples (map f (drop i parts))) components (drop i components) → IsPlace (f part) c None → IsPlace whole components None
reads-missing f parts components i index whole part c within inside part-is c-is known place =
    let first : drop i parts ≡ part ∷ drop (i + 1) parts = step parts i part within part-is in
    let second : drop i components ≡ c ∷ drop (i + 1) components = step components i c inside c-is in
    read-missing index whole (f part) (map f (drop (i + 1) parts)) components c (drop (i + 1) components)
    (subst (λ xs. IsRead index whole (tuples (map f xs)) components (c ∷ drop (i + 1) components)) first
    (subst (λ xs. IsRead index whole (tuples (map f (drop i parts))) components xs) second known))
    place

pub reads-all : {X : Type 0} (f : X → List Colour) (parts : List X) (components : List Colour) (i index : ℕ) (whole : List (List Colour))
    → length parts ≤ i → length components ≤ i
    → IsRead index whole (tuples (map f (drop i parts))) components (drop i components) → IsPlace whole components (Some index)
reads-all f parts components i index whole end ends known =
    read-all index whole components
    (subst (λ xs. IsRead index whole (tuples (map f xs)) components []) (drop_all i parts end)
    (subst (λ xs. IsRead index whole (tuples (map f (drop i parts))) components xs) (drop_all i components ends) known))

-- what the sizes of one component allow
pub record IsRoom (index s : ℕ) (total : ℕ) : Type 0 where
  pub some : 0 < s
  pub least : s ≤ total
  pub next : (at : ℕ) → at < s → index * s + at < total
  pub scaled : index * s ≤ total

pub room-of : {X : Type 0} (f : X → List Colour) (parts : List X) (components : List Colour) (i index : ℕ) (whole : List (List Colour)) (part : X)
    → i < length parts → part ≡ get_or parts i part
    → IsRead index whole (tuples (map f (drop i parts))) components (drop i components) → IsRoom index (length (f part)) (length whole)
room-of f parts components i index whole part within part-is known =
    let size = length-tuples-drop f parts i part within ∙ ap (λ x. length (f x) * length (tuples (map f (drop (i + 1) parts)))) (sym part-is) in
    by (length (f part)) (length (tuples (map f (drop (i + 1) parts)))) (length whole) (omega (arith, known.some, size)) (rw (← size) known.bound)
  where
    by : (s n t : ℕ) → 0 < s * n → (index + 1) * (s * n) ≤ t → IsRoom index s t
    by zero n t some bound = absurd (omega (arith, some, zero-mul n))
    by s zero t some bound = absurd (omega (arith, some, mul-zero s))
    by (suc s) (suc n) t some bound =
        let e : (index + 1) * suc s ≡ index * suc s + suc s = add-mul index 1 (suc s) ∙ ap (λ n. index * suc s + n) (one-mul (suc s)) in
        let most : (index + 1) * suc s ≤ ((index + 1) * suc s) * suc n = le-mul_of_pos_right ((index + 1) * suc s) (omega arith) in
        let all : (index + 1) * suc s ≤ t = omega (arith, most, mul_assoc (index + 1) (suc s) (suc n), bound) in
        record {
          some = omega arith;
          least = omega (arith, all, e);
          next = λ at small. omega (arith, all, e, small);
          scaled = omega (arith, all, e);
        }

-- the components before one are found: each rest of the tuples from it on completes them
pub record IsFound (index place : ℕ) (whole rests : List (List Colour)) (found : List Colour) : Type 0 where
  pub within : place < length rests
  pub least : length rests ≤ length whole
  pub completes : (rest : List Colour) → slice_get rests place ≡ Some rest → slice_get whole index ≡ Some (found ++ rest)

pub found-none : (index : ℕ) (whole : List (List Colour)) → index < length whole → IsFound index index whole whole []
found-none index whole within = record { within = within; least = omega arith; completes = λ rest e. e }

-- how the sizes of one component and of the rests behind it make up those from it on
pub record IsStep (size rests place total before : ℕ) : Type 0 where
  pub some : 0 < size
  pub least : size ≤ total
  pub left : 0 < rests
  pub quotient : before / size ≡ rests
  pub small : place / rests < size

pub found-step : {X : Type 0} (f : X → List Colour) (parts : List X) (i index place : ℕ) (whole : List (List Colour)) (part : X) (found : List Colour)
    → i < length parts → part ≡ get_or parts i part
    → IsFound index place whole (tuples (map f (drop i parts))) found
    → IsStep (length (f part)) (length (tuples (map f (drop (i + 1) parts)))) place (length whole) (length (tuples (map f (drop i parts))))
found-step f parts i index place whole part found within part-is known =
    let size = length-tuples-drop f parts i part within ∙ ap (λ x. length (f x) * length (tuples (map f (drop (i + 1) parts)))) (sym part-is) in
    by (length (f part)) (length (tuples (map f (drop (i + 1) parts)))) (length whole) (length (tuples (map f (drop i parts)))) size known.within known.least
  where
    by : (s n t b : ℕ) → b ≡ s * n → place < b → b ≤ t → IsStep s n place t b
    by zero n t b e within least = absurd (omega (arith, e, within, zero-mul n))
    by s zero t b e within least = absurd (omega (arith, e, within, mul-zero s))
    by (suc s) (suc n) t b e within least =
        let grow : suc s ≤ suc s * suc n = le-mul_of_pos_right (suc s) (omega arith) in
        record {
          some = omega arith;
          least = omega (arith, grow, e, least);
          left = omega arith;
          quotient = ap (λ m. m / suc s) (e ∙ mul_comm (suc s) (suc n)) ∙ mul-div_cancel (suc n) {n = suc s} (omega arith);
          small = (div-lt_iff_lt-mul (omega arith)).1 (omega (arith, within, e));
        }

pub found-more : {X : Type 0} (f : X → List Colour) (parts : List X) (i index place : ℕ) (whole : List (List Colour)) (part : X) (found : List Colour) (c : Colour)
    → i < length parts → part ≡ get_or parts i part
    → IsFound index place whole (tuples (map f (drop i parts))) found
    → slice_get (f part) (place / length (tuples (map f (drop (i + 1) parts)))) ≡ Some c
    → IsFound index (place % length (tuples (map f (drop (i + 1) parts)))) whole (tuples (map f (drop (i + 1) parts))) (found ++ c ∷ [])
found-more f parts i index place whole part found c within part-is known here =
    let n = length (tuples (map f (drop (i + 1) parts))) in
    let others = map f (drop (i + 1) parts) in
    let facts = found-step f parts i index place whole part found within part-is known in
    let first : drop i parts ≡ part ∷ drop (i + 1) parts = step parts i part within part-is in
    let size = length-tuples (f part) others in
    let listed : tuples (map f (drop i parts)) ≡ tuples (f part ∷ others) = ap (λ xs. tuples (map f xs)) first in
    record {
      within = mod-lt place facts.left;
      least = omega (arith, known.least, ap length listed, size, le-times (length (f part)) n facts.some);
      completes = λ rest e.
          known.completes (c ∷ rest) (
          ap (λ ts. slice_get ts place) listed
          ∙ ap (slice_get (tuples (f part ∷ others))) (sym (div-add-mod' place n))
          ∙ place-tuples (f part) others (place / n) (place % n) c rest here e)
          ∙ ap Some (sym (append_assoc found (c ∷ []) rest));
    }
  where
    le-times : (s n : ℕ) → 0 < s → n ≤ s * n
    le-times s n some = grind (arith, mul_comm s n, le-mul_of_pos_right {m = s} n some)

pub found-all : {X : Type 0} (f : X → List Colour) (parts : List X) (i index place : ℕ) (whole : List (List Colour)) (found : List Colour)
    → length parts ≤ i → IsFound index place whole (tuples (map f (drop i parts))) found → slice_get whole index ≡ Some found
found-all f parts i index place whole found end known =
    let listed : tuples (map f (drop i parts)) ≡ [] ∷ [] = ap (λ xs. tuples (map f xs)) (drop_all i parts end) in
    let none : place ≡ 0 = omega (arith, known.within, ap length listed) in
    known.completes [] (ap (λ ts. slice_get ts place) listed ∙ ap (slice_get ([] ∷ [])) none) ∙ ap Some (append-nil found)
