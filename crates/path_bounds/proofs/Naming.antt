-- Naming a bound, and taking it back.
use Rattle.std.proofs.Common.{◌≡◌, ℕ, zero, suc, ◌+◌, ◌<◌, ◌≤◌, Bool, true, false, List, [], ◌∷◌, ◌++◌, take, length, max, min, slice_index_or, slice_set, refl, sym, ◌∙◌, ap, subst, arith, nat_eq, length-append, Option, Some, None}
use Rattle.std.specs.Prelude.{cond}
use Rattle.std.proofs.lemmas.Bool.Decides.{nat_tests}
use Rattle.std.proofs.lemmas.List.{get_or-set_same, get_or-set_other, take-append-le, take_all, length-set}
use Rattle.std.proofs.Math.ListN.{get_or-append}
use Rattle.std.proofs.Math.Seq.{get_or-append_seam, take-append_seam}
use Rattle.cert_model.specs.Paths.{least, lower_of, upper_of}
use Rattle.path_bounds.specs.declared.trails.Named.{Named}
use Rattle.path_bounds.specs.Following.{names_of, AreUndoable, IsTrail}

-- `sharper count bound` is what a place has where one more bound is named
abbrev pub Adds : {B : Type 0} → (ℕ → B → B) → (List (ℕ × ℕ) → ℕ → B) → Type 0
Adds sharper bound_of = (bounds : List (ℕ × ℕ)) (q n p : ℕ) → bound_of (bounds ++ (q, n) ∷ []) p ≡ cond (nat_eq q p) (sharper n (bound_of bounds p)) (bound_of bounds p)

abbrev pub greater : ℕ → ℕ → ℕ
greater n l = max l n

swap : (b c : Bool) (x l n : ℕ) → cond b (max x (cond c (max l n) l)) (cond c (max l n) l) ≡ cond c (max (cond b (max x l) l) n) (cond b (max x l) l)
swap true true x l n = omega arith
swap true false x l n = refl
swap false true x l n = refl
swap false false x l n = refl

pub lower_of-adds : Adds greater lower_of
lower_of-adds [] q n p = none (nat_eq q p)
  where
    none : (b : Bool) → cond b (max n 0) 0 ≡ cond b (max 0 n) 0
    none true = omega arith
    none false = refl
lower_of-adds (bound ∷ bounds) q n p =
    ap (λ l. cond (nat_eq bound.0 p) (max bound.1 l) l) (lower_of-adds bounds q n p) ∙ swap (nat_eq bound.0 p) (nat_eq q p) bound.1 (lower_of bounds p) n

swap_least : (x n : ℕ) (l : Option ℕ) → least x (least n l) ≡ least n (least x l)
swap_least x n None = ap Some (let same : min x n ≡ min n x = omega arith in same)
swap_least x n (Some k) = ap Some (let same : min x (min n k) ≡ min n (min x k) = omega arith in same)

swap_upper : (b c : Bool) (x n : ℕ) (l : Option ℕ) → cond b (least x (cond c (least n l) l)) (cond c (least n l) l) ≡ cond c (least n (cond b (least x l) l)) (cond b (least x l) l)
swap_upper true true x n l = swap_least x n l
swap_upper true false x n l = refl
swap_upper false true x n l = refl
swap_upper false false x n l = refl

pub upper_of-adds : Adds least upper_of
upper_of-adds [] q n p = refl
upper_of-adds (bound ∷ bounds) q n p =
    ap (λ l. cond (nat_eq bound.0 p) (least bound.1 l) l) (upper_of-adds bounds q n p) ∙ swap_upper (nat_eq bound.0 p) (nat_eq q p) bound.1 n (upper_of bounds p)

pub names_of-more : {B : Type 0} (trail : List (Named B)) (c : Named B) → names_of (trail ++ c ∷ []) ≡ names_of trail ++ (c.place, c.count) ∷ []
names_of-more [] c = refl
names_of-more (d ∷ trail) c = ap (λ xs. (d.place, d.count) ∷ xs) (names_of-more trail c)

pub names_of-take : {B : Type 0} (k : ℕ) (trail : List (Named B)) → names_of (take k trail) ≡ take k (names_of trail)
names_of-take zero trail = refl
names_of-take (suc k) [] = refl
names_of-take (suc k) (c ∷ trail) = ap (λ xs. (c.place, c.count) ∷ xs) (names_of-take k trail)

module _ {B : Type 0} (none : B) (bound_of : List (ℕ × ℕ) → ℕ → B) where
  -- what a place has where one is set
  set_at : (bounds : List B) (place : ℕ) (value : B) (p : ℕ) (b : Bool) → nat_eq place p ≡ b → place < length bounds → slice_index_or (slice_set bounds place value) p none ≡ cond b value (slice_index_or bounds p none)
  set_at bounds place value p true is inside =
      let same : place ≡ p = grind (arith, nat_tests) in
      subst (λ q. slice_index_or (slice_set bounds place value) q none ≡ value) same (get_or-set_same bounds place value none inside)
  set_at bounds place value p false is inside = get_or-set_other bounds place p value none (grind (arith, nat_tests))

  pub named_trail : (sharper : ℕ → B → B) → Adds sharper bound_of → (bounds : List B) (trail after : List (Named B)) (place count : ℕ) (before value : B) → place < length bounds → IsTrail none bound_of bounds trail
      → after ≡ trail ++ record { place = place; count = count; before = before } ∷ [] → before ≡ slice_index_or bounds place none → value ≡ sharper count before → IsTrail none bound_of (slice_set bounds place value) after
  named_trail sharper adds bounds trail after place count before value inside is all was more = record {
    follow = λ p low. follow p (subst (λ n. p < n) (length-set bounds place value) low);
    undoable = subst (λ n. AreUndoable bound_of n after) (sym (length-set bounds place value)) (subst (AreUndoable bound_of (length bounds)) (sym all) (λ k d low. undoable k d low (nat_eq k (length trail)) refl));
  }
    where
      change : Named B
      change = record { place = place; count = count; before = before }

      at : (p : ℕ) → p < length bounds → (b : Bool) → nat_eq place p ≡ b → cond b value (slice_index_or bounds p none) ≡ cond b (sharper count (bound_of (names_of trail) p)) (bound_of (names_of trail) p)
      at p low true e =
          let same : place ≡ p = grind (arith, nat_tests) in
          more ∙ ap (sharper count) (was ∙ is.follow place inside ∙ ap (λ q. bound_of (names_of trail) q) same)
      at p low false e = is.follow p low

      follow : (p : ℕ) → p < length bounds → slice_index_or (slice_set bounds place value) p none ≡ bound_of (names_of after) p
      follow p low =
          set_at bounds place value p (nat_eq place p) refl inside ∙ at p low (nat_eq place p) refl
          ∙ sym (ap (λ cs. bound_of (names_of cs) p) all ∙ ap (λ bs. bound_of bs p) (names_of-more trail change) ∙ adds (names_of trail) place count p)

      undoable : (k : ℕ) (d : Named B) → k < length (trail ++ change ∷ []) → (b : Bool) → nat_eq k (length trail) ≡ b
          → ((slice_index_or (trail ++ change ∷ []) k d).place < length bounds)
          × ((slice_index_or (trail ++ change ∷ []) k d).before ≡ bound_of (names_of (take k (trail ++ change ∷ []))) (slice_index_or (trail ++ change ∷ []) k d).place)
      undoable k d low true e =
          let last : k ≡ length trail = grind (arith, nat_tests) in
          rw (last, get_or-append_seam trail change [] d, take-append_seam trail (change ∷ [])) (inside, was ∙ is.follow place inside)
      undoable k d low false e =
          let long : length (trail ++ change ∷ []) ≡ length trail + 1 = length-append trail (change ∷ []) in
          let fewer : k < length trail = grind (arith, nat_tests) in
          let bound : k ≤ length trail = omega arith in
          rw (get_or-append trail (change ∷ []) d k fewer, take-append-le k trail (change ∷ []) bound) (is.undoable k d fewer)

  pub undone_trail : (sharper : ℕ → B → B) → Adds sharper bound_of → (bounds : List B) (trail before : List (Named B)) (c : Named B) → IsTrail none bound_of bounds trail → trail ≡ before ++ c ∷ []
      → IsTrail none bound_of (slice_set bounds c.place c.before) before
  undone_trail sharper adds bounds trail before c is all = record {
    follow = λ p low. follow p (subst (λ n. p < n) (length-set bounds c.place c.before) low);
    undoable = subst (λ n. AreUndoable bound_of n before) (sym (length-set bounds c.place c.before)) undoable;
  }
    where
      inside : length before < length (before ++ c ∷ [])
      inside = omega (arith, length-append before (c ∷ []))

      last : (c.place < length bounds) × (c.before ≡ bound_of (names_of before) c.place)
      last = rw (get_or-append_seam before c [] c, take-append_seam before (c ∷ [])) at (subst (AreUndoable bound_of (length bounds)) all is.undoable (length before) c inside)

      at : (p : ℕ) → p < length bounds → (b : Bool) → nat_eq c.place p ≡ b → cond b c.before (slice_index_or bounds p none) ≡ bound_of (names_of before) p
      at p low true e =
          let same : c.place ≡ p = grind (arith, nat_tests) in
          last.1 ∙ ap (λ q. bound_of (names_of before) q) same
      at p low false e =
          is.follow p low ∙ ap (λ cs. bound_of (names_of cs) p) all ∙ ap (λ bs. bound_of bs p) (names_of-more before c) ∙ adds (names_of before) c.place c.count p
          ∙ ap (λ b. cond b (sharper c.count (bound_of (names_of before) p)) (bound_of (names_of before) p)) e

      follow : (p : ℕ) → p < length bounds → slice_index_or (slice_set bounds c.place c.before) p none ≡ bound_of (names_of before) p
      follow p low = set_at bounds c.place c.before p (nat_eq c.place p) refl last.0 ∙ at p low (nat_eq c.place p) refl

      undoable : AreUndoable bound_of (length bounds) before
      undoable k d low =
          let long : length (before ++ c ∷ []) ≡ length before + 1 = length-append before (c ∷ []) in
          let within : k < length (before ++ c ∷ []) = omega arith in
          let bound : k ≤ length before = omega arith in
          rw (get_or-append before (c ∷ []) d k low, take-append-le k before (c ∷ []) bound) at (subst (AreUndoable bound_of (length bounds)) all is.undoable k d within)

-- the first ones of a trail stay the first ones where the last one is taken back
pub cut_short : {X : Type 0} (trail before : List X) (x : X) (left : ℕ) → left < length trail → trail ≡ before ++ x ∷ [] → take left before ≡ take left trail
cut_short trail before x left low all =
    let long : length (before ++ x ∷ []) ≡ length before + 1 = length-append before (x ∷ []) in
    let same : length trail ≡ length (before ++ x ∷ []) = ap length all in
    let within : left ≤ length before = omega arith in
    sym (ap (take left) all ∙ take-append-le left before (x ∷ []) within)

-- where no more are left than that, the first ones are all
pub all_taken : {B : Type 0} (trail before : List (Named B)) (left : ℕ) → length trail ≤ left → take left trail ≡ take left before → names_of trail ≡ take left (names_of before)
all_taken trail before left few same = ap names_of (sym (take_all left trail few) ∙ same) ∙ names_of-take left before
