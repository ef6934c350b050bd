-- Slots of places, and markings with and without the constant ones.
use Rattle.std.proofs.Common.{◌≡◌, ℕ, zero, suc, ◌+◌, ◌<◌, Bool, true, false, not, inl, inr, List, [], ◌∷◌, ◌++◌, map, length, get_or, arith, refl, ap, subst, sym, ◌∙◌, All, add-one, append-nil}
use Rattle.std.specs.List.{range_with_len}
use Rattle.std.specs.Prelude.{slice_index, if◌then◌else◌}
use Rattle.std.proofs.lemmas.Bool.{cases_Bool, not_from_false, not_from_true}
use Rattle.std.proofs.lemmas.List.{map-append}
use Rattle.std.proofs.lemmas.List.FromFn.{length-map-range_with_len, get_or-map-range_with_len, map-range_with_len_more}
use Rattle.pt_net.specs.Systems.{NetSystem, places}
use Rattle.trap_siphon.specs.Sets.{has}
use Rattle.reductions.specs.declared.Fate.{Fate}
use Rattle.reductions.specs.declared.Slot.{Slot}
use Rattle.reductions.specs.declared.Slot.TheVariants.{Kept, Constant}
use Rattle.reductions.specs.Numbers.{numbers, rank}
use Rattle.reductions.specs.Reduced.{with_constants, without_constants}
use Rattle.reductions.specs.Slots.{CanBeGiven, Fits, IsReduction, is_kept, kept_count, last_constant, projected, slot_at, slot_count, slot_over, slots_over}
use Rattle.reductions.proofs.Numbers.{numbers_first, numbers_yes, numbers_no, stands_at}
use Rattle.reductions.proofs.Reduces.{reduced_places}

-- what is mapped over the numbers that pass, with one more
pub mapped_yes : {X : Type 0} (f : ℕ → X) (test : ℕ → Bool) (k : ℕ) → test k ≡ true → map f (numbers (k + 1) test) ≡ map f (numbers k test) ++ f k ∷ []
mapped_yes f test k passes = ap (λ n. map f (numbers n test)) (add-one k) ∙ ap (map f) (numbers_yes k test passes) ∙ map-append f (numbers k test) (k ∷ [])

pub mapped_no : {X : Type 0} (f : ℕ → X) (test : ℕ → Bool) (k : ℕ) → test k ≡ false → map f (numbers (k + 1) test) ≡ map f (numbers k test)
mapped_no f test k fails = ap (λ n. map f (numbers n test)) (add-one k) ∙ ap (map f) (numbers_no k test fails)

pub mapped_first : {X : Type 0} (f : ℕ → X) (test : ℕ → Bool) → [] ≡ map f (numbers 0 test)
mapped_first f test = sym (ap (map f) (numbers_first test))

-- tests that agree below a bound
numbers_like : (n : ℕ) (f g : ℕ → Bool) → ((p : ℕ) → p < n → f p ≡ g p) → numbers n f ≡ numbers n g
numbers_like zero f g same = numbers_first f ∙ sym (numbers_first g)
numbers_like (suc n) f g same =
    let rest = numbers_like n f g (λ p low. same p (omega arith)) in
    elim (cases_Bool (f n)) [
      | inl passes ↦ numbers_yes n f passes ∙ ap (λ (ks : List ℕ). ks ++ n ∷ []) rest ∙ sym (numbers_yes n g (sym (same n (omega arith)) ∙ passes))
      | inr fails ↦ numbers_no n f fails ∙ rest ∙ sym (numbers_no n g (sym (same n (omega arith)) ∙ fails))
    ]

-- one mapping after the other
maps_same : {X : Type 0} (g : X → ℕ) (f : ℕ → X) (h : ℕ → ℕ) → ((p : ℕ) → g (f p) ≡ h p) → (n : ℕ) → map g (map f (range_with_len 0 n)) ≡ map h (range_with_len 0 n)
maps_same g f h same zero = refl
maps_same g f h same (suc n) =
    ap (λ m. map g (map f (range_with_len 0 m))) (sym (add-one n))
    ∙ ap (map g) (map-range_with_len_more f 0 n n (omega arith))
    ∙ map-append g (map f (range_with_len 0 n)) (f n ∷ [])
    ∙ ap (λ (ks : List ℕ). ks ++ g (f n) ∷ []) (maps_same g f h same n)
    ∙ ap (λ m. map h (range_with_len 0 n) ++ m ∷ []) (same n)
    ∙ sym (map-range_with_len_more h 0 n n (omega arith))
    ∙ ap (λ m. map h (range_with_len 0 m)) (add-one n)

-- the slot of a place, by whether it is constant
slot_yes : (net : NetSystem) (still : List Bool) (p : ℕ) (b : Bool) → has still p ≡ b → slot_over net still p ≡ elim b [ true ↦ Constant (slice_index net.initial p) | false ↦ Kept (rank (λ q. not (has still q)) p) ]
slot_yes net still p b is = ap (λ (x : Bool). let s : Slot = elim x [ true ↦ Constant (slice_index net.initial p) | false ↦ Kept (rank (λ q. not (has still q)) p) ] in s) is

pub slots_long : (net : NetSystem) (still : List Bool) → length (slots_over net still) ≡ places net
unfolding slots_over
slots_long net still = length-map-range_with_len (slot_over net still) 0 (places net)

slots_at : (net : NetSystem) (still : List Bool) (p : ℕ) (d : Slot) → p < places net → get_or (slots_over net still) p d ≡ slot_over net still p
unfolding slots_over
slots_at net still p d low = get_or-map-range_with_len (slot_over net still) 0 (places net) p p d low (omega arith)

kept_is : (net : NetSystem) (still : List Bool) (p : ℕ) → is_kept (slot_over net still p) ≡ not (has still p)
kept_is net still p = elim (cases_Bool (has still p)) [
  | inl here ↦ ap is_kept (slot_yes net still p true here) ∙ sym (not_from_true (has still p) here)
  | inr off ↦ ap is_kept (slot_yes net still p false off) ∙ sym (not_from_false (has still p) off)
]

-- counts at the places that stay
pub projected_is : (net : NetSystem) (slots : List Slot) (told : List Fate) (red : NetSystem) (number : ℕ) (marking : List ℕ) → IsReduction net slots told red number → projected slots marking ≡ without_constants net (last_constant net) marking
unfolding without_constants
projected_is net slots told red number marking reduction =
    let still = last_constant net in
    ap (λ (ss : List Slot). projected ss marking) reduction.slots_are
    ∙ ap (λ n. map (slice_index marking) (numbers n (λ p. is_kept (slot_at (slots_over net still) p)))) (slots_long net still)
    ∙ ap (map (slice_index marking)) (numbers_like (places net) (λ p. is_kept (slot_at (slots_over net still) p)) (λ p. not (has still p)) (λ p low. ap is_kept (slots_at net still p (Constant 0) low) ∙ kept_is net still p))

same_default : {X : Type 0} (xs : List X) (k : ℕ) (d e : X) → k < length xs → get_or xs k d ≡ get_or xs k e
same_default [] k d e within = absurd (omega arith)
same_default (x ∷ xs) zero d e within = refl
same_default (x ∷ xs) (suc k) d e within = same_default xs k d e (omega arith)

project_by : (slots : List Slot) (counts : List ℕ) (k : ℕ) (s : Slot) → slot_at slots k ≡ s → map (slice_index counts) (numbers k (λ p. is_kept (slot_at slots p))) ++ kept_count s (slice_index counts k) ≡ map (slice_index counts) (numbers (k + 1) (λ p. is_kept (slot_at slots p)))
project_by slots counts k (Kept number) is = sym (mapped_yes (slice_index counts) (λ p. is_kept (slot_at slots p)) k (ap is_kept is))
project_by slots counts k (Constant count) is = append-nil (map (slice_index counts) (numbers k (λ p. is_kept (slot_at slots p)))) ∙ sym (mapped_no (slice_index counts) (λ p. is_kept (slot_at slots p)) k (ap is_kept is))

pub project_more : (slots : List Slot) (counts found found' : List ℕ) (k : ℕ) (d : Slot) (n : ℕ) → k < length slots → n ≡ slice_index counts k → found ≡ map (slice_index counts) (numbers k (λ p. is_kept (slot_at slots p))) → found' ≡ found ++ kept_count (get_or slots k d) n
    → found' ≡ map (slice_index counts) (numbers (k + 1) (λ p. is_kept (slot_at slots p)))
project_more slots counts found found' k d n within count before more =
    more ∙ ap (λ (xs : List ℕ). xs ++ kept_count (get_or slots k d) n) before
    ∙ ap (λ m. map (slice_index counts) (numbers k (λ p. is_kept (slot_at slots p))) ++ kept_count (get_or slots k d) m) count
    ∙ project_by slots counts k (get_or slots k d) (same_default slots k (Constant 0) d within)

-- counts at all places
counted : (net : NetSystem) (still : List Bool) (counts : List ℕ) (p : ℕ) → slot_count counts (slot_over net still p) ≡ (if has still p then slice_index net.initial p else slice_index counts (rank (λ q. not (has still q)) p))
counted net still counts p = elim (cases_Bool (has still p)) [
  | inl here ↦ ap (slot_count counts) (slot_yes net still p true here) ∙ ap (λ (b : Bool). if b then slice_index net.initial p else slice_index counts (rank (λ q. not (has still q)) p)) (sym here)
  | inr off ↦ ap (slot_count counts) (slot_yes net still p false off) ∙ ap (λ (b : Bool). if b then slice_index net.initial p else slice_index counts (rank (λ q. not (has still q)) p)) (sym off)
]

pub lifted_is : (net : NetSystem) (slots : List Slot) (told : List Fate) (red : NetSystem) (number : ℕ) (counts : List ℕ) → IsReduction net slots told red number → map (slot_count counts) slots ≡ with_constants net (last_constant net) counts
unfolding slots_over with_constants
lifted_is net slots told red number counts reduction =
    let still = last_constant net in
    ap (map (slot_count counts)) reduction.slots_are
    ∙ maps_same (slot_count counts) (slot_over net still) (λ p. if has still p then slice_index net.initial p else slice_index counts (rank (λ q. not (has still q)) p)) (counted net still counts) (places net)

-- the slots fit
pub slots_fit : (slots : List Slot) (told : List Fate) (red : NetSystem) (number : ℕ) (counts : List ℕ) → CanBeGiven slots told red number → length counts ≡ places red → All (Fits (length counts)) slots
slots_fit slots told red number counts given long =
    let net = given.0 in
    let is_system = given.1.0 in
    let reduction = given.1.1 in
    let still = last_constant net in
    let many = long ∙ ap places reduction.net_is ∙ reduced_places net still _ in
    subst (λ (ss : List Slot). All (Fits (length counts)) ss) (sym reduction.slots_are) (λ p d within.
    let low : p < places net = (let l = slots_long net still in omega arith) in
    subst (Fits (length counts)) (sym (slots_at net still p d low)) (elim (cases_Bool (has still p)) [
      | inl here ↦ subst (Fits (length counts)) (sym (slot_yes net still p true here)) (is_system.counts p 0 low)
      | inr off ↦
          let at = stands_at (places net) (λ q. not (has still q)) p low (not_from_false (has still p) off) in
          subst (Fits (length counts)) (sym (slot_yes net still p false off)) (let w = at.within in omega arith)
    ]))
