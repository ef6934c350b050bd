-- Inputs fit exactly where each place has what is taken there.
use Rattle.std.proofs.Common.{◌≡◌, ℕ, ◌<◌, ◌≤◌, Bool, true, cond, nat_lt, nat_le, inl, inr, List, get_or, arith, subst, sym, ◌∙◌, slice_index}
use Rattle.std.specs.List.{list_all, range_with_len}
use Rattle.std.proofs.lemmas.Bool.Decides.{nat_tests}
use Rattle.std.proofs.lemmas.Bool.{cases_lt}
use Rattle.std.proofs.lemmas.List.Folds.{list_all-map}
use Rattle.std.proofs.lemmas.List.Sums.{AllPass-from_list_all, list_all-from_AllPass}
use Rattle.std.proofs.lemmas.List.FromFn.{length-range_with_len, get_or-range_with_len}
use Rattle.pt_net.specs.Firing.{IsEnabled}
use Rattle.pt_net.specs.Systems.{NetSystem, IsSystem, instance_at, places, size, pre}
use Rattle.reductions.specs.Numbers.{numbers}
use Rattle.reductions.proofs.Rows.{amount-outside}
use Rattle.reductions.proofs.Reduces.{rows_in_range}
use Rattle.cert_model.specs.Nets.{Counts}
use Rattle.cert_model.specs.Formulas.{fits}
use Rattle.cert_laws.specs.PlainNets.{inputs, plain_live}
use Rattle.cert_laws.proofs.Lists.{all-numbers}

fits-tests : (n : ℕ) (takes marking : Counts) → fits (inputs n takes) marking ≡ list_all (λ p. cond (nat_lt 0 (takes p)) (nat_le (takes p) (marking p)) true) (range_with_len 0 n)
fits-tests n takes marking =
    list_all-map (λ (need : ℕ × ℕ). nat_le need.1 (marking need.0)) (λ p. (p, takes p)) (numbers n (λ p. nat_lt 0 (takes p)))
    ∙ all-numbers (λ p. nat_le (takes p) (marking p)) n (λ p. nat_lt 0 (takes p))

enough : (t m : ℕ) → cond (nat_lt 0 t) (nat_le t m) true ≡ true → t ≤ m
enough t m h = grind (arith, nat_tests, h)

passes : (t m : ℕ) → t ≤ m → cond (nat_lt 0 t) (nat_le t m) true ≡ true
passes t m le = grind (arith, nat_tests)

pub fits-at : (n : ℕ) (takes marking : Counts) → fits (inputs n takes) marking ≡ true → (p : ℕ) → p < n → takes p ≤ marking p
fits-at n takes marking all p low =
    let long = length-range_with_len 0 n in
    let test : ℕ → Bool = λ q. cond (nat_lt 0 (takes q)) (nat_le (takes q) (marking q)) true in
    let at : get_or (range_with_len 0 n) p 0 ≡ p = get_or-range_with_len 0 n p 0 low ∙ omega arith in
    enough (takes p) (marking p)
    (subst (λ q. test q ≡ true) at (AllPass-from_list_all test (range_with_len 0 n) (sym (fits-tests n takes marking) ∙ all) p 0 (omega arith)))

pub fits-from : (n : ℕ) (takes marking : Counts) → ((p : ℕ) → p < n → takes p ≤ marking p) → fits (inputs n takes) marking ≡ true
fits-from n takes marking each =
    let long = length-range_with_len 0 n in
    let test : ℕ → Bool = λ q. cond (nat_lt 0 (takes q)) (nat_le (takes q) (marking q)) true in
    fits-tests n takes marking
    ∙ list_all-from_AllPass test (range_with_len 0 n) (λ k d within.
    let at : get_or (range_with_len 0 n) k d ≡ k = get_or-range_with_len 0 n k d (omega arith) ∙ omega arith in
    subst (λ q. test q ≡ true) (sym at) (passes (takes k) (marking k) (each k (omega arith))))

-- an instance of the net is enabled exactly where its inputs fit
pub enabled-fits : (net : NetSystem) (marking : List ℕ) (i : ℕ) → IsEnabled marking (instance_at net i) → fits (plain_live net i).needs (slice_index marking) ≡ true
enabled-fits net marking i enabled = fits-from (places net) (pre net i) (slice_index marking) (λ p low. enabled p)

pub fits-enabled : (net : NetSystem) (marking : List ℕ) (i : ℕ) → IsSystem net → i < size net → fits (plain_live net i).needs (slice_index marking) ≡ true → IsEnabled marking (instance_at net i)
fits-enabled net marking i is_system inside fit p = elim (cases_lt p (places net)) [
  | inl low ↦ fits-at (places net) (pre net i) (slice_index marking) fit p low
  | inr past ↦ let nothing = amount-outside (places net) p (instance_at net i).pre past (rows_in_range net i is_system inside).pre in omega arith
]
