-- The rounds that the code goes through, one after another.
use Rattle.std.proofs.Common.{◌≡◌, ℕ, zero, suc, ◌+◌, ◌-◌, ◌<◌, ◌≤◌, Bool, true, false, not, ◌&&◌, ◌||◌, List, replicate, arith, refl, ap, ap₂, sym, ◌∙◌, add-one}
use Rattle.pt_net.specs.Systems.{NetSystem, size}
use Rattle.trap_siphon.specs.Sets.{has, some_below}
use Rattle.trap_siphon.proofs.Members.{has-set_of}
use Rattle.reductions.specs.Numbers.{least}
use Rattle.reductions.specs.Rounds.{undead, constant, live, active, rounds}
use Rattle.reductions.specs.Reduced.{is_dead}
use Rattle.reductions.specs.Merging.{alive, alive_after}
use Rattle.reductions.specs.Searching.{Finds, IsRound, IsLastRound}
use Rattle.reductions.proofs.Filling.{active_first, active_next, settled}

pub alive_first : (net : NetSystem) → replicate (size net) true ≡ alive net 0
unfolding active alive
alive_first net = active_first net

pub finds_round : (net : NetSystem) (k : ℕ) (on before on' still lives undying : List Bool) → Finds net on before on' still lives undying → on ≡ active net k → before ≡ alive net k → IsRound net k on' still lives undying
unfolding alive
finds_round net k on before on' still lives undying f on_is before_is = record {
  is_active = f.same ∙ on_is;
  is_constant = f.found_constant ∙ ap (constant net) (sym f.same);
  is_live = f.found_live ∙ ap (live net) (sym f.same);
  is_alive = f.found_alive ∙ ap₂ (λ (b o : List Bool). alive_after net b o (undead net o)) before_is on_is;
}

pub next_round : (net : NetSystem) (k : ℕ) (on still lives undying on' still' lives' undying' : List Bool) → IsRound net k on still lives undying → Finds net lives undying on' still' lives' undying' → IsRound net (k + 1) on' still' lives' undying'
next_round net k on still lives undying on' still' lives' undying' r f =
    finds_round net (k + 1) lives undying on' still' lives' undying' f (active_next net k on lives r.is_active r.is_live) (r.is_alive ∙ ap (alive net) (sym (add-one k)))

pub stop_round : (net : NetSystem) (k : ℕ) (on still lives undying : List Bool) → IsRound net k on still lives undying → rounds net ≡ k + 1 → IsLastRound net on still lives undying
stop_round net k on still lives undying r last =
    let before : k ≡ rounds net - 1 = omega arith in
    record {
      is_last = r.is_active ∙ ap (active net) before;
      last_constant = r.is_constant;
      last_live = r.is_live;
      last_alive = r.is_alive ∙ ap (alive net) (sym (add-one k) ∙ sym last);
    }

-- after 63 rounds there is one more, whatever it finds
pub rounds_end : (net : NetSystem) (k : ℕ) → 63 ≤ k → k ≤ 63 → rounds net ≡ least (63 - k) (settled net) (k + 1) → rounds net ≡ k + 1
rounds_end net k past top left = let none : 63 - k ≡ 0 = omega arith in left ∙ ap (λ n. least n (settled net) (k + 1)) none

-- the instances that are dead in no round so far
both_not : (a b : Bool) → (not a && not b) ≡ not (b || a)
both_not true true = refl
both_not true false = refl
both_not false true = refl
both_not false false = refl

pub alive_is : (net : NetSystem) (k i : ℕ) → i < size net → has (alive net k) i ≡ not (some_below k (is_dead net i))
unfolding alive
alive_is net zero i inside = has-set_of (size net) (λ j. true) i inside
alive_is net (suc k) i inside =
    has-set_of (size net) (λ j. has (alive net k) j && not (has (active net k) j && not (has (undead net (active net k)) j))) i inside
    ∙ ap (λ (b : Bool). b && not (is_dead net i k)) (alive_is net k i inside)
    ∙ both_not (some_below k (is_dead net i)) (is_dead net i k)
