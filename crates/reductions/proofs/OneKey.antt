-- Instances are equal on the places that stay where their rows on these places are the same lists.
use Rattle.std.proofs.Common.{◌≡◌, ℕ, Bool, true, ◌&&◌, ◌||◌, nat_eq, inl, inr, List, ap, sym, ◌∙◌}
use Rattle.std.proofs.lemmas.Bool.{cases_Bool, or_left, or_right, and_from, eq-eqb, not_from_false}
use Rattle.wide_sums.specs.Cells.{amount}
use Rattle.pt_net.specs.Systems.{NetSystem, instance_at, places, pre, post}
use Rattle.trap_siphon.specs.Sets.{has}
use Rattle.trap_siphon.proofs.Members.{each-from}
use Rattle.reductions.specs.Numbers.{rank}
use Rattle.reductions.specs.Reduced.{are_equal, row_on}
use Rattle.reductions.specs.Merging.{HasRows}
use Rattle.reductions.proofs.Kept.{agree_from}
use Rattle.reductions.proofs.Nets.{same_rows, row_on-is_row}
use Rattle.reductions.proofs.Reduces.{stays_in, each_on, InRange}
use Rattle.reductions.proofs.Rows.{amount-on, amount-past}

-- the key of an instance
pub record HaveOneKey (net : NetSystem) (still : List Bool) (i j : ℕ) : Type 0 where
  pub pre : row_on (stays_in still) (instance_at net i).pre ≡ row_on (stays_in still) (instance_at net j).pre
  pub post : row_on (stays_in still) (instance_at net i).post ≡ row_on (stays_in still) (instance_at net j).post

pub one_key : (net : NetSystem) (still : List Bool) (i j : ℕ) → InRange net i → InRange net j → HasRows net i → HasRows net j → are_equal net still i j ≡ true → HaveOneKey net still i j
one_key net still i j range range' rows rows' equal =
    let agree = agree_from net still i j equal in
    record {
      pre = same_rows (row_on (stays_in still) (instance_at net i).pre) (row_on (stays_in still) (instance_at net j).pre)
          (row_on-is_row (stays_in still) (instance_at net i).pre rows.pre) (row_on-is_row (stays_in still) (instance_at net j).pre rows'.pre)
          (each_on net still (λ q. amount q (row_on (stays_in still) (instance_at net i).pre) ≡ amount q (row_on (stays_in still) (instance_at net j).pre))
          (λ p low changes. amount-on (places net) (stays_in still) p (instance_at net i).pre low (not_from_false (has still p) changes) range.pre ∙ agree.pre p low changes
          ∙ sym (amount-on (places net) (stays_in still) p (instance_at net j).pre low (not_from_false (has still p) changes) range'.pre))
          (λ q past. amount-past (places net) (stays_in still) q (instance_at net i).pre past range.pre ∙ sym (amount-past (places net) (stays_in still) q (instance_at net j).pre past range'.pre)));
      post = same_rows (row_on (stays_in still) (instance_at net i).post) (row_on (stays_in still) (instance_at net j).post)
          (row_on-is_row (stays_in still) (instance_at net i).post rows.post) (row_on-is_row (stays_in still) (instance_at net j).post rows'.post)
          (each_on net still (λ q. amount q (row_on (stays_in still) (instance_at net i).post) ≡ amount q (row_on (stays_in still) (instance_at net j).post))
          (λ p low changes. amount-on (places net) (stays_in still) p (instance_at net i).post low (not_from_false (has still p) changes) range.post ∙ agree.post p low changes
          ∙ sym (amount-on (places net) (stays_in still) p (instance_at net j).post low (not_from_false (has still p) changes) range'.post))
          (λ q past. amount-past (places net) (stays_in still) q (instance_at net i).post past range.post ∙ sym (amount-past (places net) (stays_in still) q (instance_at net j).post past range'.post)));
    }

pub equal_from_key : (net : NetSystem) (still : List Bool) (i j : ℕ) → InRange net i → InRange net j → HaveOneKey net still i j → are_equal net still i j ≡ true
unfolding are_equal
equal_from_key net still i j range range' key =
    each-from (places net) (λ p. has still p || (nat_eq (pre net i p) (pre net j p) && nat_eq (post net i p) (post net j p))) (λ p low. elim (cases_Bool (has still p)) [
      | inl is ↦ or_left (has still p) (nat_eq (pre net i p) (pre net j p) && nat_eq (post net i p) (post net j p)) is
      | inr changes ↦
          let one = sym (amount-on (places net) (stays_in still) p (instance_at net i).pre low (not_from_false (has still p) changes) range.pre) ∙ ap (amount (rank (stays_in still) p)) key.pre
          ∙ amount-on (places net) (stays_in still) p (instance_at net j).pre low (not_from_false (has still p) changes) range'.pre in
          let two = sym (amount-on (places net) (stays_in still) p (instance_at net i).post low (not_from_false (has still p) changes) range.post) ∙ ap (amount (rank (stays_in still) p)) key.post
          ∙ amount-on (places net) (stays_in still) p (instance_at net j).post low (not_from_false (has still p) changes) range'.post in
          or_right (has still p) (nat_eq (pre net i p) (pre net j p) && nat_eq (post net i p) (post net j p))
          (and_from (nat_eq (pre net i p) (pre net j p)) (nat_eq (post net i p) (post net j p)) (eq-eqb (pre net i p) (pre net j p) one) (eq-eqb (post net i p) (post net j p) two))
    ])
