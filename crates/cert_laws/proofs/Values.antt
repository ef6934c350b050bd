-- A form has the same value at a reached marking and on its reduced places.
use Rattle.std.proofs.Common.{◌≡◌, ℕ, List, pos, ◌*ℤ◌, arith, ap, sym, slice_index}
use Rattle.std.specs.List.{range_with_len}
use Rattle.std.proofs.lemmas.Int.{ints}
use Rattle.pt_net.specs.Systems.{NetSystem, places}
use Rattle.trap_siphon.specs.Sets.{has}
use Rattle.reductions.specs.Reduced.{reduced}
use Rattle.reductions.specs.Slots.{last_constant}
use Rattle.reductions.specs.Laws.{KeepsConstants}
use Rattle.cert_model.specs.Sums.{sum_of, products}
use Rattle.cert_model.specs.Forms.{Form, value_at}
use Rattle.cert_model.proofs.Weights.{sum_of-append}
use Rattle.cert_laws.specs.PlainNets.{plain, plain_reduced, kept_places, kept_place, kept_counts}
use Rattle.cert_laws.specs.Reducing.{constant_places, reduced_form}
use Rattle.cert_laws.proofs.Lists.{map-read, map-numbers, sum-numbers}
use Rattle.cert_laws.proofs.Firing.{as_many, kept-count}

on_kept : (net : NetSystem) (marking : List ℕ) (form : Form)
    → products (range_with_len 0 (places (reduced net))) (reduced_form net form).coefficient (kept_counts net marking) ≡ products (kept_places net) form.coefficient (slice_index marking)
on_kept net marking form =
    map-read (λ q. form.coefficient (kept_place net q) *ℤ pos (kept_counts net marking q)) (λ p. form.coefficient p *ℤ pos (slice_index marking p)) (kept_places net) (places (reduced net)) (pos 0) (as_many net)
    (λ q low. ap (λ n. form.coefficient (kept_place net q) *ℤ pos n) (kept-count net marking q low))

on_constant : (net : NetSystem) (marking : List ℕ) (form : Form) → KeepsConstants net (last_constant net) marking
    → products (constant_places net) form.coefficient (slice_index net.initial) ≡ products (constant_places net) form.coefficient (slice_index marking)
on_constant net marking form keeps =
    map-numbers (λ p. form.coefficient p *ℤ pos (slice_index net.initial p)) (λ p. form.coefficient p *ℤ pos (slice_index marking p)) (places net) (has (last_constant net)) (pos 0)
    (λ p low still. ap (λ n. form.coefficient p *ℤ pos n) (sym (keeps.same p still)))

pub same_value : (net : NetSystem) (marking : List ℕ) (form : Form) → KeepsConstants net (last_constant net) marking
    → value_at (plain net) form (slice_index marking) ≡ value_at (plain_reduced net) (reduced_form net form) (kept_counts net marking)
same_value net marking form keeps =
    let whole = sum-numbers (λ p. form.coefficient p *ℤ pos (slice_index marking p)) (places net) (has (last_constant net)) in
    let kept = ap sum_of (on_kept net marking form) in
    let still = ap sum_of (on_constant net marking form keeps) in
    let constant = sum_of-append form.constant (products (constant_places net) form.coefficient (slice_index net.initial)) in
    omega (arith, ints, whole, kept, still, constant)
