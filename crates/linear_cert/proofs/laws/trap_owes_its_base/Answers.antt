use Rattle.std.proofs.Common.{Bool, false, cond, ◌||◌, [], ◌∷◌, slice_index, pos, ap, sym}
use Rattle.std.specs.Prelude.{int_le}
use Rattle.pt_net.specs.Systems.{places}
use Rattle.cert_model.specs.declared.Check.TheVariants as check
use Rattle.cert_model.specs.Forms.{value_at}
use Rattle.cert_model.specs.Facts.{Trap, slack}
use Rattle.linear_cert.specs.Checks.{net_of}
use Rattle.linear_cert.proofs.Traps.{trap_is_narrow, low_count}
use Rattle.linear_cert.proofs.laws.trap_owes_its_base.Goals as goal

pub returns : goal.returns
returns c = λ net has system.
    let holds : Bool = int_le (pos 0) (value_at (net_of net) (slack (net_of net) (Trap has)) (net_of net).initial) in
    ap (λ wide. cond (wide || false) check.Wide (cond holds check.True check.False) ∷ [])
    (sym (trap_is_narrow (places net) has (λ p. slice_index net.initial p) system.places (low_count net.initial system.counts)))
