use Rattle.std.proofs.Common.{◌≡◌, ◌≢◌, ◌<◌, ℕ, true}
use Rattle.trap_siphon.specs.Sets.{has}
use Rattle.pt_net.specs.Systems.{places, pre}
use Rattle.trap_siphon.specs.Stages.{has_inputs}
use Rattle.trap_siphon.proofs.Stages.{inputs-at}
use Rattle.reductions.proofs.Filling.{second_decides}
use Rattle.reductions.proofs.rounds.is_undead.Goals as goal

pub returns-then-has : goal.returns-then-has
returns-then-has c =
    let on : has c.args.active.now c.args.instance ≡ true = cc in
    second_decides c.has_inputs.result (has c.args.active.now c.args.instance) (has_inputs c.args.net.now c.args.marked.now c.args.instance)
    ((p : ℕ) × (0 < pre c.args.net.now c.args.instance p) × (p < places c.args.net.now) × (has c.args.marked.now p ≢ true)) on c.has_inputs.ensures
    (λ w all. w.3 (inputs-at c.args.net.now c.args.marked.now c.args.instance all w.0 w.2 w.1))
