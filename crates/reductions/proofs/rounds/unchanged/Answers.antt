use Rattle.std.proofs.Common.{◌∙◌, not, ap, length}
use Rattle.trap_siphon.specs.Sets.{has}
use Rattle.pt_net.specs.Systems.{places}
use Rattle.trap_siphon.proofs.Members.{length-set_of}
use Rattle.reductions.proofs.Filling.{unchanged_from}
use Rattle.reductions.proofs.rounds.unchanged.Goals as goal

pub returns-clause-as_long : goal.returns-clause-as_long
returns-clause-as_long c = ap length c.in_ok-found.ensures ∙ length-set_of (places c.args.net.now) (λ p. not (has c.in_ok-moved.moved p))

pub returns-clause-still : goal.returns-clause-still
returns-clause-still c = c.in_ok-found.ensures ∙ unchanged_from c.args.net.now c.args.undead.now c.in_ok-moved.moved c.in_ok-moved.ensures.changed
