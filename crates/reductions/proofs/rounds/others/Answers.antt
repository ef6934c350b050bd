use Rattle.std.proofs.Common.{◌≤◌, not, false, arith}
use Rattle.trap_siphon.specs.Sets.{has}
use Rattle.pt_net.specs.Systems.{places}
use Rattle.reductions.proofs.Filling.{filled_all}
use Rattle.reductions.proofs.rounds.others.Goals as goal

pub returns : goal.returns
returns c =
    let past : places c.args.net.now ≤ c.loop-place.place = (let all = c.places-place-end.ensures in let test = c.loop-place-test.false in omega arith) in
    filled_all (places c.args.net.now) (λ p. not (has c.args.set.now p)) false c.loop-place.place c.loop-place.found past c.loop-place.invariant
