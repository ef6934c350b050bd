use Rattle.std.proofs.Common.{◌≡◌, ◌-◌, ◌≤◌, length, take, drop, subst, length-drop, arith}
use Rattle.std.specs.Io.KnownBytes.{Appends}
use Rattle.pnml_inputs.proofs.Pieces.{all_of_rest, appended}
use Rattle.pnml_inputs.proofs.output.put_all.Goals as goal

pub loop-at-preserved : goal.loop-at-preserved
loop-at-preserved g c =
    let text = c.args.text.now in
    let at = c.loop-at.at in
    let n = c.in-Ok.count in
    let written = g.K.Sink.written in
    let rest : take (length text - at) (drop at text) ≡ drop at text = all_of_rest text at in
    let within : n ≤ length (drop at text) = subst (λ l. n ≤ length l) rest c.in-Ok.ensures.within in
    record {
      within = omega (arith, within, length-drop at text, c.loop-at-test.true);
      later = omega (arith, c.loop-at.invariant.later, c.in-Ok.ensures.cause.0);
      quiet = omega (arith, c.loop-at.invariant.quiet, c.in-Ok.ensures.quiet);
      written = appended (written c.args.out.now) (written c.loop-at.out) (written c.put.new.self) text at n c.loop-at.invariant.written (subst (λ l. Appends (written c.loop-at.out) (written c.put.new.self) (take n l)) rest c.in-Ok.ensures.bytes);
    }
