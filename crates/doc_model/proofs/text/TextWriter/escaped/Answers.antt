use Rattle.std.proofs.Common.{arith}
use Rattle.doc_model.proofs.Writing.{escaped-plain, escaped-escape}
use Rattle.doc_model.proofs.text.TextWriter.escaped.Goals as goal
use Rattle.doc_model.proofs.text.TextWriter.escaped.Goals.{in-Some+in_ok-bytes+in_ok-bytes-2, in_default}

pub loop-at-preserved : goal.loop-at-preserved
loop-at-preserved c =
    let text = c.args.text.now in
    let known = c.loop-at.invariant in
    elim c.match-escape_of.branch [
      | in-Some+in_ok-bytes+in_ok-bytes-2 w ↦
          rw w.from-is
          (rw w.self-is (
            omega arith,
            escaped-escape c.args.self.now c.loop-at.self w.bytes.new.self w.bytes-in-Some.new.self w.in-Some.escape.now text c.loop-at.from c.loop-at.at known.0 (omega arith) w.in-Some.ensures known.1 w.in_ok-bytes.ensures w.in_ok-bytes-2.ensures,
          ))
      | in_default w ↦
          rw w.from-is
          (rw w.self-is (
            omega arith,
            escaped-plain c.args.self.now c.loop-at.self text c.loop-at.from c.loop-at.at known.0 (omega arith) w.in_default.ensures known.1,
          ))
    ]
