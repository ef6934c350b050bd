use Rattle.std.proofs.Common.{subst}
use Rattle.commands.specs.Ends.{HasRun}
use Rattle.commands.proofs.ending.end_of.Goals as goal

pub returns-in-Ok : goal.returns-in-Ok
returns-in-Ok g c =
    let ran = c.run-outcome.ensures in
    rw c.in-Ok.is (
      c.run-outcome.result,
      c.status.ensures,
      subst (λ words. HasRun words (g.F.Files.held c.args.files.now)
          (record { read_faults = g.F.Files.faults c.args.files.now; write_faults = g.K.Sink.faults c.args.out.now; written = g.K.Sink.written c.args.out.now })
          (record { read_faults = g.F.Files.faults c.run-outcome.new.files; write_faults = g.K.Sink.faults c.run-outcome.new.out; written = g.K.Sink.written c.run-outcome.new.out })
          c.run-outcome.result) c.deref.ensures.value
          (record {
            usage = ran.usage;
            answered = ran.answered;
            prefix = ran.prefix;
            silent = ran.silent;
            read_fault = ran.read_fault;
            write_fault = ran.write_fault;
            complete = ran.complete;
            sound = ran.sound;
          }),
    )
