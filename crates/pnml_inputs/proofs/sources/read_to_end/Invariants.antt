use Rattle.std.proofs.Common.{◌≡◌, ◌-◌, ◌≤◌, ℕ, List, IsTrue}
use Rattle.std.specs.Io.KnownBytes.{Consumes}
use Rattle.pnml_inputs.specs.Intake.{HasTaken}
use Rattle.pnml_inputs.proofs.sources.read_to_end.Given as goal

abbrev pub invariant-loop-intake : goal.invariant-loop-intake
invariant-loop-intake g l = record {
  ready : IsTrue (g.F.Files.ready l.files);
  same : g.F.Files.held l.files ≡ g.F.Files.held l.fn.files;
  later : g.F.Files.faults l.fn.files ≤ g.F.Files.faults l.files;
  quiet : g.F.Files.faults l.files ≡ g.F.Files.faults l.fn.files;
  taken : (b : List ℕ) × Consumes (g.F.Files.left l.fn.files) (g.F.Files.left l.files) b
      × HasTaken g.P.PieceReader.stands g.P.PieceReader.answers l.intake.reader l.intake.fault l.intake.count b;
}

abbrev pub decreases-loop-intake : goal.decreases-loop-intake
decreases-loop-intake g l = 67108865 - l.intake.count
