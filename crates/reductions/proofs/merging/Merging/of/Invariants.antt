use Rattle.std.proofs.Common.{◌≡◌}
use Rattle.reductions.specs.Merged.{IsMerging}
use Rattle.reductions.proofs.merging.Merging.of.Given as goal

abbrev pub invariant-loop-instance : goal.invariant-loop-instance
invariant-loop-instance l = record {
  initial : l.merging.kept.initial ≡ l.fn.initial.items;
  merged : IsMerging l.view.net.now l.view.round.now.constant l.view.round.now.live l.instance l.merging.keys l.merging.fates.items l.merging.kept.instances;
}
