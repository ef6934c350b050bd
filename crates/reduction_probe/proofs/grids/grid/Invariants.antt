use Rattle.std.proofs.Common.{◌≡◌}
use Rattle.pt_net.specs.Systems.{size}
use Rattle.reduction_examples.specs.Drafts.{IsDraft}
use Rattle.reduction_probe.proofs.grids.grid.Given as goal

abbrev pub invariant-loop-instance : goal.invariant-loop-instance
invariant-loop-instance l = record {
  draft : IsDraft l.draft.places l.draft.builder;
  many : size l.draft.builder ≡ l.instance;
}
