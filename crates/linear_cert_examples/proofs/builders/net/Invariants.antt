use Rattle.std.proofs.Common.{◌≡◌, length}
use Rattle.pt_net.specs.Systems.{places, size}
use Rattle.reduction_examples.specs.Drafts.{IsDraft}
use Rattle.linear_cert_examples.proofs.builders.net.Given as goal

abbrev pub invariant-loop-row : goal.invariant-loop-row
invariant-loop-row l = record {
  draft : IsDraft l.draft.places l.draft.builder;
  many : size l.draft.builder ≡ l.row-index;
  all : places l.draft.builder ≡ length l.counts;
}
