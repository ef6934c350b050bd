use Rattle.std.proofs.Common.{◌<◌, All, AllPairs}
use Rattle.linear_cert_examples.proofs.builders.terms.Given as goal

abbrev pub invariant-loop-place : goal.invariant-loop-place
invariant-loop-place l = All (λ t. t.place < l.place) l.terms.items × AllPairs (λ s t. s.place < t.place) l.terms.items
