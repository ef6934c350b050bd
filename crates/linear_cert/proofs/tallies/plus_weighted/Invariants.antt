use Rattle.std.proofs.Common.{◌≡◌, map, drop, slice_index}
use Rattle.linear_cert.specs.Fitting.{plus_all}
use Rattle.linear_cert.specs.Checks.{weighted}
use Rattle.linear_cert.proofs.tallies.plus_weighted.Given as goal

-- adding what is left comes to the same
abbrev pub invariant-loop-term : goal.invariant-loop-term
invariant-loop-term l =
    plus_all l.sum (map (weighted (λ p. slice_index l.counts p)) (drop l.term-index l.terms))
    ≡ plus_all l.fn.sum (map (weighted (λ p. slice_index l.counts p)) l.terms)
