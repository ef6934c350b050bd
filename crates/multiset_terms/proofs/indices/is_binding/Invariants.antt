use Rattle.std.proofs.Common.{◌<◌, ℕ}
use Rattle.std.specs.Prelude.{slice_index}
use Rattle.multiset_terms.specs.Usable.{sizes_of}
use Rattle.multiset_terms.proofs.indices.is_binding.Given as goal

abbrev pub invariant-loop-at : goal.invariant-loop-at
invariant-loop-at l = (k : ℕ) → k < l.at → slice_index l.fn.indices k < slice_index (sizes_of l.fn.domains l.fn.variables) k
