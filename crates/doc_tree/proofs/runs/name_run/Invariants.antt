use Rattle.std.proofs.Common.{◌≡◌, ◌≤◌, ◌-◌, take, true, length}
use Rattle.doc_tree.specs.Characters.{all_bytes, is_name_byte}
use Rattle.doc_tree.proofs.runs.name_run.Given as goal

abbrev pub decreases-loop-count : goal.decreases-loop-count
decreases-loop-count l = length l.bytes - l.count

abbrev pub invariant-loop-count : goal.invariant-loop-count
invariant-loop-count l = (l.count ≤ length l.bytes) × (all_bytes is_name_byte (take l.count l.bytes) ≡ true)
