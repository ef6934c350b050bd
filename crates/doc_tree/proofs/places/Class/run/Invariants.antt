use Rattle.std.proofs.Common.{◌≡◌, ◌≤◌, ◌-◌, take, true, length}
use Rattle.doc_tree.specs.Characters.{all_bytes, class_test}
use Rattle.doc_tree.proofs.places.Class.run.Given as goal

abbrev pub decreases-loop-count : goal.decreases-loop-count
decreases-loop-count l = length l.bytes - l.count

abbrev pub invariant-loop-count : goal.invariant-loop-count
invariant-loop-count l = (l.count ≤ length l.bytes) × (all_bytes (class_test l.self) (take l.count l.bytes) ≡ true)
