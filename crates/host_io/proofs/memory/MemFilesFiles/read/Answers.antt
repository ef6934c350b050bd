use Rattle.std.proofs.Common.{◌≡◌, ◌≤◌, [], length, take, drop, rules, arith}
use Rattle.std.proofs.lemmas.Grind.{common_steps}
use Rattle.host_io.specs.Memory.{bytes_at}
use Rattle.host_io.proofs.Fronts.{consumed}
use Rattle.host_io.proofs.memory.MemFilesFiles.read.Goals as goal
use Rattle.host_io.proofs.memory.MemFilesFiles.read.Goals.{then-rest-buf, else-rest-buf}

pub returns-clause-bytes : goal.returns-clause-bytes
returns-clause-bytes c =
    let files = c.self.inside in
    let bytes = bytes_at files.entries.items files.current in
    let n = c.capped_count-count.result in
    let copied : c.copy_from_slice.new.self ≡ take n (drop files.at bytes) = search rules in
    let most : c.if-rest-buf.most ≤ length (drop files.at bytes) = elim c.if-rest-buf.branch [ then-rest-buf w ↦ search rules | else-rest-buf w ↦ search rules ] in
    let within : n ≤ length (drop files.at bytes) = omega (arith, c.capped_count-count.ensures.within) in
    let end : n ≡ 0 → drop files.at bytes ≡ [] = elim c.if-rest-buf.branch [ then-rest-buf w ↦ grind (arith, common_steps) | else-rest-buf w ↦ grind (arith, common_steps) ] in
    rw (← c.self.view_is) (consumed bytes c.args.buf.now _ files.at n copied within end)
