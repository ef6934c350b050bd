use Rattle.std.proofs.Common.{sym, ap, ◌∙◌, length}
use Rattle.std.proofs.lemmas.List.{length-map}
use Rattle.colour_sorts.proofs.Partitioned.{divided-length}
use Rattle.colour_sorts.proofs.domains.Domains.add_partitions.Goals as goal

pub put_partitions-requires : goal.put_partitions-requires
put_partitions-requires c =
    let ps = c.args.partitions.now in
    let divided = rw c.in-Ok.is at c.in_ok-divisions.ensures c.requires.stands.0 c.requires.stands.1 in
    divided-length c.requires.stands.0 ps c.in-Ok.divisions.items divided ∙ sym (ap length c.in_ok-ids-in-Ok.ensures ∙ length-map ps (λ p. p.id))
