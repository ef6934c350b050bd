use Rattle.plain_rows.proofs.Built.{is_system, is_plain, are_rows}
use Rattle.pt_net.specs.Systems.{system_of}
use Rattle.plain_model.specs.Firing.{initial}
use Rattle.plain_rows.proofs.Reaches.{reach_the_same}
use Rattle.plain_rows.proofs.building.net_of.Goals as goal

pub new-requires : goal.new-requires
new-requires c =
    rw (c.in_ok-initial.ensures, c.as_slice.ensures)
    (is_system c.args.net.now c.in_ok-instances.instances.items c.in_ok-instances.ensures.nodes c.in_ok-instances.ensures.instances)

pub returns-clause-plain : goal.returns-clause-plain
returns-clause-plain c = λ id. is_plain c.args.net.now c.in_ok-instances.instances.items id c.in_ok-instances.ensures.nodes c.in_ok-instances.ensures.instances

pub returns-clause-rows : goal.returns-clause-rows
returns-clause-rows c =
    rw (c.in_ok-new.ensures, c.in_ok-initial.ensures, c.as_slice.ensures)
    (are_rows c.args.net.now c.in_ok-instances.instances.items c.in_ok-instances.ensures.nodes c.in_ok-instances.ensures.instances)

pub returns-clause-reach : goal.returns-clause-reach
returns-clause-reach c =
    let net = c.args.net.now in
    let instances = c.in_ok-instances.instances.items in
    rw (c.in_ok-new.ensures, c.in_ok-initial.ensures, c.as_slice.ensures)
    (reach_the_same net (system_of (initial net) instances)
    (are_rows net instances c.in_ok-instances.ensures.nodes c.in_ok-instances.ensures.instances)
    (is_system net instances c.in_ok-instances.ensures.nodes c.in_ok-instances.ensures.instances))
