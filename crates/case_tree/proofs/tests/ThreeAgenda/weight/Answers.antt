use Rattle.std.proofs.Common.{◌≡◌, length, arith}
use Rattle.std.proofs.lemmas.List.{length-map}
use Rattle.case_tree.specs.Agendas.{bounds_of}
use Rattle.case_tree.proofs.tests.ThreeAgenda.weight.Goals as goal

pub returns-in-1 : goal.returns-in-1
returns-in-1 c =
    let long : length (bounds_of c.args.self.now.lowers.items) ≡ length c.args.self.now.lowers.items = length-map c.args.self.now.lowers.items (λ b. (b.at, b.count)) in
    rw (c.in-1.is) (omega (arith, long, c.len.ensures))

pub returns-in-2 : goal.returns-in-2
returns-in-2 c =
    let long : length (bounds_of c.args.self.now.uppers.items) ≡ length c.args.self.now.uppers.items = length-map c.args.self.now.uppers.items (λ b. (b.at, b.count)) in
    rw (c.in-2.is) (omega (arith, long, c.len-in-2.ensures))
