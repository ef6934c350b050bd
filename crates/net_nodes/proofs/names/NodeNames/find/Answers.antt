use Rattle.std.proofs.Common.{sym, ap, ◌∙◌, ◌-◌, arith}
use Rattle.net_nodes.specs.declared.nodes.Node.TheVariants as node
use Rattle.net_nodes.specs.Nodes.{named_among}
use Rattle.net_nodes.proofs.Named.{is-place, is-reference, is-transition, named-at, named-none}
use Rattle.net_nodes.proofs.names.NodeNames.find.Goals as goal

pub returns-in_default : goal.returns-in_default
returns-in_default c =
    let n = c.self.inside in
    sym (ap (λ ids. named_among ids c.args.id.now) (sym c.self.view_is) ∙ named-none n.places n.transitions n.ids c.args.id.now c.self.invariant (sym c.in_default.ensures))

pub returns-then-at-self : goal.returns-then-at-self
returns-then-at-self c =
    let n = c.self.inside in
    let at = c.in-Some.at in
    sym (ap (λ ids. named_among ids c.args.id.now) (sym c.self.view_is)
    ∙ named-at n.places n.transitions n.ids c.args.id.now at (node.Place at) c.self.invariant (sym c.in-Some.ensures) (is-place n.places n.transitions at c.if-at-self.true))

pub returns-then-at-self-2 : goal.returns-then-at-self-2
returns-then-at-self-2 c =
    let n = c.self.inside in
    let at = c.in-Some.at in
    sym (ap (λ ids. named_among ids c.args.id.now) (sym c.self.view_is)
    ∙ named-at n.places n.transitions n.ids c.args.id.now at (node.Transition (at - n.places)) c.self.invariant (sym c.in-Some.ensures)
    (is-transition n.places n.transitions at (at - n.places) (omega (arith, c.if-at-self.false)) c.if-at-self-2.true))

pub returns : goal.returns
returns c =
    let n = c.self.inside in
    let at = c.in-Some.at in
    sym (ap (λ ids. named_among ids c.args.id.now) (sym c.self.view_is)
    ∙ named-at n.places n.transitions n.ids c.args.id.now at (node.Reference (at - n.places - n.transitions)) c.self.invariant (sym c.in-Some.ensures)
    (is-reference n.places n.transitions at (at - n.places - n.transitions) (omega (arith, c.if-at-self.false, c.if-at-self-2.false))))
