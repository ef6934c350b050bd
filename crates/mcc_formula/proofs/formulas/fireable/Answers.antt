use Rattle.std.proofs.Common.{map, ap, ◌∙◌}
use Rattle.doc_model.specs.declared.tree.Element.{out-Element}
use Rattle.mcc_model.specs.declared.formulas.Formula.TheVariants.{Fireable}
use Rattle.mcc_model.specs.Goals.{node_of}
use Rattle.mcc_formula.specs.Layouts.{nodes_of}
use Rattle.mcc_formula.proofs.Given.{nodes_given}
use Rattle.mcc_formula.proofs.formulas.fireable.Goals as goal

pub returns : goal.returns
returns c =
    let children = c.args.children.now in
    let layout = c.args.layout.now in
    ap Fireable (c.in_ok-nodes_in.ensures ∙ ap (λ names. map (λ e. node_of names (out-Element e).text) children) c.transitions.ensures
    ∙ nodes_given (nodes_of layout) layout.transitions children)
