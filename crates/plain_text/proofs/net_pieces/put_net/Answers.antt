use Rattle.std.proofs.Common.{sym, ap, ◌++◌, ◌∙◌}
use Rattle.doc_model.specs.Texts.{first_line}
use Rattle.plain_text.proofs.NetTrees.{net_text-parts}
use Rattle.plain_text.proofs.Pieces.{three}
use Rattle.plain_text.proofs.net_pieces.put_net.Goals as goal

pub returns : goal.returns
unfolding first_line
returns c =
    three _ _ _ _ c.in_ok-put.ensures c.in_ok-put_net_element.ensures c.in_ok-put-2.ensures
    ∙ ap (λ text. c.args.comparison.now ++ text) (sym (net_text-parts c.args.net.now))
