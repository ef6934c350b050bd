use Rattle.std.proofs.Common.{rules, ◌∷◌, [], flat_map}
use Rattle.std.specs.Prelude.{codes}
use Rattle.line_words.specs.Texts.{ended}
use Rattle.std.proofs.lemmas.List.{append_assoc}
use Rattle.std.proofs.lemmas.List.Folds.{flat_map-map}
use Rattle.cert_lines.specs.Order.{node_line}
use Rattle.cert_lines.specs.Texts.{line_text}
use Rattle.cert_lines.proofs.texts.write_tree.Goals as goal

pub returns : goal.returns
returns c =
    let text = c.args.text.now in
    let nodes = flat_map (λ node. line_text (node_line node)) c.args.section.now.tree in
    rw (flat_map-map line_text node_line c.args.section.now.tree)
    (search (rules, append_assoc text (codes "proof") (10 ∷ []), append_assoc text (ended (codes "proof")) nodes))
