use Rattle.std.proofs.Common.{rules, ◌++◌, flat_map}
use Rattle.std.proofs.lemmas.List.{append_assoc}
use Rattle.cert_lines.specs.Order.{fact_lines, property_lines, tree_lines}
use Rattle.cert_lines.specs.Texts.{line_text}
use Rattle.cert_lines.proofs.Flat.{property_first}
use Rattle.cert_lines.proofs.texts.write_property_first.Goals as goal

pub returns : goal.returns
returns c =
    let sections = c.args.sections.now in
    let text = c.args.text.now in
    let properties = flat_map (λ section. flat_map line_text (property_lines section)) sections in
    let facts = flat_map (λ fact. flat_map line_text (fact_lines fact)) c.args.facts.now in
    let trees = flat_map (λ section. flat_map line_text (tree_lines section)) sections in
    rw (property_first c.args.facts.now sections)
    (search (rules, append_assoc (text ++ properties) facts trees, append_assoc text properties (facts ++ trees)))
