use Rattle.std.proofs.Common.{rules, ◌++◌, flat_map}
use Rattle.std.proofs.lemmas.List.{append_assoc}
use Rattle.cert_lines.specs.Order.{fact_lines, section_lines}
use Rattle.cert_lines.specs.Texts.{line_text}
use Rattle.cert_lines.proofs.Flat.{facts_first}
use Rattle.cert_lines.proofs.texts.write_facts_first.Goals as goal

pub returns : goal.returns
returns c =
    let sections = c.args.sections.now in
    let facts = flat_map (λ fact. flat_map line_text (fact_lines fact)) c.args.facts.now in
    rw (facts_first c.args.facts.now sections)
    (search (rules, append_assoc c.args.text.now facts (flat_map (λ section. flat_map line_text (section_lines section)) sections)))
