use Rattle.std.proofs.Common.{rules, ◌++◌, flat_map}
use Rattle.std.proofs.lemmas.List.{append_assoc}
use Rattle.std.proofs.lemmas.List.Folds.{flat_map-map}
use Rattle.line_words.specs.Texts.{ended}
use Rattle.cert_lines.specs.Order.{claim_of, step_line, steps_of}
use Rattle.cert_lines.specs.Texts.{claim_text, line_text}
use Rattle.cert_lines.proofs.texts.write_fact.Goals as goal

pub returns-in_ok-write_steps : goal.returns-in_ok-write_steps
returns-in_ok-write_steps c =
    let fact = c.args.fact.now in
    rw (flat_map-map line_text step_line (steps_of fact.kind))
    (search (rules, append_assoc c.args.text.now (ended (claim_text fact.name (claim_of fact.kind))) (flat_map (λ step. line_text (step_line step)) (steps_of fact.kind))))
