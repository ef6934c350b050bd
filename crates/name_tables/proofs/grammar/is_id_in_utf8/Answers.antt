use Rattle.std.proofs.Common.{sym, ◌∙◌, ap, not}
use Rattle.std.specs.Str.{chars}
use Rattle.std.specs.List.{list_all}
use Rattle.name_tables.specs.Grammar.{is_id_character}
use Rattle.name_tables.proofs.IdTexts.{id-valid, id-empty, id-invalid}
use Rattle.name_tables.proofs.grammar.is_id_in_utf8.Goals as goal

pub returns-then-not-is_empty : goal.returns-then-not-is_empty
returns-then-not-is_empty c =
    c.are_id_chars.ensures
    ∙ ap (λ text. list_all is_id_character (chars text)) c.in-Ok.ensures.cases.0
    ∙ id-valid c.args.bytes.now c.in-Ok.ensures.cases.1 (sym c.is_empty.ensures ∙ c.if-not-is_empty.true)

pub returns-else-not-is_empty : goal.returns-else-not-is_empty
returns-else-not-is_empty c =
    ap not c.if-not-is_empty.false ∙ id-empty c.args.bytes.now (sym c.is_empty.ensures ∙ c.if-not-is_empty.false)

pub returns-in-Err : goal.returns-in-Err
returns-in-Err c = id-invalid c.args.bytes.now c.in-Err.ensures.cases.0
