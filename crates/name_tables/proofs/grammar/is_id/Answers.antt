use Rattle.std.proofs.Common.{not, sym, ap, ◌∙◌}
use Rattle.name_tables.proofs.IdTexts.{id-ascii}
use Rattle.name_tables.proofs.grammar.is_id.Goals as goal

pub returns-then-are_ascii_id_bytes : goal.returns-then-are_ascii_id_bytes
returns-then-are_ascii_id_bytes c =
    ap not c.is_empty.ensures ∙ id-ascii c.args.bytes.now (sym c.are_ascii_id_bytes.ensures ∙ c.if-are_ascii_id_bytes.true)
