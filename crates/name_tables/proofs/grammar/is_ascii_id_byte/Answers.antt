use Rattle.std.proofs.Common.{◌∙◌, false, sym}
use Rattle.name_tables.proofs.IdTexts.{below_128, id-by_table}
use Rattle.name_tables.proofs.grammar.is_ascii_id_byte.Goals as goal

pub returns-then-is_ascii : goal.returns-then-is_ascii
returns-then-is_ascii c = id-by_table c.args.byte false (below_128 c.args.byte (sym c.is_ascii.ensures ∙ c.if-is_ascii.true))
