use Rattle.std.proofs.Common.{sym, ◌∙◌}
use Rattle.doc_tree.proofs.Classes.{character_bound}
use Rattle.doc_tree.proofs.stepping.digits.Goals as goal

pub numbered-requires : goal.numbered-requires
numbered-requires c = character_bound c.args.number (sym c.is_character_number.ensures ∙ c.if-is_character_number.true)
