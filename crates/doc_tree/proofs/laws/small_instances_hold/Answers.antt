use Rattle.std.proofs.Common.{refl, codes}
use Rattle.doc_tree.specs.Characters.{is_white, is_ascii, is_text, is_value, is_name_start, is_name_byte, is_lead, is_digit, digit_value, is_character_number, utf8}
use Rattle.doc_tree.specs.Instances.{start_tags}
use Rattle.doc_tree.proofs.Instances.{is_answer, is_spelled}
use Rattle.doc_tree.proofs.laws.small_instances_hold.Goals as goal

pub returns-clause-document : goal.returns-clause-document
unfolding is_white is_ascii is_text is_value is_name_start is_name_byte is_lead
returns-clause-document c = is_spelled (codes "<a b='1'>x<c/></a>") _ refl

pub returns-clause-references : goal.returns-clause-references
unfolding is_white is_ascii is_text is_name_start is_name_byte is_lead is_digit digit_value is_character_number utf8
returns-clause-references c = is_spelled (codes "<a>&lt;&#65;&#x42;</a>") _ refl

pub returns-clause-refusal : goal.returns-clause-refusal
unfolding is_white is_ascii is_text is_name_start is_name_byte is_lead
returns-clause-refusal c = is_answer (codes "<a></b>")

pub returns-clause-depth : goal.returns-clause-depth
unfolding is_white is_ascii is_text is_name_start is_name_byte is_lead
returns-clause-depth c = is_answer (start_tags 257)
