use Rattle.name_tables.proofs.Numbers.{decimal-read_back, signed_decimal-read_back}
use Rattle.name_tables.proofs.grammar.decimal_is_read_back.Goals as goal

pub returns-clause-signed : goal.returns-clause-signed
returns-clause-signed c = signed_decimal-read_back

pub returns-clause-unsigned : goal.returns-clause-unsigned
returns-clause-unsigned c = decimal-read_back
