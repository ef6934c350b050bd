use Rattle.std.proofs.Common.{◌≡◌, drop}
use Rattle.name_tables.specs.Grammar.{magnitude_of}
use Rattle.name_tables.proofs.Numbers.{read_on}
use Rattle.name_tables.proofs.grammar.read_digits.Given as goal

abbrev pub invariant-loop-byte : goal.invariant-loop-byte
invariant-loop-byte l = magnitude_of l.digits ≡ read_on l.value (drop l.byte-index l.digits)
