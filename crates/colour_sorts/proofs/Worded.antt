-- The words of the rules stand in the table.
use Rattle.std.proofs.Common.{◌≡◌, true, refl}
use Rattle.std.specs.List.{list_any}
use Rattle.std.specs.Str.{bytes_eq}
use Rattle.name_tables.specs.Tables.{words_of_rules}
use Rattle.colour_sorts.specs.declared.rules.Rule.{Rule}
use Rattle.colour_sorts.specs.declared.rules.Rule.TheVariants as rule
use Rattle.colour_sorts.specs.Words.{word_of}

pub listed : (r : Rule) → list_any (bytes_eq (word_of r)) words_of_rules ≡ true
unfolding words_of_rules
listed rule.UnknownSort = refl
listed rule.SortCircle = refl
listed rule.RangeUpsideDown = refl
listed rule.EmptySort = refl
listed rule.EmptyProduct = refl
listed rule.DomainLimit = refl
listed rule.PartitionSort = refl
listed rule.PartitionMember = refl
listed rule.PartitionCover = refl
listed rule.VariableInMarking = refl
listed rule.UnknownVariable = refl
listed rule.UnknownOperator = refl
listed rule.RangeConstant = refl
listed rule.NotCyclic = refl
listed rule.NotAColour = refl
listed rule.NotAMultiset = refl
listed rule.SortsDiffer = refl
listed rule.UnknownPartition = refl
listed rule.NoOrder = refl
listed rule.UnknownNode = refl
listed rule.ReferenceCircle = refl
listed rule.ReferenceKind = refl
listed rule.SameSide = refl
listed rule.NoInscription = refl
