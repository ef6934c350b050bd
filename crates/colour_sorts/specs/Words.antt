-- The words by which refusals name the rules.
use Rattle.std.specs.Prelude.{ℕ, List, codes}
use Rattle.colour_sorts.specs.declared.rules.Rule.{Rule}
use Rattle.colour_sorts.specs.declared.rules.Rule.TheVariants as rule

abbrev pub word_of : Rule → List ℕ
word_of rule.UnknownSort = codes "unknown-sort"
word_of rule.SortCircle = codes "sort-circle"
word_of rule.RangeUpsideDown = codes "range-upside-down"
word_of rule.EmptySort = codes "empty-sort"
word_of rule.EmptyProduct = codes "empty-product"
word_of rule.DomainLimit = codes "domain-limit"
word_of rule.PartitionSort = codes "partition-sort"
word_of rule.PartitionMember = codes "partition-member"
word_of rule.PartitionCover = codes "partition-cover"
word_of rule.VariableInMarking = codes "variable-in-marking"
word_of rule.UnknownVariable = codes "unknown-variable"
word_of rule.UnknownOperator = codes "unknown-operator"
word_of rule.RangeConstant = codes "range-constant"
word_of rule.NotCyclic = codes "not-cyclic"
word_of rule.NotAColour = codes "not-a-colour"
word_of rule.NotAMultiset = codes "not-a-multiset"
word_of rule.SortsDiffer = codes "sorts-differ"
word_of rule.UnknownPartition = codes "unknown-partition"
word_of rule.NoOrder = codes "no-order"
word_of rule.UnknownNode = codes "unknown-node"
word_of rule.ReferenceCircle = codes "reference-circle"
word_of rule.ReferenceKind = codes "reference-kind"
word_of rule.SameSide = codes "same-side"
word_of rule.NoInscription = codes "no-inscription"
