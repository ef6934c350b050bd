use Rattle.std.proofs.Common.{◌≡◌, List, drop, map, take}
use Rattle.colour_sorts.specs.Domain.{StandsFor}
use Rattle.colour_sorts.specs.Naming.{sort_of}
use Rattle.net_model.specs.declared.sorts.NamedSort.{NamedSort}
use Rattle.net_model.specs.declared.sorts.Partition.{Partition}
use Rattle.multiset_terms.specs.Parts.{AreSized}
use Rattle.net_typing.specs.Rules.{first_over, variable_refusal}
use Rattle.net_typing.proofs.scope.sorts_of.Given as goal

abbrev pub invariant-loop-variable : goal.invariant-loop-variable
invariant-loop-variable l = (sorts : List NamedSort) (partitions : List Partition) → StandsFor l.domains sorts partitions
    → (l.sorts.items ≡ map (λ v. sort_of sorts 0 v.sort) (take l.variable-index l.variables))
    × AreSized l.domains.constants l.sorts.items
    × (first_over (variable_refusal sorts) (drop l.variable-index l.variables) ≡ first_over (variable_refusal sorts) l.variables)
