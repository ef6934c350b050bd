-- The rules of declarations, places, transitions and arcs, in the order in which they are looked for, which is this project's own (the
-- rules are those of the symmetric nets of ISO/IEC 15909-2). Names, written sorts and written terms are read as they stand in the net.
use Rattle.std.specs.Prelude.{◌≡◌, ℕ, ◌^◌, ◌-◌, nat_lt, Bool, true, false, not, List, [], ◌∷◌, Option, None, Some, Result, Ok, Err, if◌then◌else◌}
use Rattle.colour_sorts.specs.declared.rules.ResolveFault.{ResolveFault}
use Rattle.colour_sorts.specs.declared.rules.ResolveFault.TheVariants as refusal
use Rattle.colour_sorts.specs.declared.rules.Rule.{Rule}
use Rattle.colour_sorts.specs.declared.rules.Rule.TheVariants as rule
use Rattle.colour_sorts.specs.declared.sorts.Sort.{Sort}
use Rattle.colour_sorts.specs.declared.sorts.Sort.TheVariants as sort
use Rattle.colour_sorts.specs.Domain.{Fault, first_fault}
use Rattle.colour_sorts.specs.Naming.{broken_rule}
use Rattle.net_model.specs.declared.nets.Label.{Label}
use Rattle.net_model.specs.declared.nets.Label.TheVariants.{Absent, Count, Multiset}
use Rattle.net_model.specs.declared.nets.Net.{Net}
use Rattle.net_model.specs.declared.nets.Place.{Place}
use Rattle.net_model.specs.declared.nets.Transition.{Transition}
use Rattle.net_model.specs.declared.nets.VariableDecl.{VariableDecl}
use Rattle.net_model.specs.declared.sorts.NamedSort.{NamedSort}
use Rattle.net_model.specs.declared.terms.Guard.{Guard}
use Rattle.multiset_terms.specs.Context.{Context}
use Rattle.multiset_terms.specs.declared.kinds.Kind.{Kind}
use Rattle.multiset_terms.specs.declared.kinds.Kind.TheVariants as kind
use Rattle.multiset_terms.specs.Typing.{Broken, at_root, over_kind, sort_named, type_of_guard, type_over}
use Rattle.multiset_terms.specs.Weights.{first_heavy}
use Rattle.net_firing.specs.FileNets.{context_of}
use Rattle.net_typing.specs.declared.faults.NetFault.{NetFault}
use Rattle.net_typing.specs.declared.faults.NetFault.TheVariants as fault
use Rattle.net_typing.specs.declared.faults.Unfit.{Unfit}
use Rattle.net_typing.specs.declared.faults.Unfit.TheVariants as unfit

-- what refuses a net, as far as something does
abbrev pub Refusal : Type 0
Refusal = Option NetFault

abbrev pub ill_typed : List ℕ → Option Rule → Refusal
ill_typed id None = None
ill_typed id (Some broken) = Some (fault.IllTyped id broken)

abbrev pub too_heavy : List ℕ → Bool → Refusal
too_heavy id true = Some (fault.Weight id)
too_heavy id false = None

-- the first of two refusals, and the first of a list
abbrev pub or_else : Refusal → Refusal → Refusal
or_else (Some refused) later = Some refused
or_else None later = later

abbrev pub first_over : {A : Type 0} → (A → Refusal) → List A → Refusal
first_over refusal [] = None
first_over refusal (x ∷ xs) = or_else (refusal x) (first_over refusal xs)

-- what is answered where something is refused: that, but for want of memory
abbrev pub IsRefusal : Refusal → NetFault → Type 0
IsRefusal refused fault.Memory = Unit {0}
IsRefusal refused answer = refused ≡ Some answer

-- why something of an id is refused, without the id
abbrev pub IsUnfit : List ℕ → Refusal → Unfit → Type 0
IsUnfit id refused (unfit.Broken broken) = refused ≡ Some (fault.IllTyped id broken)
IsUnfit id refused unfit.Heavy = refused ≡ Some (fault.Weight id)
IsUnfit id refused unfit.Memory = Unit {0}

-- the same of what has a sort that is refused
abbrev pub unfit_sort : ResolveFault → Unfit
unfit_sort (refusal.Bad broken) = unfit.Broken broken
unfit_sort refusal.Memory = unfit.Memory

-- declarations: the first sort, then the first partition, then the first variable that breaks a rule
abbrev pub told : Option Fault → Refusal
told None = None
told (Some (id, broken)) = Some (fault.IllTyped id broken)

abbrev pub variable_refusal : List NamedSort → VariableDecl → Refusal
variable_refusal sorts v = ill_typed v.id (broken_rule sorts 0 v.sort)

abbrev pub declaration_refusal : Net → Refusal
declaration_refusal net = or_else (told (first_fault net.sorts net.partitions)) (first_over (variable_refusal net.sorts) net.variables)

-- the rule that a marking or an inscription breaks over the sort of its place; a number is one of dots
abbrev pub rule_told : Result Kind Broken → Option Rule
rule_told (Ok k) = None
rule_told (Err (at, broken)) = Some broken

abbrev pub label_rule : Context → Bool → Sort → Label → Option Rule
label_rule ctx marking s Absent = None
label_rule ctx marking s (Count number) = rule_told (at_root (over_kind s (kind.Multiset sort.Dot)))
label_rule ctx marking s (Multiset t) = rule_told (type_over ctx marking s t)

-- whether a node of it stands for more than 2^63 - 1 elements
abbrev pub is_there : Option ℕ → Bool
is_there None = false
is_there (Some at) = true

abbrev pub is_heavy : Context → Label → Bool
is_heavy ctx Absent = false
is_heavy ctx (Count number) = nat_lt (2 ^ 63 - 1) number
is_heavy ctx (Multiset t) = is_there (first_heavy ctx t)

-- a place: its sort, the type of its marking, then its weight
abbrev pub place_refusal : Context → Place → Refusal
place_refusal ctx p =
    or_else (ill_typed p.id (broken_rule ctx.sorts 0 p.sort))
    (or_else (ill_typed p.id (label_rule ctx true (sort_named ctx p.sort) p.marking))
    (too_heavy p.id (is_heavy ctx p.marking)))

-- a transition: its guard
abbrev pub guard_type_rule : Result (Unit {0}) Broken → Option Rule
guard_type_rule (Ok it) = None
guard_type_rule (Err (at, broken)) = Some broken

abbrev pub guard_rule : Context → Option Guard → Option Rule
guard_rule ctx None = None
guard_rule ctx (Some g) = guard_type_rule (type_of_guard ctx g)

abbrev pub transition_refusal : Context → Transition → Refusal
transition_refusal ctx t = ill_typed t.id (guard_rule ctx t.guard)
