-- The types of terms and guards, by a table of rules for the symmetric nets of ISO/IEC 15909-2. The rules and their order are
-- this project's own.
use Rattle.std.specs.Prelude.{◌≡◌, ℕ, suc, ◌+◌, Bool, true, false, not, ◌&&◌, ◌||◌, nat_eq, List, [], ◌∷◌, map, ℤ, int_le, Option, None, Some, Result, Ok, Err, position, if◌then◌else◌, slice_index_or, sum_by}
use Rattle.std.specs.List.{list_all, list_any}
use Rattle.std.specs.Str.{bytes_eq}
use Rattle.colour_sorts.specs.declared.rules.Rule.{Rule}
use Rattle.colour_sorts.specs.declared.rules.Rule.TheVariants as rule
use Rattle.net_model.specs.declared.sorts.Span.{Span}
use Rattle.net_model.specs.declared.sorts.SortTerm.{SortTerm}
use Rattle.net_model.specs.declared.sorts.SortTerm.TheVariants as written
use Rattle.colour_sorts.specs.declared.sorts.Sort.{Sort, out-Sort, roll-Sort}
use Rattle.colour_sorts.specs.declared.sorts.Sort.TheOpen as layer
use Rattle.colour_sorts.specs.declared.sorts.Sort.TheVariants as sort
use Rattle.colour_sorts.specs.Comparing.{is_same_sort}
use Rattle.colour_sorts.specs.Limits.{passes_limit}
use Rattle.net_model.specs.Ids.{constants_of}
use Rattle.colour_sorts.specs.Naming.{broken_rule, sort_of, term_at}
use Rattle.multiset_terms.specs.declared.kinds.Kind.{Kind}
use Rattle.multiset_terms.specs.declared.kinds.Kind.TheVariants.{Colour, Every, Multiset, Block}
use Rattle.net_model.specs.declared.terms.Order.{Order}
use Rattle.net_model.specs.declared.terms.Order.TheVariants as order
use Rattle.net_model.specs.declared.terms.Term.{Term, fold-Term}
use Rattle.net_model.specs.declared.terms.Term.TheOpen.{Term-F, Variable, Operator, Dot, Number, Successor, Predecessor, Tuple, All, Empty, NumberOf, Scalar, Add, Subtract, BlockOf}
use Rattle.net_model.specs.declared.terms.Guard.{Guard, fold-Guard}
use Rattle.net_model.specs.declared.terms.Guard.TheOpen as guard
use Rattle.multiset_terms.specs.Context.{Context}

-- whether the colours of a sort have an order, and whether it is a cyclic enumeration
abbrev pub has_order_layer : {A : Type 0} → layer.Sort-F A → Bool
has_order_layer layer.Dot = false
has_order_layer (layer.Product _) = false
has_order_layer _ = true

abbrev pub has_order : Sort → Bool
has_order s = has_order_layer (out-Sort s)

abbrev pub is_cyclic_layer : {A : Type 0} → layer.Sort-F A → Bool
is_cyclic_layer (layer.Cyclic _) = true
is_cyclic_layer _ = false

abbrev pub is_cyclic : Sort → Bool
is_cyclic s = is_cyclic_layer (out-Sort s)

-- the number of a node and the rule that it breaks
abbrev pub Broken : Type 0
Broken = ℕ × Rule

-- what is found of a term or guard: how many nodes it has, and what it is or its first broken node
pub record Judged (A : Type 0) : Type 0 where
  pub nodes : ℕ
  pub verdict : Result A Broken

abbrev pub at_root : {A : Type 0} → Result A Rule → Result A Broken
at_root (Ok found) = Ok found
at_root (Err broken) = Err (0, broken)

-- the first of these verdicts, the node being counted from `at`, in front of the others
abbrev pub in_front : {A : Type 0} → ℕ → Result A Broken → Result (List A) Broken → Result (List A) Broken
in_front at (Err (number, broken)) others = Err (at + number, broken)
in_front at (Ok found) (Err broken) = Err broken
in_front at (Ok found) (Ok others) = Ok (found ∷ others)

-- what the children of a node are, the first one being counted from `at`
abbrev pub children : {A : Type 0} → ℕ → List (Judged A) → Result (List A) Broken
children at [] = Ok []
children at (c ∷ cs) = in_front at c.verdict (children (at + c.nodes) cs)

-- a node is looked at where its children have types
abbrev pub looked_at : {A B : Type 0} → (List A → Result B Rule) → Result (List A) Broken → Result B Broken
looked_at judge (Ok found) = at_root (judge found)
looked_at judge (Err broken) = Err broken

abbrev pub leaf : {A : Type 0} → Result A Rule → Judged A
leaf found = record { nodes = 1; verdict = at_root found }

abbrev pub node : {A B : Type 0} → (List A → Result B Rule) → List (Judged A) → Judged B
node judge cs = record { nodes = suc (sum_by (λ c. c.nodes) cs); verdict = looked_at judge (children 1 cs) }

-- a fact that is wanted, else the rule
abbrev pub unless_broken : {A : Type 0} → Option Rule → Result A Rule → Result A Rule
unless_broken None found = found
unless_broken (Some broken) found = Err broken

abbrev pub wants : {A : Type 0} → Bool → Rule → Result A Rule → Result A Rule
wants test broken found = if test then found else Err broken

-- by the place that is found
abbrev pub at_place : {A : Type 0} → A → (ℕ → A) → Option ℕ → A
at_place missing found None = missing
at_place missing found (Some at) = found at

abbrev pub is_colour : Kind → Bool
is_colour (Colour _) = true
is_colour _ = false

abbrev pub is_choice : Kind → Bool
is_choice (Colour _) = true
is_choice (Every _) = true
is_choice _ = false

abbrev pub is_block : Kind → Bool
is_block (Block _) = true
is_block _ = false

-- the sort of what is no block
abbrev pub sort_of_kind : Kind → Sort
sort_of_kind (Colour s) = s
sort_of_kind (Every s) = s
sort_of_kind (Multiset s) = s
sort_of_kind (Block _) = sort.Dot

-- whether what is no block stands over a sort
abbrev pub stands_over : Sort → Kind → Bool
stands_over s (Block _) = false
stands_over s (Colour other) = is_same_sort s other
stands_over s (Every other) = is_same_sort s other
stands_over s (Multiset other) = is_same_sort s other

-- whether two kinds stand over the same sort, or are blocks of the same partition
abbrev pub is_alike : Kind → Kind → Bool
is_alike (Block p) (Block q) = nat_eq p q
is_alike (Block _) _ = false
is_alike (Colour s) other = stands_over s other
is_alike (Every s) other = stands_over s other
is_alike (Multiset s) other = stands_over s other

-- the enumeration that declares a constant, and the partition that has an element
abbrev pub constant_place : Context → List ℕ → Option ℕ
constant_place ctx id = position (λ constants. list_any (bytes_eq id) constants) (constants_of ctx.sorts)

abbrev pub element_place : Context → List ℕ → Option ℕ
element_place ctx id = position (λ p. list_any (λ element. bytes_eq id element.id) p.elements) ctx.partitions

abbrev pub partition_place : Context → List ℕ → Option ℕ
partition_place ctx id = position (λ p. bytes_eq id p.id) ctx.partitions

abbrev pub sort_at : Context → ℕ → Sort
sort_at ctx at = sort_of ctx.sorts at (term_at ctx.sorts at)

abbrev pub sort_named : Context → SortTerm → Sort
sort_named ctx written = sort_of ctx.sorts 0 written

abbrev pub partition_sort : Context → ℕ → Sort
partition_sort ctx at = slice_index_or (map (λ p. sort_named ctx p.sort) ctx.partitions) at sort.Dot

abbrev pub variable_sort : Context → ℕ → Sort
variable_sort ctx at = slice_index_or ctx.variables.sorts at sort.Dot

-- the rules of each node
abbrev pub variable_kind : Context → Bool → List ℕ → Result Kind Rule
variable_kind ctx marking id =
    if marking then Err rule.VariableInMarking
    else at_place (Err rule.UnknownVariable) (λ at. Ok (Colour (variable_sort ctx at))) (position (bytes_eq id) ctx.variables.ids)

abbrev pub operator_kind : Context → List ℕ → Result Kind Rule
operator_kind ctx id =
    at_place (at_place (Err rule.UnknownOperator) (λ at. Ok (Block at)) (element_place ctx id)) (λ at. Ok (Colour (sort_at ctx at))) (constant_place ctx id)

abbrev pub number_kind : Context → ℤ → Span → Result Kind Rule
number_kind ctx value span =
    unless_broken (broken_rule ctx.sorts 0 (written.Range span))
    (wants (int_le span.first value && int_le value span.last) rule.RangeConstant (Ok (Colour (sort.Range span))))

abbrev pub step_kind : List Kind → Result Kind Rule
step_kind (Colour s ∷ []) = wants (is_cyclic s) rule.NotCyclic (Ok (Colour s))
step_kind _ = Err rule.NotCyclic

abbrev pub product_of : List Kind → Sort
product_of kinds = roll-Sort (layer.Product (map sort_of_kind kinds))

abbrev pub tuple_kind : Context → List Kind → Result Kind Rule
tuple_kind ctx kinds =
    wants (list_all is_choice kinds) rule.NotAColour
    (wants (not (passes_limit (constants_of ctx.sorts) (product_of kinds))) rule.DomainLimit
    (Ok (if list_all is_colour kinds then Colour (product_of kinds) else Multiset (product_of kinds))))

abbrev pub every_kind : Context → SortTerm → Result Kind Rule
every_kind ctx written = unless_broken (broken_rule ctx.sorts 0 written) (Ok (Every (sort_named ctx written)))

abbrev pub empty_kind : Context → SortTerm → Result Kind Rule
empty_kind ctx written = unless_broken (broken_rule ctx.sorts 0 written) (Ok (Multiset (sort_named ctx written)))

-- a sum, a difference or a multiple: multisets over the sort of the first
abbrev pub sum_kind : List Kind → Result Kind Rule
sum_kind [] = Err rule.NotAMultiset
sum_kind (first ∷ others) =
    wants (list_all (λ k. not (is_block k)) (first ∷ others)) rule.NotAMultiset
    (wants (list_all (λ k. is_same_sort (sort_of_kind first) (sort_of_kind k)) others) rule.SortsDiffer
    (Ok (Multiset (sort_of_kind first))))

abbrev pub block_kind_at : Context → ℕ → List Kind → Result Kind Rule
block_kind_at ctx at (Colour s ∷ []) = wants (is_same_sort s (partition_sort ctx at)) rule.SortsDiffer (Ok (Block at))
block_kind_at ctx at _ = Err rule.NotAColour

abbrev pub block_kind : Context → List ℕ → List Kind → Result Kind Rule
block_kind ctx id kinds = at_place (Err rule.UnknownPartition) (λ at. block_kind_at ctx at kinds) (partition_place ctx id)

abbrev pub judged_part : Context → Bool → Term-F (Judged Kind) → Judged Kind
judged_part ctx marking (Variable id) = leaf (variable_kind ctx marking id)
judged_part ctx marking (Operator id) = leaf (operator_kind ctx id)
judged_part ctx marking Dot = leaf (Ok (Colour sort.Dot))
judged_part ctx marking (Number value span) = leaf (number_kind ctx value span)
judged_part ctx marking (Successor c) = node step_kind (c ∷ [])
judged_part ctx marking (Predecessor c) = node step_kind (c ∷ [])
judged_part ctx marking (Tuple cs) = node (tuple_kind ctx) cs
judged_part ctx marking (All written) = leaf (every_kind ctx written)
judged_part ctx marking (Empty written) = leaf (empty_kind ctx written)
judged_part ctx marking (NumberOf number c) = node sum_kind (c ∷ [])
judged_part ctx marking (Scalar number c) = node sum_kind (c ∷ [])
judged_part ctx marking (Add cs) = node sum_kind cs
judged_part ctx marking (Subtract whole part) = node sum_kind (whole ∷ part ∷ [])
judged_part ctx marking (BlockOf id c) = node (block_kind ctx id) (c ∷ [])

-- what a term is, where `marking` tells that it stands in an initial marking, or its first broken node
abbrev pub judged : Context → Bool → Term → Judged Kind
judged ctx marking t = fold-Term (Judged Kind) (judged_part ctx marking) t

abbrev pub type_of : Context → Bool → Term → Result Kind Broken
type_of ctx marking t = (judged ctx marking t).verdict

-- the rules of comparisons: any two colours or blocks can be the same, and colours of some sorts have an order
abbrev pub can_be_same : List Kind → Result (Unit {0}) Rule
can_be_same (a ∷ b ∷ []) =
    wants ((is_colour a || is_block a) && (is_colour b || is_block b)) rule.NotAColour
    (wants (is_alike a b) rule.SortsDiffer (Ok tt))
can_be_same _ = Err rule.NotAColour

abbrev pub can_be_ordered : List Kind → Result (Unit {0}) Rule
can_be_ordered (a ∷ b ∷ []) =
    wants (is_colour a && is_colour b) rule.NotAColour
    (wants (is_alike a b) rule.SortsDiffer
    (wants (has_order (sort_of_kind a)) rule.NoOrder (Ok tt)))
can_be_ordered _ = Err rule.NotAColour

abbrev pub can_be_compared : Order → List Kind → Result (Unit {0}) Rule
can_be_compared order.Equal kinds = can_be_same kinds
can_be_compared order.Unequal kinds = can_be_same kinds
can_be_compared _ kinds = can_be_ordered kinds

abbrev pub guard_part : Context → guard.Guard-F (Judged (Unit {0})) → Judged (Unit {0})
guard_part ctx (guard.Constant _) = leaf (Ok tt)
guard_part ctx (guard.And cs) = node (λ _. Ok tt) cs
guard_part ctx (guard.Or cs) = node (λ _. Ok tt) cs
guard_part ctx (guard.Not c) = node (λ _. Ok tt) (c ∷ [])
guard_part ctx (guard.Imply a b) = node (λ _. Ok tt) (a ∷ b ∷ [])
guard_part ctx (guard.Compare by a b) = node (can_be_compared by) (judged ctx false a ∷ judged ctx false b ∷ [])

abbrev pub judged_guard : Context → Guard → Judged (Unit {0})
judged_guard ctx g = fold-Guard (Judged (Unit {0})) (guard_part ctx) g

abbrev pub type_of_guard : Context → Guard → Result (Unit {0}) Broken
type_of_guard ctx g = (judged_guard ctx g).verdict

-- a multiset over a sort, of which a colour is one: what it is, or the rule that it breaks
abbrev pub over_kind : Sort → Kind → Result Kind Rule
over_kind s k = wants (not (is_block k)) rule.NotAMultiset (wants (stands_over s k) rule.SortsDiffer (Ok k))

abbrev pub over : Sort → Result Kind Broken → Result Kind Broken
over s (Ok k) = at_root (over_kind s k)
over s (Err broken) = Err broken

-- what a term is that has to stand over a sort, or its first broken node; the term itself breaks a rule where it stands elsewhere
abbrev pub type_over : Context → Bool → Sort → Term → Result Kind Broken
type_over ctx marking s t = over s (type_of ctx marking t)

-- the rule by which a kind is refused, or the kind that is taken
abbrev pub IsOverRule : Result Kind Rule → Kind → Option Rule → Type 0
IsOverRule found k None = found ≡ Ok k
IsOverRule found k (Some broken) = found ≡ Err broken
