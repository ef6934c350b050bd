-- The canonical text of a net: the text of a tree of the table's elements. The form is this project's own.
use Rattle.std.specs.Prelude.{ℕ, ℤ, Bool, true, false, ◌==◌, List, [], ◌∷◌, ◌++◌, map, Option, None, Some, codes, if◌then◌else◌}
use Rattle.std.specs.Fmt.{decimal, signed_decimal}
use Rattle.doc_model.specs.declared.tree.Attribute.{Attribute}
use Rattle.doc_model.specs.declared.tree.Element.{Element}
use Rattle.doc_model.specs.Trees.{attribute, element}
use Rattle.doc_model.specs.Texts.{document_text}
use Rattle.net_model.specs.declared.sorts.Span.{Span}
use Rattle.net_model.specs.declared.sorts.SortTerm.{SortTerm, fold-SortTerm}
use Rattle.net_model.specs.declared.sorts.SortTerm.TheOpen as sort
use Rattle.net_model.specs.declared.sorts.NamedSort.{NamedSort}
use Rattle.net_model.specs.declared.sorts.Member.{Member}
use Rattle.net_model.specs.declared.sorts.Member.TheVariants as member
use Rattle.net_model.specs.declared.sorts.Block.{Block}
use Rattle.net_model.specs.declared.sorts.Partition.{Partition}
use Rattle.net_model.specs.declared.terms.Order.{Order}
use Rattle.net_model.specs.declared.terms.Order.TheVariants as order
use Rattle.net_model.specs.declared.terms.Term.{Term, fold-Term}
use Rattle.net_model.specs.declared.terms.Term.TheOpen as term
use Rattle.net_model.specs.declared.terms.Guard.{Guard, fold-Guard}
use Rattle.net_model.specs.declared.terms.Guard.TheOpen as guard
use Rattle.net_model.specs.declared.kinds.Kind.{Kind}
use Rattle.net_model.specs.declared.kinds.Kind.TheVariants.{Pt, Symmetric}
use Rattle.net_elements.specs.declared.roles.Role.{Role}
use Rattle.net_elements.specs.declared.roles.Role.TheVariants as role
use Rattle.net_elements.specs.Table.{word_of}
use Rattle.net_model.specs.declared.nets.Label.{Label}
use Rattle.net_model.specs.declared.nets.Label.TheVariants as label
use Rattle.net_model.specs.declared.nets.Place.{Place}
use Rattle.net_model.specs.declared.nets.Transition.{Transition}
use Rattle.net_model.specs.declared.nets.Arc.{Arc}
use Rattle.net_model.specs.declared.nets.RefKind.{RefKind}
use Rattle.net_model.specs.declared.nets.RefKind.TheVariants as stands_for
use Rattle.net_model.specs.declared.nets.Reference.{Reference}
use Rattle.net_model.specs.declared.nets.VariableDecl.{VariableDecl}
use Rattle.net_model.specs.declared.nets.Net.{Net}

-- an element with attributes and children, one with children alone, one with attributes alone, and one with neither
abbrev pub branch : Role → List Attribute → List Element → Element
branch r attributes children = element (word_of r) attributes children []

abbrev pub holder : Role → List Element → Element
holder r children = branch r [] children

abbrev pub leaf_with : Role → List Attribute → Element
leaf_with r attributes = branch r attributes []

abbrev pub bare : Role → Element
bare r = branch r [] []

abbrev pub attribute_id : List ℕ → Attribute
attribute_id id = attribute (codes "id") id

-- what is declared has its id as its name too
abbrev pub declared_id : List ℕ → List Attribute
declared_id id = attribute_id id ∷ attribute (codes "name") id ∷ []

-- Sorts.

abbrev pub range_tree : Span → Element
range_tree span =
    leaf_with role.FiniteIntRange (attribute (codes "start") (signed_decimal span.first) ∷ attribute (codes "end") (signed_decimal span.last) ∷ [])

abbrev pub constant_tree : List ℕ → Element
constant_tree id = leaf_with role.FeConstant (declared_id id)

abbrev pub sort_by_parts : sort.SortTerm-F Element → Element
sort_by_parts sort.Dot = bare role.Dot
sort_by_parts (sort.Named id) = leaf_with role.UserSort (attribute (codes "declaration") id ∷ [])
sort_by_parts (sort.Product parts) = holder role.ProductSort parts
sort_by_parts (sort.Range span) = range_tree span
sort_by_parts (sort.Listed ids) = holder role.FiniteEnumeration (map constant_tree ids)
sort_by_parts (sort.Cyclic ids) = holder role.CyclicEnumeration (map constant_tree ids)

abbrev pub sort_tree : SortTerm → Element
sort_tree s = fold-SortTerm Element sort_by_parts s

-- Terms.

abbrev pub part : Element → Element
part tree = holder role.TermSubterm (tree ∷ [])

abbrev pub number_tree : ℕ → Element
number_tree n =
    holder role.NumberSubterm (branch role.NumberConstant (attribute (codes "value") (decimal n) ∷ []) (bare role.Natural ∷ []) ∷ [])

abbrev pub range_constant_tree : ℤ → Span → Element
range_constant_tree value span =
    branch role.FiniteIntRangeConstant (attribute (codes "value") (signed_decimal value) ∷ []) (range_tree span ∷ [])

abbrev pub operator_tree : List ℕ → Element
operator_tree id = leaf_with role.UserOperator (attribute (codes "declaration") id ∷ [])

abbrev pub term_by_parts : term.Term-F Element → Element
term_by_parts (term.Variable id) = leaf_with role.Variable (attribute (codes "refvariable") id ∷ [])
term_by_parts (term.Operator id) = operator_tree id
term_by_parts term.Dot = bare role.DotConstant
term_by_parts (term.Number value span) = range_constant_tree value span
term_by_parts (term.Successor t) = holder role.Successor (part t ∷ [])
term_by_parts (term.Predecessor t) = holder role.Predecessor (part t ∷ [])
term_by_parts (term.Tuple ts) = holder role.Tuple (map part ts)
term_by_parts (term.All s) = holder role.All (sort_tree s ∷ [])
term_by_parts (term.Empty s) = holder role.Empty (sort_tree s ∷ [])
term_by_parts (term.NumberOf n t) = holder role.NumberOf (number_tree n ∷ part t ∷ [])
term_by_parts (term.Scalar n t) = holder role.ScalarProduct (number_tree n ∷ part t ∷ [])
term_by_parts (term.Add ts) = holder role.Add (map part ts)
term_by_parts (term.Subtract s t) = holder role.Subtract (part s ∷ part t ∷ [])
term_by_parts (term.BlockOf id t) = branch role.PartitionElementOf (attribute (codes "refpartition") id ∷ []) (part t ∷ [])

abbrev pub term_tree : Term → Element
term_tree t = fold-Term Element term_by_parts t

-- Guards.

abbrev pub guard_part_tree : Element → Element
guard_part_tree tree = holder role.GuardSubterm (tree ∷ [])

abbrev pub order_role : Order → Role
order_role order.Equal = role.Equality
order_role order.Unequal = role.Inequality
order_role order.Less = role.LessThan
order_role order.LessEqual = role.LessThanOrEqual
order_role order.Greater = role.GreaterThan
order_role order.GreaterEqual = role.GreaterThanOrEqual

abbrev pub truth_text : Bool → List ℕ
truth_text true = codes "true"
truth_text false = codes "false"

abbrev pub guard_by_parts : guard.Guard-F Element → Element
guard_by_parts (guard.Constant b) = leaf_with role.BooleanConstant (attribute (codes "value") (truth_text b) ∷ [])
guard_by_parts (guard.And gs) = holder role.And (map guard_part_tree gs)
guard_by_parts (guard.Or gs) = holder role.Or (map guard_part_tree gs)
guard_by_parts (guard.Not g) = holder role.Not (guard_part_tree g ∷ [])
guard_by_parts (guard.Imply g h) = holder role.Imply (guard_part_tree g ∷ guard_part_tree h ∷ [])
guard_by_parts (guard.Compare o s t) = holder (order_role o) (part (term_tree s) ∷ part (term_tree t) ∷ [])

abbrev pub guard_tree : Guard → Element
guard_tree g = fold-Guard Element guard_by_parts g

-- Labels.

abbrev pub text_label : Role → ℕ → Element
text_label r n = holder r (element (word_of role.Text) [] [] (decimal n) ∷ [])

abbrev pub term_label : Role → Term → Element
term_label r t = holder r (holder role.TermStructure (term_tree t ∷ []) ∷ [])

-- a number that isn't the one that is meant where nothing stands
abbrev pub unless_usual : ℕ → Role → ℕ → List Element
unless_usual usual r n = if n == usual then [] else text_label r n ∷ []

abbrev pub label_trees : ℕ → Role → Role → Label → List Element
label_trees usual plain coloured label.Absent = []
label_trees usual plain coloured (label.Count n) = unless_usual usual plain n
label_trees usual plain coloured (label.Multiset t) = term_label coloured t ∷ []

-- Declarations.

abbrev pub named_sort_tree : NamedSort → Element
named_sort_tree s = branch role.NamedSort (declared_id s.id) (sort_tree s.sort ∷ [])

abbrev pub member_tree : Member → Element
member_tree (member.Constant id) = operator_tree id
member_tree (member.Number value span) = range_constant_tree value span
member_tree member.Dot = bare role.DotConstant

abbrev pub block_tree : Block → Element
block_tree b = branch role.PartitionElement (declared_id b.id) (map member_tree b.members)

abbrev pub partition_tree : Partition → Element
partition_tree p = branch role.Partition (declared_id p.id) (sort_tree p.sort ∷ map block_tree p.elements)

abbrev pub variable_tree : VariableDecl → Element
variable_tree v = branch role.VariableDecl (declared_id v.id) (sort_tree v.sort ∷ [])

-- a label with all declarations, where there is one
abbrev pub declaration_trees : List Element → List Element
declaration_trees [] = []
declaration_trees (tree ∷ trees) =
    holder role.Declaration (holder role.DeclarationStructure (holder role.Declarations (tree ∷ trees) ∷ []) ∷ []) ∷ []

-- Nodes.

abbrev pub type_trees : Kind → SortTerm → List Element
type_trees Pt s = []
type_trees Symmetric s = holder role.PlaceType (holder role.SortStructure (sort_tree s ∷ []) ∷ []) ∷ []

abbrev pub place_tree : Kind → Place → Element
place_tree kind p =
    branch role.Place (attribute_id p.id ∷ []) (type_trees kind p.sort ++ label_trees 0 role.InitialMarking role.HlInitialMarking p.marking)

abbrev pub condition_trees : Option Guard → List Element
condition_trees None = []
condition_trees (Some g) = holder role.Condition (holder role.GuardStructure (guard_tree g ∷ []) ∷ []) ∷ []

abbrev pub transition_tree : Transition → Element
transition_tree t = branch role.Transition (attribute_id t.id ∷ []) (condition_trees t.guard)

abbrev pub reference_role : RefKind → Role
reference_role stands_for.Place = role.ReferencePlace
reference_role stands_for.Transition = role.ReferenceTransition

abbrev pub reference_tree : Reference → Element
reference_tree r = leaf_with (reference_role r.kind) (attribute_id r.id ∷ attribute (codes "ref") r.target ∷ [])

abbrev pub arc_tree : Arc → Element
arc_tree a =
    branch role.Arc (attribute_id a.id ∷ attribute (codes "source") a.source ∷ attribute (codes "target") a.target ∷ [])
    (label_trees 1 role.Inscription role.HlInscription a.label)

-- The net.

abbrev pub kind_text : Kind → List ℕ
kind_text Pt = codes "http://www.pnml.org/version-2009/grammar/ptnet"
kind_text Symmetric = codes "http://www.pnml.org/version-2009/grammar/symmetricnet"

abbrev pub node_trees : Net → List Element
node_trees net =
    map (place_tree net.kind) net.places ++ map transition_tree net.transitions ++ map reference_tree net.references ++ map arc_tree net.arcs

abbrev pub page_tree : Net → Element
page_tree net = branch role.Page (attribute_id (codes "page") ∷ []) (node_trees net)

abbrev pub declared_trees : Net → List Element
declared_trees net = map named_sort_tree net.sorts ++ map partition_tree net.partitions ++ map variable_tree net.variables

abbrev pub net_tree : Net → Element
net_tree net =
    branch role.Net (attribute_id net.id ∷ attribute (codes "type") (kind_text net.kind) ∷ [])
    (declaration_trees (declared_trees net) ++ page_tree net ∷ [])

abbrev pub tree_of : Net → Element
tree_of net = branch role.Pnml (attribute (codes "xmlns") (codes "http://www.pnml.org/version-2009/grammar/pnml") ∷ []) (net_tree net ∷ [])

abbrev pub canonical_text : Net → List ℕ
canonical_text net = document_text (tree_of net)
