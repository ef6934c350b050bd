-- The net that a tree gives: what each element gives to the one around it, where no rule of the table is broken. What is passed
-- over gives nothing.
use Rattle.std.specs.Prelude.{ℕ, ℤ, pos, unsigned_abs, Bool, true, false, not, List, [], ◌∷◌, ◌++◌, map, filter, find, slice_index_or, Option, None, Some, codes}
use Rattle.std.specs.Str.{bytes_eq}
use Rattle.name_tables.specs.Grammar.{number_of}
use Rattle.doc_model.specs.declared.tree.Attribute.{Attribute}
use Rattle.doc_model.specs.declared.tree.Element.{Element, fold-Element, out-Element}
use Rattle.doc_model.specs.declared.tree.Element.TheOpen.{Element-F}
use Rattle.net_model.specs.declared.sorts.Span.{Span}
use Rattle.net_model.specs.declared.sorts.SortTerm.{SortTerm}
use Rattle.net_model.specs.declared.sorts.SortTerm.TheVariants as sort
use Rattle.net_model.specs.declared.sorts.Member.{Member}
use Rattle.net_model.specs.declared.sorts.Member.TheVariants as member
use Rattle.net_model.specs.declared.sorts.Block.{Block}
use Rattle.net_model.specs.declared.sorts.Partition.{Partition}
use Rattle.net_model.specs.declared.terms.Order.{Order}
use Rattle.net_model.specs.declared.terms.Order.TheVariants as order
use Rattle.net_model.specs.declared.terms.Term.{Term}
use Rattle.net_model.specs.declared.terms.Term.TheVariants as term
use Rattle.net_model.specs.declared.terms.Guard.{Guard}
use Rattle.net_model.specs.declared.terms.Guard.TheVariants as guard
use Rattle.net_model.specs.declared.kinds.Kind.{Kind}
use Rattle.net_model.specs.declared.kinds.Kind.TheVariants.{Pt, Symmetric}
use Rattle.net_elements.specs.declared.roles.Role.{Role}
use Rattle.net_elements.specs.declared.roles.Role.TheVariants as role
use Rattle.net_elements.specs.Table.{sorts, terms, guards, word_of}
use Rattle.net_elements.specs.Rules.{is_passed_over, kind_from, role_named, trimmed, truth_of, value_of}
use Rattle.net_model.specs.declared.nets.Label.{Label}
use Rattle.net_model.specs.declared.nets.Label.TheVariants as label
use Rattle.net_model.specs.declared.nets.RefKind.{RefKind}
use Rattle.net_model.specs.declared.nets.RefKind.TheVariants as stands_for
use Rattle.net_model.specs.declared.nets.Net.{Net}
use Rattle.pnml_read.specs.declared.lists.Lists.{Lists}

-- Values of attributes.

abbrev pub or_empty : Option (List ℕ) → List ℕ
or_empty None = []
or_empty (Some value) = value

abbrev pub text_in : List ℕ → List Attribute → List ℕ
text_in name attributes = or_empty (value_of name attributes)

abbrev pub or_zero : Option ℤ → ℤ
or_zero None = pos 0
or_zero (Some number) = number

-- the number that a text writes, with and without a sign
abbrev pub signed : List ℕ → ℤ
signed text = or_zero (number_of true text)

abbrev pub unsigned : List ℕ → ℕ
unsigned text = unsigned_abs (or_zero (number_of false text))

abbrev pub is_true : Option Bool → Bool
is_true None = false
is_true (Some truth) = truth

-- What a net has, in lists.
abbrev pub no_lists : Lists
no_lists = record { sorts = []; partitions = []; variables = []; places = []; transitions = []; references = []; arcs = [] }

abbrev pub both : Lists → Lists → Lists
both first second = record {
  sorts = first.sorts ++ second.sorts;
  partitions = first.partitions ++ second.partitions;
  variables = first.variables ++ second.variables;
  places = first.places ++ second.places;
  transitions = first.transitions ++ second.transitions;
  references = first.references ++ second.references;
  arcs = first.arcs ++ second.arcs;
}

abbrev pub joined : List Lists → Lists
joined [] = no_lists
joined (first ∷ rest) = both first (joined rest)

-- What an element gives to the one around it: its name and its id; what it is as a sort, a range, a number, a term, a guard, a
-- colour of a block and a block; and the declarations and nodes in it.
pub record Given : Type 0 where
  pub name : List ℕ
  pub id : List ℕ
  pub sort : SortTerm
  pub span : Span
  pub number : ℕ
  pub term : Term
  pub guard : Guard
  pub member : Member
  pub block : Block
  pub lists : Kind → Lists

abbrev pub nothing : Given
nothing = record {
  name = [];
  id = [];
  sort = sort.Dot;
  span = record { first = pos 0; last = pos 0 };
  number = 0;
  term = term.Dot;
  guard = (guard.Constant false);
  member = member.Dot;
  block = record { id = []; members = [] };
  lists = λ kind. no_lists;
}

-- the children that aren't passed over, one of them by its number, and the first one of a name
abbrev pub kept : Role → List Given → List Given
kept r children = filter (λ c. not (is_passed_over r c.name)) children

abbrev pub child : Role → ℕ → List Given → Given
child r at children = slice_index_or (kept r children) at nothing

abbrev pub named : Role → List Given → Option Given
named r children = find (λ c. bytes_eq c.name (word_of r)) children

-- Sorts: ISO/IEC 15909-2, dots, finite enumerations, cyclic enumerations, finite integer ranges and products.

-- what is read as a sort: a sort, an enumeration, and what leads to a sort
abbrev pub sort_roles : List Role
sort_roles = sorts ++ role.FiniteEnumeration ∷ role.CyclicEnumeration ∷ role.PlaceType ∷ role.SortStructure ∷ []

abbrev pub span_part : List Attribute → Span
span_part attributes = record { first = signed (text_in (codes "start") attributes); last = signed (text_in (codes "end") attributes) }

abbrev pub sort_part : Option Role → List Attribute → List Given → SortTerm
sort_part (Some role.UserSort) attributes cs = sort.Named (text_in (codes "declaration") attributes)
sort_part (Some role.ProductSort) attributes cs = sort.Product (map (λ c. c.sort) (kept role.ProductSort cs))
sort_part (Some role.FiniteIntRange) attributes cs = sort.Range (span_part attributes)
sort_part (Some role.FiniteEnumeration) attributes cs = sort.Listed (map (λ c. c.id) (kept role.FiniteEnumeration cs))
sort_part (Some role.CyclicEnumeration) attributes cs = sort.Cyclic (map (λ c. c.id) (kept role.CyclicEnumeration cs))
sort_part (Some role.PlaceType) attributes cs = (child role.PlaceType 0 cs).sort
sort_part (Some role.SortStructure) attributes cs = (child role.SortStructure 0 cs).sort
sort_part _ attributes cs = sort.Dot

-- Numbers: those of attributes, and those in the text of a marking or a weight.

abbrev pub number_roles : List Role
number_roles = role.NumberSubterm ∷ role.NumberConstant ∷ role.InitialMarking ∷ role.Inscription ∷ role.Text ∷ []

abbrev pub number_part : Option Role → List Attribute → List Given → List ℕ → ℕ
number_part (Some role.NumberSubterm) attributes cs text = (child role.NumberSubterm 0 cs).number
number_part (Some role.NumberConstant) attributes cs text = unsigned (text_in (codes "value") attributes)
number_part (Some role.InitialMarking) attributes cs text = (child role.InitialMarking 0 cs).number
number_part (Some role.Inscription) attributes cs text = (child role.Inscription 0 cs).number
number_part (Some role.Text) attributes cs text = unsigned (trimmed text)
number_part _ attributes cs text = 0

-- Terms.

abbrev pub term_roles : List Role
term_roles = terms ++ role.HlInitialMarking ∷ role.HlInscription ∷ role.TermStructure ∷ role.TermSubterm ∷ []

abbrev pub term_part : Option Role → List Attribute → List Given → Term
term_part (Some role.Variable) attributes cs = term.Variable (text_in (codes "refvariable") attributes)
term_part (Some role.UserOperator) attributes cs = term.Operator (text_in (codes "declaration") attributes)
term_part (Some role.FiniteIntRangeConstant) attributes cs =
    (term.Number (signed (text_in (codes "value") attributes)) (child role.FiniteIntRangeConstant 0 cs).span)
term_part (Some role.Successor) attributes cs = term.Successor (child role.Successor 0 cs).term
term_part (Some role.Predecessor) attributes cs = term.Predecessor (child role.Predecessor 0 cs).term
term_part (Some role.Tuple) attributes cs = term.Tuple (map (λ c. c.term) (kept role.Tuple cs))
term_part (Some role.Add) attributes cs = term.Add (map (λ c. c.term) (kept role.Add cs))
term_part (Some role.Subtract) attributes cs = term.Subtract (child role.Subtract 0 cs).term (child role.Subtract 1 cs).term
term_part (Some role.All) attributes cs = term.All (child role.All 0 cs).sort
term_part (Some role.Empty) attributes cs = term.Empty (child role.Empty 0 cs).sort
term_part (Some role.NumberOf) attributes cs = term.NumberOf (child role.NumberOf 0 cs).number (child role.NumberOf 1 cs).term
term_part (Some role.ScalarProduct) attributes cs =
    (term.Scalar (child role.ScalarProduct 0 cs).number (child role.ScalarProduct 1 cs).term)
term_part (Some role.PartitionElementOf) attributes cs =
    (term.BlockOf (text_in (codes "refpartition") attributes) (child role.PartitionElementOf 0 cs).term)
term_part (Some role.HlInitialMarking) attributes cs = (child role.HlInitialMarking 0 cs).term
term_part (Some role.HlInscription) attributes cs = (child role.HlInscription 0 cs).term
term_part (Some role.TermStructure) attributes cs = (child role.TermStructure 0 cs).term
term_part (Some role.TermSubterm) attributes cs = (child role.TermSubterm 0 cs).term
term_part _ attributes cs = term.Dot

-- Guards.

abbrev pub guard_roles : List Role
guard_roles = guards ++ role.Condition ∷ role.GuardStructure ∷ role.GuardSubterm ∷ []

abbrev pub compare : Role → Order → List Given → Guard
compare r o cs = guard.Compare o (child r 0 cs).term (child r 1 cs).term

abbrev pub guard_part : Option Role → List Attribute → List Given → Guard
guard_part (Some role.And) attributes cs = guard.And (map (λ c. c.guard) (kept role.And cs))
guard_part (Some role.Or) attributes cs = guard.Or (map (λ c. c.guard) (kept role.Or cs))
guard_part (Some role.Not) attributes cs = guard.Not (child role.Not 0 cs).guard
guard_part (Some role.Imply) attributes cs = guard.Imply (child role.Imply 0 cs).guard (child role.Imply 1 cs).guard
guard_part (Some role.Equality) attributes cs = compare role.Equality order.Equal cs
guard_part (Some role.Inequality) attributes cs = compare role.Inequality order.Unequal cs
guard_part (Some role.LessThan) attributes cs = compare role.LessThan order.Less cs
guard_part (Some role.LessThanOrEqual) attributes cs = compare role.LessThanOrEqual order.LessEqual cs
guard_part (Some role.GreaterThan) attributes cs = compare role.GreaterThan order.Greater cs
guard_part (Some role.GreaterThanOrEqual) attributes cs = compare role.GreaterThanOrEqual order.GreaterEqual cs
guard_part (Some role.Condition) attributes cs = (child role.Condition 0 cs).guard
guard_part (Some role.GuardStructure) attributes cs = (child role.GuardStructure 0 cs).guard
guard_part (Some role.GuardSubterm) attributes cs = (child role.GuardSubterm 0 cs).guard
guard_part (Some role.BooleanConstant) attributes cs = guard.Constant (is_true (truth_of (text_in (codes "value") attributes)))
guard_part _ attributes cs = guard.Constant false

-- Partitions.

abbrev pub member_roles : List Role
member_roles = role.UserOperator ∷ role.FiniteIntRangeConstant ∷ role.DotConstant ∷ []

abbrev pub member_part : Option Role → List Attribute → List Given → Member
member_part (Some role.UserOperator) attributes cs = member.Constant (text_in (codes "declaration") attributes)
member_part (Some role.FiniteIntRangeConstant) attributes cs =
    member.Number (signed (text_in (codes "value") attributes)) (child role.FiniteIntRangeConstant 0 cs).span
member_part _ attributes cs = member.Dot

abbrev pub block_part : List ℕ → List Given → Block
block_part id cs = record { id = id; members = map (λ c. c.member) (kept role.PartitionElement cs) }

-- the sort of a partition, which may stand anywhere among its blocks
abbrev pub is_block : Given → Bool
is_block c = bytes_eq c.name (word_of role.PartitionElement)

abbrev pub partition_of : List ℕ → List Given → Partition
partition_of id cs = record {
  id = id;
  sort = (slice_index_or (filter (λ c. not (is_block c)) (kept role.Partition cs)) 0 nothing).sort;
  elements = map (λ c. c.block) (filter is_block (kept role.Partition cs));
}

-- Nodes and declarations.

abbrev pub number_or : ℕ → Option Given → ℕ
number_or otherwise None = otherwise
number_or otherwise (Some c) = c.number

abbrev pub multiset_or_absent : Option Given → Label
multiset_or_absent None = label.Absent
multiset_or_absent (Some c) = label.Multiset c.term

abbrev pub guard_or_none : Option Given → Option Guard
guard_or_none None = None
guard_or_none (Some c) = Some c.guard

abbrev pub sort_or_dot : Option Given → SortTerm
sort_or_dot None = sort.Dot
sort_or_dot (Some c) = c.sort

-- a marking that is left out is 0 in a place/transition net, and a weight 1
abbrev pub marking_of : Kind → List Given → Label
marking_of Pt cs = label.Count (number_or 0 (named role.InitialMarking cs))
marking_of Symmetric cs = multiset_or_absent (named role.HlInitialMarking cs)

abbrev pub inscription_of : Kind → List Given → Label
inscription_of Pt cs = label.Count (number_or 1 (named role.Inscription cs))
inscription_of Symmetric cs = multiset_or_absent (named role.HlInscription cs)

abbrev pub list_roles : List Role
list_roles =
    role.Net ∷ role.Page ∷ role.Place ∷ role.Transition ∷ role.Arc ∷ role.ReferencePlace ∷ role.ReferenceTransition ∷
    role.Declaration ∷ role.DeclarationStructure ∷ role.Declarations ∷ role.NamedSort ∷ role.Partition ∷ role.VariableDecl ∷ []

abbrev pub lists_in : Role → Kind → List Given → Lists
lists_in r kind cs = joined (map (λ c. c.lists kind) (kept r cs))

abbrev pub reference_to : RefKind → List ℕ → List Attribute → Lists
reference_to kind id attributes =
    record no_lists { references = record { id = id; kind = kind; target = text_in (codes "ref") attributes } ∷ [] }

abbrev pub lists_part : Kind → Option Role → List ℕ → List Attribute → List Given → Lists
lists_part kind (Some role.Net) id attributes cs = lists_in role.Net kind cs
lists_part kind (Some role.Page) id attributes cs = lists_in role.Page kind cs
lists_part kind (Some role.Declaration) id attributes cs = lists_in role.Declaration kind cs
lists_part kind (Some role.DeclarationStructure) id attributes cs = lists_in role.DeclarationStructure kind cs
lists_part kind (Some role.Declarations) id attributes cs = lists_in role.Declarations kind cs
lists_part kind (Some role.Place) id attributes cs =
    record no_lists { places = record { id = id; sort = sort_or_dot (named role.PlaceType cs); marking = marking_of kind cs } ∷ [] }
lists_part kind (Some role.Transition) id attributes cs =
    record no_lists { transitions = record { id = id; guard = guard_or_none (named role.Condition cs) } ∷ [] }
lists_part kind (Some role.Arc) id attributes cs =
    record no_lists {
      arcs = record {
        id = id;
        source = text_in (codes "source") attributes;
        target = text_in (codes "target") attributes;
        label = inscription_of kind cs;
      } ∷ [];
    }
lists_part kind (Some role.ReferencePlace) id attributes cs = reference_to stands_for.Place id attributes
lists_part kind (Some role.ReferenceTransition) id attributes cs = reference_to stands_for.Transition id attributes
lists_part kind (Some role.NamedSort) id attributes cs =
    record no_lists { sorts = record { id = id; sort = (child role.NamedSort 0 cs).sort } ∷ [] }
lists_part kind (Some role.Partition) id attributes cs = record no_lists { partitions = partition_of id cs ∷ [] }
lists_part kind (Some role.VariableDecl) id attributes cs =
    record no_lists { variables = record { id = id; sort = (child role.VariableDecl 0 cs).sort } ∷ [] }
lists_part kind _ id attributes cs = no_lists

-- The net.

abbrev pub given_by_parts : Element-F Given → Given
given_by_parts e =
    let id = text_in (codes "id") e.attributes in
    record {
      name = e.name;
      id = id;
      sort = sort_part (role_named sort_roles e.name) e.attributes e.children;
      span = span_part e.attributes;
      number = number_part (role_named number_roles e.name) e.attributes e.children e.text;
      term = term_part (role_named term_roles e.name) e.attributes e.children;
      guard = guard_part (role_named guard_roles e.name) e.attributes e.children;
      member = member_part (role_named member_roles e.name) e.attributes e.children;
      block = block_part id e.children;
      lists = λ kind. lists_part kind (role_named list_roles e.name) id e.attributes e.children;
    }

abbrev pub given : Element → Given
given e = fold-Element Given given_by_parts e

-- the declarations and nodes of an element in a role
abbrev pub element_lists : Kind → Role → Element → Lists
element_lists kind r e =
    lists_part kind (Some r) (text_in (codes "id") (out-Element e).attributes) (out-Element e).attributes (map given (out-Element e).children)

abbrev pub net_with : List ℕ → Kind → Lists → Net
net_with id kind lists = record {
  id = id;
  kind = kind;
  sorts = lists.sorts;
  partitions = lists.partitions;
  variables = lists.variables;
  places = lists.places;
  transitions = lists.transitions;
  references = lists.references;
  arcs = lists.arcs;
}

-- the net of an element that is read as one, and of a tree
abbrev pub net_in : Option Element → Net
net_in None = net_with [] Pt no_lists
net_in (Some e) =
    let kind = kind_from Pt (value_of (codes "type") (out-Element e).attributes) in
    net_with (text_in (codes "id") (out-Element e).attributes) kind ((given e).lists kind)

abbrev pub net_of : Element → Net
net_of root = net_in (find (λ e. bytes_eq (out-Element e).name (codes "net")) (out-Element root).children)
