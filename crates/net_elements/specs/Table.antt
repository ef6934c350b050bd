-- The table of the elements of net files: what each has as attributes and holds as children. It is a profile of ISO/IEC 15909-2:
-- the elements are those of the standard's place/transition nets and symmetric nets; that these are all, in this number, and
-- what of them is passed over, is this project's own.
use Rattle.std.specs.Prelude.{ℕ, List, [], ◌∷◌, ◌++◌, codes}
use Rattle.net_model.specs.declared.kinds.Kind.{Kind}
use Rattle.net_model.specs.declared.kinds.Kind.TheVariants.{Pt, Symmetric}
use Rattle.net_elements.specs.declared.roles.Role.{Role}
use Rattle.net_elements.specs.declared.roles.Role.TheVariants.{Pnml, Net, Page, Place, Transition, Arc, ReferencePlace, ReferenceTransition, InitialMarking, Inscription, Text, PlaceType, HlInitialMarking, HlInscription, Condition, Declaration, SortStructure, TermStructure, GuardStructure, DeclarationStructure, Declarations, NamedSort, Partition, PartitionElement, VariableDecl, FiniteEnumeration, CyclicEnumeration, FeConstant, Dot, UserSort, ProductSort, FiniteIntRange, Variable, UserOperator, DotConstant, FiniteIntRangeConstant, Successor, Predecessor, Tuple, Add, Subtract, All, Empty, NumberOf, ScalarProduct, NumberConstant, Positive, Natural, PartitionElementOf, And, Or, Not, Imply, Equality, Inequality, LessThan, LessThanOrEqual, GreaterThan, GreaterThanOrEqual, BooleanConstant, TermSubterm, GuardSubterm, NumberSubterm}
use Rattle.net_elements.specs.declared.roles.Key.{Key}
use Rattle.net_elements.specs.declared.roles.Key.TheVariants.{AnyId, NodeId, SymbolId, NetType, Source, Target, Ref, Operand, RefVariable, RefPartition, Start, End, SignedValue, CountValue, TruthValue}
use Rattle.net_elements.specs.declared.rows.Count.{Count}
use Rattle.net_elements.specs.declared.rows.Count.TheVariants.{Any, AtMostOne, One, OneOrMore, InTurn}

-- the name of the elements of a role, and of an attribute
abbrev pub word_of : Role → List ℕ
word_of Pnml = codes "pnml"
word_of Net = codes "net"
word_of Page = codes "page"
word_of Place = codes "place"
word_of Transition = codes "transition"
word_of Arc = codes "arc"
word_of ReferencePlace = codes "referencePlace"
word_of ReferenceTransition = codes "referenceTransition"
word_of InitialMarking = codes "initialMarking"
word_of Inscription = codes "inscription"
word_of Text = codes "text"
word_of PlaceType = codes "type"
word_of HlInitialMarking = codes "hlinitialMarking"
word_of HlInscription = codes "hlinscription"
word_of Condition = codes "condition"
word_of Declaration = codes "declaration"
word_of SortStructure = codes "structure"
word_of TermStructure = codes "structure"
word_of GuardStructure = codes "structure"
word_of DeclarationStructure = codes "structure"
word_of Declarations = codes "declarations"
word_of NamedSort = codes "namedsort"
word_of Partition = codes "partition"
word_of PartitionElement = codes "partitionelement"
word_of VariableDecl = codes "variabledecl"
word_of FiniteEnumeration = codes "finiteenumeration"
word_of CyclicEnumeration = codes "cyclicenumeration"
word_of FeConstant = codes "feconstant"
word_of Dot = codes "dot"
word_of UserSort = codes "usersort"
word_of ProductSort = codes "productsort"
word_of FiniteIntRange = codes "finiteintrange"
word_of Variable = codes "variable"
word_of UserOperator = codes "useroperator"
word_of DotConstant = codes "dotconstant"
word_of FiniteIntRangeConstant = codes "finiteintrangeconstant"
word_of Successor = codes "successor"
word_of Predecessor = codes "predecessor"
word_of Tuple = codes "tuple"
word_of Add = codes "add"
word_of Subtract = codes "subtract"
word_of All = codes "all"
word_of Empty = codes "empty"
word_of NumberOf = codes "numberof"
word_of ScalarProduct = codes "scalarproduct"
word_of NumberConstant = codes "numberconstant"
word_of Positive = codes "positive"
word_of Natural = codes "natural"
word_of PartitionElementOf = codes "partitionelementof"
word_of And = codes "and"
word_of Or = codes "or"
word_of Not = codes "not"
word_of Imply = codes "imply"
word_of Equality = codes "equality"
word_of Inequality = codes "inequality"
word_of LessThan = codes "lessthan"
word_of LessThanOrEqual = codes "lessthanorequal"
word_of GreaterThan = codes "greaterthan"
word_of GreaterThanOrEqual = codes "greaterthanorequal"
word_of BooleanConstant = codes "booleanconstant"
word_of TermSubterm = codes "subterm"
word_of GuardSubterm = codes "subterm"
word_of NumberSubterm = codes "subterm"

abbrev pub key_word_of : Key → List ℕ
key_word_of AnyId = codes "id"
key_word_of NodeId = codes "id"
key_word_of SymbolId = codes "id"
key_word_of NetType = codes "type"
key_word_of Source = codes "source"
key_word_of Target = codes "target"
key_word_of Ref = codes "ref"
key_word_of Operand = codes "declaration"
key_word_of RefVariable = codes "refvariable"
key_word_of RefPartition = codes "refpartition"
key_word_of Start = codes "start"
key_word_of End = codes "end"
key_word_of SignedValue = codes "value"
key_word_of CountValue = codes "value"
key_word_of TruthValue = codes "value"

-- the attributes, in order
abbrev pub keys_of : Role → List Key
keys_of Net = AnyId ∷ NetType ∷ []
keys_of Page = AnyId ∷ []
keys_of Place = NodeId ∷ []
keys_of Transition = NodeId ∷ []
keys_of Arc = NodeId ∷ Source ∷ Target ∷ []
keys_of ReferencePlace = NodeId ∷ Ref ∷ []
keys_of ReferenceTransition = NodeId ∷ Ref ∷ []
keys_of NamedSort = SymbolId ∷ []
keys_of VariableDecl = SymbolId ∷ []
keys_of Partition = SymbolId ∷ []
keys_of PartitionElement = SymbolId ∷ []
keys_of FeConstant = SymbolId ∷ []
keys_of UserSort = Operand ∷ []
keys_of FiniteIntRange = Start ∷ End ∷ []
keys_of Variable = RefVariable ∷ []
keys_of UserOperator = Operand ∷ []
keys_of FiniteIntRangeConstant = SignedValue ∷ []
keys_of NumberConstant = CountValue ∷ []
keys_of PartitionElementOf = RefPartition ∷ []
keys_of BooleanConstant = TruthValue ∷ []
keys_of _ = []

-- some of the children: those of some roles, and how many there may be. A child is read in the first of the roles that has
-- its name; where the roles stand in turn, the first child in the first role, the second in the second, and there are as
-- many children as roles.
pub record Slot : Type 0 where
  pub roles : List Role
  pub count : Count

abbrev pub any : List Role → Slot
any roles = record { roles = roles; count = Any }

abbrev pub at_most_one : List Role → Slot
at_most_one roles = record { roles = roles; count = AtMostOne }

abbrev pub one : List Role → Slot
one roles = record { roles = roles; count = One }

abbrev pub one_or_more : List Role → Slot
one_or_more roles = record { roles = roles; count = OneOrMore }

abbrev pub in_turn : List Role → Slot
in_turn roles = record { roles = roles; count = InTurn }

-- the sorts, the terms and the guards
abbrev pub sorts : List Role
sorts = Dot ∷ UserSort ∷ ProductSort ∷ FiniteIntRange ∷ []

abbrev pub terms : List Role
terms = Variable ∷ UserOperator ∷ DotConstant ∷ FiniteIntRangeConstant ∷ Successor ∷ Predecessor ∷ Tuple ∷ Add ∷ Subtract ∷
    All ∷ Empty ∷ NumberOf ∷ ScalarProduct ∷ PartitionElementOf ∷ []

abbrev pub guards : List Role
guards = And ∷ Or ∷ Not ∷ Imply ∷ Equality ∷ Inequality ∷ LessThan ∷ LessThanOrEqual ∷ GreaterThan ∷ GreaterThanOrEqual ∷
    BooleanConstant ∷ []

-- what a net and a page hold
abbrev pub nodes_of : Kind → List Slot
nodes_of Pt = any (Page ∷ []) ∷ any (Place ∷ []) ∷ any (Transition ∷ []) ∷ any (Arc ∷ []) ∷ any (ReferencePlace ∷ []) ∷
    any (ReferenceTransition ∷ []) ∷ []
nodes_of Symmetric = any (Page ∷ []) ∷ any (Place ∷ []) ∷ any (Transition ∷ []) ∷ any (Arc ∷ []) ∷ any (ReferencePlace ∷ []) ∷
    any (ReferenceTransition ∷ []) ∷ any (Declaration ∷ []) ∷ []

-- the labels of places, transitions and arcs
abbrev pub place_labels : Kind → List Slot
place_labels Pt = at_most_one (InitialMarking ∷ []) ∷ []
place_labels Symmetric = one (PlaceType ∷ []) ∷ at_most_one (HlInitialMarking ∷ []) ∷ []

abbrev pub transition_labels : Kind → List Slot
transition_labels Pt = []
transition_labels Symmetric = at_most_one (Condition ∷ []) ∷ []

abbrev pub arc_labels : Kind → List Slot
arc_labels Pt = at_most_one (Inscription ∷ []) ∷ []
arc_labels Symmetric = at_most_one (HlInscription ∷ []) ∷ []

-- one part, two parts, one or more parts
abbrev pub one_term : List Slot
one_term = in_turn (TermSubterm ∷ []) ∷ []

abbrev pub two_terms : List Slot
two_terms = in_turn (TermSubterm ∷ TermSubterm ∷ []) ∷ []

abbrev pub some_terms : List Slot
some_terms = one_or_more (TermSubterm ∷ []) ∷ []

abbrev pub some_guards : List Slot
some_guards = one_or_more (GuardSubterm ∷ []) ∷ []

-- the children
abbrev pub slots_of : Kind → Role → List Slot
slots_of _ Pnml = one (Net ∷ []) ∷ []
slots_of kind Net = nodes_of kind
slots_of kind Page = nodes_of kind
slots_of kind Place = place_labels kind
slots_of kind Transition = transition_labels kind
slots_of kind Arc = arc_labels kind
slots_of _ InitialMarking = one (Text ∷ []) ∷ []
slots_of _ Inscription = one (Text ∷ []) ∷ []
slots_of _ PlaceType = one (SortStructure ∷ []) ∷ []
slots_of _ HlInitialMarking = one (TermStructure ∷ []) ∷ []
slots_of _ HlInscription = one (TermStructure ∷ []) ∷ []
slots_of _ Condition = one (GuardStructure ∷ []) ∷ []
slots_of _ Declaration = one (DeclarationStructure ∷ []) ∷ []
slots_of _ SortStructure = one sorts ∷ []
slots_of _ TermStructure = one terms ∷ []
slots_of _ GuardStructure = one guards ∷ []
slots_of _ DeclarationStructure = one (Declarations ∷ []) ∷ []
slots_of _ Declarations = any (NamedSort ∷ []) ∷ any (Partition ∷ []) ∷ any (VariableDecl ∷ []) ∷ []
slots_of _ NamedSort = one (sorts ++ FiniteEnumeration ∷ CyclicEnumeration ∷ []) ∷ []
slots_of _ VariableDecl = one sorts ∷ []
slots_of _ Partition = one sorts ∷ any (PartitionElement ∷ []) ∷ []
slots_of _ PartitionElement = any (UserOperator ∷ []) ∷ any (FiniteIntRangeConstant ∷ []) ∷ any (DotConstant ∷ []) ∷ []
slots_of _ FiniteEnumeration = any (FeConstant ∷ []) ∷ []
slots_of _ CyclicEnumeration = any (FeConstant ∷ []) ∷ []
slots_of _ ProductSort = any sorts ∷ []
slots_of _ FiniteIntRangeConstant = one (FiniteIntRange ∷ []) ∷ []
slots_of _ Successor = one_term
slots_of _ Predecessor = one_term
slots_of _ Tuple = some_terms
slots_of _ Add = some_terms
slots_of _ Subtract = two_terms
slots_of _ All = one sorts ∷ []
slots_of _ Empty = one sorts ∷ []
slots_of _ NumberOf = in_turn (NumberSubterm ∷ TermSubterm ∷ []) ∷ []
slots_of _ ScalarProduct = in_turn (NumberSubterm ∷ TermSubterm ∷ []) ∷ []
slots_of _ NumberConstant = at_most_one (Positive ∷ Natural ∷ []) ∷ []
slots_of _ PartitionElementOf = one_term
slots_of _ And = some_guards
slots_of _ Or = some_guards
slots_of _ Not = in_turn (GuardSubterm ∷ []) ∷ []
slots_of _ Imply = in_turn (GuardSubterm ∷ GuardSubterm ∷ []) ∷ []
slots_of _ Equality = two_terms
slots_of _ Inequality = two_terms
slots_of _ LessThan = two_terms
slots_of _ LessThanOrEqual = two_terms
slots_of _ GreaterThan = two_terms
slots_of _ GreaterThanOrEqual = two_terms
slots_of _ TermSubterm = one terms ∷ []
slots_of _ GuardSubterm = one guards ∷ []
slots_of _ NumberSubterm = one (NumberConstant ∷ []) ∷ []
slots_of _ _ = []
