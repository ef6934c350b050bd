-- The rules that a tree breaks as a net: a walk over the tree by the table, which notes at each element what is broken there
-- and which ids it declares.
use Rattle.std.specs.Prelude.{ℕ, Bool, true, false, not, ◌&&◌, ◌||◌, ◌==◌, nat_lt, List, [], ◌∷◌, ◌++◌, map, length, reverse, slice_get, count_by, Option, None, Some, codes, if◌then◌else◌}
use Rattle.std.specs.List.{flat_map, list_any}
use Rattle.std.specs.Str.{bytes_eq}
use Rattle.name_tables.specs.Grammar.{is_id_text, number_of}
use Rattle.name_tables.specs.Numbering.{number_in}
use Rattle.doc_model.specs.declared.tree.Attribute.{Attribute}
use Rattle.doc_model.specs.declared.tree.Element.{Element, fold-Element}
use Rattle.doc_model.specs.declared.tree.Element.TheOpen.{Element-F}
use Rattle.doc_tree.specs.declared.faults.Fault.{Fault}
use Rattle.doc_tree.specs.declared.faults.Fault.TheVariants as fault
use Rattle.doc_tree.specs.Characters.{is_white}
use Rattle.net_model.specs.declared.kinds.Kind.{Kind}
use Rattle.net_model.specs.declared.kinds.Kind.TheVariants.{Pt, Symmetric}
use Rattle.net_elements.specs.declared.roles.Role.{Role}
use Rattle.net_elements.specs.declared.roles.Role.TheVariants as role
use Rattle.net_elements.specs.declared.roles.Key.{Key}
use Rattle.net_elements.specs.declared.roles.Key.TheVariants as key
use Rattle.net_elements.specs.declared.rows.Count.{Count}
use Rattle.net_elements.specs.declared.rows.Count.TheVariants.{Any, AtMostOne, One, OneOrMore, InTurn}
use Rattle.net_elements.specs.declared.seats.Seat.{Seat}
use Rattle.net_elements.specs.declared.seats.Seat.TheVariants.{PassedOver, Read, Refused}
use Rattle.net_elements.specs.Table.{Slot, word_of, key_word_of, keys_of, slots_of}

-- what the walk notes: that the element at an offset breaks a rule; that it does, and that the walk ends there; and that it
-- has an id, among the nodes or among the symbols
pub data Note : Type 0 where
  broken : ℕ → Fault → Note
  final : ℕ → Fault → Note
  node : ℕ → List ℕ → Note
  symbol : ℕ → List ℕ → Note

-- Attributes.

-- the value of the first attribute of a name
abbrev pub value_of : List ℕ → List Attribute → Option (List ℕ)
value_of name [] = None
value_of name (a ∷ rest) = if bytes_eq name a.name then Some a.value else value_of name rest

-- the type of net that a value names
abbrev pub kind_of : List ℕ → Option Kind
kind_of value =
    if bytes_eq value (codes "http://www.pnml.org/version-2009/grammar/ptnet") then Some Pt
    else if bytes_eq value (codes "http://www.pnml.org/version-2009/grammar/symmetricnet") then Some Symmetric
    else None

abbrev pub truth_of : List ℕ → Option Bool
truth_of value =
    if bytes_eq value (codes "true") then Some true
    else if bytes_eq value (codes "false") then Some false
    else None

-- what is there has a meaning
abbrev pub has : {A : Type 0} → Option A → Bool
has None = false
has (Some x) = true

-- what the value of an attribute has to be, and the rule that is broken where it is something else
abbrev pub passes : Key → List ℕ → Bool
passes key.NetType value = has (kind_of value)
passes key.Start value = has (number_of true value)
passes key.End value = has (number_of true value)
passes key.SignedValue value = has (number_of true value)
passes key.CountValue value = has (number_of false value)
passes key.TruthValue value = has (truth_of value)
passes _ value = is_id_text value

abbrev pub fault_of : Key → Fault
fault_of key.NetType = fault.NetType
fault_of key.Start = fault.BadNumber
fault_of key.End = fault.BadNumber
fault_of key.SignedValue = fault.BadNumber
fault_of key.CountValue = fault.BadNumber
fault_of key.TruthValue = fault.BadNumber
fault_of _ = fault.BadId

-- nothing is looked at behind a net whose type isn't known
abbrev pub refusal : ℕ → Key → Fault → Note
refusal at key.NetType kind = final at kind
refusal at _ kind = broken at kind

-- the ids of nodes, and those of symbols, are distinct
abbrev pub declared : ℕ → Key → List ℕ → List Note
declared at key.NodeId value = node at value ∷ []
declared at key.SymbolId value = symbol at value ∷ []
declared at _ value = []

abbrev pub key_notes : ℕ → Key → Option (List ℕ) → List Note
key_notes at k None = refusal at k fault.MissingAttribute ∷ []
key_notes at k (Some value) = if passes k value then declared at k value else refusal at k (fault_of k) ∷ []

-- the attributes of an element, in the order of the table
abbrev pub attribute_notes : ℕ → List Key → List Attribute → List Note
attribute_notes at keys attributes = flat_map (λ k. key_notes at k (value_of (key_word_of k) attributes)) keys

-- Children.

-- what is passed over with all that it holds: names, graphics and what belongs to a tool under the net, and the texts beside
-- the structure of a label
abbrev pub is_label : Role → Bool
is_label role.PlaceType = true
is_label role.HlInitialMarking = true
is_label role.HlInscription = true
is_label role.Condition = true
is_label role.Declaration = true
is_label _ = false

abbrev pub is_aside : List ℕ → Bool
is_aside name = bytes_eq name (codes "name") || bytes_eq name (codes "graphics") || bytes_eq name (codes "toolspecific")

abbrev pub is_passed_over : Role → List ℕ → Bool
is_passed_over role.Pnml name = false
is_passed_over r name = is_aside name || (is_label r && bytes_eq name (codes "text"))

-- the first of some roles that has a name
abbrev pub role_named : List Role → List ℕ → Option Role
role_named [] name = None
role_named (r ∷ rs) name = if bytes_eq name (word_of r) then Some r else role_named rs name

abbrev pub is_in : Slot → List ℕ → Bool
is_in slot name = has (role_named slot.roles name)

-- the role of a child, by the number of its siblings of that slot that stand before it; none where it is one too many
abbrev pub role_by_count : Count → List Role → ℕ → Role → Option Role
role_by_count Any roles before r = Some r
role_by_count OneOrMore roles before r = Some r
role_by_count AtMostOne roles before r = if before == 0 then Some r else None
role_by_count One roles before r = if before == 0 then Some r else None
role_by_count InTurn roles before r = slice_get roles before

-- by the role that a slot has for the name; where it has none, the other slots decide
abbrev pub role_in_slot : Slot → List (List ℕ) → Option Role → Option Role → Option Role
role_in_slot s earlier others None = others
role_in_slot s earlier others (Some r) = role_by_count s.count s.roles (count_by (is_in s) earlier) r

-- the role of a child behind these siblings; none where it may not stand there
abbrev pub role_among : List Slot → List (List ℕ) → List ℕ → Option Role
role_among [] earlier name = None
role_among (s ∷ ss) earlier name = role_in_slot s earlier (role_among ss earlier name) (role_named s.roles name)

-- the fewest children of a slot
abbrev pub fewest_by : List Role → Count → ℕ
fewest_by roles Any = 0
fewest_by roles AtMostOne = 0
fewest_by roles One = 1
fewest_by roles OneOrMore = 1
fewest_by roles InTurn = length roles

abbrev pub fewest : Slot → ℕ
fewest s = fewest_by s.roles s.count

-- whether a child is missing among children of these names
abbrev pub is_missing : List Slot → List (List ℕ) → Bool
is_missing slots names = list_any (λ s. nat_lt (count_by (is_in s) names) (fewest s)) slots

-- a child that may not stand there; of nets there is one
abbrev pub refused_as : Role → List ℕ → Fault
refused_as role.Pnml name = if bytes_eq name (codes "net") then fault.ManyNets else fault.Unexpected
refused_as r name = fault.Unexpected

-- how a child of a name is taken behind siblings of these names
abbrev pub read_or_refused : Role → List ℕ → Option Role → Seat
read_or_refused parent name None = Refused (refused_as parent name)
read_or_refused parent name (Some r) = Read r

abbrev pub seat_of : Kind → Role → List (List ℕ) → List ℕ → Seat
seat_of kind parent earlier name =
    if is_passed_over parent name then PassedOver else read_or_refused parent name (role_among (slots_of kind parent) earlier name)

-- The walk.

-- an element as its parent sees it: its name, its offset, and what is noted in it where it is read in a role
pub record Walk : Type 0 where
  pub name : List ℕ
  pub at : ℕ
  pub notes : Kind → Role → List Note

abbrev pub seat_notes : Kind → Walk → Seat → List Note
seat_notes kind child PassedOver = []
seat_notes kind child (Read r) = child.notes kind r
seat_notes kind child (Refused rule) = broken child.at rule ∷ []

abbrev pub child_notes : Kind → Role → List (List ℕ) → Walk → List Note
child_notes kind parent earlier child = seat_notes kind child (seat_of kind parent earlier child.name)

-- the children in order, behind siblings of these names
abbrev pub children_notes : Kind → Role → List (List ℕ) → List Walk → List Note
children_notes kind parent earlier [] = []
children_notes kind parent earlier (c ∷ cs) = child_notes kind parent earlier c ++ children_notes kind parent (earlier ++ c.name ∷ []) cs

-- the text without white at its ends
abbrev pub without_front : List ℕ → List ℕ
without_front [] = []
without_front (c ∷ cs) = if is_white c then without_front cs else c ∷ cs

abbrev pub trimmed : List ℕ → List ℕ
trimmed text = reverse (without_front (reverse (without_front text)))

-- what is broken behind the children: one of them is missing, or the text is to be a number and is none
abbrev pub is_bad_text : Role → List ℕ → Bool
is_bad_text role.Text text = not (has (number_of false (trimmed text)))
is_bad_text _ text = false

abbrev pub note_if : Bool → Note → List Note
note_if true note = note ∷ []
note_if false note = []

abbrev pub end_notes : List Slot → Role → ℕ → List (List ℕ) → List ℕ → List Note
end_notes slots r at names text =
    note_if (is_missing slots names) (broken at fault.MissingChild) ++ note_if (is_bad_text r text) (broken at fault.BadNumber)

-- the kind of net that the children of an element belong to
abbrev pub or_kind : Kind → Option Kind → Kind
or_kind otherwise None = otherwise
or_kind otherwise (Some kind) = kind

abbrev pub kind_from : Kind → Option (List ℕ) → Kind
kind_from otherwise None = otherwise
kind_from otherwise (Some value) = or_kind otherwise (kind_of value)

abbrev pub kind_within : Kind → Role → List Attribute → Kind
kind_within kind role.Net attributes = kind_from kind (value_of (codes "type") attributes)
kind_within kind _ attributes = kind

-- an element: its attributes, its children, what is missing among them, and its text
abbrev pub notes_of_parts : Element-F Walk → Kind → Role → List Note
notes_of_parts e kind r =
    let within = kind_within kind r e.attributes in
    attribute_notes e.at (keys_of r) e.attributes
    ++ children_notes within r [] e.children
    ++ end_notes (slots_of within r) r e.at (map (λ c. c.name) e.children) e.text

abbrev pub walk_of_parts : Element-F Walk → Walk
walk_of_parts e = record { name = e.name; at = e.at; notes = notes_of_parts e }

abbrev pub walk_of : Element → Walk
walk_of e = fold-Element Walk walk_of_parts e

-- The broken rules.

-- the ids that were met
pub record Met : Type 0 where
  pub nodes : List (List ℕ)
  pub symbols : List (List ℕ)

abbrev pub nothing_met : Met
nothing_met = record { nodes = []; symbols = [] }

abbrev pub is_among : List (List ℕ) → List ℕ → Bool
is_among ids id = has (number_in ids id)

abbrev pub with_node : Met → List ℕ → Met
with_node met id = record { nodes = met.nodes ++ id ∷ []; symbols = met.symbols }

abbrev pub with_symbol : Met → List ℕ → Met
with_symbol met id = record { nodes = met.nodes; symbols = met.symbols ++ id ∷ [] }

-- the rules broken by what was noted, behind ids that were met before
abbrev pub broken_from : Met → List Note → List (ℕ × Fault)
broken_from met [] = []
broken_from met (broken at kind ∷ notes) = (at, kind) ∷ broken_from met notes
broken_from met (final at kind ∷ notes) = (at, kind) ∷ []
broken_from met (node at id ∷ notes) =
    if is_among met.nodes id then (at, fault.DuplicateId) ∷ broken_from met notes else broken_from (with_node met id) notes
broken_from met (symbol at id ∷ notes) =
    if is_among met.symbols id then (at, fault.DuplicateId) ∷ broken_from met notes else broken_from (with_symbol met id) notes

-- all broken rules of a tree, with the offsets of their elements, in the order of the walk; above the net the kind plays no part
abbrev pub broken_rules : Element → List (ℕ × Fault)
broken_rules root =
    let walk = walk_of root in
    if bytes_eq walk.name (codes "pnml") then broken_from nothing_met (walk.notes Pt role.Pnml) else (walk.at, fault.Unexpected) ∷ []
