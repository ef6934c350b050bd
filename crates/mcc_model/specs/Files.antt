-- Property files (the property format of the Model Checking Contest): the rules that a tree breaks as a set of properties, and
-- the properties that it holds. A set holds properties and nothing else; a property has one id and one formula, and all else in
-- it is passed over; an id has no children, and its text without white at its ends is an id that no other property has; a
-- formula has exactly one child, of any name.
use Rattle.std.specs.Prelude.{ℕ, ◌||◌, Bool, not, List, [], ◌∷◌, ◌++◌, map, find, Option, None, Some, codes, if◌then◌else◌}
use Rattle.std.specs.List.{flat_map, list_any}
use Rattle.std.specs.Str.{bytes_eq}
use Rattle.name_tables.specs.Grammar.{is_id_text}
use Rattle.doc_model.specs.declared.tree.Element.{Element, out-Element}
use Rattle.doc_tree.specs.declared.faults.Fault.{Fault}
use Rattle.doc_tree.specs.declared.faults.Fault.TheVariants.{Unexpected, MissingChild, BadId}
use Rattle.net_elements.specs.Rules.{Note, broken, node, broken_from, note_if, nothing_met, trimmed}
use Rattle.net_elements.specs.Walking.{name_of}
use Rattle.mcc_model.specs.declared.properties.Property.{Property}

abbrev pub at_of : Element → ℕ
at_of e = (out-Element e).at

abbrev pub children_of : Element → List Element
children_of e = (out-Element e).children

abbrev pub own_text : Element → List ℕ
own_text e = trimmed (out-Element e).text

abbrev pub has_name : List ℕ → Element → Bool
has_name name e = bytes_eq (name_of e) name

-- children that may not stand there
abbrev pub refused : List Element → List Note
refused es = map (λ e. broken (at_of e) Unexpected) es

-- an id
abbrev pub text_notes : ℕ → List ℕ → List Note
text_notes at text = if is_id_text text then node at text ∷ [] else broken at BadId ∷ []

abbrev pub id_notes : Element → List Note
id_notes e = refused (children_of e) ++ text_notes (at_of e) (own_text e)

-- a formula
abbrev pub one_child : ℕ → List Element → List Note
one_child at [] = broken at MissingChild ∷ []
one_child at (e ∷ es) = refused es

abbrev pub formula_notes : Element → List Note
formula_notes e = one_child (at_of e) (children_of e)

-- a child of a property, behind these siblings
abbrev pub first_or_refused : List ℕ → List Element → Element → List Note → List Note
first_or_refused name earlier e notes = if list_any (has_name name) earlier then broken (at_of e) Unexpected ∷ [] else notes

abbrev pub part_notes : List Element → Element → List Note
part_notes earlier e =
    if has_name (codes "id") e then first_or_refused (codes "id") earlier e (id_notes e)
    else if has_name (codes "formula") e then first_or_refused (codes "formula") earlier e (formula_notes e)
    else []

abbrev pub parts_notes : List Element → List Element → List Note
parts_notes earlier [] = []
parts_notes earlier (e ∷ es) = part_notes earlier e ++ parts_notes (earlier ++ e ∷ []) es

-- whether an id or a formula is missing
abbrev pub is_short : List Element → Bool
is_short es = not (list_any (has_name (codes "id")) es) || not (list_any (has_name (codes "formula")) es)

-- a property
abbrev pub property_notes : Element → List Note
property_notes e = parts_notes [] (children_of e) ++ note_if (is_short (children_of e)) (broken (at_of e) MissingChild)

-- a child of the set
abbrev pub member_notes : Element → List Note
member_notes e = if has_name (codes "property") e then property_notes e else broken (at_of e) Unexpected ∷ []

-- all broken rules of a tree, with the offsets of their elements, in the order of the walk
abbrev pub broken_in_set : Element → List (ℕ × Fault)
broken_in_set root =
    if has_name (codes "property-set") root
    then broken_from nothing_met (flat_map member_notes (children_of root))
    else (at_of root, Unexpected) ∷ []

-- the properties of a tree, where no rule is broken
abbrev pub or_no_text : Option Element → List ℕ
or_no_text None = []
or_no_text (Some e) = own_text e

abbrev pub id_among : List Element → List ℕ
id_among es = or_no_text (find (has_name (codes "id")) es)

abbrev pub with_formula : List ℕ → Option Element → List Property
with_formula id None = []
with_formula id (Some formula) = record { id = id; formula = formula } ∷ []

abbrev pub property_in : Element → List Property
property_in e = with_formula (id_among (children_of e)) (find (has_name (codes "formula")) (children_of e))

abbrev pub properties_in : Element → List Property
properties_in root = flat_map property_in (children_of root)

-- the ids of properties
abbrev pub ids_of : List Property → List (List ℕ)
ids_of properties = map (λ p. p.id) properties
