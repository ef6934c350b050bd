-- Values of document trees.
use Rattle.std.specs.Prelude.{ℕ, List, []}
use Rattle.doc_model.specs.declared.tree.Attribute.{Attribute}
use Rattle.doc_model.specs.declared.tree.Element.{Element, roll-Element}

abbrev pub attribute : List ℕ → List ℕ → Attribute
attribute name value = record { name = name; value = value }

-- an element whose `<` stands at an offset
abbrev pub element_at : ℕ → List ℕ → List Attribute → List Element → List ℕ → Element
element_at at name attributes children text =
    roll-Element (record { at = at; name = name; attributes = attributes; children = children; text = text })

-- an element that was read from no bytes
abbrev pub element : List ℕ → List Attribute → List Element → List ℕ → Element
element name attributes children text = element_at 0 name attributes children text

-- an element with a text alone
abbrev pub leaf : List ℕ → List ℕ → Element
leaf name text = element name [] [] text
