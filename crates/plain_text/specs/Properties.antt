-- The document tree of a file with one property, and its canonical text (Model Checking Contest, `property-set`).
use Rattle.std.specs.Prelude.{ℕ, List, [], ◌∷◌, map, codes, decimal}
use Rattle.doc_model.specs.declared.tree.Element.{Element}
use Rattle.doc_model.specs.Trees.{element, leaf}
use Rattle.doc_model.specs.Texts.{document_text}
use Rattle.plain_model.specs.declared.properties.Property.{Property}
use Rattle.plain_model.specs.declared.properties.Count.{Count}
use Rattle.plain_model.specs.declared.properties.Count.TheVariants.{Number, Tokens}

-- an element with these children and no attributes
abbrev pub parent : List ℕ → List Element → Element
parent name children = element name [] children []

abbrev pub count_tree : Count → Element
count_tree (Number number) = leaf (codes "integer-constant") (decimal number)
count_tree (Tokens ids) = parent (codes "tokens-count") (map (λ id. leaf (codes "place") id) ids)

abbrev pub formula_tree : Property → Element
formula_tree property =
    parent (codes "formula") (parent (codes "all-paths") (parent (codes "globally")
    (parent (codes "integer-le") (count_tree property.left ∷ count_tree property.right ∷ []) ∷ []) ∷ []) ∷ [])

abbrev pub property_tree : Property → Element
property_tree property =
    parent (codes "property-set") (parent (codes "property") (leaf (codes "id") property.id ∷ formula_tree property ∷ []) ∷ [])

unfoldable pub property_text : Property → List ℕ
property_text property = document_text (property_tree property)
