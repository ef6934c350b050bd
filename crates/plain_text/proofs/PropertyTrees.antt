-- The text of a property's tree, part by part.
use Rattle.std.proofs.Common.{◌≡◌, ℕ, List, [], ◌∷◌, ◌++◌, codes, refl, ap, ◌∙◌}
use Rattle.plain_model.specs.declared.properties.Property.{Property}
use Rattle.plain_model.specs.declared.properties.Count.{Count}
use Rattle.plain_model.specs.declared.properties.Count.TheVariants.{Number, Tokens}
use Rattle.doc_model.specs.declared.tree.Element.{Element}
use Rattle.doc_model.specs.Texts.{first_line, text_of}
use Rattle.doc_model.specs.Trees.{leaf}
use Rattle.plain_text.specs.Markup.{leaf_text, parent_element}
use Rattle.plain_text.specs.PropertyParts.{count_text, formula_text, listed_place, property_parts}
use Rattle.plain_text.specs.Properties.{count_tree, formula_tree, parent, property_text}
use Rattle.plain_text.proofs.Trees.{any-tree, map-tree, one_child, parent-tree, two_children}

count-tree : (count : Count) → text_of (count_tree count) ≡ count_text count
unfolding count_text leaf_text listed_place
count-tree (Number number) = refl
count-tree (Tokens ids) = any-tree (codes "tokens-count") [] _ _ _ refl (map-tree (λ id. leaf (codes "place") id) listed_place (λ id. refl) ids)

-- an element with this child alone
only-tree : (name : List ℕ) (child : Element) (inner : List ℕ) → text_of child ≡ inner → text_of (parent name (child ∷ [])) ≡ parent_element name [] inner
only-tree name child inner same = parent-tree name [] child [] [] inner refl (one_child child ∙ same)

formula-tree : (property : Property) → text_of (formula_tree property) ≡ formula_text property.left property.right
unfolding formula_text
formula-tree property =
    let left = count_tree property.left in
    let right = count_tree property.right in
    let counts = two_children left right ∙ ap (λ text. text ++ text_of right) (count-tree property.left) ∙ ap (λ text. count_text property.left ++ text) (count-tree property.right) in
    only-tree (codes "formula") _ _ (only-tree (codes "all-paths") _ _ (only-tree (codes "globally") _ _
    (parent-tree (codes "integer-le") [] left (right ∷ []) [] _ refl counts)))

pub property_text-parts : (property : Property) → property_text property ≡ property_parts property
unfolding property_text leaf_text
property_text-parts property =
    let id = leaf (codes "id") property.id in
    let parts = two_children id (formula_tree property) ∙ ap (λ text. text_of id ++ text) (formula-tree property) in
    ap (λ root. first_line ++ root)
    (only-tree (codes "property-set") _ _ (parent-tree (codes "property") [] id (formula_tree property ∷ []) [] _ refl parts))
