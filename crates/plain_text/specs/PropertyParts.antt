-- What each part of a property's tree writes.
use Rattle.std.specs.Prelude.{ℕ, List, [], ◌++◌, flat_map, codes, decimal}
use Rattle.doc_model.specs.Texts.{first_line}
use Rattle.plain_text.specs.Markup.{parent_element, element, leaf_text}
use Rattle.plain_model.specs.declared.properties.Property.{Property}
use Rattle.plain_model.specs.declared.properties.Count.{Count}
use Rattle.plain_model.specs.declared.properties.Count.TheVariants.{Number, Tokens}

unfoldable pub listed_place : List ℕ → List ℕ
listed_place id = leaf_text (codes "place") id

unfoldable pub count_text : Count → List ℕ
count_text (Number number) = leaf_text (codes "integer-constant") (decimal number)
count_text (Tokens ids) = element (codes "tokens-count") [] (flat_map listed_place ids)

unfoldable pub formula_text : Count → Count → List ℕ
formula_text left right =
    parent_element (codes "formula") [] (parent_element (codes "all-paths") [] (parent_element (codes "globally") []
    (parent_element (codes "integer-le") [] (count_text left ++ count_text right))))

-- the whole text
abbrev pub property_parts : Property → List ℕ
property_parts property =
    first_line
    ++ parent_element (codes "property-set") [] (parent_element (codes "property") []
    (leaf_text (codes "id") property.id ++ formula_text property.left property.right))
