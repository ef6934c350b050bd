-- The canonical text of a document tree.
use Rattle.std.specs.Prelude.{ℕ, List, [], ◌∷◌, ◌++◌, ◌==◌, codes, if◌then◌else◌}
use Rattle.std.specs.List.{concat, flat_map}
use Rattle.doc_model.specs.declared.tree.Attribute.{Attribute}
use Rattle.doc_model.specs.declared.tree.Element.{Element, fold-Element}
use Rattle.doc_model.specs.declared.tree.Element.TheOpen.{Element-F}

-- how a byte of a value or a text is written
abbrev pub escaped_byte : ℕ → List ℕ
escaped_byte c =
    if c == 38 then codes "&amp;"
    else if c == 60 then codes "&lt;"
    else if c == 62 then codes "&gt;"
    else if c == 34 then codes "&quot;"
    else if c == 9 then codes "&#9;"
    else if c == 10 then codes "&#10;"
    else if c == 13 then codes "&#13;"
    else c ∷ []

abbrev pub escaped : List ℕ → List ℕ
escaped text = flat_map escaped_byte text

unfoldable pub first_line : List ℕ
first_line = codes "<?xml version=\"1.0\" encoding=\"UTF-8\"?>\n"

-- the parts of an element: ` name="value"`, `<name`, and `</name>` with a line feed
abbrev pub attribute_text : Attribute → List ℕ
attribute_text a = codes " " ++ a.name ++ codes "=\"" ++ escaped a.value ++ codes "\""

abbrev pub start_text : List ℕ → List ℕ
start_text name = codes "<" ++ name

abbrev pub end_text : List ℕ → List ℕ
end_text name = codes "</" ++ name ++ codes ">\n"

-- what follows the attributes: the children, else the text, else nothing
abbrev pub content_text : List ℕ → List (List ℕ) → List ℕ → List ℕ
content_text name [] [] = codes "/>\n"
content_text name [] (c ∷ cs) = codes ">" ++ escaped (c ∷ cs) ++ end_text name
content_text name (child ∷ children) text = codes ">\n" ++ concat (child ∷ children) ++ end_text name

-- an element, from the texts of its children
abbrev pub text_of_parts : Element-F (List ℕ) → List ℕ
text_of_parts e = start_text e.name ++ flat_map attribute_text e.attributes ++ content_text e.name e.children e.text

abbrev pub text_of : Element → List ℕ
text_of e = fold-Element (List ℕ) text_of_parts e

-- a document: the first line and the root
abbrev pub document_text : Element → List ℕ
document_text root = first_line ++ text_of root
