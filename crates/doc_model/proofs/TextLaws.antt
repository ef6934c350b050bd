-- The canonical text of a tree, from its parts.
use Rattle.std.proofs.Common.{◌≡◌, ℕ, List, [], ◌∷◌, ◌++◌, map, codes, ap, ◌∙◌}
use Rattle.std.proofs.lemmas.List.{append-nil}
use Rattle.std.specs.List.{flat_map}
use Rattle.doc_model.specs.declared.tree.Element.{Element, out-Element, fold_out-Element, fold-roll-Element}
use Rattle.doc_model.specs.declared.tree.Attribute.{Attribute}
use Rattle.doc_model.specs.Trees.{attribute, element_at, element, leaf}
use Rattle.doc_model.specs.Texts.{text_of, text_of_parts, document_text, first_line, start_text, attribute_text, content_text}

-- the text of an element, from its parts
pub text_of-out : (e : Element) → text_of e ≡ start_text (out-Element e).name ++ flat_map attribute_text (out-Element e).attributes ++ content_text (out-Element e).name (map text_of (out-Element e).children) (out-Element e).text
text_of-out e = fold_out-Element (List ℕ) text_of_parts e

pub text_of-element_at : (at : ℕ) (name : List ℕ) (attributes : List Attribute) (children : List Element) (text : List ℕ)
    → text_of (element_at at name attributes children text) ≡ start_text name ++ flat_map attribute_text attributes ++ content_text name (map text_of children) text
text_of-element_at at name attributes children text =
    fold-roll-Element (List ℕ) text_of_parts (record { at = at; name = name; attributes = attributes; children = children; text = text })

pub text_of-element : (name : List ℕ) (attributes : List Attribute) (children : List Element) (text : List ℕ)
    → text_of (element name attributes children text) ≡ start_text name ++ flat_map attribute_text attributes ++ content_text name (map text_of children) text
text_of-element name attributes children text = text_of-element_at 0 name attributes children text

pub text_of-leaf : (name text : List ℕ) → text_of (leaf name text) ≡ start_text name ++ content_text name [] text
text_of-leaf name text = text_of-element name [] [] text ∙ ap (λ start. start ++ content_text name [] text) (append-nil (start_text name))

-- the text of `<a b="1A"> x y</a>`
pub document_text-example : document_text (element (codes "a") (attribute (codes "b") (codes "1A") ∷ []) [] (codes " x y")) ≡ codes "<?xml version=\"1.0\" encoding=\"UTF-8\"?>\n<a b=\"1A\"> x y</a>\n"
unfolding first_line
document_text-example = ap (λ text. first_line ++ text) (text_of-element (codes "a") (attribute (codes "b") (codes "1A") ∷ []) [] (codes " x y"))
