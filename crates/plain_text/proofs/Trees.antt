-- What an element writes, by what its attributes and its children write.
use Rattle.std.proofs.Common.{◌≡◌, ℕ, ◌<◌, Bool, true, false, List, [], ◌∷◌, ◌++◌, map, length, flat_map, codes, if◌then◌else◌, refl, sym, ap, ◌∙◌, append_assoc, arith}
use Rattle.std.proofs.lemmas.List.{append-nil}
use Rattle.doc_model.specs.declared.tree.Attribute.{Attribute}
use Rattle.doc_model.specs.declared.tree.Element.{Element}
use Rattle.doc_model.specs.Texts.{attribute_text, content_text, start_text, text_of}
use Rattle.doc_model.specs.Trees as tree
use Rattle.doc_model.proofs.TextLaws.{text_of-element, text_of-out}
use Rattle.doc_model.proofs.Writing.{content-children}
use Rattle.plain_text.specs.Markup.{element, empty_element, parent_element, end_tag}
use Rattle.plain_text.proofs.Nonempty.{element-some, flat_map-some}

abbrev pub attributes_text : List Attribute → List ℕ
attributes_text attributes = flat_map attribute_text attributes

abbrev pub children_text : List Element → List ℕ
children_text children = flat_map text_of children

pub one_attribute : (a : Attribute) → attributes_text (a ∷ []) ≡ attribute_text a
one_attribute a = append-nil (attribute_text a)

pub two_attributes : (a b : Attribute) → attributes_text (a ∷ b ∷ []) ≡ attribute_text a ++ attribute_text b
two_attributes a b = ap (λ rest. attribute_text a ++ rest) (one_attribute b)

pub three_attributes : (a b c : Attribute) → attributes_text (a ∷ b ∷ c ∷ []) ≡ attribute_text a ++ attribute_text b ++ attribute_text c
three_attributes a b c =
    ap (λ rest. attribute_text a ++ rest) (two_attributes b c) ∙ sym (append_assoc (attribute_text a) (attribute_text b) (attribute_text c))

pub one_child : (child : Element) → children_text (child ∷ []) ≡ text_of child
one_child child = append-nil (text_of child)

pub two_children : (a b : Element) → children_text (a ∷ b ∷ []) ≡ text_of a ++ text_of b
two_children a b = ap (λ rest. text_of a ++ rest) (one_child b)

pub empty-tree : (name : List ℕ) (attributes : List Attribute) (written : List ℕ) → attributes_text attributes ≡ written
    → text_of (tree.element name attributes [] []) ≡ empty_element name written
empty-tree name attributes written same =
    text_of-element name attributes [] [] ∙ ap (λ inner. start_text name ++ inner ++ codes "/>\n") same

pub parent-tree : (name : List ℕ) (attributes : List Attribute) (child : Element) (children : List Element) (written inner : List ℕ)
    → attributes_text attributes ≡ written → children_text (child ∷ children) ≡ inner
    → text_of (tree.element name attributes (child ∷ children) []) ≡ parent_element name written inner
parent-tree name attributes child children written inner same within =
    text_of-element name attributes (child ∷ children) []
    ∙ ap (λ front. start_text name ++ front ++ content_text name (map text_of (child ∷ children)) []) same
    ∙ ap (λ back. start_text name ++ written ++ back) (content-children name (child ∷ children) [] (omega arith))
    ∙ sym (append_assoc (start_text name ++ written) (codes ">\n" ++ children_text (child ∷ children)) (end_tag name))
    ∙ ap (λ text. start_text name ++ written ++ (codes ">\n" ++ text) ++ end_tag name) within

text_of-some : (e : Element) → 0 < length (text_of e)
text_of-some e = rw (text_of-out e) (omega arith)

pub any-tree : (name : List ℕ) (attributes : List Attribute) (children : List Element) (written inner : List ℕ)
    → attributes_text attributes ≡ written → children_text children ≡ inner
    → text_of (tree.element name attributes children []) ≡ element name written inner
any-tree name attributes [] written inner same within =
    empty-tree name attributes written same ∙ ap (λ text. element name written text) within
any-tree name attributes (child ∷ children) written inner same within =
    parent-tree name attributes child children written (children_text (child ∷ children)) same refl
    ∙ sym (element-some name written (children_text (child ∷ children)) (flat_map-some text_of (child ∷ children) text_of-some (omega arith)))
    ∙ ap (λ text. element name written text) within

pub optional-tree : (without : Bool) (name : List ℕ) (attributes : List Attribute) (child : Element) (written inner : List ℕ)
    → attributes_text attributes ≡ written → text_of child ≡ inner
    → text_of (tree.element name attributes (if without then [] else child ∷ []) []) ≡ (if without then empty_element name written else parent_element name written inner)
optional-tree true name attributes child written inner same within = empty-tree name attributes written same
optional-tree false name attributes child written inner same within =
    parent-tree name attributes child [] written inner same (one_child child ∙ within)

pub map-tree : {X : Type 0} (f : X → Element) (g : X → List ℕ) → ((x : X) → text_of (f x) ≡ g x) → (xs : List X) → children_text (map f xs) ≡ flat_map g xs
map-tree f g same [] = refl
map-tree f g same (x ∷ xs) = ap (λ front. front ++ children_text (map f xs)) (same x) ∙ ap (λ rest. g x ++ rest) (map-tree f g same xs)
