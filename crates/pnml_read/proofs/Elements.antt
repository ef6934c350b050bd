-- What elements give, from their name, attributes and children; and which of them is a child.
use Rattle.std.proofs.Common.{◌≡◌, ℕ, Bool, true, false, not, cond, ◌||◌, List, [], ◌∷◌, map, slice_index_or, refl, ap, sym, ◌∙◌}
use Rattle.doc_model.specs.declared.tree.Attribute.{Attribute}
use Rattle.doc_model.specs.declared.tree.Element.{Element, fold-roll-Element, fold_out-Element, out-Element}
use Rattle.doc_model.specs.Trees.{element}
use Rattle.net_elements.specs.declared.roles.Role.{Role}
use Rattle.net_elements.specs.Table.{word_of}
use Rattle.net_elements.specs.Rules.{is_passed_over, walk_of}
use Rattle.net_elements.specs.Walking.{name_of}
use Rattle.net_elements.proofs.Walks.{walk_name}
use Rattle.pnml_read.specs.Nets.{Given, given, given_by_parts, child, kept, nothing}

-- what an element gives, from what its children give
abbrev pub gives : List ℕ → List Attribute → List Given → List ℕ → Given
gives name attributes children text = given_by_parts (record { at = 0; name = name; attributes = attributes; children = children; text = text })

pub element_gives : (name : List ℕ) (attributes : List Attribute) (children : List Element) (text : List ℕ)
    → given (element name attributes children text) ≡ gives name attributes (map given children) text
element_gives name attributes children text =
    fold-roll-Element Given given_by_parts (record { at = 0; name = name; attributes = attributes; children = children; text = text })

-- children that aren't passed over
pub kept_first : (r : Role) (g : Given) (gs : List Given) → is_passed_over r g.name ≡ false → kept r (g ∷ gs) ≡ g ∷ kept r gs
kept_first r g gs h = ap (λ b. cond (not b) (g ∷ kept r gs) (kept r gs)) h

pub first_child : (r : Role) (g : Given) (gs : List Given) → is_passed_over r g.name ≡ false → child r 0 (g ∷ gs) ≡ g
first_child r g gs h = ap (λ ks. slice_index_or ks 0 nothing) (kept_first r g gs h)

pub second_child : (r : Role) (g h : Given) (gs : List Given) → is_passed_over r g.name ≡ false → is_passed_over r h.name ≡ false → child r 1 (g ∷ h ∷ gs) ≡ h
second_child r g h gs first second =
    ap (λ ks. slice_index_or ks 1 nothing) (kept_first r g (h ∷ gs) first) ∙ ap (λ ks. slice_index_or (g ∷ ks) 1 nothing) (kept_first r h gs second)

-- a name that isn't set aside is passed over by no role but a label's
pub or_false : (a : Bool) → a ≡ false → (a || false) ≡ false
or_false a h = ap (λ b. b || false) h

-- what an element gives, from its parts
pub given_parts : (e : Element) → given e ≡ gives (out-Element e).name (out-Element e).attributes (map given (out-Element e).children) (out-Element e).text
given_parts e = fold_out-Element Given given_by_parts e

pub given_name : (e : Element) → (given e).name ≡ (out-Element e).name
given_name e = ap (λ g. g.name) (given_parts e)

pub given_names : (es : List Element) → map (λ g. g.name) (map given es) ≡ map name_of es
given_names [] = refl
given_names (e ∷ es) = ap (λ n. n ∷ map (λ g. g.name) (map given es)) (given_name e) ∙ ap (λ ns. name_of e ∷ ns) (given_names es)

pub given_walked : (e : Element) → (given e).name ≡ (walk_of e).name
given_walked e = given_name e ∙ sym (walk_name e)

-- the name of an element that is read in a role
pub name_is : (e : Element) (r : Role) → (given e).name ≡ word_of r → (out-Element e).name ≡ word_of r
name_is e r h = sym (given_name e) ∙ h
