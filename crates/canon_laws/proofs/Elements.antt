-- What branches of a tree give, and parts that come back, each inside a subterm.
use Rattle.std.proofs.Common.{◌≡◌, ℕ, Bool, true, false, not, cond, ◌||◌, List, [], ◌∷◌, map, refl, ap, ◌∙◌}
use Rattle.std.proofs.lemmas.Bool.{and_parts}
use Rattle.doc_model.specs.declared.tree.Attribute.{Attribute}
use Rattle.doc_model.specs.declared.tree.Element.{Element}
use Rattle.net_elements.specs.declared.roles.Role.{Role}
use Rattle.net_elements.specs.Table.{word_of}
use Rattle.net_elements.specs.Rules.{is_passed_over}
use Rattle.pnml_read.specs.Each.{are_all}
use Rattle.pnml_read.specs.Nets.{Given, given, kept}
use Rattle.pnml_read.proofs.Elements.{element_gives, gives, kept_first}
use Rattle.pnml_write.specs.Canon.{branch}

abbrev pub branch_given : Role → List Attribute → List Given → Given
branch_given r attributes children = gives (word_of r) attributes children []

pub branch_gives : (r : Role) (attributes : List Attribute) (children : List Element) → given (branch r attributes children) ≡ branch_given r attributes (map given children)
branch_gives r attributes children = element_gives (word_of r) attributes children []

-- parts that come back, each inside a subterm
pub parts_back : {A : Type 0} (r : Role) (fit : A → Bool) (tree : A → Element) (inside : Element → Element) (take : Given → A)
    → ((x : A) → is_passed_over r (given (inside (tree x))).name ≡ false) → ((x : A) → take (given (inside (tree x))) ≡ take (given (tree x)))
    → (ys : List ((x : A) × (fit x ≡ true → take (given (tree x)) ≡ x))) → are_all (map fit (map (λ y. y.0) ys)) ≡ true
    → map take (kept r (map given (map inside (map tree (map (λ y. y.0) ys))))) ≡ map (λ y. y.0) ys
parts_back r fit tree inside take stays same [] h = refl
parts_back r fit tree inside take stays same (y ∷ ys) h =
    let parts = and_parts (fit y.0) (are_all (map fit (map (λ y. y.0) ys))) h in
    let rest = map given (map inside (map tree (map (λ y. y.0) ys))) in
    ap (map take) (kept_first r (given (inside (tree y.0))) rest (stays y.0))
    ∙ ap (λ x. x ∷ map take (kept r rest)) (same y.0 ∙ y.1 parts.0)
    ∙ ap (λ later. y.0 ∷ later) (parts_back r fit tree inside take stays same ys parts.1)
