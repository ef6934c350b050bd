-- Small trees and the rules that they break, as instances of the definition.
use Rattle.std.specs.Prelude.{◌≡◌, ℕ, List, [], ◌∷◌, codes}
use Rattle.doc_model.specs.declared.tree.Element.{Element}
use Rattle.doc_model.specs.Trees.{attribute, element_at}
use Rattle.doc_tree.specs.declared.faults.Fault.TheVariants as fault
use Rattle.net_elements.specs.Rules.{broken_rules}

-- `<pnml><net id="n" type="..">`, these children, `</net></pnml>`, for a net of a type
abbrev pub net_with : List ℕ → List Element → Element
net_with type children =
    element_at 0 (codes "pnml") [] (element_at 6 (codes "net") (attribute (codes "id") (codes "n") ∷ attribute (codes "type") type ∷ []) children [] ∷ []) []

abbrev pub plain : List ℕ
plain = codes "http://www.pnml.org/version-2009/grammar/ptnet"

abbrev pub symmetric : List ℕ
symmetric = codes "http://www.pnml.org/version-2009/grammar/symmetricnet"

-- an element with an id alone
abbrev pub with_id : ℕ → List ℕ → List ℕ → Element
with_id at name id = element_at at name (attribute (codes "id") id ∷ []) [] []

-- two places of one id
abbrev pub SecondIdIsBroken : Type 0
SecondIdIsBroken = broken_rules (net_with plain (with_id 72 (codes "place") (codes "a") ∷ with_id 87 (codes "place") (codes "a") ∷ [])) ≡ (87, fault.DuplicateId) ∷ []

-- a place and a transition
abbrev pub NothingIsBroken : Type 0
NothingIsBroken = broken_rules (net_with plain (with_id 72 (codes "place") (codes "a") ∷ with_id 87 (codes "transition") (codes "b") ∷ [])) ≡ []

-- a place of a symmetric net without a type, an arc without a target, and an element of another name, in this order
abbrev pub EachIsBroken : Type 0
EachIsBroken =
    broken_rules (net_with symmetric (with_id 79 (codes "place") (codes "a")
    ∷ element_at 94 (codes "arc") (attribute (codes "id") (codes "b") ∷ attribute (codes "source") (codes "a") ∷ []) [] []
    ∷ with_id 118 (codes "node") (codes "c") ∷ []))
    ≡ (79, fault.MissingChild) ∷ (94, fault.MissingAttribute) ∷ (118, fault.Unexpected) ∷ []
