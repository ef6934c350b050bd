use Rattle.std.proofs.Common.{◌≡◌, ℕ, List, [], ◌∷◌, map, codes, ap, ◌∙◌, if◌then◌else◌}
use Rattle.std.specs.Str.{bytes_eq, is_utf8, chars}
use lib.Utf8.{encode}
use Rattle.name_tables.specs.Grammar.{is_id_text}
use Rattle.doc_model.specs.declared.tree.Attribute.{Attribute}
use Rattle.doc_model.specs.declared.tree.Element.{Element, fold-roll-Element}
use Rattle.doc_model.specs.Trees.{attribute, element_at}
use Rattle.doc_tree.specs.declared.faults.Fault.{Fault}
use Rattle.doc_tree.specs.declared.faults.Fault.TheVariants as fault
use Rattle.net_model.specs.declared.kinds.Kind.TheVariants.{Pt}
use Rattle.net_elements.specs.declared.roles.Role.TheVariants as role
use Rattle.net_elements.specs.Instances.{net_with, plain, symmetric, with_id}
use Rattle.net_elements.specs.Rules.{Walk, broken_from, broken_rules, nothing_met, walk_of, walk_of_parts}
use Rattle.net_elements.proofs.laws.small_instances_hold.Goals as goal

-- an element with the walks of its children
abbrev walk_at : ℕ → List ℕ → List Attribute → List Walk → Walk
walk_at at name attributes children = walk_of_parts (record { at = at; name = name; attributes = attributes; children = children; text = [] })

walked : (at : ℕ) (name : List ℕ) (attributes : List Attribute) (children : List Element) → walk_of (element_at at name attributes children []) ≡ walk_at at name attributes (map walk_of children)
walked at name attributes children = fold-roll-Element Walk walk_of_parts (record { at = at; name = name; attributes = attributes; children = children; text = [] })

-- a net, by the walks of its children
abbrev broken_in : Walk → List (ℕ × Fault)
broken_in walk = if bytes_eq walk.name (codes "pnml") then broken_from nothing_met (walk.notes Pt role.Pnml) else (walk.at, fault.Unexpected) ∷ []

abbrev root_of : List ℕ → List Walk → Walk
root_of type children = walk_at 0 (codes "pnml") [] (walk_at 6 (codes "net") (attribute (codes "id") (codes "n") ∷ attribute (codes "type") type ∷ []) children ∷ [])

of_net : (type : List ℕ) (children : List Element) → broken_rules (net_with type children) ≡ broken_in (root_of type (map walk_of children))
of_net type children =
    let ats = attribute (codes "id") (codes "n") ∷ attribute (codes "type") type ∷ [] in
    ap broken_in (walked 0 (codes "pnml") [] (element_at 6 (codes "net") ats children [] ∷ [])
    ∙ ap (λ w. walk_at 0 (codes "pnml") [] (w ∷ [])) (walked 6 (codes "net") ats children))

of_two : (type : List ℕ) (a b : Element) (v w : Walk) → walk_of a ≡ v → walk_of b ≡ w → broken_rules (net_with type (a ∷ b ∷ [])) ≡ broken_in (root_of type (v ∷ w ∷ []))
of_two type a b v w first second =
    of_net type (a ∷ b ∷ []) ∙ ap (λ x. broken_in (root_of type (x ∷ walk_of b ∷ []))) first ∙ ap (λ x. broken_in (root_of type (v ∷ x ∷ []))) second

of_three : (type : List ℕ) (a b c : Element) (u v w : Walk) → walk_of a ≡ u → walk_of b ≡ v → walk_of c ≡ w → broken_rules (net_with type (a ∷ b ∷ c ∷ [])) ≡ broken_in (root_of type (u ∷ v ∷ w ∷ []))
of_three type a b c u v w first second third =
    of_net type (a ∷ b ∷ c ∷ []) ∙ ap (λ x. broken_in (root_of type (x ∷ walk_of b ∷ walk_of c ∷ []))) first
    ∙ ap (λ x. broken_in (root_of type (u ∷ x ∷ walk_of c ∷ []))) second ∙ ap (λ x. broken_in (root_of type (u ∷ v ∷ x ∷ []))) third

of_id : (at : ℕ) (name id : List ℕ) → walk_of (with_id at name id) ≡ walk_at at name (attribute (codes "id") id ∷ []) []
of_id at name id = walked at name (attribute (codes "id") id ∷ []) []

pub returns-clause-second : goal.returns-clause-second
unfolding is_id_text is_utf8 chars encode
returns-clause-second c = of_two plain _ _ _ _ (of_id 72 (codes "place") (codes "a")) (of_id 87 (codes "place") (codes "a"))

pub returns-clause-nothing : goal.returns-clause-nothing
unfolding is_id_text is_utf8 chars encode
returns-clause-nothing c = of_two plain _ _ _ _ (of_id 72 (codes "place") (codes "a")) (of_id 87 (codes "transition") (codes "b"))

pub returns-clause-each : goal.returns-clause-each
unfolding is_id_text is_utf8 chars encode
returns-clause-each c =
    of_three symmetric _ _ _ _ _ _ (of_id 79 (codes "place") (codes "a")) (walked 94 (codes "arc") (attribute (codes "id") (codes "b") ∷ attribute (codes "source") (codes "a") ∷ []) [])
    (of_id 118 (codes "node") (codes "c"))
