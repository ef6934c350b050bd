-- What is found is the first of the broken rules.
use Rattle.std.proofs.Common.{◌≡◌, ℕ, Bool, true, false, List, [], ◌∷◌, codes, slice_get, Some, Result, Ok, Err, IfErr, OnOk, refl, sym, ap, ◌∙◌, subst, if◌then◌else◌}
use Rattle.std.specs.Str.{bytes_eq}
use Rattle.doc_model.specs.declared.tree.Element.{Element}
use Rattle.doc_tree.specs.declared.faults.Fault.{Fault}
use Rattle.doc_tree.specs.declared.faults.Fault.TheVariants as fault
use Rattle.net_elements.specs.declared.faults.ReadFault.{ReadFault}
use Rattle.net_elements.specs.declared.faults.ReadFault.TheVariants.{Structure, Memory}
use Rattle.net_model.specs.declared.kinds.Kind.TheVariants.{Pt}
use Rattle.net_elements.specs.declared.roles.Role.TheVariants.{Pnml}
use Rattle.net_elements.specs.Rules.{Met, Note, broken, final, node, symbol, broken_from, broken_rules, is_among, nothing_met, walk_of, with_node, with_symbol}
use Rattle.net_elements.specs.Walking.{Finds, IsFirst, found, name_of}
use Rattle.net_elements.proofs.Walks.{walk_name}

abbrev pub Says : Result Met (ℕ × Fault) → List (ℕ × Fault) → Type 0
Says (Ok met) rules = rules ≡ []
Says (Err first) rules = slice_get rules 0 ≡ Some first

either : (b : Bool) (first : ℕ × Fault) (x : Result Met (ℕ × Fault)) (xs ys : List (ℕ × Fault)) → Says x ys
    → Says (if b then Err first else x) (if b then first ∷ xs else ys)
either true first x xs ys h = refl
either false first x xs ys h = h

pub says : (met : Met) (notes : List Note) → Says (found met notes) (broken_from met notes)
says met [] = refl
says met (broken at kind ∷ notes) = refl
says met (final at kind ∷ notes) = refl
says met (node at id ∷ notes) =
    either (is_among met.nodes id) (at, fault.DuplicateId) _ (broken_from met notes) _ (says (with_node met id) notes)
says met (symbol at id ∷ notes) =
    either (is_among met.symbols id) (at, fault.DuplicateId) _ (broken_from met notes) _ (says (with_symbol met id) notes)

-- where a walk ends well nothing is broken, and where it stops it is at the first rule
pub nothing_broken : (before after : Met) (notes : List Note) (u : Unit) → Finds after (Ok u) (found before notes) → broken_from before notes ≡ []
nothing_broken before after notes u h = subst (λ f. Says f (broken_from before notes)) h (says before notes)

pub first_broken : (before after : Met) (notes : List Note) (stop : ReadFault) → Finds after (Err stop) (found before notes) → IsFirst (broken_from before notes) stop
first_broken before after notes (Structure at kind) h = subst (λ f. Says f (broken_from before notes)) h (says before notes)
first_broken before after notes Memory h = tt

-- the rules of a tree whose root has the right name
pub root_rules : (root : Element) → bytes_eq (name_of root) (codes "pnml") ≡ true → broken_rules root ≡ broken_from nothing_met ((walk_of root).notes Pt Pnml)
root_rules root h =
    ap (λ b. if b then broken_from nothing_met ((walk_of root).notes Pt Pnml) else ((walk_of root).at, fault.Unexpected) ∷ [])
    (ap (λ name. bytes_eq name (codes "pnml")) (walk_name root) ∙ h)

pub sound_root : (root : Element) (after : Met) (result : Result Unit ReadFault) → bytes_eq (name_of root) (codes "pnml") ≡ true
    → Finds after result (found nothing_met ((walk_of root).notes Pt Pnml)) → OnOk result (broken_rules root ≡ [])
sound_root root after (Ok u) h known = root_rules root h ∙ nothing_broken nothing_met after ((walk_of root).notes Pt Pnml) u known
sound_root root after (Err stop) h known = tt

pub first_in_root : (root : Element) (after : Met) (result : Result Unit ReadFault) → bytes_eq (name_of root) (codes "pnml") ≡ true
    → Finds after result (found nothing_met ((walk_of root).notes Pt Pnml)) → IfErr result (λ stop. IsFirst (broken_rules root) stop)
first_in_root root after (Ok u) h known = tt
first_in_root root after (Err stop) h known =
    subst (λ rules. IsFirst rules stop) (sym (root_rules root h)) (first_broken nothing_met after ((walk_of root).notes Pt Pnml) stop known)
