-- Walks over the parts of a property file: over what is left, one element at a time.
use Rattle.std.proofs.Common.{◌≡◌, ℕ, ◌+◌, ◌<◌, List, [], ◌∷◌, ◌++◌, length, drop, take, get_or, codes, true, Result, Ok, Err, IfErr, OnOk, sym, ap, subst, ◌∙◌, if◌then◌else◌}
use Rattle.std.proofs.lemmas.List.{take_more}
use Rattle.std.specs.List.{flat_map}
use Rattle.doc_model.specs.declared.tree.Element.{Element}
use Rattle.doc_tree.specs.declared.faults.Fault.{Fault}
use Rattle.net_elements.specs.declared.faults.ReadFault.{ReadFault}
use Rattle.doc_tree.specs.declared.faults.Fault.TheVariants as fault
use Rattle.net_elements.specs.Rules.{Met, Note, broken_from, nothing_met}
use Rattle.net_elements.proofs.Verdicts.{first_broken, nothing_broken}
use Rattle.net_elements.specs.Walking.{Finds, IsFirst, found}
use Rattle.net_elements.proofs.Walks.{goes_on, rest_of, same_end, stops}
use Rattle.mcc_model.specs.Files.{at_of, broken_in_set, children_of, has_name, member_notes, part_notes, parts_notes}

-- the rest of a walk, where the first of its notes were walked over
pub walk_done : (before after : Met) (rest step more : List Note) (whole : Result Met (ℕ × Fault)) → rest ≡ step ++ more → found before rest ≡ whole
    → found before step ≡ Ok after → found after more ≡ whole
walk_done before after rest step more whole is known done = sym (goes_on before after step more done) ∙ ap (found before) (sym is) ∙ known

pub walk_stops : (before after last : Met) (rest step more : List Note) (whole : Result Met (ℕ × Fault)) (stop : ReadFault) → rest ≡ step ++ more
    → found before rest ≡ whole → Finds after (Err stop) (found before step) → Finds last (Err stop) whole
walk_stops before after last rest step more whole stop is known h =
    same_end last (Err stop) _ whole (ap (found before) (sym is) ∙ known) (stops before after last step more stop h)

-- the parts of a property that are left
abbrev pub left_parts : List Element → ℕ → List Note
left_parts es at = parts_notes (take at es) (drop at es)

pub left_parts_are : (es : List Element) (at : ℕ) (e : Element) → at < length es → e ≡ get_or es at e
    → left_parts es at ≡ part_notes (take at es) e ++ left_parts es (at + 1)
left_parts_are es at e within is =
    ap (parts_notes (take at es)) (rest_of es at e within is)
    ∙ ap (λ earlier. part_notes (take at es) e ++ parts_notes earlier (drop (at + 1) es)) (sym (take_more es at e within ∙ ap (λ x. take at es ++ x ∷ []) (sym is)))

-- the members of a set that are left
abbrev pub left_members : List Element → ℕ → List Note
left_members es at = flat_map member_notes (drop at es)

pub left_members_are : (es : List Element) (at : ℕ) (e : Element) → at < length es → e ≡ get_or es at e
    → left_members es at ≡ member_notes e ++ left_members es (at + 1)
left_members_are es at e within is = ap (flat_map member_notes) (rest_of es at e within is)

-- the rules that a set breaks whose root has the right name
pub set_rules : (root : Element) → has_name (codes "property-set") root ≡ true
    → broken_in_set root ≡ broken_from nothing_met (left_members (children_of root) 0)
set_rules root h =
    ap (λ b. if b then broken_from nothing_met (left_members (children_of root) 0) else (at_of root, fault.Unexpected) ∷ []) h

pub sound_set : (root : Element) (after : Met) (result : Result Unit ReadFault) → has_name (codes "property-set") root ≡ true
    → Finds after result (found nothing_met (left_members (children_of root) 0)) → OnOk result (broken_in_set root ≡ [])
sound_set root after (Ok u) h known = set_rules root h ∙ nothing_broken nothing_met after (left_members (children_of root) 0) u known
sound_set root after (Err stop) h known = tt

pub first_in_set : (root : Element) (after : Met) (result : Result Unit ReadFault) → has_name (codes "property-set") root ≡ true
    → Finds after result (found nothing_met (left_members (children_of root) 0)) → IfErr result (λ stop. IsFirst (broken_in_set root) stop)
first_in_set root after (Ok u) h known = tt
first_in_set root after (Err stop) h known =
    subst (λ rules. IsFirst rules stop) (sym (set_rules root h)) (first_broken nothing_met after (left_members (children_of root) 0) stop known)
