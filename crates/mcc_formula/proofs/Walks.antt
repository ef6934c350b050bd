-- Walks over the parts of a formula: the first fault of two lists of faults, and what an element's faults are made of.
use Rattle.std.proofs.Common.{◌≡◌, ℕ, ◌+◌, ◌<◌, List, [], ◌∷◌, ◌++◌, map, length, drop, get_or, slice_get, Option, Some, Result, sym, ap, ◌∙◌, subst}
use Rattle.std.proofs.lemmas.List.{length-map}
use Rattle.doc_model.specs.declared.tree.Element.{Element, out-Element, fold_out-Element}
use Rattle.net_elements.proofs.Walks.{rest_of}
use Rattle.net_elements.specs.Walking.{name_of}
use Rattle.mcc_model.specs.declared.faults.FormulaFault.{FormulaFault}
use Rattle.mcc_model.specs.declared.parts.Part.{Part}
use Rattle.mcc_model.specs.Table.{part_of_child}
use Rattle.mcc_model.specs.Goals.{Nodes, Walk, children_faults, end_faults, faults_as, walk_of, walk_of_parts}
use Rattle.mcc_formula.specs.Walking.{Finds}

-- the first fault of the first list is that of both
pub stops : (first later : List FormulaFault) (fault : FormulaFault) → slice_get first 0 ≡ Some fault → slice_get (first ++ later) 0 ≡ Some fault
stops [] later fault h = absurd (cc)
stops (f ∷ fs) later fault h = h

-- where the first list is empty, the second decides
pub goes_on : (first later : List FormulaFault) (result : Result Unit FormulaFault) → first ≡ [] → Finds result later → Finds result (first ++ later)
goes_on first later result none h = subst (λ f. Finds result (f ++ later)) (sym none) h

pub same_faults : (first second : List FormulaFault) (result : Result Unit FormulaFault) → first ≡ second → Finds result first → Finds result second
same_faults first second result same h = subst (Finds result) same h

-- an element, from its parts
pub walk_name : (nodes : Nodes) (e : Element) → (walk_of nodes e).name ≡ name_of e
walk_name nodes e = ap (λ w. w.name) (fold_out-Element Walk (walk_of_parts nodes) e)

pub walk_at : (nodes : Nodes) (e : Element) → (walk_of nodes e).at ≡ (out-Element e).at
walk_at nodes e = ap (λ w. w.at) (fold_out-Element Walk (walk_of_parts nodes) e)

pub walk_faults : (nodes : Nodes) (e : Element) (p : Part)
    → (walk_of nodes e).faults p ≡ children_faults p 0 (map (walk_of nodes) (out-Element e).children)
    ++ end_faults nodes p (out-Element e).at (length (out-Element e).children) (out-Element e).text
walk_faults nodes e p =
    let parts = out-Element e in
    ap (λ w. w.faults p) (fold_out-Element Walk (walk_of_parts nodes) e)
    ∙ ap (λ n. children_faults p 0 (map (walk_of nodes) parts.children) ++ end_faults nodes p parts.at n parts.text) (length-map parts.children (walk_of nodes))

-- the faults of the children that are left, from one child to the next
abbrev pub left : Nodes → Part → List Element → ℕ → List FormulaFault
left nodes p es at = children_faults p at (map (walk_of nodes) (drop at es))

-- the faults of a child, by how it is read
pub child_faults : (nodes : Nodes) (p : Part) (at : ℕ) (e : Element) (o : Option Part) → part_of_child p at (name_of e) ≡ o
    → faults_as (walk_of nodes e) (part_of_child p at (walk_of nodes e).name) ≡ faults_as (walk_of nodes e) o
child_faults nodes p at e o h = ap (faults_as (walk_of nodes e)) (ap (part_of_child p at) (walk_name nodes e) ∙ h)

pub left_of : (nodes : Nodes) (p : Part) (es : List Element) (at : ℕ) (e : Element) (o : Option Part) → at < length es → e ≡ get_or es at e
    → part_of_child p at (name_of e) ≡ o → left nodes p es at ≡ faults_as (walk_of nodes e) o ++ left nodes p es (at + 1)
left_of nodes p es at e o within is h =
    ap (λ rest. children_faults p at (map (walk_of nodes) rest)) (rest_of es at e within is)
    ∙ ap (λ f. f ++ left nodes p es (at + 1)) (child_faults nodes p at e o h)

-- the walk over the children that are left: it stops at a child, or goes on behind it
pub child_stops : (nodes : Nodes) (p : Part) (es : List Element) (at : ℕ) (e : Element) (o : Option Part) (fault : FormulaFault) → at < length es → e ≡ get_or es at e
    → part_of_child p at (name_of e) ≡ o → left nodes p es at ≡ left nodes p es 0 → slice_get (faults_as (walk_of nodes e) o) 0 ≡ Some fault
    → slice_get (left nodes p es 0) 0 ≡ Some fault
child_stops nodes p es at e o fault within is h known found =
    ap (λ f. slice_get f 0) (sym known ∙ left_of nodes p es at e o within is h)
    ∙ stops (faults_as (walk_of nodes e) o) (left nodes p es (at + 1)) fault found

pub child_done : (nodes : Nodes) (p : Part) (es : List Element) (at : ℕ) (e : Element) (o : Option Part) → at < length es → e ≡ get_or es at e
    → part_of_child p at (name_of e) ≡ o → left nodes p es at ≡ left nodes p es 0 → faults_as (walk_of nodes e) o ≡ []
    → left nodes p es (at + 1) ≡ left nodes p es 0
child_done nodes p es at e o within is h known none =
    ap (λ f. f ++ left nodes p es (at + 1)) (sym none) ∙ sym (left_of nodes p es at e o within is h) ∙ known
