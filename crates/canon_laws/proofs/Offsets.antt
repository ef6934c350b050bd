-- Offsets play no part in whether a tree breaks a rule.
use Rattle.std.proofs.Common.{◌≡◌, ℕ, Bool, true, false, List, [], ◌∷◌, ◌++◌, map, codes, Option, None, Some, refl, ap, sym, subst, ◌∙◌, if◌then◌else◌}
use Rattle.std.proofs.lemmas.List.{map-append}
use Rattle.std.specs.Str.{bytes_eq}
use Rattle.doc_model.specs.declared.tree.Attribute.{Attribute}
use Rattle.doc_model.specs.declared.tree.Element.{Element}
use Rattle.doc_model.specs.Trees.{element_at}
use Rattle.doc_tree.specs.declared.faults.Fault.{Fault}
use Rattle.doc_tree.specs.declared.faults.Fault.TheVariants as fault
use Rattle.doc_tree.specs.Writable
use Rattle.doc_tree.specs.Writable.{AreSameTrees, IsSameTree}
use Rattle.net_model.specs.declared.kinds.Kind.{Kind}
use Rattle.net_model.specs.declared.kinds.Kind.TheVariants.{Pt}
use Rattle.net_elements.specs.declared.roles.Key.{Key}
use Rattle.net_elements.specs.declared.roles.Key.TheVariants as key
use Rattle.net_elements.specs.declared.roles.Role.{Role}
use Rattle.net_elements.specs.declared.roles.Role.TheVariants as role
use Rattle.net_elements.specs.declared.seats.Seat.{Seat}
use Rattle.net_elements.specs.declared.seats.Seat.TheVariants.{PassedOver, Read, Refused}
use Rattle.net_elements.specs.Rules.{Met, Note, Walk, attribute_notes, broken, broken_from, broken_rules, child_notes, children_notes, declared, end_notes, fault_of, final, is_among, is_bad_text, is_missing, key_notes, kind_within, node, note_if, nothing_met, passes, refusal, seat_notes, seat_of, symbol, value_of, walk_of, with_node, with_symbol}
use Rattle.net_elements.specs.Table.{Slot, key_word_of, keys_of, slots_of}
use Rattle.canon_laws.proofs.Walked.{element_walks, walked}

-- notes without offsets
abbrev erased : Note → Note
erased (broken at rule) = broken 0 rule
erased (final at rule) = final 0 rule
erased (node at id) = node 0 id
erased (symbol at id) = symbol 0 id

abbrev without_offsets : List Note → List Note
without_offsets notes = map erased notes

refusal_erased : (at : ℕ) (k : Key) (rule : Fault) → erased (refusal at k rule) ≡ refusal 0 k rule
refusal_erased at key.NetType rule = refl
refusal_erased at k rule = refl

declared_erased : (at : ℕ) (k : Key) (value : List ℕ) → without_offsets (declared at k value) ≡ declared 0 k value
declared_erased at key.NodeId value = refl
declared_erased at key.SymbolId value = refl
declared_erased at k value = refl

key_erased : (at : ℕ) (k : Key) (value : Option (List ℕ)) → without_offsets (key_notes at k value) ≡ key_notes 0 k value
key_erased at k None = ap (λ n. n ∷ []) (refusal_erased at k fault.MissingAttribute)
key_erased at k (Some value) = by (passes k value)
  where
    by : (b : Bool) → without_offsets (if b then declared at k value else refusal at k (fault_of k) ∷ []) ≡ (if b then declared 0 k value else refusal 0 k (fault_of k) ∷ [])
    by true = declared_erased at k value
    by false = ap (λ n. n ∷ []) (refusal_erased at k (fault_of k))

attributes_erased : (at : ℕ) (keys : List Key) (attributes : List Attribute) → without_offsets (attribute_notes at keys attributes) ≡ attribute_notes 0 keys attributes
attributes_erased at [] attributes = refl
attributes_erased at (k ∷ keys) attributes =
    map-append erased (key_notes at k (value_of (key_word_of k) attributes)) (attribute_notes at keys attributes)
    ∙ ap (λ ns. ns ++ without_offsets (attribute_notes at keys attributes)) (key_erased at k (value_of (key_word_of k) attributes))
    ∙ ap (λ ns. key_notes 0 k (value_of (key_word_of k) attributes) ++ ns) (attributes_erased at keys attributes)

end_erased : (slots : List Slot) (r : Role) (at : ℕ) (names : List (List ℕ)) (text : List ℕ)
    → without_offsets (end_notes slots r at names text) ≡ end_notes slots r 0 names text
end_erased slots r at names text = by (is_missing slots names) (is_bad_text r text)
  where
    by : (a b : Bool) → without_offsets (note_if a (broken at fault.MissingChild) ++ note_if b (broken at fault.BadNumber))
        ≡ note_if a (broken 0 fault.MissingChild) ++ note_if b (broken 0 fault.BadNumber)
    by true true = refl
    by true false = refl
    by false true = refl
    by false false = refl

-- walks that differ in offsets alone
record IsSame (w v : Walk) : Type 0 where
  pub name : w.name ≡ v.name
  pub says : (kind : Kind) (r : Role) → without_offsets (w.notes kind r) ≡ without_offsets (v.notes kind r)

record AreSame (ws vs : List Walk) : Type 0 where
  pub names : map (λ w. w.name) ws ≡ map (λ w. w.name) vs
  pub says : (kind : Kind) (r : Role) (earlier : List (List ℕ)) → without_offsets (children_notes kind r earlier ws) ≡ without_offsets (children_notes kind r earlier vs)

seat_same : (kind : Kind) (w v : Walk) (s : Seat) → IsSame w v → without_offsets (seat_notes kind w s) ≡ without_offsets (seat_notes kind v s)
seat_same kind w v PassedOver is = refl
seat_same kind w v (Read r) is = is.says kind r
seat_same kind w v (Refused rule) is = refl

child_same : (kind : Kind) (r : Role) (earlier : List (List ℕ)) (w v : Walk) → IsSame w v
    → without_offsets (child_notes kind r earlier w) ≡ without_offsets (child_notes kind r earlier v)
child_same kind r earlier w v is =
    seat_same kind w v (seat_of kind r earlier w.name) is ∙ ap (λ n. without_offsets (seat_notes kind v (seat_of kind r earlier n))) is.name

more_same : (w v : Walk) (ws vs : List Walk) → IsSame w v → AreSame ws vs → AreSame (w ∷ ws) (v ∷ vs)
more_same w v ws vs is are = record {
  names = ap (λ n. n ∷ map (λ w. w.name) ws) is.name ∙ ap (λ ns. v.name ∷ ns) are.names;
  says = λ kind r earlier.
      map-append erased (child_notes kind r earlier w) (children_notes kind r (earlier ++ w.name ∷ []) ws)
      ∙ ap (λ ns. ns ++ without_offsets (children_notes kind r (earlier ++ w.name ∷ []) ws)) (child_same kind r earlier w v is)
      ∙ ap (λ n. without_offsets (child_notes kind r earlier v) ++ without_offsets (children_notes kind r (earlier ++ n ∷ []) ws)) is.name
      ∙ ap (λ ns. without_offsets (child_notes kind r earlier v) ++ ns) (are.says kind r (earlier ++ v.name ∷ []))
      ∙ sym (map-append erased (child_notes kind r earlier v) (children_notes kind r (earlier ++ v.name ∷ []) vs));
}

parts_erased : (at : ℕ) (n text : List ℕ) (ats : List Attribute) (ws : List Walk) (kind : Kind) (r : Role)
    → without_offsets ((walked at n ats ws text).notes kind r)
    ≡ attribute_notes 0 (keys_of r) ats ++ without_offsets (children_notes (kind_within kind r ats) r [] ws)
    ++ end_notes (slots_of (kind_within kind r ats) r) r 0 (map (λ w. w.name) ws) text
parts_erased at n text ats ws kind r =
    let within = kind_within kind r ats in
    let own = attribute_notes at (keys_of r) ats in
    let inner = children_notes within r [] ws in
    let ends = end_notes (slots_of within r) r at (map (λ w. w.name) ws) text in
    map-append erased (own ++ inner) ends
    ∙ ap (λ ns. ns ++ without_offsets ends) (map-append erased own inner)
    ∙ ap (λ ns. (ns ++ without_offsets inner) ++ without_offsets ends) (attributes_erased at (keys_of r) ats)
    ∙ ap (λ ns. (attribute_notes 0 (keys_of r) ats ++ without_offsets inner) ++ ns) (end_erased (slots_of within r) r at (map (λ w. w.name) ws) text)

parts_same : (at bt : ℕ) (n text : List ℕ) (ats : List Attribute) (ws vs : List Walk) → AreSame ws vs → IsSame (walked at n ats ws text) (walked bt n ats vs text)
parts_same at bt n text ats ws vs are = record {
  name = refl;
  says = λ kind r.
      let within = kind_within kind r ats in
      let own = attribute_notes 0 (keys_of r) ats in
      parts_erased at n text ats ws kind r
      ∙ ap (λ ns. (own ++ ns) ++ end_notes (slots_of within r) r 0 (map (λ w. w.name) ws) text) (are.says within r [])
      ∙ ap (λ names. (own ++ without_offsets (children_notes within r [] vs)) ++ end_notes (slots_of within r) r 0 names text) are.names
      ∙ sym (parts_erased bt n text ats vs kind r);
}

mutual
  tree_same : {t u : Element} → IsSameTree t u → IsSame (walk_of t) (walk_of u)
  tree_same (Writable.IsSameTree.same at bt n text ats {ks} {js} children) =
      subst (λ w. IsSame w (walk_of (element_at bt n ats js text))) (sym (element_walks at n ats ks text))
      (subst (λ w. IsSame (walked at n ats (map walk_of ks) text) w) (sym (element_walks bt n ats js text))
      (parts_same at bt n text ats (map walk_of ks) (map walk_of js) (trees_same children)))

  trees_same : {ks js : List Element} → AreSameTrees ks js → AreSame (map walk_of ks) (map walk_of js)
  trees_same Writable.AreSameTrees.nothing = record { names = refl; says = λ kind r earlier. refl }
  trees_same (Writable.AreSameTrees.more {k} {j} {ks} {js} first later) =
      more_same (walk_of k) (walk_of j) (map walk_of ks) (map walk_of js) (tree_same first) (trees_same later)

-- broken rules without offsets
abbrev rule_erased : (ℕ × Fault) → (ℕ × Fault)
rule_erased r = (0, r.1)

met_erased : (b : Bool) (at : ℕ) (again new again_erased new_erased : List (ℕ × Fault)) → map rule_erased again ≡ again_erased → map rule_erased new ≡ new_erased
    → map rule_erased (if b then (at, fault.DuplicateId) ∷ again else new) ≡ (if b then (0, fault.DuplicateId) ∷ again_erased else new_erased)
met_erased true at again new again_erased new_erased h k = ap (λ rs. (0, fault.DuplicateId) ∷ rs) h
met_erased false at again new again_erased new_erased h k = k

rules_erased : (met : Met) (notes : List Note) → map rule_erased (broken_from met notes) ≡ broken_from met (without_offsets notes)
rules_erased met [] = refl
rules_erased met (broken at rule ∷ notes) = ap (λ rs. (0, rule) ∷ rs) (rules_erased met notes)
rules_erased met (final at rule ∷ notes) = refl
rules_erased met (node at id ∷ notes) =
    met_erased (is_among met.nodes id) at _ _ _ _ (rules_erased met notes) (rules_erased (with_node met id) notes)
rules_erased met (symbol at id ∷ notes) =
    met_erased (is_among met.symbols id) at _ _ _ _ (rules_erased met notes) (rules_erased (with_symbol met id) notes)

none_of : (rules : List (ℕ × Fault)) → map rule_erased rules ≡ [] → rules ≡ []
none_of [] h = refl
none_of (rule ∷ rules) h = cc

notes_same : (met : Met) (one two : List Note) → without_offsets one ≡ without_offsets two → broken_from met one ≡ [] → broken_from met two ≡ []
notes_same met one two is h =
    none_of (broken_from met two)
    (rules_erased met two ∙ ap (broken_from met) (sym is) ∙ sym (rules_erased met one) ∙ ap (map rule_erased) h)

walks_same : (w v : Walk) → IsSame w v
    → (if bytes_eq w.name (codes "pnml") then broken_from nothing_met (w.notes Pt role.Pnml) else (w.at, fault.Unexpected) ∷ []) ≡ []
    → (if bytes_eq v.name (codes "pnml") then broken_from nothing_met (v.notes Pt role.Pnml) else (v.at, fault.Unexpected) ∷ []) ≡ []
walks_same w v is h =
    ap (λ n. if bytes_eq n (codes "pnml") then broken_from nothing_met (v.notes Pt role.Pnml) else (v.at, fault.Unexpected) ∷ []) (sym is.name)
    ∙ by (bytes_eq w.name (codes "pnml")) h
  where
    by : (b : Bool) → (if b then broken_from nothing_met (w.notes Pt role.Pnml) else (w.at, fault.Unexpected) ∷ []) ≡ []
        → (if b then broken_from nothing_met (v.notes Pt role.Pnml) else (v.at, fault.Unexpected) ∷ []) ≡ []
    by true h = notes_same nothing_met (w.notes Pt role.Pnml) (v.notes Pt role.Pnml) (is.says Pt role.Pnml) h
    by false h = cc

-- trees that differ in offsets alone break rules together
pub rules_same : (s t : Element) → IsSameTree s t → broken_rules s ≡ [] → broken_rules t ≡ []
rules_same s t is h = walks_same (walk_of s) (walk_of t) (tree_same is) h
