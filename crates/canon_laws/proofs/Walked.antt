-- What is noted in elements that are made of a role, attributes and children.
use Rattle.std.proofs.Common.{◌≡◌, ℕ, ◌+◌, Bool, true, false, cond, ◌||◌, nat_lt, List, [], ◌∷◌, ◌++◌, map, append_assoc, None, Some, refl, ap, sym, ◌∙◌, if◌then◌else◌, arith}
use Rattle.std.proofs.lemmas.Bool.Decides.{nat_tests}
use Rattle.std.proofs.lemmas.List.{append-nil}
use Rattle.std.proofs.lemmas.List.Sums.{sum_by-cons}
use Rattle.std.specs.List.{count_by}
use Rattle.std.specs.Str.{bytes_eq}
use Rattle.doc_model.specs.declared.tree.Attribute.{Attribute}
use Rattle.doc_model.specs.declared.tree.Element.{Element, fold-roll-Element}
use Rattle.doc_model.specs.Trees.{element, element_at}
use Rattle.doc_tree.specs.declared.faults.Fault.TheVariants as fault
use Rattle.net_model.specs.declared.kinds.Kind.{Kind}
use Rattle.net_elements.specs.declared.roles.Key.{Key}
use Rattle.net_elements.specs.declared.roles.Role.{Role}
use Rattle.net_elements.specs.declared.seats.Seat.TheVariants.{PassedOver, Read}
use Rattle.net_elements.specs.Rules.{Note, Walk, attribute_notes, broken, child_notes, children_notes, declared, end_notes, fault_of, has, is_aside, is_bad_text, is_in, is_missing, is_passed_over, key_notes, kind_within, note_if, passes, read_or_refused, refusal, role_among, role_in_slot, role_named, seat_notes, seat_of, walk_of, walk_of_parts}
use Rattle.net_elements.specs.Table.{Slot, any, one, slots_of, keys_of, word_of}
use Rattle.pnml_write.specs.Canon.{branch}

-- the walk of an element at an offset, from those of its children
abbrev pub walked : ℕ → List ℕ → List Attribute → List Walk → List ℕ → Walk
walked at name attributes children text = walk_of_parts (record { at = at; name = name; attributes = attributes; children = children; text = text })

pub element_walks : (at : ℕ) (name : List ℕ) (attributes : List Attribute) (children : List Element) (text : List ℕ)
    → walk_of (element_at at name attributes children text) ≡ walked at name attributes (map walk_of children) text
element_walks at name attributes children text =
    fold-roll-Element Walk walk_of_parts (record { at = at; name = name; attributes = attributes; children = children; text = text })

-- it has the name of a role, and these notes in it
pub record Reads (kind : Kind) (r : Role) (w : Walk) (notes : List Note) : Type 0 where
  pub name : w.name ≡ word_of r
  pub says : w.notes kind r ≡ notes

-- it is read as one of some roles
pub record ReadsAmong (kind : Kind) (roles : List Role) (w : Walk) (notes : List Note) : Type 0 where
  pub role : Role
  pub named : role_named roles (word_of role) ≡ Some role
  pub aside : is_aside (word_of role) ≡ false
  pub reads : Reads kind role w notes

-- attributes, children and the end of an element
pub key_is_declared : (at : ℕ) (k : Key) (value : List ℕ) → passes k value ≡ true → key_notes at k (Some value) ≡ declared at k value
key_is_declared at k value h = ap (λ b. if b then declared at k value else refusal at k (fault_of k) ∷ []) h

pub text_reads : (kind : Kind) (r : Role) (attributes : List Attribute) (children : List Element) (text : List ℕ) (own inner : List Note)
    → attribute_notes 0 (keys_of r) attributes ≡ own
    → children_notes (kind_within kind r attributes) r [] (map walk_of children) ≡ inner
    → end_notes (slots_of (kind_within kind r attributes) r) r 0 (map (λ w. w.name) (map walk_of children)) text ≡ []
    → Reads kind r (walk_of (element (word_of r) attributes children text)) (own ++ inner)
text_reads kind r attributes children text own inner first second third =
    let within = kind_within kind r attributes in
    let ws = map walk_of children in
    let ends = end_notes (slots_of within r) r 0 (map (λ w. w.name) ws) text in
    record {
      name = ap (λ w. w.name) (element_walks 0 (word_of r) attributes children text);
      says =
          ap (λ w. w.notes kind r) (element_walks 0 (word_of r) attributes children text)
          ∙ ap (λ ns. (ns ++ children_notes within r [] ws) ++ ends) first
          ∙ ap (λ ns. (own ++ ns) ++ ends) second
          ∙ ap (λ ns. (own ++ inner) ++ ns) third
          ∙ append-nil (own ++ inner);
    }

pub branch_reads : (kind : Kind) (r : Role) (attributes : List Attribute) (children : List Element) (own inner : List Note)
    → attribute_notes 0 (keys_of r) attributes ≡ own
    → children_notes (kind_within kind r attributes) r [] (map walk_of children) ≡ inner
    → end_notes (slots_of (kind_within kind r attributes) r) r 0 (map (λ w. w.name) (map walk_of children)) [] ≡ []
    → Reads kind r (walk_of (branch r attributes children)) (own ++ inner)
branch_reads kind r attributes children own inner first second third = text_reads kind r attributes children [] own inner first second third

-- a child that is read in a role
pub child_reads : (kind : Kind) (parent r : Role) (earlier : List (List ℕ)) (w : Walk) (notes : List Note)
    → seat_of kind parent earlier (word_of r) ≡ Read r → Reads kind r w notes → child_notes kind parent earlier w ≡ notes
child_reads kind parent r earlier w notes seat is =
    ap (λ n. seat_notes kind w (seat_of kind parent earlier n)) is.name ∙ ap (seat_notes kind w) seat ∙ is.says

-- an element with one child
pub one_reads : (kind : Kind) (parent r : Role) (attributes : List Attribute) (tree : Element) (own notes : List Note)
    → kind_within kind parent attributes ≡ kind → attribute_notes 0 (keys_of parent) attributes ≡ own
    → seat_of kind parent [] (word_of r) ≡ Read r → end_notes (slots_of kind parent) parent 0 (word_of r ∷ []) [] ≡ []
    → Reads kind r (walk_of tree) notes
    → Reads kind parent (walk_of (branch parent attributes (tree ∷ []))) (own ++ notes)
one_reads kind parent r attributes tree own notes same first seat ends is =
    branch_reads kind parent attributes (tree ∷ []) own notes first
    (ap (λ k. children_notes k parent [] (walk_of tree ∷ [])) same
    ∙ append-nil (child_notes kind parent [] (walk_of tree))
    ∙ child_reads kind parent r [] (walk_of tree) notes seat is)
    (ap (λ k. end_notes (slots_of k parent) parent 0 ((walk_of tree).name ∷ []) []) same
    ∙ ap (λ n. end_notes (slots_of kind parent) parent 0 (n ∷ []) []) is.name
    ∙ ends)

-- the seat of a child
pub seat_by : (kind : Kind) (parent r : Role) (earlier : List (List ℕ)) (name : List ℕ) → is_passed_over parent name ≡ false
    → role_among (slots_of kind parent) earlier name ≡ Some r → seat_of kind parent earlier name ≡ Read r
seat_by kind parent r earlier name kept found =
    ap (λ b. if b then PassedOver else read_or_refused parent name (role_among (slots_of kind parent) earlier name)) kept
    ∙ ap (read_or_refused parent name) found

-- a slot that has a child
pub one_met : (s : Slot) (name : List ℕ) (names : List (List ℕ)) → is_in s name ≡ true → nat_lt (count_by (is_in s) (name ∷ names)) 1 ≡ false
one_met s name names h =
    ap (λ n. nat_lt n 1) (sum_by-cons (λ n. cond (is_in s n) 1 0) name names ∙ ap (λ b. cond b 1 0 + count_by (is_in s) names) h) ∙ more (count_by (is_in s) names)
  where
    more : (n : ℕ) → nat_lt (1 + n) 1 ≡ false
    more n = grind (arith, nat_tests)

-- slots that need no child
pub any_may_miss : (roles : List (List Role)) (names : List (List ℕ)) → is_missing (map any roles) names ≡ false
any_may_miss [] names = refl
any_may_miss (rs ∷ roles) names = ap (λ b. b || is_missing (map any roles) names) (never (count_by (is_in (any rs)) names)) ∙ any_may_miss roles names
  where
    never : (n : ℕ) → nat_lt n 0 ≡ false
    never n = grind (arith, nat_tests)

pub ends_well : (slots : List Slot) (r : Role) (names : List (List ℕ)) → is_missing slots names ≡ false → is_bad_text r [] ≡ false → end_notes slots r 0 names [] ≡ []
ends_well slots r names whole good =
    ap (λ b. note_if b (broken 0 fault.MissingChild) ++ note_if (is_bad_text r []) (broken 0 fault.BadNumber)) whole
    ∙ ap (λ b. note_if b (broken 0 fault.BadNumber)) good

pub any_ends : (kind : Kind) (r : Role) (roles : List (List Role)) (trees : List Element) → slots_of kind r ≡ map any roles → is_bad_text r [] ≡ false
    → end_notes (slots_of kind r) r 0 (map (λ w. w.name) (map walk_of trees)) [] ≡ []
any_ends kind r roles trees is good =
    let names = map (λ w. w.name) (map walk_of trees) in
    ends_well (slots_of kind r) r names (ap (λ s. is_missing s names) is ∙ any_may_miss roles names) good

-- elements with one child of some roles, and children of a slot of any number
pub only_reads : (kind : Kind) (parent : Role) (roles : List Role) (attributes : List Attribute) (tree : Element) (own notes : List Note)
    → slots_of kind parent ≡ one roles ∷ [] → is_bad_text parent [] ≡ false → ((name : List ℕ) → is_aside name ≡ false → is_passed_over parent name ≡ false)
    → kind_within kind parent attributes ≡ kind → attribute_notes 0 (keys_of parent) attributes ≡ own
    → ReadsAmong kind roles (walk_of tree) notes
    → Reads kind parent (walk_of (branch parent attributes (tree ∷ []))) (own ++ notes)
only_reads kind parent roles attributes tree own notes slots good kept same first is =
    one_reads kind parent is.role attributes tree own notes same first
    (seat_by kind parent is.role [] (word_of is.role) (kept (word_of is.role) is.aside)
    (ap (λ s. role_among s [] (word_of is.role)) slots ∙ ap (role_in_slot (one roles) [] None) is.named))
    (ends_well (slots_of kind parent) parent (word_of is.role ∷ [])
    (ap (λ s. is_missing s (word_of is.role ∷ [])) slots ∙ ap (λ b. b || false) (one_met (one roles) (word_of is.role) [] (ap has is.named))) good)
    is.reads

pub any_reads : (kind : Kind) (parent : Role) (roles : List Role) (earlier : List (List ℕ)) (w : Walk) (notes : List Note)
    → slots_of kind parent ≡ any roles ∷ [] → ((name : List ℕ) → is_aside name ≡ false → is_passed_over parent name ≡ false)
    → ReadsAmong kind roles w notes → child_notes kind parent earlier w ≡ notes
any_reads kind parent roles earlier w notes slots kept is =
    child_reads kind parent is.role earlier w notes
    (seat_by kind parent is.role earlier (word_of is.role) (kept (word_of is.role) is.aside)
    (ap (λ s. role_among s earlier (word_of is.role)) slots ∙ ap (role_in_slot (any roles) earlier None) is.named))
    is.reads

-- what is read among some roles is read among more
named_more : (roles more : List Role) (name : List ℕ) (r : Role) → role_named roles name ≡ Some r → role_named (roles ++ more) name ≡ Some r
named_more [] more name r h = cc
named_more (q ∷ roles) more name r h = by (bytes_eq name (word_of q)) (named_more roles more name r) h
  where
    by : (b : Bool) → (role_named roles name ≡ Some r → role_named (roles ++ more) name ≡ Some r)
        → (if b then Some q else role_named roles name) ≡ Some r → (if b then Some q else role_named (roles ++ more) name) ≡ Some r
    by true later h = h
    by false later h = later h

pub among_more : (kind : Kind) (roles more : List Role) (w : Walk) (notes : List Note) → ReadsAmong kind roles w notes → ReadsAmong kind (roles ++ more) w notes
among_more kind roles more w notes is = record { role = is.role; named = named_more roles more (word_of is.role) is.role is.named; aside = is.aside; reads = is.reads }

-- children that give these notes, whatever stands before them
abbrev pub Free : Kind → Role → List Walk → List Note → Type 0
Free kind parent ws notes = (earlier : List (List ℕ)) → children_notes kind parent earlier ws ≡ notes

pub free_more : (kind : Kind) (parent : Role) (w : Walk) (ws : List Walk) (first later : List Note)
    → ((earlier : List (List ℕ)) → child_notes kind parent earlier w ≡ first) → Free kind parent ws later → Free kind parent (w ∷ ws) (first ++ later)
free_more kind parent w ws first later here there earlier =
    ap (λ ns. ns ++ children_notes kind parent (earlier ++ w.name ∷ []) ws) (here earlier) ∙ ap (λ ns. first ++ ns) (there (earlier ++ w.name ∷ []))

pub free_join : (kind : Kind) (parent : Role) (ws vs : List Walk) (first later : List Note)
    → Free kind parent ws first → Free kind parent vs later → Free kind parent (ws ++ vs) (first ++ later)
free_join kind parent ws vs first later here there earlier = by ws earlier ∙ ap (λ ns. ns ++ later) (here earlier)
  where
    by : (us : List Walk) (before : List (List ℕ)) → children_notes kind parent before (us ++ vs) ≡ children_notes kind parent before us ++ later
    by [] before = there before
    by (u ∷ us) before =
        ap (λ ns. child_notes kind parent before u ++ ns) (by us (before ++ u.name ∷ []))
        ∙ sym (append_assoc (child_notes kind parent before u) (children_notes kind parent (before ++ u.name ∷ []) us) later)
