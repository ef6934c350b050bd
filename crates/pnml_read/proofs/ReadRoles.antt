-- The roles that the children of a walk that breaks no rule are read in.
use Rattle.std.proofs.Common.{◌≡◌, ◌⊎◌, ℕ, zero, suc, ◌==◌, Bool, true, false, List, [], ◌∷◌, ◌++◌, slice_get, Option, None, Some, inl, inr, refl, sym, subst, ◌∙◌, if◌then◌else◌}
use Rattle.std.proofs.lemmas.Bool.{and_parts, false≢true}
use Rattle.std.proofs.lemmas.Slice.Eq.{bytes_eq-Decides}
use Rattle.std.specs.Bool.{⊤}
use Rattle.std.specs.List.{flat_map, list_all}
use Rattle.std.specs.Str.{bytes_eq}
use Rattle.std.specs.Prelude.{codes, count_by}
use Rattle.doc_tree.specs.declared.faults.Fault.TheVariants as fault
use Rattle.net_model.specs.declared.kinds.Kind.{Kind}
use Rattle.net_model.specs.declared.kinds.Kind.TheVariants.{Pt, Symmetric}
use Rattle.net_elements.specs.declared.roles.Role.{Role}
use Rattle.net_elements.specs.declared.roles.Role.TheVariants as role
use Rattle.net_elements.specs.declared.rows.Count.{Count}
use Rattle.net_elements.specs.declared.rows.Count.TheVariants.{Any, AtMostOne, One, OneOrMore, InTurn}
use Rattle.net_elements.specs.declared.seats.Seat.TheVariants.{PassedOver}
use Rattle.net_elements.specs.Table.{Slot, slots_of, word_of}
use Rattle.net_elements.specs.Rules.{Note, Walk, broken, child_notes, children_notes, end_notes, is_in, is_missing, is_passed_over, note_if, read_or_refused, role_among, role_by_count, role_in_slot, role_named, seat_notes}
use Rattle.pnml_read.specs.Each.{Each}
use Rattle.pnml_read.proofs.Noted.{are_fine, fine_parts}

-- one of some roles
abbrev pub OneOf : List Role → (Role → Type 0) → Type 0
OneOf [] P = ⊥
OneOf (r ∷ rs) P = P r ⊎ OneOf rs P

one_first : (rs ss : List Role) (P : Role → Type 0) → OneOf rs P → OneOf (rs ++ ss) P
one_first [] ss P h = absurd h
one_first (r ∷ rs) ss P (inl h) = inl h
one_first (r ∷ rs) ss P (inr h) = inr (one_first rs ss P h)

one_second : (rs ss : List Role) (P : Role → Type 0) → OneOf ss P → OneOf (rs ++ ss) P
one_second [] ss P h = h
one_second (r ∷ rs) ss P h = inr (one_second rs ss P h)

pub one_map : (rs : List Role) (P Q : Role → Type 0) → ((r : Role) → P r → Q r) → OneOf rs P → OneOf rs Q
one_map [] P Q f h = h
one_map (r ∷ rs) P Q f (inl h) = inl (f r h)
one_map (r ∷ rs) P Q f (inr h) = inr (one_map rs P Q f h)

pub any_of : (rs : List Role) (P : Role → Type 0) (R : Type 0) → Each (λ r. P r → R) rs → OneOf rs P → R
any_of [] P R f h = absurd h
any_of (r ∷ rs) P R f (inl h) = f.0 h
any_of (r ∷ rs) P R f (inr h) = any_of rs P R f.1 h

abbrev pub roles_in : List Slot → List Role
roles_in slots = flat_map (λ s. s.roles) slots

-- where roles stand in turn they have one name
abbrev is_tidy_by : Count → List Role → Bool
is_tidy_by InTurn roles = list_all (λ r. bytes_eq (word_of r) (codes "subterm")) roles
is_tidy_by _ roles = true

abbrev IsTidy : Slot → Type 0
IsTidy s = is_tidy_by s.count s.roles ≡ true

abbrev are_tidy : List Slot → Bool
are_tidy slots = list_all (λ s. is_tidy_by s.count s.roles) slots

tidy : (kind : Kind) (r : Role) → are_tidy (slots_of kind r) ≡ true
tidy Pt role.Pnml = refl
tidy Pt _ = refl
tidy Symmetric role.Pnml = refl
tidy Symmetric _ = refl

-- a role that a child is read in, and the name that it has there
abbrev OfRole : Option Role → (Role → Type 0) → Type 0
OfRole None P = ⊥
OfRole (Some r) P = P r

abbrev pub Here : List ℕ → (Role → Type 0) → Role → Type 0
Here name P r = (name ≡ word_of r) × P r

named_role : (roles : List Role) (name : List ℕ) (P : Role → Type 0) → OfRole (role_named roles name) P → OneOf roles (Here name P)
named_role [] name P h = absurd h
named_role (r ∷ rs) name P h = by (bytes_eq name (word_of r)) refl h (named_role rs name P)
  where
    by : (b : Bool) → bytes_eq name (word_of r) ≡ b → OfRole (if b then Some r else role_named rs name) P
        → (OfRole (role_named rs name) P → OneOf rs (Here name P)) → OneOf (r ∷ rs) (Here name P)
    by true is h later = inl ((bytes_eq-Decides name (word_of r)).0 is, h)
    by false is h later = inr (later h)

shared_word : (roles : List Role) (name : List ℕ) → is_tidy_by InTurn roles ≡ true → OneOf roles (Here name (λ _. ⊤)) → name ≡ codes "subterm"
shared_word [] name t h = absurd h
shared_word (r ∷ rs) name t (inl h) =
    h.0 ∙ (bytes_eq-Decides (word_of r) (codes "subterm")).0 (and_parts (bytes_eq (word_of r) (codes "subterm")) (is_tidy_by InTurn rs) t).0
shared_word (r ∷ rs) name t (inr h) = shared_word rs name (and_parts (bytes_eq (word_of r) (codes "subterm")) (is_tidy_by InTurn rs) t).1 h

turn_role : (roles : List Role) (before : ℕ) (name : List ℕ) (P : Role → Type 0) → name ≡ codes "subterm" → is_tidy_by InTurn roles ≡ true
    → OfRole (slice_get roles before) P → OneOf roles (Here name P)
turn_role [] before name P is t h = absurd h
turn_role (r ∷ rs) zero name P is t h =
    inl (is ∙ sym ((bytes_eq-Decides (word_of r) (codes "subterm")).0 (and_parts (bytes_eq (word_of r) (codes "subterm")) (is_tidy_by InTurn rs) t).0), h)
turn_role (r ∷ rs) (suc before) name P is t h =
    inr (turn_role rs before name P is (and_parts (bytes_eq (word_of r) (codes "subterm")) (is_tidy_by InTurn rs) t).1 h)

if_some : (b : Bool) (r : Role) (P : Role → Type 0) → OfRole (if b then Some r else None) P → P r
if_some true r P h = h
if_some false r P h = absurd h

count_role : (count : Count) (roles : List Role) (before : ℕ) (r : Role) (name : List ℕ) (P : Role → Type 0) → is_tidy_by count roles ≡ true
    → role_named roles name ≡ Some r → OfRole (role_by_count count roles before r) P → OneOf roles (Here name P)
count_role Any roles before r name P t is h = named_role roles name P (subst (λ o. OfRole o P) (sym is) h)
count_role OneOrMore roles before r name P t is h = named_role roles name P (subst (λ o. OfRole o P) (sym is) h)
count_role AtMostOne roles before r name P t is h = named_role roles name P (subst (λ o. OfRole o P) (sym is) (if_some (before == 0) r P h))
count_role One roles before r name P t is h = named_role roles name P (subst (λ o. OfRole o P) (sym is) (if_some (before == 0) r P h))
count_role InTurn roles before r name P t is h =
    turn_role roles before name P (shared_word roles name t (named_role roles name (λ _. ⊤) (subst (λ o. OfRole o (λ _. ⊤)) (sym is) tt))) t h

slot_role : (s : Slot) (earlier : List (List ℕ)) (name : List ℕ) (others : Option Role) (P : Role → Type 0) → is_tidy_by s.count s.roles ≡ true
    → OfRole (role_in_slot s earlier others (role_named s.roles name)) P → OneOf s.roles (Here name P) ⊎ OfRole others P
slot_role s earlier name others P t h = by (role_named s.roles name) refl h
  where
    by : (o : Option Role) → role_named s.roles name ≡ o → OfRole (role_in_slot s earlier others o) P → OneOf s.roles (Here name P) ⊎ OfRole others P
    by None is h = inr h
    by (Some r) is h = inl (count_role s.count s.roles (count_by (is_in s) earlier) r name P t is h)

among : (slots : List Slot) (earlier : List (List ℕ)) (name : List ℕ) (P : Role → Type 0) → are_tidy slots ≡ true
    → OfRole (role_among slots earlier name) P → OneOf (roles_in slots) (Here name P)
among [] earlier name P t h = absurd h
among (s ∷ ss) earlier name P t h =
    by (slot_role s earlier name (role_among ss earlier name) P (and_parts (is_tidy_by s.count s.roles) (are_tidy ss) t).0 h)
    (among ss earlier name P (and_parts (is_tidy_by s.count s.roles) (are_tidy ss) t).1)
  where
    by : (OneOf s.roles (Here name P) ⊎ OfRole (role_among ss earlier name) P) → (OfRole (role_among ss earlier name) P → OneOf (roles_in ss) (Here name P))
        → OneOf (s.roles ++ roles_in ss) (Here name P)
    by (inl one) later = one_first s.roles (roles_in ss) (Here name P) one
    by (inr one) later = one_second s.roles (roles_in ss) (Here name P) (later one)

-- a child is passed over, or read in one of its parent's roles
abbrev pub IsReadBy : Kind → Role → Walk → (Role → Type 0) → Type 0
IsReadBy kind parent w P = (is_passed_over parent w.name ≡ true) ⊎ OneOf (roles_in (slots_of kind parent)) (Here w.name P)

abbrev pub IsRead : Kind → Role → Walk → Type 0
IsRead kind parent w = IsReadBy kind parent w (λ r. are_fine (w.notes kind r) ≡ true)

-- and what is noted at its seat is what it notes in that role
abbrev pub Notes : Kind → Walk → List Note → Role → Type 0
Notes kind w notes r = (notes ≡ w.notes kind r) × (are_fine (w.notes kind r) ≡ true)

taken : (kind : Kind) (parent : Role) (w : Walk) (o : Option Role) → are_fine (seat_notes kind w (read_or_refused parent w.name o)) ≡ true
    → OfRole o (Notes kind w (seat_notes kind w (read_or_refused parent w.name o)))
taken kind parent w None h = false≢true h
taken kind parent w (Some r) h = (refl, h)

pub child_read : (kind : Kind) (parent : Role) (earlier : List (List ℕ)) (w : Walk) → are_fine (child_notes kind parent earlier w) ≡ true
    → IsReadBy kind parent w (Notes kind w (child_notes kind parent earlier w))
child_read kind parent earlier w h = by (is_passed_over parent w.name) refl h
  where
    by : (b : Bool) → is_passed_over parent w.name ≡ b
        → are_fine (seat_notes kind w (if b then PassedOver else read_or_refused parent w.name (role_among (slots_of kind parent) earlier w.name))) ≡ true
        → IsReadBy kind parent w (Notes kind w (seat_notes kind w (if b then PassedOver else read_or_refused parent w.name (role_among (slots_of kind parent) earlier w.name))))
    by true is h = inl is
    by false is h =
        let found = role_among (slots_of kind parent) earlier w.name in
        inr (among (slots_of kind parent) earlier w.name (Notes kind w (seat_notes kind w (read_or_refused parent w.name found))) (tidy kind parent) (taken kind parent w found h))

read_only : (kind : Kind) (parent : Role) (w : Walk) (notes : List Note) → IsReadBy kind parent w (Notes kind w notes) → IsRead kind parent w
read_only kind parent w notes (inl passed) = inl passed
read_only kind parent w notes (inr one) =
    inr (one_map (roles_in (slots_of kind parent)) (Here w.name (Notes kind w notes)) (Here w.name (λ r. are_fine (w.notes kind r) ≡ true)) (λ r h. (h.0, h.1.1)) one)

pub children_read : (kind : Kind) (parent : Role) (earlier : List (List ℕ)) (ws : List Walk) → are_fine (children_notes kind parent earlier ws) ≡ true → Each (IsRead kind parent) ws
children_read kind parent earlier [] h = tt
children_read kind parent earlier (w ∷ ws) h =
    let first = child_notes kind parent earlier w in
    let later = children_notes kind parent (earlier ++ w.name ∷ []) ws in
    (read_only kind parent w first (child_read kind parent earlier w (fine_parts first later h).0), children_read kind parent (earlier ++ w.name ∷ []) ws (fine_parts first later h).1)

-- no child is missing
pub fine_has_all : (slots : List Slot) (r : Role) (at : ℕ) (names : List (List ℕ)) (text : List ℕ) → are_fine (end_notes slots r at names text) ≡ true → is_missing slots names ≡ false
fine_has_all slots r at names text h = by (is_missing slots names) refl (fine_parts (note_if (is_missing slots names) (broken at fault.MissingChild)) _ h).0
  where
    by : (b : Bool) → is_missing slots names ≡ b → are_fine (note_if b (broken at fault.MissingChild)) ≡ true → is_missing slots names ≡ false
    by true is h = absurd (false≢true h)
    by false is h = is
