-- Walks over parts: what is found over two lists of notes, and what an element's notes are made of.
use Rattle.std.proofs.Common.{◌≡◌, ℕ, suc, ◌+◌, ◌<◌, Bool, true, false, List, [], ◌∷◌, ◌++◌, map, length, take, drop, get_or, drop-cons, Bor, MatchOption, Option, None, Some, Result, Ok, Err, refl, sym, ap, ◌∙◌, if◌then◌else◌, arith}
use Rattle.std.proofs.lemmas.List.{map-append, take_more}
use Rattle.std.specs.Option.{option_map}
use Rattle.doc_model.specs.declared.tree.Attribute.{Attribute}
use Rattle.doc_model.specs.declared.tree.Element.{Element, out-Element, fold_out-Element}
use Rattle.doc_tree.specs.declared.faults.Fault.{Fault}
use Rattle.doc_tree.specs.declared.faults.Fault.TheVariants as fault
use Rattle.net_elements.specs.declared.faults.ReadFault.{ReadFault}
use Rattle.net_elements.specs.declared.faults.ReadFault.TheVariants.{Structure, Memory}
use Rattle.net_model.specs.declared.kinds.Kind.{Kind}
use Rattle.net_elements.specs.declared.roles.Key.{Key}
use Rattle.net_elements.specs.declared.roles.Role.{Role}
use Rattle.net_elements.specs.declared.seats.Seat.{Seat}
use Rattle.net_elements.specs.Table.{key_word_of, keys_of, slots_of}
use Rattle.net_elements.specs.Rules.{Met, Note, Walk, broken, final, is_among, node, symbol, with_node, with_symbol, walk_of, walk_of_parts, attribute_notes, child_notes, children_notes, end_notes, key_notes, kind_within, seat_notes, seat_of, value_of}
use Rattle.net_elements.specs.Walking.{Finds, found, name_of}

-- what is found over further notes
abbrev pub then_found : Result Met (ℕ × Fault) → List Note → Result Met (ℕ × Fault)
then_found (Ok met) notes = found met notes
then_found (Err first) notes = Err first

either : (b : Bool) (first : ℕ × Fault) (x y : Result Met (ℕ × Fault)) (notes : List Note) → x ≡ then_found y notes
    → (if b then Err first else x) ≡ then_found (if b then Err first else y) notes
either true first x y notes h = refl
either false first x y notes h = h

pub found-append : (met : Met) (first second : List Note) → found met (first ++ second) ≡ then_found (found met first) second
found-append met [] second = refl
found-append met (broken at kind ∷ notes) second = refl
found-append met (final at kind ∷ notes) second = refl
found-append met (node at id ∷ notes) second =
    either (is_among met.nodes id) (at, fault.DuplicateId) _ _ second (found-append (with_node met id) notes second)
found-append met (symbol at id ∷ notes) second =
    either (is_among met.symbols id) (at, fault.DuplicateId) _ _ second (found-append (with_symbol met id) notes second)

-- a walk that goes on, and one that stops
pub goes_on : (before middle : Met) (first second : List Note) → found before first ≡ Ok middle → found before (first ++ second) ≡ found middle second
goes_on before middle first second h = found-append before first second ∙ ap (λ f. then_found f second) h

pub stops : (before after last : Met) (first second : List Note) (stop : ReadFault)
    → Finds after (Err stop) (found before first) → Finds last (Err stop) (found before (first ++ second))
stops before after last first second (Structure at kind) h = found-append before first second ∙ ap (λ f. then_found f second) h
stops before after last first second Memory h = tt

-- a walk over the same notes
pub same_end : (after : Met) (result : Result Unit ReadFault) (f g : Result Met (ℕ × Fault)) → f ≡ g → Finds after result f → Finds after result g
same_end after (Ok u) f g h known = sym h ∙ known
same_end after (Err (Structure at kind)) f g h known = sym h ∙ known
same_end after (Err Memory) f g h known = tt

-- an element, from its parts
pub walk_name : (e : Element) → (walk_of e).name ≡ name_of e
walk_name e = ap (λ w. w.name) (fold_out-Element Walk walk_of_parts e)

pub walk_at : (e : Element) → (walk_of e).at ≡ (out-Element e).at
walk_at e = ap (λ w. w.at) (fold_out-Element Walk walk_of_parts e)

pub walk_names : (es : List Element) → map (λ w. w.name) (map walk_of es) ≡ map name_of es
walk_names [] = refl
walk_names (e ∷ es) = ap (λ n. n ∷ map (λ w. w.name) (map walk_of es)) (walk_name e) ∙ ap (λ ns. name_of e ∷ ns) (walk_names es)

pub walk_notes : (e : Element) (kind : Kind) (r : Role)
    → (walk_of e).notes kind r ≡ attribute_notes (out-Element e).at (keys_of r) (out-Element e).attributes
    ++ children_notes (kind_within kind r (out-Element e).attributes) r [] (map walk_of (out-Element e).children)
    ++ end_notes (slots_of (kind_within kind r (out-Element e).attributes) r) r (out-Element e).at (map name_of (out-Element e).children) (out-Element e).text
walk_notes e kind r =
    let parts = out-Element e in
    let within = kind_within kind r parts.attributes in
    ap (λ w. w.notes kind r) (fold_out-Element Walk walk_of_parts e)
    ∙ ap (λ names. attribute_notes parts.at (keys_of r) parts.attributes ++ children_notes within r [] (map walk_of parts.children)
    ++ end_notes (slots_of within r) r parts.at names parts.text) (walk_names parts.children)

-- the rest of a list, one element at a time
pub rest_of : {X : Type 0} (xs : List X) (at : ℕ) (x : X) → at < length xs → x ≡ get_or xs at x → drop at xs ≡ x ∷ drop (at + 1) xs
rest_of xs at x within is =
    drop-cons xs at x within ∙ ap (λ y. y ∷ drop (suc at) xs) (sym is) ∙ (let n : suc at ≡ at + 1 = omega arith in ap (λ n. x ∷ drop n xs) n)

front_of : (es : List Element) (at : ℕ) (e : Element) → at < length es → e ≡ get_or es at e
    → map name_of (take at es) ++ (walk_of e).name ∷ [] ≡ map name_of (take (at + 1) es)
front_of es at e within is =
    ap (λ n. map name_of (take at es) ++ n ∷ []) (walk_name e)
    ∙ sym (ap (map name_of) (take_more es at e within ∙ ap (λ x. take at es ++ x ∷ []) (sym is)) ∙ map-append name_of (take at es) (e ∷ []))

-- the notes of a child, by how it is taken
pub notes_of_child : (kind : Kind) (r : Role) (earlier : List (List ℕ)) (e : Element) (s : Seat) → seat_of kind r earlier (name_of e) ≡ s
    → child_notes kind r earlier (walk_of e) ≡ seat_notes kind (walk_of e) s
notes_of_child kind r earlier e s h = ap (seat_notes kind (walk_of e)) (ap (seat_of kind r earlier) (walk_name e) ∙ h)

-- the notes of the children that are left, from one child to the next
abbrev pub left_notes : Kind → Role → List Element → ℕ → List Note
left_notes kind r es at = children_notes kind r (map name_of (take at es)) (map walk_of (drop at es))

pub left_of : (kind : Kind) (r : Role) (es : List Element) (at : ℕ) (e : Element) → at < length es → e ≡ get_or es at e
    → left_notes kind r es at ≡ child_notes kind r (map name_of (take at es)) (walk_of e) ++ left_notes kind r es (at + 1)
left_of kind r es at e within is =
    ap (λ left. children_notes kind r (map name_of (take at es)) (map walk_of left)) (rest_of es at e within is)
    ∙ ap (λ names. child_notes kind r (map name_of (take at es)) (walk_of e) ++ children_notes kind r names (map walk_of (drop (at + 1) es))) (front_of es at e within is)

-- the walk over the children that are left
pub child_done : (before after start : Met) (kind : Kind) (r : Role) (es : List Element) (at : ℕ) (e : Element) → at < length es → e ≡ get_or es at e
    → found before (left_notes kind r es at) ≡ found start (left_notes kind r es 0)
    → found before (child_notes kind r (map name_of (take at es)) (walk_of e)) ≡ Ok after
    → found after (left_notes kind r es (at + 1)) ≡ found start (left_notes kind r es 0)
child_done before after start kind r es at e within is known step =
    sym (goes_on before after (child_notes kind r (map name_of (take at es)) (walk_of e)) (left_notes kind r es (at + 1)) step)
    ∙ ap (found before) (sym (left_of kind r es at e within is))
    ∙ known

pub child_stops : (before after last start : Met) (kind : Kind) (r : Role) (es : List Element) (at : ℕ) (e : Element) → at < length es → e ≡ get_or es at e
    → found before (left_notes kind r es at) ≡ found start (left_notes kind r es 0)
    → (stop : ReadFault) → Finds after (Err stop) (found before (child_notes kind r (map name_of (take at es)) (walk_of e)))
    → Finds last (Err stop) (found start (left_notes kind r es 0))
child_stops before after last start kind r es at e within is known stop step =
    same_end last (Err stop) _ _ (ap (found before) (sym (left_of kind r es at e within is)) ∙ known)
    (stops before after last (child_notes kind r (map name_of (take at es)) (walk_of e)) (left_notes kind r es (at + 1)) stop step)

-- a walk that goes on over further notes
pub then_finds : (before middle after : Met) (first second : List Note) (result : Result Unit ReadFault) → found before first ≡ Ok middle
    → Finds after result (found middle second) → Finds after result (found before (first ++ second))
then_finds before middle after first second result h known = same_end after result _ _ (sym (goes_on before middle first second h)) known

-- the value of an attribute as it was found
pub found_value : (r : Option (Bor (List ℕ))) (x : Option (List ℕ)) → MatchOption r (x ≡ None) (λ v. x ≡ Some v.now) → option_map (λ v. v.now) r ≡ x
found_value None x h = sym h
found_value (Some v) x h = sym h

-- a walk over attributes that stops
pub key_stops : (before after last start : Met) (at : ℕ) (attributes : List Attribute) (keys : List Key) (i : ℕ) (d : Key) → i < length keys
    → found before (attribute_notes at (drop i keys) attributes) ≡ found start (attribute_notes at keys attributes)
    → (stop : ReadFault) → Finds after (Err stop) (found before (key_notes at (get_or keys i d) (value_of (key_word_of (get_or keys i d)) attributes)))
    → Finds last (Err stop) (found start (attribute_notes at keys attributes))
key_stops before after last start at attributes keys i d within known stop step =
    same_end last (Err stop) _ _ (ap (λ ks. found before (attribute_notes at ks attributes)) (sym (drop-cons keys i d within)) ∙ known)
    (stops before after last (key_notes at (get_or keys i d) (value_of (key_word_of (get_or keys i d)) attributes)) (attribute_notes at (drop (suc i) keys) attributes) stop step)
