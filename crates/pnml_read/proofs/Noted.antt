-- What a walk notes that breaks no rule: nothing that is broken, and each id once.
use Rattle.std.proofs.Common.{◌≡◌, ℕ, ◌+◌, ◌<◌, ◌≤◌, Bool, true, false, cond, ◌||◌, List, [], ◌∷◌, ◌++◌, Option, None, Some, codes, refl, ap, sym, subst, ◌∙◌, arith, if◌then◌else◌}
use Rattle.std.proofs.lemmas.Bool.{and_parts, false≢true}
use Rattle.std.proofs.lemmas.List.Folds.{list_all-append}
use Rattle.std.proofs.lemmas.List.Sums.{sum_by-append, sum_by-cons, sum_by_push}
use Rattle.std.proofs.lemmas.Slice.Eq.{bytes_eq-Decides}
use Rattle.std.specs.List.{count_by, list_all, list_any, sum_by}
use Rattle.std.specs.Str.{bytes_eq}
use Rattle.doc_tree.specs.declared.faults.Fault.{Fault}
use Rattle.doc_tree.specs.declared.faults.Fault.TheVariants as fault
use Rattle.doc_model.specs.declared.tree.Attribute.{Attribute}
use Rattle.doc_model.specs.declared.tree.Element.{Element}
use Rattle.name_tables.proofs.Places.{position_some}
use Rattle.name_tables.specs.Grammar.{is_id_text}
use Rattle.net_elements.specs.declared.roles.Key.{Key}
use Rattle.net_elements.specs.declared.roles.Key.TheVariants as key
use Rattle.net_model.specs.declared.kinds.Kind.TheVariants.{Pt}
use Rattle.net_elements.specs.declared.roles.Role.TheVariants as role
use Rattle.net_elements.specs.Table.{key_word_of}
use Rattle.net_elements.specs.Rules.{Met, Note, attribute_notes, broken, broken_from, broken_rules, final, has, is_among, key_notes, node, nothing_met, passes, refusal, symbol, value_of, walk_of, with_node, with_symbol}
use Rattle.pnml_read.specs.Nets.{or_empty, text_in}
use Rattle.pnml_read.specs.Each.{Each}

abbrev pub is_fine : Note → Bool
is_fine (broken at kind) = false
is_fine (final at kind) = false
is_fine (node at id) = true
is_fine (symbol at id) = true

abbrev pub are_fine : List Note → Bool
are_fine notes = list_all is_fine notes

-- fine notes, and further ones
pub fine_parts : (first later : List Note) → are_fine (first ++ later) ≡ true → (are_fine first ≡ true) × (are_fine later ≡ true)
fine_parts first later fine = and_parts (are_fine first) (are_fine later) (sym (list_all-append is_fine first later) ∙ fine)

-- how many ids of which a test is true are noted, among the nodes and among the symbols
abbrev pub node_weight : (List ℕ → Bool) → Note → ℕ
node_weight test (broken at kind) = 0
node_weight test (final at kind) = 0
node_weight test (node at value) = cond (test value) 1 0
node_weight test (symbol at value) = 0

abbrev pub symbol_weight : (List ℕ → Bool) → Note → ℕ
symbol_weight test (broken at kind) = 0
symbol_weight test (final at kind) = 0
symbol_weight test (node at value) = 0
symbol_weight test (symbol at value) = cond (test value) 1 0

-- an id that is noted where no rule is broken was not met
pub unmet : (b : Bool) (first : ℕ × Fault) (x y : List (ℕ × Fault)) → (if b then first ∷ x else y) ≡ [] → (b ≡ false) × (y ≡ [])
unmet true first x y h = absurd (cc)
unmet false first x y h = (refl, h)

pub fine_from : (met : Met) (notes : List Note) → broken_from met notes ≡ [] → are_fine notes ≡ true
fine_from met [] h = refl
fine_from met (broken at kind ∷ notes) h = absurd (cc)
fine_from met (final at kind ∷ notes) h = absurd (cc)
fine_from met (node at id ∷ notes) h =
    fine_from (with_node met id) notes (unmet (is_among met.nodes id) (at, fault.DuplicateId) (broken_from met notes) (broken_from (with_node met id) notes) h).1
fine_from met (symbol at id ∷ notes) h =
    fine_from (with_symbol met id) notes (unmet (is_among met.symbols id) (at, fault.DuplicateId) (broken_from met notes) (broken_from (with_symbol met id) notes) h).1

-- the notes of a tree that breaks no rule
pub root_notes : (t : Element) → broken_rules t ≡ [] → broken_from nothing_met ((walk_of t).notes Pt role.Pnml) ≡ []
root_notes t h = by (bytes_eq (walk_of t).name (codes "pnml")) h
  where
    by : (b : Bool) → (if b then broken_from nothing_met ((walk_of t).notes Pt role.Pnml) else ((walk_of t).at, fault.Unexpected) ∷ []) ≡ []
        → broken_from nothing_met ((walk_of t).notes Pt role.Pnml) ≡ []
    by true h = h
    by false h = absurd (cc)

-- attributes that pass
refusal_is_broken : (at : ℕ) (k : Key) (kind : Fault) → are_fine (refusal at k kind ∷ []) ≡ true → ⊥
refusal_is_broken at key.NetType kind h = false≢true h
refusal_is_broken at _ kind h = false≢true h

abbrev pub Passes : List Attribute → Key → Type 0
Passes attributes k = passes k (text_in (key_word_of k) attributes) ≡ true

passes_by : (at : ℕ) (k : Key) (value : List ℕ) (b : Bool) (kind : Fault) (ids : List Note) → passes k value ≡ b
    → are_fine (if b then ids else refusal at k kind ∷ []) ≡ true → passes k value ≡ true
passes_by at k value true kind ids is h = is
passes_by at k value false kind ids is h = absurd (refusal_is_broken at k kind h)

key_passes : (at : ℕ) (k : Key) (attributes : List Attribute) → are_fine (key_notes at k (value_of (key_word_of k) attributes)) ≡ true → Passes attributes k
key_passes at k attributes h = by (value_of (key_word_of k) attributes) refl h
  where
    by : (o : Option (List ℕ)) → value_of (key_word_of k) attributes ≡ o → are_fine (key_notes at k o) ≡ true → Passes attributes k
    by None is h = absurd (refusal_is_broken at k _ h)
    by (Some value) is h = subst (λ o. passes k (or_empty o) ≡ true) (sym is) (passes_by at k value (passes k value) _ _ refl h)

pub keys_pass : (at : ℕ) (keys : List Key) (attributes : List Attribute) → are_fine (attribute_notes at keys attributes) ≡ true → Each (Passes attributes) keys
keys_pass at [] attributes h = tt
keys_pass at (k ∷ keys) attributes h =
    let parts = fine_parts (key_notes at k (value_of (key_word_of k) attributes)) (attribute_notes at keys attributes) h in
    (key_passes at k attributes parts.0, keys_pass at keys attributes parts.1)

-- the count of what isn't there
none_counted : {X : Type 0} (p : X → Bool) (xs : List X) → list_any p xs ≡ false → count_by p xs ≡ 0
none_counted p [] h = refl
none_counted p (x ∷ xs) h = sum_by-cons (λ y. cond (p y) 1 0) x xs ∙ by (p x) h (none_counted p xs)
  where
    by : (b : Bool) → (b || list_any p xs) ≡ false → (list_any p xs ≡ false → count_by p xs ≡ 0) → cond b 1 0 + count_by p xs ≡ 0
    by true h rest = absurd (cc)
    by false h rest = omega (arith, rest h)

unmet_counted : (ids : List (List ℕ)) (id : List ℕ) → is_among ids id ≡ false → count_by (bytes_eq id) ids ≡ 0
unmet_counted ids id h = by (list_any (bytes_eq id) ids) refl
  where
    by : (b : Bool) → list_any (bytes_eq id) ids ≡ b → count_by (bytes_eq id) ids ≡ 0
    by true is = let there : is_among ids id ≡ true = ap has (position_some (bytes_eq id) ids is) in absurd (cc)
    by false is = none_counted (bytes_eq id) ids is

-- ids of which none is there twice, and an id that isn't among them
still_once : (ids : List (List ℕ)) (id value : List ℕ) → is_among ids value ≡ false → count_by (bytes_eq id) ids < 2 → count_by (bytes_eq id) (ids ++ value ∷ []) < 2
still_once ids id value new few = subst (λ n. n < 2) (sym (sum_by_push (λ x. cond (bytes_eq id x) 1 0) ids value)) (by (bytes_eq id value) refl)
  where
    by : (b : Bool) → bytes_eq id value ≡ b → count_by (bytes_eq id) ids + cond b 1 0 < 2
    by true is =
        let same : id ≡ value = (bytes_eq-Decides id value).0 is in
        let none : count_by (bytes_eq id) ids ≡ 0 = unmet_counted ids id (subst (λ v. is_among ids v ≡ false) (sym same) new) in
        omega (arith, none)
    by false is = omega (arith, few)

-- a note that counts, and a note that doesn't
one_counts : (w : Note → ℕ) (ids : List (List ℕ)) (id value : List ℕ) (note : Note) (notes : List Note) → w note ≡ cond (bytes_eq id value) 1 0
    → count_by (bytes_eq id) (ids ++ value ∷ []) + sum_by w notes < 2 → count_by (bytes_eq id) ids + sum_by w (note ∷ notes) < 2
one_counts w ids id value note notes is few = omega (arith, is, few, sum_by_push (λ x. cond (bytes_eq id x) 1 0) ids value, sum_by-cons w note notes)

none_counts : (w : Note → ℕ) (count : ℕ) (note : Note) (notes : List Note) → w note ≡ 0 → count + sum_by w notes < 2 → count + sum_by w (note ∷ notes) < 2
none_counts w count note notes is few = omega (arith, is, few, sum_by-cons w note notes)

pub once_node : (id : List ℕ) (met : Met) (notes : List Note) → broken_from met notes ≡ [] → count_by (bytes_eq id) met.nodes < 2
    → count_by (bytes_eq id) met.nodes + sum_by (node_weight (bytes_eq id)) notes < 2
once_node id met [] h few = omega (arith, few)
once_node id met (broken at kind ∷ notes) h few = absurd (cc)
once_node id met (final at kind ∷ notes) h few = absurd (cc)
once_node id met (node at value ∷ notes) h few =
    let new = unmet (is_among met.nodes value) (at, fault.DuplicateId) (broken_from met notes) (broken_from (with_node met value) notes) h in
    one_counts (node_weight (bytes_eq id)) met.nodes id value (node at value) notes refl (once_node id (with_node met value) notes new.1 (still_once met.nodes id value new.0 few))
once_node id met (symbol at value ∷ notes) h few =
    let new = unmet (is_among met.symbols value) (at, fault.DuplicateId) (broken_from met notes) (broken_from (with_symbol met value) notes) h in
    none_counts (node_weight (bytes_eq id)) (count_by (bytes_eq id) met.nodes) (symbol at value) notes refl (once_node id (with_symbol met value) notes new.1 few)

pub once_symbol : (id : List ℕ) (met : Met) (notes : List Note) → broken_from met notes ≡ [] → count_by (bytes_eq id) met.symbols < 2
    → count_by (bytes_eq id) met.symbols + sum_by (symbol_weight (bytes_eq id)) notes < 2
once_symbol id met [] h few = omega (arith, few)
once_symbol id met (broken at kind ∷ notes) h few = absurd (cc)
once_symbol id met (final at kind ∷ notes) h few = absurd (cc)
once_symbol id met (node at value ∷ notes) h few =
    let new = unmet (is_among met.nodes value) (at, fault.DuplicateId) (broken_from met notes) (broken_from (with_node met value) notes) h in
    none_counts (symbol_weight (bytes_eq id)) (count_by (bytes_eq id) met.symbols) (node at value) notes refl (once_symbol id (with_node met value) notes new.1 few)
once_symbol id met (symbol at value ∷ notes) h few =
    let new = unmet (is_among met.symbols value) (at, fault.DuplicateId) (broken_from met notes) (broken_from (with_symbol met value) notes) h in
    one_counts (symbol_weight (bytes_eq id)) met.symbols id value (symbol at value) notes refl
    (once_symbol id (with_symbol met value) notes new.1 (still_once met.symbols id value new.0 few))

-- the notes of attributes: an id that is declared is noted
own_node : (test : List ℕ → Bool) (at : ℕ) (o : Option (List ℕ)) → are_fine (key_notes at key.NodeId o) ≡ true
    → cond (test (or_empty o)) 1 0 ≤ sum_by (node_weight test) (key_notes at key.NodeId o)
own_node test at None fine = absurd (cc)
own_node test at (Some value) fine = by (is_id_text value) fine
  where
    by : (b : Bool) → are_fine (if b then node at value ∷ [] else broken at fault.BadId ∷ []) ≡ true
        → cond (test value) 1 0 ≤ sum_by (node_weight test) (if b then node at value ∷ [] else broken at fault.BadId ∷ [])
    by true fine = omega arith
    by false fine = absurd (cc)

own_symbol : (test : List ℕ → Bool) (at : ℕ) (o : Option (List ℕ)) → are_fine (key_notes at key.SymbolId o) ≡ true
    → cond (test (or_empty o)) 1 0 ≤ sum_by (symbol_weight test) (key_notes at key.SymbolId o)
own_symbol test at None fine = absurd (cc)
own_symbol test at (Some value) fine = by (is_id_text value) fine
  where
    by : (b : Bool) → are_fine (if b then symbol at value ∷ [] else broken at fault.BadId ∷ []) ≡ true
        → cond (test value) 1 0 ≤ sum_by (symbol_weight test) (if b then symbol at value ∷ [] else broken at fault.BadId ∷ [])
    by true fine = omega arith
    by false fine = absurd (cc)

id_noted : (w : Note → ℕ) (k : Key) (test : List ℕ → Bool) (at : ℕ) (keys : List Key) (attributes : List Attribute)
    → ((o : Option (List ℕ)) → are_fine (key_notes at k o) ≡ true → cond (test (or_empty o)) 1 0 ≤ sum_by w (key_notes at k o))
    → are_fine (attribute_notes at (k ∷ keys) attributes) ≡ true
    → cond (test (text_in (key_word_of k) attributes)) 1 0 ≤ sum_by w (attribute_notes at (k ∷ keys) attributes)
id_noted w k test at keys attributes own fine =
    let first = key_notes at k (value_of (key_word_of k) attributes) in
    let later = attribute_notes at keys attributes in
    let noted = own (value_of (key_word_of k) attributes) (fine_parts first later fine).0 in
    omega (arith, noted, sum_by-append w first later)

pub node_noted : (test : List ℕ → Bool) (at : ℕ) (keys : List Key) (attributes : List Attribute) → are_fine (attribute_notes at (key.NodeId ∷ keys) attributes) ≡ true
    → cond (test (text_in (codes "id") attributes)) 1 0 ≤ sum_by (node_weight test) (attribute_notes at (key.NodeId ∷ keys) attributes)
node_noted test at keys attributes fine = id_noted (node_weight test) key.NodeId test at keys attributes (own_node test at) fine

pub symbol_noted : (test : List ℕ → Bool) (at : ℕ) (keys : List Key) (attributes : List Attribute) → are_fine (attribute_notes at (key.SymbolId ∷ keys) attributes) ≡ true
    → cond (test (text_in (codes "id") attributes)) 1 0 ≤ sum_by (symbol_weight test) (attribute_notes at (key.SymbolId ∷ keys) attributes)
symbol_noted test at keys attributes fine = id_noted (symbol_weight test) key.SymbolId test at keys attributes (own_symbol test at) fine
