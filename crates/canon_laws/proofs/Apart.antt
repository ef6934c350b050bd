-- Ids that differ break no rule.
use Rattle.std.proofs.Common.{◌≡◌, ℕ, ◌+◌, Bool, true, false, cond, ◌||◌, List, [], ◌∷◌, ◌++◌, map, append_assoc, refl, ap, sym, subst, ◌∙◌, if◌then◌else◌, arith}
use Rattle.std.proofs.lemmas.Cmp.{nat_list_eq_equiv}
use Rattle.std.proofs.lemmas.List.{append-nil}
use Rattle.std.proofs.lemmas.List.Sums.{sum_by-append, sum_by-cons}
use Rattle.std.specs.List.{count_by, list_any}
use Rattle.std.specs.Str.{bytes_eq}
use Rattle.name_tables.proofs.Places.{position_none}
use Rattle.doc_tree.specs.declared.faults.Fault.TheVariants as fault
use Rattle.net_elements.specs.Rules.{Note, broken_from, has, is_among, node, nothing_met, symbol}
use Rattle.pnml_read.proofs.Distinct.{Differ}

-- an id that isn't counted isn't there
count_none : (p : List ℕ → Bool) (xs : List (List ℕ)) → count_by p xs ≡ 0 → list_any p xs ≡ false
count_none p [] h = refl
count_none p (x ∷ xs) h = by (p x) (sym (sum_by-cons (λ y. cond (p y) 1 0) x xs) ∙ h) (count_none p xs)
  where
    by : (b : Bool) → cond b 1 0 + count_by p xs ≡ 0 → (count_by p xs ≡ 0 → list_any p xs ≡ false) → (b || list_any p xs) ≡ false
    by true h later = absurd (omega (arith, h))
    by false h later = later (omega (arith, h))

fresh : (before : List (List ℕ)) (id : List ℕ) (behind : List (List ℕ)) → Differ (before ++ id ∷ behind) → is_among before id ≡ false
fresh before id behind differ =
    let whole = sum_by-append (λ y. cond (bytes_eq id y) 1 0) before (id ∷ behind) in
    let step = sum_by-cons (λ y. cond (bytes_eq id y) 1 0) id behind in
    let one : ◌≡◌ {A = ℕ} (cond (bytes_eq id id) 1 0) 1 = ap (λ b. cond b 1 0) (nat_list_eq_equiv.refl id) in
    let none : count_by (bytes_eq id) before ≡ 0 = omega (arith, whole, step, one, differ id) in
    ap has (position_none (bytes_eq id) before (count_none (bytes_eq id) before none))

symbols_apart : (nodes symbols ids : List (List ℕ)) (notes : List Note) → Differ (symbols ++ ids)
    → broken_from (record { nodes = nodes; symbols = symbols }) (map (symbol 0) ids ++ notes) ≡ broken_from (record { nodes = nodes; symbols = symbols ++ ids }) notes
symbols_apart nodes symbols [] notes differ = ap (λ s. broken_from (record { nodes = nodes; symbols = s }) notes) (sym (append-nil symbols))
symbols_apart nodes symbols (id ∷ ids) notes differ =
    let rest = map (symbol 0) ids ++ notes in
    ap (λ b. if b then (0, fault.DuplicateId) ∷ broken_from (record { nodes = nodes; symbols = symbols }) rest else broken_from (record { nodes = nodes; symbols = symbols ++ id ∷ [] }) rest)
    (fresh symbols id ids differ)
    ∙ symbols_apart nodes (symbols ++ id ∷ []) ids notes (subst Differ (sym (append_assoc symbols (id ∷ []) ids)) differ)
    ∙ ap (λ s. broken_from (record { nodes = nodes; symbols = s }) notes) (append_assoc symbols (id ∷ []) ids)

nodes_apart : (nodes symbols ids : List (List ℕ)) → Differ (nodes ++ ids) → broken_from (record { nodes = nodes; symbols = symbols }) (map (node 0) ids) ≡ []
nodes_apart nodes symbols [] differ = refl
nodes_apart nodes symbols (id ∷ ids) differ =
    let rest = map (node 0) ids in
    ap (λ b. if b then (0, fault.DuplicateId) ∷ broken_from (record { nodes = nodes; symbols = symbols }) rest else broken_from (record { nodes = nodes ++ id ∷ []; symbols = symbols }) rest)
    (fresh nodes id ids differ)
    ∙ nodes_apart (nodes ++ id ∷ []) symbols ids (subst Differ (sym (append_assoc nodes (id ∷ []) ids)) differ)

pub ids_apart : (symbols nodes : List (List ℕ)) → Differ symbols → Differ nodes → broken_from nothing_met (map (symbol 0) symbols ++ map (node 0) nodes) ≡ []
ids_apart symbols nodes first second = symbols_apart [] [] symbols (map (node 0) nodes) first ∙ nodes_apart [] symbols nodes second
