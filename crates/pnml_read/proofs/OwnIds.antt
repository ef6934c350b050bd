-- Nets that are read have ids of their own, and fewer than 2^32 - 1 of them.
use Rattle.std.proofs.Common.{◌≡◌, ℕ, ◌+◌, ◌-◌, ◌<◌, ◌≤◌, ◌^◌, Bool, true, false, cond, List, [], ◌∷◌, ◌++◌, map, length, Ok, Err, refl, ap, sym, ◌∙◌, arith, if◌then◌else◌}
use Rattle.std.proofs.lemmas.Cmp.{nat_list_eq_equiv}
use Rattle.std.proofs.lemmas.List.{length-append, length-map}
use Rattle.std.proofs.lemmas.List.Concat.{flat_map-cons}
use Rattle.std.proofs.lemmas.List.Sums.{sum_by-append, sum_by-cons}
use Rattle.std.proofs.lemmas.Map.Keys.{IsDistinct-cons}
use Rattle.std.specs.List.{AllByRecursion, IsDistinct, count_by, flat_map, sum_by}
use Rattle.std.specs.Bool.{⊤}
use Rattle.std.specs.Str.{bytes_eq}
use Rattle.doc_model.specs.declared.tree.Element.{Element}
use Rattle.doc_tree.specs.declared.faults.Fault.TheVariants as fault
use Rattle.net_model.specs.Ids.{AreCounted, AreDistinct, DeclaresOwnIds, HasOwnIds, constants_in, constants_of, element_ids, ids_of, names_in, node_ids, partition_ids, partition_symbols, sort_symbols, symbol_ids, variable_ids}
use Rattle.net_model.specs.declared.kinds.Kind.TheVariants.{Pt}
use Rattle.net_model.specs.declared.nets.Net.{Net}
use Rattle.net_model.specs.declared.nets.VariableDecl.{VariableDecl}
use Rattle.net_model.specs.declared.sorts.NamedSort.{NamedSort}
use Rattle.net_model.specs.declared.sorts.Partition.{Partition}
use Rattle.net_elements.specs.declared.roles.Role.TheVariants as role
use Rattle.net_elements.specs.Rules.{Met, Note, broken, broken_from, broken_rules, final, is_among, node, nothing_met, symbol, walk_of, with_node, with_symbol}
use Rattle.net_elements.specs.Walking.{HasFewIds, found}
use Rattle.pnml_read.specs.Nets.{net_of}
use Rattle.pnml_read.proofs.Distinct.{Differ, ids_differ, nodes_counted, symbols_counted}
use Rattle.pnml_read.proofs.Noted.{node_weight, root_notes, symbol_weight, unmet}

-- every id
abbrev every : List ℕ → Bool
every _ = true

count_every : (ids : List (List ℕ)) → count_by every ids ≡ length ids
count_every [] = refl
count_every (id ∷ ids) = omega (arith, sum_by-cons (λ x. cond (every x) 1 0) id ids, count_every ids)

-- a walk without a broken rule meets as many ids as are noted
record Meets (met : Met) (notes : List Note) : Type 0 where
  after : Met
  is : found met notes ≡ Ok after
  nodes : length after.nodes ≡ length met.nodes + sum_by (node_weight every) notes
  symbols : length after.symbols ≡ length met.symbols + sum_by (symbol_weight every) notes

meets : (met : Met) (notes : List Note) → broken_from met notes ≡ [] → Meets met notes
meets met [] h = record { after = met; is = refl; nodes = omega arith; symbols = omega arith }
meets met (broken at kind ∷ notes) h = absurd (cc)
meets met (final at kind ∷ notes) h = absurd (cc)
meets met (node at id ∷ notes) h =
    let new = unmet (is_among met.nodes id) (at, fault.DuplicateId) (broken_from met notes) (broken_from (with_node met id) notes) h in
    let later = meets (with_node met id) notes new.1 in
    record {
      after = later.after;
      is = ap (λ b. if b then Err (at, fault.DuplicateId) else found (with_node met id) notes) new.0 ∙ later.is;
      nodes = omega (arith, later.nodes, length-append met.nodes (id ∷ []), sum_by-cons (node_weight every) (node at id) notes);
      symbols = omega (arith, later.symbols, sum_by-cons (symbol_weight every) (node at id) notes);
    }
meets met (symbol at id ∷ notes) h =
    let new = unmet (is_among met.symbols id) (at, fault.DuplicateId) (broken_from met notes) (broken_from (with_symbol met id) notes) h in
    let later = meets (with_symbol met id) notes new.1 in
    record {
      after = later.after;
      is = ap (λ b. if b then Err (at, fault.DuplicateId) else found (with_symbol met id) notes) new.0 ∙ later.is;
      nodes = omega (arith, later.nodes, sum_by-cons (node_weight every) (symbol at id) notes);
      symbols = omega (arith, later.symbols, length-append met.symbols (id ∷ []), sum_by-cons (symbol_weight every) (symbol at id) notes);
    }

-- ids of which none stands twice are distinct
apart : (id : List ℕ) (ids : List (List ℕ)) → count_by (bytes_eq id) ids < 1 → AllByRecursion (λ other. bytes_eq id other ≡ false) ids
apart id [] none = tt
apart id (x ∷ xs) none = by (bytes_eq id x) refl (apart id xs (omega (arith, none, sum_by-cons (λ y. cond (bytes_eq id y) 1 0) x xs)))
  where
    by : (b : Bool) → bytes_eq id x ≡ b → AllByRecursion (λ other. bytes_eq id other ≡ false) xs
        → AllByRecursion (λ other. bytes_eq id other ≡ false) (x ∷ xs)
    by true is rest = absurd (omega (arith, none, sum_by-cons (λ y. cond (bytes_eq id y) 1 0) x xs, ap {B = ℕ} (λ b. cond b 1 0) is))
    by false is rest = (is, rest)

distinct : (ids : List (List ℕ)) → Differ ids → IsDistinct bytes_eq ids
unfolding IsDistinct
distinct [] differ = tt
distinct (x ∷ xs) differ =
    IsDistinct-cons bytes_eq x xs
    (apart x xs (omega (arith, differ x, sum_by-cons (λ y. cond (bytes_eq x y) 1 0) x xs, ap {B = ℕ} (λ b. cond b 1 0) (nat_list_eq_equiv.refl x))))
    (distinct xs (λ id. omega (arith, differ id, sum_by-cons (λ y. cond (bytes_eq id y) 1 0) x xs)))

-- the ids of a net that is read
pub own_ids : (t : Element) → broken_rules t ≡ [] → HasFewIds t → HasOwnIds (net_of t)
own_ids t sound few =
    let differ = ids_differ t sound in
    let met = meets nothing_met ((walk_of t).notes Pt role.Pnml) (root_notes t sound) in
    let counts = few met.after met.is in
    record {
      symbols = distinct (symbol_ids (net_of t)) differ.1;
      nodes = distinct (node_ids (net_of t)) differ.0;
      few_symbols = omega (arith, counts.1, met.symbols, symbols_counted every t sound, count_every (symbol_ids (net_of t)));
      few_nodes = omega (arith, counts.0, met.nodes, nodes_counted every t sound, count_every (node_ids (net_of t)));
    }

-- parts of a list of ids
abbrev IsPart : List (List ℕ) → List (List ℕ) → Type 0
IsPart part whole = (test : List ℕ → Bool) → count_by test part ≤ count_by test whole

part_differs : (part whole : List (List ℕ)) → IsPart part whole → Differ whole → IsDistinct bytes_eq part
part_differs part whole is differ = distinct part (λ id. omega (arith, is (bytes_eq id), differ id))

part_few : (part whole : List (List ℕ)) (most : ℕ) → IsPart part whole → length whole < most → length part < most
part_few part whole most is few = omega (arith, is every, count_every part, count_every whole, few)

count-append : (test : List ℕ → Bool) (xs ys : List (List ℕ)) → count_by test (xs ++ ys) ≡ count_by test xs + count_by test ys
count-append test xs ys = sum_by-append (λ x. cond (test x) 1 0) xs ys

-- the symbols of sorts are their ids and their constants, and those of partitions their ids and their elements
sorts_split : (test : List ℕ → Bool) (sorts : List NamedSort)
    → count_by test (flat_map sort_symbols sorts) ≡ count_by test (ids_of sorts) + count_by test (names_in (constants_of sorts))
sorts_split test [] = refl
sorts_split test (s ∷ sorts) =
    omega (
      arith,
      sorts_split test sorts,
      ap (count_by test) (flat_map-cons sort_symbols s sorts),
      count-append test (sort_symbols s) (flat_map sort_symbols sorts),
      sum_by-cons (λ x. cond (test x) 1 0) s.id (constants_in s.sort),
      sum_by-cons (λ x. cond (test x) 1 0) s.id (ids_of sorts),
      ap (count_by test) (flat_map-cons (λ group. group) (constants_in s.sort) (constants_of sorts)),
      count-append test (constants_in s.sort) (names_in (constants_of sorts)),
    )

partitions_split : (test : List ℕ → Bool) (ps : List Partition)
    → count_by test (flat_map partition_symbols ps) ≡ count_by test (partition_ids ps) + count_by test (names_in (map element_ids ps))
partitions_split test [] = refl
partitions_split test (p ∷ ps) =
    omega (
      arith,
      partitions_split test ps,
      ap (count_by test) (flat_map-cons partition_symbols p ps),
      count-append test (partition_symbols p) (flat_map partition_symbols ps),
      sum_by-cons (λ x. cond (test x) 1 0) p.id (element_ids p),
      sum_by-cons (λ x. cond (test x) 1 0) p.id (partition_ids ps),
      ap (count_by test) (flat_map-cons (λ group. group) (element_ids p) (map element_ids ps)),
      count-append test (element_ids p) (names_in (map element_ids ps)),
    )

symbols_split : (test : List ℕ → Bool) (net : Net)
    → count_by test (symbol_ids net)
    ≡ (count_by test (ids_of net.sorts) + count_by test (names_in (constants_of net.sorts)))
    + ((count_by test (partition_ids net.partitions) + count_by test (names_in (map element_ids net.partitions))) + count_by test (variable_ids net.variables))
symbols_split test net =
    let sorts = flat_map sort_symbols net.sorts in
    let partitions = flat_map partition_symbols net.partitions in
    omega (
      arith,
      count-append test (sorts ++ partitions) (variable_ids net.variables),
      count-append test sorts partitions,
      sorts_split test net.sorts,
      partitions_split test net.partitions,
    )

-- so what is declared is told apart, list by list
pub declares_own : (t : Element) → broken_rules t ≡ [] → HasFewIds t → DeclaresOwnIds (net_of t)
declares_own t sound few =
    let net = net_of t in
    let symbols = symbol_ids net in
    let differ = (ids_differ t sound).1 in
    let most = (own_ids t sound few).few_symbols in
    let ids : IsPart (ids_of net.sorts) symbols = λ test. omega (arith, symbols_split test net) in
    let constants : IsPart (names_in (constants_of net.sorts)) symbols = λ test. omega (arith, symbols_split test net) in
    let divisions : IsPart (partition_ids net.partitions) symbols = λ test. omega (arith, symbols_split test net) in
    let elements : IsPart (names_in (map element_ids net.partitions)) symbols = λ test. omega (arith, symbols_split test net) in
    let variables : IsPart (variable_ids net.variables) symbols = λ test. omega (arith, symbols_split test net) in
    record {
      distinct = record {
        ids = part_differs (ids_of net.sorts) symbols ids differ;
        constants = part_differs (names_in (constants_of net.sorts)) symbols constants differ;
        divisions = part_differs (partition_ids net.partitions) symbols divisions differ;
        elements = part_differs (names_in (map element_ids net.partitions)) symbols elements differ;
      };
      counted = record {
        ids = omega (arith, part_few (ids_of net.sorts) symbols (2 ^ 32 - 1) ids most, length-map net.sorts (λ (s : NamedSort). s.id));
        constants = part_few (names_in (constants_of net.sorts)) symbols (2 ^ 32 - 1) constants most;
        divisions = omega (arith, part_few (partition_ids net.partitions) symbols (2 ^ 32 - 1) divisions most, length-map net.partitions (λ (p : Partition). p.id));
        elements = part_few (names_in (map element_ids net.partitions)) symbols (2 ^ 32 - 1) elements most;
      };
      variables = part_differs (variable_ids net.variables) symbols variables differ;
      few_variables = omega (arith, part_few (variable_ids net.variables) symbols (2 ^ 32 - 1) variables most, length-map net.variables (λ (v : VariableDecl). v.id));
    }
