-- The ids that a net has, of symbols and of nodes, and that they are told apart.
use Rattle.std.specs.Prelude.{ℕ, ◌-◌, ◌<◌, ◌^◌, List, [], ◌∷◌, ◌++◌, flat_map, length, map}
use Rattle.std.specs.List.{IsDistinct}
use Rattle.std.specs.Str.{bytes_eq}
use Rattle.net_model.specs.declared.nets.Net.{Net}
use Rattle.net_model.specs.declared.nets.VariableDecl.{VariableDecl}
use Rattle.net_model.specs.declared.sorts.NamedSort.{NamedSort}
use Rattle.net_model.specs.declared.sorts.Partition.{Partition}
use Rattle.net_model.specs.declared.sorts.SortTerm.{SortTerm, out-SortTerm}
use Rattle.net_model.specs.declared.sorts.SortTerm.TheOpen.{SortTerm-F, Listed, Cyclic}

-- the ids of named sorts, of partitions and of variables
abbrev pub ids_of : List NamedSort → List (List ℕ)
ids_of sorts = map (λ s. s.id) sorts

abbrev pub partition_ids : List Partition → List (List ℕ)
partition_ids partitions = map (λ p. p.id) partitions

abbrev pub variable_ids : List VariableDecl → List (List ℕ)
variable_ids variables = map (λ v. v.id) variables

-- the constants that a sort declares
abbrev pub constants_in_layer : {A : Type 0} → SortTerm-F A → List (List ℕ)
constants_in_layer (Listed constants) = constants
constants_in_layer (Cyclic constants) = constants
constants_in_layer _ = []

abbrev pub constants_in : SortTerm → List (List ℕ)
constants_in t = constants_in_layer (out-SortTerm t)

-- the constants that each named sort declares, and the elements of a partition
abbrev pub constants_of : List NamedSort → List (List (List ℕ))
constants_of sorts = map (λ s. constants_in s.sort) sorts

abbrev pub element_ids : Partition → List (List ℕ)
element_ids p = map (λ element. element.id) p.elements

-- the names of all groups
abbrev pub names_in : List (List (List ℕ)) → List (List ℕ)
names_in groups = flat_map (λ group. group) groups

-- ids and constants that are told apart, of fewer than 2^32 - 1 in each list
pub record AreDistinct (sorts : List NamedSort) (partitions : List Partition) : Type 0 where
  pub ids : IsDistinct bytes_eq (ids_of sorts)
  pub constants : IsDistinct bytes_eq (names_in (constants_of sorts))
  pub divisions : IsDistinct bytes_eq (partition_ids partitions)
  pub elements : IsDistinct bytes_eq (names_in (map element_ids partitions))

pub record AreCounted (sorts : List NamedSort) (partitions : List Partition) : Type 0 where
  pub ids : length sorts < 2 ^ 32 - 1
  pub constants : length (names_in (constants_of sorts)) < 2 ^ 32 - 1
  pub divisions : length partitions < 2 ^ 32 - 1
  pub elements : length (names_in (map element_ids partitions)) < 2 ^ 32 - 1

-- all symbols of a net, and all its nodes, in the order of the canonical text
abbrev pub sort_symbols : NamedSort → List (List ℕ)
sort_symbols s = s.id ∷ constants_in s.sort

abbrev pub partition_symbols : Partition → List (List ℕ)
partition_symbols p = p.id ∷ element_ids p

abbrev pub symbol_ids : Net → List (List ℕ)
symbol_ids net = flat_map sort_symbols net.sorts ++ flat_map partition_symbols net.partitions ++ variable_ids net.variables

abbrev pub node_ids : Net → List (List ℕ)
node_ids net =
    map (λ p. p.id) net.places ++ map (λ t. t.id) net.transitions ++ map (λ r. r.id) net.references ++ map (λ a. a.id) net.arcs

-- a net whose symbols all differ from each other, and whose nodes and arcs do, with fewer than 2^32 - 1 of each
pub record HasOwnIds (net : Net) : Type 0 where
  pub symbols : IsDistinct bytes_eq (symbol_ids net)
  pub nodes : IsDistinct bytes_eq (node_ids net)
  pub few_symbols : length (symbol_ids net) < 2 ^ 32 - 1
  pub few_nodes : length (node_ids net) < 2 ^ 32 - 1

-- in such a net the declarations are told apart and counted, and so are the variables
pub record DeclaresOwnIds (net : Net) : Type 0 where
  pub distinct : AreDistinct net.sorts net.partitions
  pub counted : AreCounted net.sorts net.partitions
  pub variables : IsDistinct bytes_eq (variable_ids net.variables)
  pub few_variables : length net.variables < 2 ^ 32 - 1
