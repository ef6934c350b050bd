-- The canonical tree of a sound net breaks no rule.
use Rattle.std.proofs.Common.{◌≡◌, ℕ, true, List, [], ◌∷◌, ◌++◌, map, length, length-append, codes, ◌+◌, refl, ap, sym, ◌∙◌, if◌then◌else◌, arith}
use Rattle.std.proofs.lemmas.List.{append-nil, length-map, map-append}
use Rattle.std.proofs.lemmas.List.Concat.{flat_map_single}
use Rattle.std.specs.List.{flat_map}
use Rattle.std.specs.Str.{bytes_eq}
use Rattle.name_tables.proofs.IdTexts.{id-ascii}
use Rattle.name_tables.specs.Grammar.{is_id_text}
use Rattle.doc_model.specs.declared.tree.Element.{Element}
use Rattle.doc_model.specs.Trees.{attribute}
use Rattle.doc_tree.specs.declared.faults.Fault.TheVariants as fault
use Rattle.net_model.specs.declared.sorts.NamedSort.{NamedSort}
use Rattle.net_model.specs.declared.sorts.Partition.{Partition}
use Rattle.net_model.specs.declared.kinds.Kind.{Kind}
use Rattle.net_model.specs.declared.kinds.Kind.TheVariants.{Pt, Symmetric}
use Rattle.net_elements.specs.declared.roles.Key.TheVariants as key
use Rattle.net_elements.specs.declared.roles.Role.{Role}
use Rattle.net_elements.specs.declared.roles.Role.TheVariants as role
use Rattle.net_elements.specs.declared.seats.Seat.TheVariants.{Read}
use Rattle.net_elements.specs.Rules.{Note, attribute_notes, broken_from, broken_rules, child_notes, children_notes, end_notes, node, nothing_met, passes, seat_of, symbol, walk_of}
use Rattle.net_elements.specs.Table.{any, nodes_of, slots_of, word_of}
use Rattle.net_model.specs.declared.nets.RefKind.{RefKind}
use Rattle.net_model.specs.declared.nets.RefKind.TheVariants as stands_for
use Rattle.net_model.specs.declared.nets.VariableDecl.{VariableDecl}
use Rattle.net_model.specs.declared.nets.Net.{Net}
use Rattle.pnml_write.specs.Canon.{arc_tree, attribute_id, declaration_trees, declared_trees, holder, kind_text, named_sort_tree, net_tree, node_trees, page_tree, partition_tree, place_tree, reference_role, reference_tree, transition_tree, tree_of, variable_tree}
use Rattle.pnml_read.specs.Each.{Each}
use Rattle.canon_laws.proofs.Apart.{ids_apart}
use Rattle.pnml_read.proofs.Each.{each_map, each_passes}
pub use Rattle.canon_laws.proofs.Offsets.{rules_same}
use Rattle.canon_laws.proofs.Nodes.{kind_back}
use Rattle.net_model.specs.Ids.{node_ids, partition_symbols, sort_symbols, symbol_ids}
use Rattle.canon_laws.proofs.Sound.{DeclaresFor, NetIsSound, ValuesAreSound}
use Rattle.canon_laws.proofs.Walked.{Free, Reads, any_ends, branch_reads, child_reads, free_join, free_more, key_is_declared, one_reads}
use Rattle.canon_laws.proofs.WalkedNodes.{arc_reads, free_ids, named_sort_reads, partition_reads, place_reads, reference_reads, transition_reads, variable_reads}

-- children with one id each, and children behind others
free_named : {A : Type 0} (kind : Kind) (parent : Role) (make : List ℕ → Note) (r : A → Role) (f : A → Element) (g : A → List ℕ)
    → ((x : A) (earlier : List (List ℕ)) → seat_of kind parent earlier (word_of (r x)) ≡ Read (r x))
    → (xs : List A) → Each (λ x. Reads kind (r x) (walk_of (f x)) (make (g x) ∷ [])) xs → Free kind parent (map walk_of (map f xs)) (map make (map g xs))
free_named kind parent make r f g seat xs each earlier =
    free_ids kind parent make r f (λ x. g x ∷ []) seat xs each earlier ∙ ap (map make) (flat_map_single g xs)

join_ids : (kind : Kind) (parent : Role) (make : List ℕ → Note) (trees more : List Element) (ids further : List (List ℕ))
    → Free kind parent (map walk_of trees) (map make ids) → Free kind parent (map walk_of more) (map make further)
    → Free kind parent (map walk_of (trees ++ more)) (map make (ids ++ further))
join_ids kind parent make trees more ids further here there earlier =
    ap (children_notes kind parent earlier) (map-append walk_of trees more)
    ∙ free_join kind parent (map walk_of trees) (map walk_of more) (map make ids) (map make further) here there earlier
    ∙ sym (map-append make ids further)

-- what pages and nets hold
abbrev node_roles : Kind → List (List Role)
node_roles Pt = (role.Page ∷ []) ∷ (role.Place ∷ []) ∷ (role.Transition ∷ []) ∷ (role.Arc ∷ []) ∷ (role.ReferencePlace ∷ []) ∷ (role.ReferenceTransition ∷ []) ∷ []
node_roles Symmetric =
    (role.Page ∷ []) ∷ (role.Place ∷ []) ∷ (role.Transition ∷ []) ∷ (role.Arc ∷ []) ∷ (role.ReferencePlace ∷ []) ∷ (role.ReferenceTransition ∷ []) ∷ (role.Declaration ∷ []) ∷ []

nodes_any : (kind : Kind) → nodes_of kind ≡ map any (node_roles kind)
nodes_any Pt = refl
nodes_any Symmetric = refl

place_seat : (kind : Kind) (earlier : List (List ℕ)) → seat_of kind role.Page earlier (word_of role.Place) ≡ Read role.Place
place_seat Pt earlier = refl
place_seat Symmetric earlier = refl

transition_seat : (kind : Kind) (earlier : List (List ℕ)) → seat_of kind role.Page earlier (word_of role.Transition) ≡ Read role.Transition
transition_seat Pt earlier = refl
transition_seat Symmetric earlier = refl

reference_seat : (kind : Kind) (k : RefKind) (earlier : List (List ℕ)) → seat_of kind role.Page earlier (word_of (reference_role k)) ≡ Read (reference_role k)
reference_seat Pt stands_for.Place earlier = refl
reference_seat Pt stands_for.Transition earlier = refl
reference_seat Symmetric stands_for.Place earlier = refl
reference_seat Symmetric stands_for.Transition earlier = refl

arc_seat : (kind : Kind) (earlier : List (List ℕ)) → seat_of kind role.Page earlier (word_of role.Arc) ≡ Read role.Arc
arc_seat Pt earlier = refl
arc_seat Symmetric earlier = refl

page_seat : (kind : Kind) (earlier : List (List ℕ)) → seat_of kind role.Net earlier (word_of role.Page) ≡ Read role.Page
page_seat Pt earlier = refl
page_seat Symmetric earlier = refl

-- the page notes the ids of the nodes
nodes_read : (net : Net) → ValuesAreSound net → Free net.kind role.Page (map walk_of (node_trees net)) (map (node 0) (node_ids net))
nodes_read net are =
    let ps = map (place_tree net.kind) net.places in
    let ts = map transition_tree net.transitions in
    let rs = map reference_tree net.references in
    let pids = map (λ p. p.id) net.places in
    let tids = map (λ t. t.id) net.transitions in
    let rids = map (λ r. r.id) net.references in
    join_ids net.kind role.Page (node 0) ((ps ++ ts) ++ rs) (map arc_tree net.arcs) ((pids ++ tids) ++ rids) (map (λ a. a.id) net.arcs)
    (join_ids net.kind role.Page (node 0) (ps ++ ts) rs (pids ++ tids) rids
    (join_ids net.kind role.Page (node 0) ps ts pids tids
    (free_named net.kind role.Page (node 0) (λ _. role.Place) (place_tree net.kind) (λ p. p.id) (λ _. place_seat net.kind) net.places
    (each_map _ _ (place_reads net.kind) net.places are.places))
    (free_named net.kind role.Page (node 0) (λ _. role.Transition) transition_tree (λ t. t.id) (λ _. transition_seat net.kind) net.transitions
    (each_map _ _ (transition_reads net.kind) net.transitions are.transitions)))
    (free_named net.kind role.Page (node 0) (λ r. reference_role r.kind) reference_tree (λ r. r.id) (λ r. reference_seat net.kind r.kind) net.references
    (each_passes _ _ (reference_reads net.kind) net.references are.references)))
    (free_named net.kind role.Page (node 0) (λ _. role.Arc) arc_tree (λ a. a.id) (λ _. arc_seat net.kind) net.arcs
    (each_map _ _ (arc_reads net.kind) net.arcs are.arcs))

page_is_id : is_id_text (codes "page") ≡ true
page_is_id = sym (id-ascii (codes "page") refl)

page_reads : (net : Net) → ValuesAreSound net → Reads net.kind role.Page (walk_of (page_tree net)) (map (node 0) (node_ids net))
page_reads net are =
    branch_reads net.kind role.Page (attribute_id (codes "page") ∷ []) (node_trees net) [] (map (node 0) (node_ids net))
    (ap (λ ns. ns ++ []) (key_is_declared 0 key.AnyId (codes "page") page_is_id))
    (nodes_read net are [])
    (any_ends net.kind role.Page (node_roles net.kind) (node_trees net) (nodes_any net.kind) refl)

-- the declaration notes the ids of the symbols
declared_read : (net : Net) → ValuesAreSound net → Free net.kind role.Declarations (map walk_of (declared_trees net)) (map (symbol 0) (symbol_ids net))
declared_read net are =
    let ss = map named_sort_tree net.sorts in
    let ps = map partition_tree net.partitions in
    join_ids net.kind role.Declarations (symbol 0) (ss ++ ps) (map variable_tree net.variables)
    (flat_map sort_symbols net.sorts ++ flat_map partition_symbols net.partitions) (map (λ v. v.id) net.variables)
    (join_ids net.kind role.Declarations (symbol 0) ss ps (flat_map sort_symbols net.sorts) (flat_map partition_symbols net.partitions)
    (free_ids net.kind role.Declarations (symbol 0) (λ _. role.NamedSort) named_sort_tree sort_symbols (λ _ earlier. refl) net.sorts
    (each_passes _ _ (named_sort_reads net.kind) net.sorts are.sorts))
    (free_ids net.kind role.Declarations (symbol 0) (λ _. role.Partition) partition_tree partition_symbols (λ _ earlier. refl) net.partitions
    (each_passes _ _ (partition_reads net.kind) net.partitions are.partitions)))
    (free_named net.kind role.Declarations (symbol 0) (λ _. role.VariableDecl) variable_tree (λ v. v.id) (λ _ earlier. refl) net.variables
    (each_passes _ _ (variable_reads net.kind) net.variables are.variables))

declaration_reads : (kind : Kind) (trees : List Element) (notes : List Note) → Free kind role.Declarations (map walk_of trees) notes
    → Reads kind role.Declaration (walk_of (holder role.Declaration (holder role.DeclarationStructure (holder role.Declarations trees ∷ []) ∷ []))) notes
declaration_reads kind trees notes free =
    one_reads kind role.Declaration role.DeclarationStructure [] (holder role.DeclarationStructure (holder role.Declarations trees ∷ [])) [] notes refl refl refl refl
    (one_reads kind role.DeclarationStructure role.Declarations [] (holder role.Declarations trees) [] notes refl refl refl refl
    (branch_reads kind role.Declarations [] trees [] notes refl (free [])
    (any_ends kind role.Declarations ((role.NamedSort ∷ []) ∷ (role.Partition ∷ []) ∷ (role.VariableDecl ∷ []) ∷ []) trees refl refl)))

-- a place/transition net declares nothing
declares_for : (kind : Kind) (ss : List NamedSort) (ps : List Partition) (vs : List VariableDecl)
    → DeclaresFor kind (length ss) × DeclaresFor kind (length ps) × DeclaresFor kind (length vs)
    → DeclaresFor kind (length (map named_sort_tree ss ++ map partition_tree ps ++ map variable_tree vs))
declares_for Pt ss ps vs (first, second, third) =
    length-append (map named_sort_tree ss ++ map partition_tree ps) (map variable_tree vs)
    ∙ none (length-append (map named_sort_tree ss) (map partition_tree ps)) (length-map ss named_sort_tree ∙ first) (length-map ps partition_tree ∙ second)
    (length-map vs variable_tree ∙ third)
  where
    none : {a b c d : ℕ} → d ≡ a + b → a ≡ 0 → b ≡ 0 → c ≡ 0 → d + c ≡ 0
    none whole first second third = omega arith
declares_for Symmetric ss ps vs are = tt

within_reads : (kind : Kind) (trees : List Element) (page : Element) (symbols nodes : List Note) → DeclaresFor kind (length trees)
    → Free kind role.Declarations (map walk_of trees) symbols → Reads kind role.Page (walk_of page) nodes
    → children_notes kind role.Net [] (map walk_of (declaration_trees trees ++ page ∷ [])) ≡ symbols ++ nodes
within_reads kind [] page symbols nodes for free is =
    append-nil (child_notes kind role.Net [] (walk_of page))
    ∙ child_reads kind role.Net role.Page [] (walk_of page) nodes (page_seat kind []) is
    ∙ ap (λ ns. ns ++ nodes) (free [])
within_reads Pt (tree ∷ trees) page symbols nodes for free is = absurd (omega (arith, for))
within_reads Symmetric (tree ∷ trees) page symbols nodes for free is =
    let label = holder role.Declaration (holder role.DeclarationStructure (holder role.Declarations (tree ∷ trees) ∷ []) ∷ []) in
    free_more Symmetric role.Net (walk_of label) (walk_of page ∷ []) symbols nodes
    (λ earlier. child_reads Symmetric role.Net role.Declaration earlier (walk_of label) symbols refl (declaration_reads Symmetric (tree ∷ trees) symbols free))
    (λ earlier. append-nil (child_notes Symmetric role.Net earlier (walk_of page)) ∙ child_reads Symmetric role.Net role.Page earlier (walk_of page) nodes refl is)
    []

-- the net and the root
kind_passes : (kind : Kind) → passes key.NetType (kind_text kind) ≡ true
kind_passes Pt = refl
kind_passes Symmetric = refl

net_notes : (id : List ℕ) (kind : Kind) → is_id_text id ≡ true
    → attribute_notes 0 (key.AnyId ∷ key.NetType ∷ []) (attribute_id id ∷ attribute (codes "type") (kind_text kind) ∷ []) ≡ []
net_notes id kind h =
    ap (λ ns. ns ++ attribute_notes 0 (key.NetType ∷ []) (attribute_id id ∷ attribute (codes "type") (kind_text kind) ∷ [])) (key_is_declared 0 key.AnyId id h)
    ∙ ap (λ ns. ns ++ []) (key_is_declared 0 key.NetType (kind_text kind) (kind_passes kind))

net_reads : (net : Net) → ValuesAreSound net → Reads Pt role.Net (walk_of (net_tree net)) (map (symbol 0) (symbol_ids net) ++ map (node 0) (node_ids net))
net_reads net are =
    let children = declaration_trees (declared_trees net) ++ page_tree net ∷ [] in
    let attributes = attribute_id net.id ∷ attribute (codes "type") (kind_text net.kind) ∷ [] in
    branch_reads Pt role.Net attributes children [] (map (symbol 0) (symbol_ids net) ++ map (node 0) (node_ids net)) (net_notes net.id net.kind are.id)
    (ap (λ k. children_notes k role.Net [] (map walk_of children)) (kind_back net.kind)
    ∙ within_reads net.kind (declared_trees net) (page_tree net) (map (symbol 0) (symbol_ids net)) (map (node 0) (node_ids net))
    (declares_for net.kind net.sorts net.partitions net.variables are.declared) (declared_read net are) (page_reads net are))
    (ap (λ k. end_notes (slots_of k role.Net) role.Net 0 (map (λ w. w.name) (map walk_of children)) []) (kind_back net.kind)
    ∙ any_ends net.kind role.Net (node_roles net.kind) children (nodes_any net.kind) refl)

root_reads : (net : Net) → ValuesAreSound net → Reads Pt role.Pnml (walk_of (tree_of net)) (map (symbol 0) (symbol_ids net) ++ map (node 0) (node_ids net))
root_reads net are =
    one_reads Pt role.Pnml role.Net (attribute (codes "xmlns") (codes "http://www.pnml.org/version-2009/grammar/pnml") ∷ []) (net_tree net) [] _ refl refl refl refl (net_reads net are)

pub sound_unbroken : (net : Net) → NetIsSound net → broken_rules (tree_of net) ≡ []
sound_unbroken net is =
    let w = walk_of (tree_of net) in
    let reads = root_reads net is.values in
    ap (λ n. if bytes_eq n (codes "pnml") then broken_from nothing_met (w.notes Pt role.Pnml) else (w.at, fault.Unexpected) ∷ []) reads.name
    ∙ ap (broken_from nothing_met) reads.says
    ∙ ids_apart (symbol_ids net) (node_ids net) is.symbols is.nodes
