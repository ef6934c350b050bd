-- Nodes come back, and with what is declared the net.
use Rattle.std.proofs.Common.{◌≡◌, ℕ, false, cond, List, [], ◌∷◌, ◌++◌, map, None, Some, codes, append_assoc, refl, ap, ◌∙◌}
use Rattle.std.proofs.lemmas.List.{append-nil}
use Rattle.std.specs.List.{find}
use Rattle.std.specs.Str.{bytes_eq}
use Rattle.doc_model.specs.declared.tree.Element.{Element, out-Element, out-roll-Element}
use Rattle.doc_model.specs.declared.tree.Element.TheOpen.{Element-F}
use Rattle.doc_model.specs.Trees.{attribute}
use Rattle.net_model.specs.declared.kinds.Kind.{Kind}
use Rattle.net_model.specs.declared.kinds.Kind.TheVariants.{Pt, Symmetric}
use Rattle.net_elements.specs.declared.roles.Role.TheVariants as role
use Rattle.net_elements.specs.Rules.{is_passed_over, kind_from, value_of}
use Rattle.net_elements.specs.Table.{word_of}
use Rattle.net_model.specs.declared.nets.Place.{Place}
use Rattle.net_model.specs.declared.nets.Transition.{Transition}
use Rattle.net_model.specs.declared.nets.Arc.{Arc}
use Rattle.net_model.specs.declared.nets.RefKind.{RefKind}
use Rattle.net_model.specs.declared.nets.RefKind.TheVariants as stands_for
use Rattle.net_model.specs.declared.nets.Reference.{Reference}
use Rattle.net_model.specs.declared.nets.Net.{Net}
use Rattle.pnml_read.specs.declared.lists.Lists.{Lists}
use Rattle.pnml_read.specs.Nets.{both, given, lists_in, marking_of, net_in, net_of, net_with, no_lists, text_in}
use Rattle.pnml_write.specs.Canon.{arc_tree, attribute_id, condition_trees, declaration_trees, declared_trees, holder, kind_text, label_trees, leaf_with, named_sort_tree, net_tree, page_tree, partition_tree, place_tree, reference_role, reference_tree, transition_tree, tree_of, type_trees, variable_tree}
use Rattle.pnml_read.specs.Each.{Each}
use Rattle.canon_laws.specs.Fitting.{GuardFits, LabelFits, NetFits, SortFits}
use Rattle.canon_laws.proofs.Elements.{branch_gives}
use Rattle.canon_laws.proofs.Declared.{partitions_in, sorts_in, variables_in}
use Rattle.canon_laws.proofs.Labels.{condition_back, inscription_back, marking_back, place_sort_back}
use Rattle.canon_laws.proofs.Lists.{first_lists, only_lists}

place_back : (kind : Kind) (p : Place) → SortFits kind p.sort → LabelFits kind p.marking → (given (place_tree kind p)).lists kind ≡ record no_lists { places = p ∷ [] }
place_back kind p sort_fit label_fit =
    let labels = map given (type_trees kind p.sort ++ label_trees 0 role.InitialMarking role.HlInitialMarking p.marking) in
    ap (λ g. g.lists kind) (branch_gives role.Place (attribute_id p.id ∷ []) (type_trees kind p.sort ++ label_trees 0 role.InitialMarking role.HlInitialMarking p.marking))
    ∙ ap (λ s. record no_lists { places = record { id = p.id; sort = s; marking = marking_of kind labels } ∷ [] }) (place_sort_back kind p.sort p.marking sort_fit label_fit)
    ∙ ap (λ m. record no_lists { places = record { id = p.id; sort = p.sort; marking = m } ∷ [] }) (marking_back kind p.sort p.marking label_fit)

transition_back : (kind : Kind) (t : Transition) → GuardFits t.guard → (given (transition_tree t)).lists kind ≡ record no_lists { transitions = t ∷ [] }
transition_back kind t fit =
    ap (λ g. g.lists kind) (branch_gives role.Transition (attribute_id t.id ∷ []) (condition_trees t.guard))
    ∙ ap (λ o. record no_lists { transitions = record { id = t.id; guard = o } ∷ [] }) (condition_back t.guard fit)

reference_back : (kind : Kind) (k : RefKind) (id target : List ℕ)
    → (given (leaf_with (reference_role k) (attribute_id id ∷ attribute (codes "ref") target ∷ []))).lists kind ≡ record no_lists { references = record { id = id; kind = k; target = target } ∷ [] }
reference_back kind stands_for.Place id target = ap (λ g. g.lists kind) (branch_gives role.ReferencePlace (attribute_id id ∷ attribute (codes "ref") target ∷ []) [])
reference_back kind stands_for.Transition id target = ap (λ g. g.lists kind) (branch_gives role.ReferenceTransition (attribute_id id ∷ attribute (codes "ref") target ∷ []) [])

reference_is_kept : (k : RefKind) (id target : List ℕ) → is_passed_over role.Page (given (leaf_with (reference_role k) (attribute_id id ∷ attribute (codes "ref") target ∷ []))).name ≡ false
reference_is_kept stands_for.Place id target = ap (λ g. is_passed_over role.Page g.name) (branch_gives role.ReferencePlace (attribute_id id ∷ attribute (codes "ref") target ∷ []) [])
reference_is_kept stands_for.Transition id target = ap (λ g. is_passed_over role.Page g.name) (branch_gives role.ReferenceTransition (attribute_id id ∷ attribute (codes "ref") target ∷ []) [])

arc_back : (kind : Kind) (a : Arc) → LabelFits kind a.label → (given (arc_tree a)).lists kind ≡ record no_lists { arcs = a ∷ [] }
arc_back kind a fit =
    ap (λ g. g.lists kind) (branch_gives role.Arc (attribute_id a.id ∷ attribute (codes "source") a.source ∷ attribute (codes "target") a.target ∷ []) (label_trees 1 role.Inscription role.HlInscription a.label))
    ∙ ap (λ m. record no_lists { arcs = record { id = a.id; source = a.source; target = a.target; label = m } ∷ [] }) (inscription_back kind a.label fit)

-- lists of them, before others
places_in : (kind : Kind) (ps : List Place) (rest : List Element) → Each (λ p. SortFits kind p.sort × LabelFits kind p.marking) ps
    → lists_in role.Page kind (map given (map (place_tree kind) ps ++ rest)) ≡ both (record no_lists { places = ps }) (lists_in role.Page kind (map given rest))
places_in kind [] rest fit = refl
places_in kind (p ∷ ps) rest ((sort_fit, label_fit), later) =
    first_lists role.Page kind (given (place_tree kind p)) (map given (map (place_tree kind) ps ++ rest))
    (ap (λ g. is_passed_over role.Page g.name) (branch_gives role.Place (attribute_id p.id ∷ []) _))
    ∙ ap (λ l. both l (lists_in role.Page kind (map given (map (place_tree kind) ps ++ rest)))) (place_back kind p sort_fit label_fit)
    ∙ ap (both (record no_lists { places = p ∷ [] })) (places_in kind ps rest later)

transitions_in : (kind : Kind) (ts : List Transition) (rest : List Element) → Each (λ t. GuardFits t.guard) ts
    → lists_in role.Page kind (map given (map transition_tree ts ++ rest)) ≡ both (record no_lists { transitions = ts }) (lists_in role.Page kind (map given rest))
transitions_in kind [] rest fit = refl
transitions_in kind (t ∷ ts) rest (fit, later) =
    first_lists role.Page kind (given (transition_tree t)) (map given (map transition_tree ts ++ rest))
    (ap (λ g. is_passed_over role.Page g.name) (branch_gives role.Transition (attribute_id t.id ∷ []) _))
    ∙ ap (λ l. both l (lists_in role.Page kind (map given (map transition_tree ts ++ rest)))) (transition_back kind t fit)
    ∙ ap (both (record no_lists { transitions = t ∷ [] })) (transitions_in kind ts rest later)

references_in : (kind : Kind) (rs : List Reference) (rest : List Element)
    → lists_in role.Page kind (map given (map reference_tree rs ++ rest)) ≡ both (record no_lists { references = rs }) (lists_in role.Page kind (map given rest))
references_in kind [] rest = refl
references_in kind (r ∷ rs) rest =
    first_lists role.Page kind (given (reference_tree r)) (map given (map reference_tree rs ++ rest)) (reference_is_kept r.kind r.id r.target)
    ∙ ap (λ l. both l (lists_in role.Page kind (map given (map reference_tree rs ++ rest)))) (reference_back kind r.kind r.id r.target)
    ∙ ap (both (record no_lists { references = r ∷ [] })) (references_in kind rs rest)

arcs_in : (kind : Kind) (as_ : List Arc) → Each (λ a. LabelFits kind a.label) as_ → lists_in role.Page kind (map given (map arc_tree as_)) ≡ record no_lists { arcs = as_ }
arcs_in kind [] fit = refl
arcs_in kind (a ∷ later) (fit, fits) =
    first_lists role.Page kind (given (arc_tree a)) (map given (map arc_tree later))
    (ap (λ g. is_passed_over role.Page g.name) (branch_gives role.Arc (attribute_id a.id ∷ attribute (codes "source") a.source ∷ attribute (codes "target") a.target ∷ []) _))
    ∙ ap (λ l. both l (lists_in role.Page kind (map given (map arc_tree later)))) (arc_back kind a fit)
    ∙ ap (both (record no_lists { arcs = a ∷ [] })) (arcs_in kind later fits)

-- the page has the nodes
abbrev nodes_of : Net → Lists
nodes_of net = record no_lists { places = net.places; transitions = net.transitions; references = net.references; arcs = net.arcs }

page_back : (net : Net) → NetFits net → (given (page_tree net)).lists net.kind ≡ nodes_of net
page_back net fit =
    let ps = map (place_tree net.kind) net.places in
    let ts = map transition_tree net.transitions in
    let rs = map reference_tree net.references in
    let arcs = map arc_tree net.arcs in
    ap (λ g. g.lists net.kind) (branch_gives role.Page (attribute_id (codes "page") ∷ []) _)
    ∙ ap (λ ks. lists_in role.Page net.kind (map given ks)) (append_assoc (ps ++ ts) rs arcs ∙ append_assoc ps ts (rs ++ arcs))
    ∙ places_in net.kind net.places (ts ++ (rs ++ arcs)) fit.places
    ∙ ap (both (record no_lists { places = net.places }))
    (transitions_in net.kind net.transitions (rs ++ arcs) fit.transitions
    ∙ ap (both (record no_lists { transitions = net.transitions }))
    (references_in net.kind net.references arcs ∙ ap (both (record no_lists { references = net.references })) (arcs_in net.kind net.arcs fit.arcs)))
    ∙ ap (λ l. record no_lists { places = l; transitions = net.transitions ++ []; references = net.references ++ []; arcs = net.arcs }) (append-nil net.places)
    ∙ ap (λ l. record no_lists { places = net.places; transitions = l; references = net.references ++ []; arcs = net.arcs }) (append-nil net.transitions)
    ∙ ap (λ l. record no_lists { places = net.places; transitions = net.transitions; references = l; arcs = net.arcs }) (append-nil net.references)

-- the declaration has the declarations
abbrev declarations_of : Net → Lists
declarations_of net = record no_lists { sorts = net.sorts; partitions = net.partitions; variables = net.variables }

list_back : (net : Net) → NetFits net → lists_in role.Declarations net.kind (map given (declared_trees net)) ≡ declarations_of net
list_back net fit =
    let ss = map named_sort_tree net.sorts in
    let ps = map partition_tree net.partitions in
    let vs = map variable_tree net.variables in
    ap (λ ks. lists_in role.Declarations net.kind (map given ks)) (append_assoc ss ps vs)
    ∙ sorts_in net.kind net.sorts (ps ++ vs) fit.sorts
    ∙ ap (both (record no_lists { sorts = net.sorts }))
    (partitions_in net.kind net.partitions vs fit.partitions
    ∙ ap (both (record no_lists { partitions = net.partitions })) (variables_in net.kind net.variables fit.variables))
    ∙ ap (λ l. record no_lists { sorts = l; partitions = net.partitions ++ []; variables = net.variables }) (append-nil net.sorts)
    ∙ ap (λ l. record no_lists { sorts = net.sorts; partitions = l; variables = net.variables }) (append-nil net.partitions)

abbrev declaration : List Element → Element
declaration trees = holder role.Declaration (holder role.DeclarationStructure (holder role.Declarations trees ∷ []) ∷ [])

declaration_gives : (kind : Kind) (trees : List Element) → (given (declaration trees)).lists kind ≡ lists_in role.Declarations kind (map given trees)
declaration_gives kind trees =
    let list = holder role.Declarations trees in
    let structure = holder role.DeclarationStructure (list ∷ []) in
    ap (λ g. g.lists kind) (branch_gives role.Declaration [] (structure ∷ []))
    ∙ only_lists role.Declaration kind (given structure) (ap (λ g. is_passed_over role.Declaration g.name) (branch_gives role.DeclarationStructure [] (list ∷ [])))
    ∙ ap (λ g. g.lists kind) (branch_gives role.DeclarationStructure [] (list ∷ []))
    ∙ only_lists role.DeclarationStructure kind (given list) (ap (λ g. is_passed_over role.DeclarationStructure g.name) (branch_gives role.Declarations [] trees))
    ∙ ap (λ g. g.lists kind) (branch_gives role.Declarations [] trees)

page_is_kept : (net : Net) → is_passed_over role.Net (given (page_tree net)).name ≡ false
page_is_kept net = ap (λ g. is_passed_over role.Net g.name) (branch_gives role.Page (attribute_id (codes "page") ∷ []) _)

within : (net : Net) (trees : List Element)
    → lists_in role.Net net.kind (map given (declaration_trees trees ++ page_tree net ∷ [])) ≡ both (lists_in role.Declarations net.kind (map given trees)) ((given (page_tree net)).lists net.kind)
within net [] = only_lists role.Net net.kind (given (page_tree net)) (page_is_kept net)
within net (tree ∷ trees) =
    let label = declaration (tree ∷ trees) in
    first_lists role.Net net.kind (given label) (given (page_tree net) ∷ []) (ap (λ g. is_passed_over role.Net g.name) (branch_gives role.Declaration [] _))
    ∙ ap (λ l. both l (lists_in role.Net net.kind (given (page_tree net) ∷ []))) (declaration_gives net.kind (tree ∷ trees))
    ∙ ap (both (lists_in role.Declarations net.kind (map given (tree ∷ trees)))) (only_lists role.Net net.kind (given (page_tree net)) (page_is_kept net))

lists_back : (net : Net) → NetFits net → (given (net_tree net)).lists net.kind ≡ both (declarations_of net) (nodes_of net)
lists_back net fit =
    ap (λ g. g.lists net.kind) (branch_gives role.Net (attribute_id net.id ∷ attribute (codes "type") (kind_text net.kind) ∷ []) _)
    ∙ within net (declared_trees net)
    ∙ ap (λ l. both l ((given (page_tree net)).lists net.kind)) (list_back net fit)
    ∙ ap (both (declarations_of net)) (page_back net fit)

whole : (net : Net) → net_with net.id net.kind (both (declarations_of net) (nodes_of net)) ≡ net
whole net =
    ap (λ l. record { id = net.id; kind = net.kind; sorts = l; partitions = net.partitions ++ []; variables = net.variables ++ []; places = net.places; transitions = net.transitions; references = net.references; arcs = net.arcs }) (append-nil net.sorts)
    ∙ ap (λ l. record { id = net.id; kind = net.kind; sorts = net.sorts; partitions = l; variables = net.variables ++ []; places = net.places; transitions = net.transitions; references = net.references; arcs = net.arcs }) (append-nil net.partitions)
    ∙ ap (λ l. record { id = net.id; kind = net.kind; sorts = net.sorts; partitions = net.partitions; variables = l; places = net.places; transitions = net.transitions; references = net.references; arcs = net.arcs }) (append-nil net.variables)

pub kind_back : (kind : Kind) → kind_from Pt (Some (kind_text kind)) ≡ kind
kind_back Pt = refl
kind_back Symmetric = refl

-- the net's element, and the root's children
abbrev net_parts : Net → Element-F Element
net_parts net = record {
  at = 0;
  name = word_of role.Net;
  attributes = attribute_id net.id ∷ attribute (codes "type") (kind_text net.kind) ∷ [];
  children = declaration_trees (declared_trees net) ++ page_tree net ∷ [];
  text = [];
}

abbrev root_parts : Net → Element-F Element
root_parts net = record {
  at = 0;
  name = word_of role.Pnml;
  attributes = attribute (codes "xmlns") (codes "http://www.pnml.org/version-2009/grammar/pnml") ∷ [];
  children = net_tree net ∷ [];
  text = [];
}

net_back : (net : Net) → NetFits net → net_in (Some (net_tree net)) ≡ net
net_back net fit =
    ap (λ r. net_with (text_in (codes "id") r.attributes) (kind_from Pt (value_of (codes "type") r.attributes)) ((given (net_tree net)).lists (kind_from Pt (value_of (codes "type") r.attributes))))
    (out-roll-Element (net_parts net))
    ∙ ap (λ k. net_with net.id k ((given (net_tree net)).lists k)) (kind_back net.kind)
    ∙ ap (net_with net.id net.kind) (lists_back net fit)
    ∙ whole net

pub tree_back : (net : Net) → NetFits net → net_of (tree_of net) ≡ net
tree_back net fit =
    ap (λ r. net_in (find (λ e. bytes_eq (out-Element e).name (codes "net")) r.children)) (out-roll-Element (root_parts net))
    ∙ ap (λ r. net_in (cond (bytes_eq r.name (codes "net")) (Some (net_tree net)) None)) (out-roll-Element (net_parts net))
    ∙ net_back net fit
