-- In a net that is read no two nodes have one id, and no two symbols; and there are no more of them than its tree notes.
use Rattle.std.proofs.Common.{◌≡◌, ℕ, ◌+◌, ◌<◌, ◌≤◌, Bool, true, false, cond, List, [], ◌∷◌, ◌++◌, map, Option, None, Some, codes, refl, ap, subst, ◌∙◌, arith}
use Rattle.std.proofs.lemmas.Bool.{false≢true}
use Rattle.std.proofs.lemmas.List.{append-nil, map-append}
use Rattle.std.proofs.lemmas.List.Concat.{flat_map-append}
use Rattle.std.proofs.lemmas.List.Sums.{sum_by-append, sum_by-cons}
use Rattle.std.specs.List.{count_by, filter, find, flat_map, sum_by}
use Rattle.std.specs.Str.{bytes_eq}
use Rattle.doc_model.specs.declared.tree.Attribute.{Attribute}
use Rattle.doc_model.specs.declared.tree.Element.{Element, out-Element}
use Rattle.net_model.specs.declared.sorts.SortTerm.{out-SortTerm}
use Rattle.net_model.specs.declared.kinds.Kind.{Kind}
use Rattle.net_model.specs.declared.kinds.Kind.TheVariants.{Pt, Symmetric}
use Rattle.net_elements.specs.declared.roles.Key.{Key}
use Rattle.net_elements.specs.declared.roles.Key.TheVariants as key
use Rattle.net_elements.specs.declared.roles.Role.{Role}
use Rattle.net_elements.specs.declared.roles.Role.TheVariants as role
use Rattle.net_elements.specs.Rules.{Note, attribute_notes, broken_rules, kind_from, kind_within, nothing_met, role_named, value_of, walk_of}
use Rattle.net_elements.specs.Table.{keys_of, word_of}
use Rattle.net_model.specs.declared.nets.Net.{Net}
use Rattle.pnml_read.specs.declared.lists.Lists.{Lists}
use Rattle.pnml_read.specs.Nets.{Given, both, child, given, is_block, joined, kept, list_roles, lists_in, lists_part, net_in, net_of, no_lists, text_in}
use Rattle.pnml_read.specs.Each.{Each}
use Rattle.pnml_read.proofs.Declaring.{blocks_weigh, declared_weighs}
use Rattle.pnml_read.proofs.Each.{each_map, each_of}
use Rattle.pnml_read.proofs.Elements.{given_parts, name_is}
use Rattle.pnml_read.proofs.Noted.{are_fine, fine_from, node_noted, node_weight, once_node, once_symbol, root_notes, symbol_noted, symbol_weight}
use Rattle.pnml_read.proofs.Weights.{Weighs, all_pass, by_children, children_weigh, notes_parts}
use Rattle.net_model.specs.Ids.{constants_in_layer, node_ids, partition_symbols, sort_symbols, symbol_ids}

-- the ids in lists
abbrev lists_node_ids : Lists → List (List ℕ)
lists_node_ids l = map (λ p. p.id) l.places ++ map (λ t. t.id) l.transitions ++ map (λ r. r.id) l.references ++ map (λ a. a.id) l.arcs

abbrev lists_symbol_ids : Lists → List (List ℕ)
lists_symbol_ids l = flat_map sort_symbols l.sorts ++ flat_map partition_symbols l.partitions ++ map (λ v. v.id) l.variables

abbrev often : (List ℕ → Bool) → List (List ℕ) → ℕ
often test ids = count_by (test) ids

abbrev node_count : (List ℕ → Bool) → Lists → ℕ
node_count test l = often test (lists_node_ids l)

abbrev symbol_count : (List ℕ → Bool) → Lists → ℕ
symbol_count test l = often test (lists_symbol_ids l)

often-append : (test : List ℕ → Bool) (xs ys : List (List ℕ)) → often test (xs ++ ys) ≡ often test xs + often test ys
often-append test xs ys = sum_by-append (λ x. cond (test x) 1 0) xs ys

often_map : {X : Type 0} (test : List ℕ → Bool) (f : X → List ℕ) (xs ys : List X) → often test (map f (xs ++ ys)) ≡ often test (map f xs) + often test (map f ys)
often_map test f xs ys = ap (often test) (map-append f xs ys) ∙ often-append test (map f xs) (map f ys)

often_flat : {X : Type 0} (test : List ℕ → Bool) (f : X → List (List ℕ)) (xs ys : List X) → often test (flat_map f (xs ++ ys)) ≡ often test (flat_map f xs) + often test (flat_map f ys)
often_flat test f xs ys = ap (often test) (flat_map-append f xs ys) ∙ often-append test (flat_map f xs) (flat_map f ys)

four_parts : (test : List ℕ → Bool) (ps ts rs bs : List (List ℕ)) → often test (ps ++ ts ++ rs ++ bs) ≡ often test ps + (often test ts + (often test rs + often test bs))
four_parts test ps ts rs bs = omega (arith, often-append test (ps ++ ts ++ rs) bs, often-append test (ps ++ ts) rs, often-append test ps ts)

three_parts : (test : List ℕ → Bool) (ss ps vs : List (List ℕ)) → often test (ss ++ ps ++ vs) ≡ often test ss + (often test ps + often test vs)
three_parts test ss ps vs = omega (arith, often-append test (ss ++ ps) vs, often-append test ss ps)

node_both : (test : List ℕ → Bool) (a b : Lists) → node_count test (both a b) ≡ node_count test a + node_count test b
node_both test a b =
    omega (
      arith,
      four_parts test (map (λ p. p.id) (a.places ++ b.places)) (map (λ t. t.id) (a.transitions ++ b.transitions))
          (map (λ r. r.id) (a.references ++ b.references)) (map (λ c. c.id) (a.arcs ++ b.arcs)),
      four_parts test (map (λ p. p.id) a.places) (map (λ t. t.id) a.transitions) (map (λ r. r.id) a.references) (map (λ c. c.id) a.arcs),
      four_parts test (map (λ p. p.id) b.places) (map (λ t. t.id) b.transitions) (map (λ r. r.id) b.references) (map (λ c. c.id) b.arcs),
      often_map test (λ p. p.id) a.places b.places,
      often_map test (λ t. t.id) a.transitions b.transitions,
      often_map test (λ r. r.id) a.references b.references,
      often_map test (λ c. c.id) a.arcs b.arcs,
    )

symbol_both : (test : List ℕ → Bool) (a b : Lists) → symbol_count test (both a b) ≡ symbol_count test a + symbol_count test b
symbol_both test a b =
    omega (
      arith,
      three_parts test (flat_map sort_symbols (a.sorts ++ b.sorts)) (flat_map partition_symbols (a.partitions ++ b.partitions)) (map (λ v. v.id) (a.variables ++ b.variables)),
      three_parts test (flat_map sort_symbols a.sorts) (flat_map partition_symbols a.partitions) (map (λ v. v.id) a.variables),
      three_parts test (flat_map sort_symbols b.sorts) (flat_map partition_symbols b.partitions) (map (λ v. v.id) b.variables),
      often_flat test sort_symbols a.sorts b.sorts,
      often_flat test partition_symbols a.partitions b.partitions,
      often_map test (λ v. v.id) a.variables b.variables,
    )

-- a count in lists that adds up
record Adds (n : Lists → ℕ) : Type 0 where
  none : n no_lists ≡ 0
  both : (a b : Lists) → n (both a b) ≡ n a + n b

node_adds : (test : List ℕ → Bool) → Adds (node_count test)
node_adds test = record { none = refl; both = node_both test }

symbol_adds : (test : List ℕ → Bool) → Adds (symbol_count test)
symbol_adds test = record { none = refl; both = symbol_both test }

joined_count : (n : Lists → ℕ) → Adds n → (kind : Kind) (gs : List Given) → n (joined (map (λ c. c.lists kind) gs)) ≡ sum_by (λ g. n (g.lists kind)) gs
joined_count n adds kind [] = adds.none
joined_count n adds kind (g ∷ gs) =
    omega (arith, adds.both (g.lists kind) (joined (map (λ c. c.lists kind) gs)), joined_count n adds kind gs, sum_by-cons (λ c. n (c.lists kind)) g gs)

-- the roles that lists are read in: those that declare, and those that hold others
abbrev declares : Role → Bool
declares role.Place = true
declares role.Transition = true
declares role.Arc = true
declares role.ReferencePlace = true
declares role.ReferenceTransition = true
declares role.NamedSort = true
declares role.Partition = true
declares role.VariableDecl = true
declares _ = false

abbrev is_listed : Role → Bool
is_listed role.Net = true
is_listed role.Page = true
is_listed role.Declaration = true
is_listed role.DeclarationStructure = true
is_listed role.Declarations = true
is_listed r = declares r

nodes_pass : (kind : Kind) → all_pass is_listed kind role.Page ≡ true
nodes_pass Pt = refl
nodes_pass Symmetric = refl

-- the attributes of an element, its own id, and what its children give
abbrev held : Element → List Attribute
held e = (out-Element e).attributes

abbrev own_id : Element → List ℕ
own_id e = text_in (codes "id") (held e)

abbrev inside : Element → List Given
inside e = map given (out-Element e).children

given_lists : (e : Element) (shown : Kind) (r : Role) → (given e).name ≡ word_of r
    → (given e).lists shown ≡ lists_part shown (role_named list_roles (word_of r)) (own_id e) (held e) (inside e)
given_lists e shown r h =
    ap (λ g. g.lists shown) (given_parts e) ∙ ap (λ n. lists_part shown (role_named list_roles n) (own_id e) (held e) (inside e)) (name_is e r h)

abbrev Heavy : (Note → ℕ) → (Lists → ℕ) → Kind → Element → Type 0
Heavy w n shown e = (kind : Kind) → Weighs w (λ g. n (g.lists shown)) kind is_listed e

-- an element that holds others
holder_weighs : (w : Note → ℕ) (n : Lists → ℕ) → Adds n → (shown kind : Kind) (e : Element) (p : Role) → ((k : Kind) → all_pass is_listed k p ≡ true)
    → Each (Heavy w n shown) (out-Element e).children → n ((given e).lists shown) ≡ n (lists_in p shown (inside e))
    → are_fine ((walk_of e).notes kind p) ≡ true → n ((given e).lists shown) ≤ sum_by w ((walk_of e).notes kind p)
holder_weighs w n adds shown kind e p pass each is fine =
    let parts = notes_parts e kind p fine in
    let k = kind_within kind p (held e) in
    let children = children_weigh w (λ g. n (g.lists shown)) k is_listed p (pass k) [] (out-Element e).children
    (each_map (Heavy w n shown) (Weighs w (λ g. n (g.lists shown)) k is_listed) (λ c h. h k) (out-Element e).children each) parts.fine_inner in
    omega (arith, is, joined_count n adds shown (kept p (inside e)), children, parts.weight w)

-- an element that declares one id
node_weighs : (test : List ℕ → Bool) (kind : Kind) (e : Element) (r : Role) (keys : List Key) (count : ℕ) → keys_of r ≡ key.NodeId ∷ keys
    → count ≡ cond (test (own_id e)) 1 0 → are_fine ((walk_of e).notes kind r) ≡ true → count ≤ sum_by (node_weight test) ((walk_of e).notes kind r)
node_weighs test kind e r keys count has is fine =
    let parts = notes_parts e kind r fine in
    let at = (out-Element e).at in
    let noted = node_noted test at keys (held e) (subst (λ ks. are_fine (attribute_notes at ks (held e)) ≡ true) has parts.fine_own) in
    let same : sum_by (node_weight test) (attribute_notes at (keys_of r) (held e)) ≡ sum_by (node_weight test) (attribute_notes at (key.NodeId ∷ keys) (held e)) =
    ap (λ ks. sum_by (node_weight test) (attribute_notes at ks (held e))) has in
    omega (arith, is, noted, same, parts.weight (node_weight test))

-- one id, and others
often_one : (test : List ℕ → Bool) (one : List ℕ) → often test (one ∷ []) ≡ cond (test one) 1 0
often_one test one = omega arith

often_more : (test : List ℕ → Bool) (one : List ℕ) (more : List (List ℕ)) → often test (one ∷ ((more ++ []) ++ [])) ≡ cond (test one) 1 0 + often test more
often_more test one more =
    sum_by-cons (λ x. cond (test x) 1 0) one ((more ++ []) ++ [])
    ∙ ap (λ ids. cond (test one) 1 0 + often test ids) (append-nil (more ++ []) ∙ append-nil more)

counted : (n : Lists → ℕ) (e : Element) (shown : Kind) (r : Role) → (given e).name ≡ word_of r
    → n ((given e).lists shown) ≡ n (lists_part shown (role_named list_roles (word_of r)) (own_id e) (held e) (inside e))
counted n e shown r h = ap n (given_lists e shown r h)

-- an element, from its children and from what is declared where it declares
step : (w : Note → ℕ) (n : Lists → ℕ) → Adds n → (shown : Kind) (e : Element) → ((kind : Kind) → Weighs w (λ g. n (g.lists shown)) kind declares e)
    → Each (Heavy w n shown) (out-Element e).children → Heavy w n shown e
step w n adds shown e own each kind role.Net passes named fine = holder_weighs w n adds shown kind e role.Net nodes_pass each (counted n e shown role.Net named) fine
step w n adds shown e own each kind role.Page passes named fine = holder_weighs w n adds shown kind e role.Page nodes_pass each (counted n e shown role.Page named) fine
step w n adds shown e own each kind role.Declaration passes named fine =
    holder_weighs w n adds shown kind e role.Declaration (λ k. refl) each (counted n e shown role.Declaration named) fine
step w n adds shown e own each kind role.DeclarationStructure passes named fine =
    holder_weighs w n adds shown kind e role.DeclarationStructure (λ k. refl) each (counted n e shown role.DeclarationStructure named) fine
step w n adds shown e own each kind role.Declarations passes named fine =
    holder_weighs w n adds shown kind e role.Declarations (λ k. refl) each (counted n e shown role.Declarations named) fine
step w n adds shown e own each kind r passes named fine = own kind r passes named fine

node_declared : (test : List ℕ → Bool) (shown : Kind) (e : Element) (kind : Kind) → Weighs (node_weight test) (λ g. node_count test (g.lists shown)) kind declares e
node_declared test shown e kind role.Place passes named fine =
    node_weighs test kind e role.Place [] (node_count test ((given e).lists shown)) refl (counted (node_count test) e shown role.Place named ∙ often_one test (own_id e)) fine
node_declared test shown e kind role.Transition passes named fine =
    node_weighs test kind e role.Transition [] (node_count test ((given e).lists shown)) refl (counted (node_count test) e shown role.Transition named ∙ often_one test (own_id e)) fine
node_declared test shown e kind role.Arc passes named fine =
    node_weighs test kind e role.Arc (key.Source ∷ key.Target ∷ []) (node_count test ((given e).lists shown)) refl
    (counted (node_count test) e shown role.Arc named ∙ often_one test (own_id e)) fine
node_declared test shown e kind role.ReferencePlace passes named fine =
    node_weighs test kind e role.ReferencePlace (key.Ref ∷ []) (node_count test ((given e).lists shown)) refl
    (counted (node_count test) e shown role.ReferencePlace named ∙ often_one test (own_id e)) fine
node_declared test shown e kind role.ReferenceTransition passes named fine =
    node_weighs test kind e role.ReferenceTransition (key.Ref ∷ []) (node_count test ((given e).lists shown)) refl
    (counted (node_count test) e shown role.ReferenceTransition named ∙ often_one test (own_id e)) fine
node_declared test shown e kind role.NamedSort passes named fine =
    let none : node_count test ((given e).lists shown) ≡ 0 = counted (node_count test) e shown role.NamedSort named in omega (arith, none)
node_declared test shown e kind role.Partition passes named fine =
    let none : node_count test ((given e).lists shown) ≡ 0 = counted (node_count test) e shown role.Partition named in omega (arith, none)
node_declared test shown e kind role.VariableDecl passes named fine =
    let none : node_count test ((given e).lists shown) ≡ 0 = counted (node_count test) e shown role.VariableDecl named in omega (arith, none)
node_declared test shown e kind _ passes named fine = absurd (false≢true passes)

symbol_declared : (test : List ℕ → Bool) (shown : Kind) (e : Element) (kind : Kind) → Weighs (symbol_weight test) (λ g. symbol_count test (g.lists shown)) kind declares e
symbol_declared test shown e kind role.Place passes named fine =
    let none : symbol_count test ((given e).lists shown) ≡ 0 = counted (symbol_count test) e shown role.Place named in omega (arith, none)
symbol_declared test shown e kind role.Transition passes named fine =
    let none : symbol_count test ((given e).lists shown) ≡ 0 = counted (symbol_count test) e shown role.Transition named in omega (arith, none)
symbol_declared test shown e kind role.Arc passes named fine =
    let none : symbol_count test ((given e).lists shown) ≡ 0 = counted (symbol_count test) e shown role.Arc named in omega (arith, none)
symbol_declared test shown e kind role.ReferencePlace passes named fine =
    let none : symbol_count test ((given e).lists shown) ≡ 0 = counted (symbol_count test) e shown role.ReferencePlace named in omega (arith, none)
symbol_declared test shown e kind role.ReferenceTransition passes named fine =
    let none : symbol_count test ((given e).lists shown) ≡ 0 = counted (symbol_count test) e shown role.ReferenceTransition named in omega (arith, none)
symbol_declared test shown e kind role.NamedSort passes named fine =
    let parts = notes_parts e kind role.NamedSort fine in
    let constants = constants_in_layer (out-SortTerm (child role.NamedSort 0 (inside e)).sort) in
    let is : symbol_count test ((given e).lists shown) ≡ cond (test (own_id e)) 1 0 + often test constants =
    counted (symbol_count test) e shown role.NamedSort named ∙ often_more test (own_id e) (constants ++ [])
    ∙ ap (λ ids. cond (test (own_id e)) 1 0 + often test ids) (append-nil constants) in
    omega (arith, is, symbol_noted test (out-Element e).at [] (held e) parts.fine_own, declared_weighs test kind e parts.fine_inner, parts.weight (symbol_weight test))
symbol_declared test shown e kind role.Partition passes named fine =
    let parts = notes_parts e kind role.Partition fine in
    let blocks = map (λ b. b.id) (map (λ c. c.block) (filter is_block (kept role.Partition (inside e)))) in
    let is : symbol_count test ((given e).lists shown) ≡ cond (test (own_id e)) 1 0 + often test blocks =
    counted (symbol_count test) e shown role.Partition named ∙ often_more test (own_id e) blocks in
    omega (arith, is, symbol_noted test (out-Element e).at [] (held e) parts.fine_own, blocks_weigh test kind e parts.fine_inner, parts.weight (symbol_weight test))
symbol_declared test shown e kind role.VariableDecl passes named fine =
    let parts = notes_parts e kind role.VariableDecl fine in
    let is : symbol_count test ((given e).lists shown) ≡ cond (test (own_id e)) 1 0 =
    counted (symbol_count test) e shown role.VariableDecl named ∙ often_one test (own_id e) in
    omega (arith, is, symbol_noted test (out-Element e).at [] (held e) parts.fine_own, parts.weight (symbol_weight test))
symbol_declared test shown e kind _ passes named fine = absurd (false≢true passes)

nodes_weigh : (test : List ℕ → Bool) (shown : Kind) (e : Element) → Heavy (node_weight test) (node_count test) shown e
nodes_weigh test shown = by_children (Heavy (node_weight test) (node_count test) shown)
    (λ e. step (node_weight test) (node_count test) (node_adds test) shown e (node_declared test shown e))

symbols_weigh : (test : List ℕ → Bool) (shown : Kind) (e : Element) → Heavy (symbol_weight test) (symbol_count test) shown e
symbols_weigh test shown = by_children (Heavy (symbol_weight test) (symbol_count test) shown)
    (λ e. step (symbol_weight test) (symbol_count test) (symbol_adds test) shown e (symbol_declared test shown e))

-- the net of a tree
abbrev is_net : Element → Bool
is_net e = bytes_eq (out-Element e).name (codes "net")

found_weighs : (m : Given → ℕ) (es : List Element) (e : Element) → find is_net es ≡ Some e → m (given e) ≤ sum_by m (kept role.Pnml (map given es))
found_weighs m [] e is = absurd (cc)
found_weighs m (x ∷ xs) e is = by (is_net x) is (found_weighs m xs e)
  where
    by : (b : Bool) → cond b (Some x) (find is_net xs) ≡ Some e → (find is_net xs ≡ Some e → m (given e) ≤ sum_by m (kept role.Pnml (map given xs)))
        → m (given e) ≤ sum_by m (given x ∷ kept role.Pnml (map given xs))
    by true is rest =
        let same : x ≡ e = cc in
        let first : m (given x) ≡ m (given e) = ap (λ y. m (given y)) same in
        omega (arith, first, sum_by-cons m (given x) (kept role.Pnml (map given xs)))
    by false is rest = omega (arith, rest is, sum_by-cons m (given x) (kept role.Pnml (map given xs)))

net_weighs : (w : Note → ℕ) (n : Lists → ℕ) (t e : Element) (shown : Kind) → ((c : Element) → Heavy w n shown c) → find is_net (out-Element t).children ≡ Some e
    → are_fine ((walk_of t).notes Pt role.Pnml) ≡ true → n ((given e).lists shown) ≤ sum_by w ((walk_of t).notes Pt role.Pnml)
net_weighs w n t e shown heavy is fine =
    let parts = notes_parts t Pt role.Pnml fine in
    omega (
      arith,
      parts.weight w,
      found_weighs (λ g. n (g.lists shown)) (out-Element t).children e is,
      children_weigh w (λ g. n (g.lists shown)) Pt is_listed role.Pnml refl [] (out-Element t).children
          (each_of (Weighs w (λ g. n (g.lists shown)) Pt is_listed) (λ c. heavy c Pt) (out-Element t).children) parts.fine_inner,
    )

abbrev kind_in : Element → Kind
kind_in e = kind_from Pt (value_of (codes "type") (held e))

-- the ids of a net for which a test is true are no more than those that its tree notes
counted_ids : (w : Note → ℕ) (n : Lists → ℕ) (ids : Net → ℕ) (t : Element) → broken_rules t ≡ []
    → ((shown : Kind) (e : Element) → Heavy w n shown e) → ids (net_in None) ≡ 0
    → ((e : Element) → ids (net_in (Some e)) ≡ n ((given e).lists (kind_in e)))
    → ids (net_of t) ≤ sum_by w ((walk_of t).notes Pt role.Pnml)
counted_ids w n ids t h heavy none some = by (find is_net (out-Element t).children) refl
  where
    by : (o : Option Element) → find is_net (out-Element t).children ≡ o → ids (net_in o) ≤ sum_by w ((walk_of t).notes Pt role.Pnml)
    by None is = omega (arith, none)
    by (Some e) is =
        omega (arith, some e, net_weighs w n t e (kind_in e) (heavy (kind_in e)) is (fine_from nothing_met ((walk_of t).notes Pt role.Pnml) (root_notes t h)))

pub nodes_counted : (test : List ℕ → Bool) (t : Element) → broken_rules t ≡ []
    → count_by test (node_ids (net_of t)) ≤ sum_by (node_weight test) ((walk_of t).notes Pt role.Pnml)
nodes_counted test t h =
    counted_ids (node_weight test) (node_count test) (λ net. often test (node_ids net)) t h (nodes_weigh test) refl (λ e. refl)

pub symbols_counted : (test : List ℕ → Bool) (t : Element) → broken_rules t ≡ []
    → count_by test (symbol_ids (net_of t)) ≤ sum_by (symbol_weight test) ((walk_of t).notes Pt role.Pnml)
symbols_counted test t h =
    counted_ids (symbol_weight test) (symbol_count test) (λ net. often test (symbol_ids net)) t h (symbols_weigh test) refl (λ e. refl)

-- no id stands twice
abbrev pub Differ : List (List ℕ) → Type 0
Differ ids = (id : List ℕ) → count_by (bytes_eq id) ids < 2

nodes_differ : (t : Element) → broken_rules t ≡ [] → Differ (node_ids (net_of t))
nodes_differ t h id =
    omega (
      arith,
      nodes_counted (bytes_eq id) t h,
      once_node id nothing_met ((walk_of t).notes Pt role.Pnml) (root_notes t h) (omega arith),
    )

symbols_differ : (t : Element) → broken_rules t ≡ [] → Differ (symbol_ids (net_of t))
symbols_differ t h id =
    omega (
      arith,
      symbols_counted (bytes_eq id) t h,
      once_symbol id nothing_met ((walk_of t).notes Pt role.Pnml) (root_notes t h) (omega arith),
    )

pub ids_differ : (t : Element) → broken_rules t ≡ [] → Differ (node_ids (net_of t)) × Differ (symbol_ids (net_of t))
ids_differ t h = (nodes_differ t h, symbols_differ t h)
