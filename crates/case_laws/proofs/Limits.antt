-- The walk over sections by number stops where that over the sections that they stand for does.
use Rattle.std.proofs.Common.{◌≡◌, ℕ, ◌+◌, ◌^◌, Bool, true, false, List, [], ◌∷◌, ◌++◌, map, flat_map, refl, sym, ◌∙◌, ap, subst}
use Rattle.std.specs.Prelude.{Some, None, if◌then◌else◌, nat_le}
use Rattle.std.specs.List.{AllByRecursion}
use Rattle.std.proofs.lemmas.List.{map-append}
use Rattle.tree_visits.specs.Forests.{forest_of, visits}
use Rattle.tree_walks.specs.Walks.{ran, unless}
use Rattle.cert_model.specs.Nets.{Net}
use Rattle.cert_model.specs.Paths.{entered, nothing_supposed}
use Rattle.cert_model.specs.Trees as trees
use Rattle.cert_model.specs.Judging as judging
use Rattle.case_tree.specs.Agendas.{Added}
use Rattle.case_tree.specs.declared.nodes.Kind.{Kind}
use Rattle.case_tree.specs.declared.nodes.Kind.TheVariants.{Close, Clash, Split, Cases, Each}
use Rattle.case_tree.specs.declared.nodes.Node.{Node}
use Rattle.case_tree.specs.States.{Path, Section, all_visits, branch_count, cost, next, rounds, stop, visits_of, with_item}
use Rattle.case_laws.specs.Standing.{Reading, IsAgenda, IsSplit, LimitsAreTold, StandsFor, StandFor, node_of, stopped}
use Rattle.case_laws.proofs.Entering.{HasItems, arrival_of, cost_stands, entered_stands, rounds_kept, rounds_stand}
use Rattle.case_laws.proofs.Mapped.{Stands, all_nodes, forest-map, visits-stand}

count_stands : (reading : Reading) (node : Node) → trees.branches_of (node_of reading node) ≡ branch_count node
count_stands reading node = at node.kind
  where
    at : (kind : Kind) → trees.branches_of (node_of reading record { line = node.line; kind = kind }) ≡ branch_count record { line = node.line; kind = kind }
    at (Close mix) = refl
    at (Clash places) = refl
    at (Split item) = refl
    at (Cases choice branches) = refl
    at (Each choice) = refl

-- the costs of visits, one after the other
limit_stands : (reading : Reading) (vs : List (Node × Path)) (spent : ℕ)
    → judging.limit_line spent (map (λ v. (node_of reading v.0, arrival_of reading v.1)) vs) ≡ stopped (ran stop next spent vs)
limit_stands reading [] spent = refl
limit_stands reading (v ∷ vs) spent =
    ap (λ c. if nat_le (spent + c) (2 ^ 26) then judging.limit_line (spent + c) (map (λ v. (node_of reading v.0, arrival_of reading v.1)) vs) else Some v.0.line) (cost_stands reading v.1)
    ∙ at (nat_le (spent + cost v.1) (2 ^ 26)) (limit_stands reading vs (spent + cost v.1))
  where
    at : (b : Bool) → judging.limit_line (spent + cost v.1) (map (λ v. (node_of reading v.0, arrival_of reading v.1)) vs) ≡ stopped (ran stop next (spent + cost v.1) vs)
        → (if b then judging.limit_line (spent + cost v.1) (map (λ v. (node_of reading v.0, arrival_of reading v.1)) vs) else Some v.0.line)
        ≡ stopped (unless (if b then None else Some v.0.line) (ran stop next (spent + cost v.1) vs))
    at true later = later
    at false later = refl

module _ (net : Net) (reading : Reading) (items : List Added) (agenda : IsAgenda net reading items) where
  abbrev root : Path
  root = record { items = items; entered = [] }

  node_stands : (node : Node) → IsSplit reading node.kind → Stands (node_of reading) (arrival_of reading) rounds (trees.arrival_rounds net) (HasItems items) node
  node_stands node split = record {
    same = λ path is. rounds_stand net reading path (subst (IsAgenda net reading) (sym is) agenda) node.kind split;
    fit = λ path is. rounds_kept items path is node.kind;
  }

  nodes_stand : (nodes : List Node) → AllByRecursion (λ node. IsSplit reading node.kind) nodes → AllByRecursion (Stands (node_of reading) (arrival_of reading) rounds (trees.arrival_rounds net) (HasItems items)) nodes
  nodes_stand [] splits = tt
  nodes_stand (node ∷ nodes) splits = (node_stands node splits.0, nodes_stand nodes splits.1)

  section_stands : (section : Section) (other : judging.Section) → StandsFor reading section other
      → map (λ v. (node_of reading v.0, arrival_of reading v.1)) (visits_of root section) ≡ trees.walk net other.invariant other.tree
  section_stands section other stands =
      visits-stand (node_of reading) (arrival_of reading) rounds (trees.arrival_rounds net) (HasItems items) (forest_of branch_count section.nodes)
      (all_nodes _ branch_count section.nodes (nodes_stand section.nodes stands.splits)) (with_item section.root root ∷ []) (refl, tt)
      ∙ ap (λ f. visits (trees.arrival_rounds net) f (arrival_of reading (with_item section.root root) ∷ [])) (sym (forest-map (node_of reading) branch_count trees.branches_of (count_stands reading) section.nodes) ∙ ap (forest_of trees.branches_of) (sym stands.tree))
      ∙ ap (λ s. visits (trees.arrival_rounds net) (forest_of trees.branches_of other.tree) (record { before = 0; state = s } ∷ []))
      (sym (entered_stands net reading root agenda section.root) ∙ ap (λ i. entered net i nothing_supposed) stands.root)

  sections_stand : (sections : List Section) (others : List judging.Section) → StandFor reading sections others
      → map (λ v. (node_of reading v.0, arrival_of reading v.1)) (all_visits root sections) ≡ flat_map (λ other. trees.walk net other.invariant other.tree) others
  sections_stand [] [] stand = refl
  sections_stand [] (other ∷ others) stand = absurd stand
  sections_stand (section ∷ sections) [] stand = absurd stand
  sections_stand (section ∷ sections) (other ∷ others) stand =
      map-append (λ v. (node_of reading v.0, arrival_of reading v.1)) (visits_of root section) (all_visits root sections)
      ∙ ap (λ vs. vs ++ map (λ v. (node_of reading v.0, arrival_of reading v.1)) (all_visits root sections)) (section_stands section other stand.0)
      ∙ ap (λ vs. trees.walk net other.invariant other.tree ++ vs) (sections_stand sections others stand.1)

pub limits_told : LimitsAreTold
limits_told net reading items agenda sections others stand =
    ap (judging.limit_line 0) (sym (sections_stand net reading items agenda sections others stand)) ∙ limit_stands reading (all_visits record { items = items; entered = [] } sections) 0
