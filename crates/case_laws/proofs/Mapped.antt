-- Visits of trees whose nodes and states stand for others.
use Rattle.std.proofs.Common.{◌≡◌, ℕ, zero, suc, List, [], ◌∷◌, ◌++◌, map, flat_map, refl, ◌∙◌, ap}
use Rattle.std.specs.Prelude.{⊤}
use Rattle.std.specs.List.{AllByRecursion}
use Rattle.std.proofs.lemmas.List.{map-append}
use Rattle.tree_visits.specs.Forests.{Forest, NoTree, Tree, first_trees, forest_of, trees_after, visits}

module _ {N M : Type 0} (h : N → M) where
  abbrev pub map_forest : Forest N → Forest M
  map_forest NoTree = NoTree
  map_forest (Tree node branches rest) = Tree (h node) (map_forest branches) (map_forest rest)

  first-map : (k : ℕ) (forest : Forest N) → first_trees k (map_forest forest) ≡ map_forest (first_trees k forest)
  first-map zero forest = refl
  first-map (suc k) NoTree = refl
  first-map (suc k) (Tree node branches rest) = ap (Tree (h node) (map_forest branches)) (first-map k rest)

  after-map : (k : ℕ) (forest : Forest N) → trees_after k (map_forest forest) ≡ map_forest (trees_after k forest)
  after-map zero forest = refl
  after-map (suc k) NoTree = refl
  after-map (suc k) (Tree node branches rest) = after-map k rest

  pub forest-map : (count : N → ℕ) (others : M → ℕ) → ((node : N) → others (h node) ≡ count node) → (nodes : List N) → forest_of others (map h nodes) ≡ map_forest (forest_of count nodes)
  forest-map count others same [] = refl
  forest-map count others same (node ∷ nodes) =
      ap (λ f. Tree (h node) (first_trees (others (h node)) f) (trees_after (others (h node)) f)) (forest-map count others same nodes)
      ∙ ap (λ k. Tree (h node) (first_trees k (map_forest (forest_of count nodes))) (trees_after k (map_forest (forest_of count nodes)))) (same node)
      ∙ ap (λ f. Tree (h node) f (trees_after (count node) (map_forest (forest_of count nodes)))) (first-map (count node) (forest_of count nodes))
      ∙ ap (Tree (h node) (map_forest (first_trees (count node) (forest_of count nodes)))) (after-map (count node) (forest_of count nodes))

-- a property of the nodes of a list is one of those of its trees
abbrev pub AllNodes : {N : Type 0} → (N → Type 0) → Forest N → Type 0
AllNodes P NoTree = ⊤
AllNodes P (Tree node branches rest) = P node × (AllNodes P branches × AllNodes P rest)

module _ {N : Type 0} (P : N → Type 0) where
  all_first : (k : ℕ) (forest : Forest N) → AllNodes P forest → AllNodes P (first_trees k forest)
  all_first zero forest all = tt
  all_first (suc k) NoTree all = tt
  all_first (suc k) (Tree node branches rest) all = (all.0, (all.1.0, all_first k rest all.1.1))

  all_after : (k : ℕ) (forest : Forest N) → AllNodes P forest → AllNodes P (trees_after k forest)
  all_after zero forest all = all
  all_after (suc k) NoTree all = tt
  all_after (suc k) (Tree node branches rest) all = all_after k rest all.1.1

  pub all_nodes : (count : N → ℕ) (nodes : List N) → AllByRecursion P nodes → AllNodes P (forest_of count nodes)
  all_nodes count [] all = tt
  all_nodes count (node ∷ nodes) all =
      let rest = all_nodes count nodes all.1 in
      (all.0, (all_first (count node) (forest_of count nodes) rest, all_after (count node) (forest_of count nodes) rest))

module _ {N M S T : Type 0} (h : N → M) (g : S → T) (stood : S → N → List (List S)) (rounds : T → M → List (List T)) (Fits : S → Type 0) where
  abbrev pub stand : N × S → M × T
  stand v = (h v.0, g v.1)

  -- at each state that fits, the rounds stand for the others, and their states fit
  pub record Stands (node : N) : Type 0 where
    pub same : (s : S) → Fits s → map (map g) (stood s node) ≡ rounds (g s) (h node)
    pub fit : (s : S) → Fits s → AllByRecursion (AllByRecursion Fits) (stood s node)

  rounds-map : (f : List S → List (N × S)) (k : List T → List (M × T)) → ((states : List S) → AllByRecursion Fits states → map stand (f states) ≡ k (map g states)) → (lists : List (List S))
      → AllByRecursion (AllByRecursion Fits) lists → map stand (flat_map f lists) ≡ flat_map k (map (map g) lists)
  rounds-map f k same [] fit = refl
  rounds-map f k same (states ∷ lists) fit =
      map-append stand (f states) (flat_map f lists) ∙ ap (λ zs. zs ++ map stand (flat_map f lists)) (same states fit.0) ∙ ap (λ zs. k (map g states) ++ zs) (rounds-map f k same lists fit.1)

  pub visits-stand : (forest : Forest N) → AllNodes Stands forest → (starts : List S) → AllByRecursion Fits starts
      → map stand (visits stood forest starts) ≡ visits rounds (map_forest h forest) (map g starts)
  visits-stand NoTree all starts fit = refl
  visits-stand (Tree node branches rest) all [] fit = refl
  visits-stand (Tree node branches rest) all (s ∷ starts) fit =
      ap (λ zs. (h node, g s) ∷ zs)
      (map-append stand (flat_map (λ states. visits stood branches states) (stood s node)) (visits stood rest starts)
      ∙ ap (λ zs. zs ++ map stand (visits stood rest starts))
      (rounds-map (λ states. visits stood branches states) (λ states. visits rounds (map_forest h branches) states) (visits-stand branches all.1.0) (stood s node) (all.0.fit s fit.0)
      ∙ ap (λ lists. flat_map (λ states. visits rounds (map_forest h branches) states) lists) (all.0.same s fit.0))
      ∙ ap (λ zs. flat_map (λ states. visits rounds (map_forest h branches) states) (rounds (g s) (h node)) ++ zs) (visits-stand rest all.1.1 starts fit.1))
