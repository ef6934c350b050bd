-- Visits from states that stand for others are the visits from those.
use Rattle.std.proofs.Common.{◌≡◌, List, [], ◌∷◌, ◌++◌, map, flat_map, refl, ◌∙◌, ap}
use Rattle.tree_visits.specs.Forests.{Forest, NoTree, Tree, visits}

map_append : {X Y : Type 0} (h : X → Y) (xs ys : List X) → map h (xs ++ ys) ≡ map h xs ++ map h ys
map_append h [] ys = refl
map_append h (x ∷ xs) ys = ap (λ zs. h x ∷ zs) (map_append h xs ys)

map_rounds : {S T V W : Type 0} (g : S → T) (h : V → W) (f : List S → List V) (k : List T → List W) → ((states : List S) → map h (f states) ≡ k (map g states)) → (lists : List (List S))
    → map h (flat_map f lists) ≡ flat_map k (map (map g) lists)
map_rounds g h f k same [] = refl
map_rounds g h f k same (states ∷ lists) =
    map_append h (f states) (flat_map f lists) ∙ ap (λ zs. zs ++ map h (flat_map f lists)) (same states) ∙ ap (λ zs. k (map g states) ++ zs) (map_rounds g h f k same lists)

pub visits-map : {N S T : Type 0} (g : S → T) (stood : S → N → List (List S)) (rounds : T → N → List (List T)) → ((s : S) (node : N) → map (map g) (stood s node) ≡ rounds (g s) node)
    → (forest : Forest N) (starts : List S) → map (λ v. (v.0, g v.1)) (visits stood forest starts) ≡ visits rounds forest (map g starts)
visits-map g stood rounds same NoTree starts = refl
visits-map g stood rounds same (Tree node branches rest) [] = refl
visits-map g stood rounds same (Tree node branches rest) (s ∷ starts) =
    ap (λ zs. (node, g s) ∷ zs)
    (map_append (λ v. (v.0, g v.1)) (flat_map (λ states. visits stood branches states) (stood s node)) (visits stood rest starts)
    ∙ ap (λ zs. zs ++ map (λ v. (v.0, g v.1)) (visits stood rest starts))
    (map_rounds g (λ v. (v.0, g v.1)) (λ states. visits stood branches states) (λ states. visits rounds branches states) (visits-map g stood rounds same branches) (stood s node)
    ∙ ap (λ lists. flat_map (λ states. visits rounds branches states) lists) (same s node))
    ∙ ap (λ zs. flat_map (λ states. visits rounds branches states) (rounds (g s) node) ++ zs) (visits-map g stood rounds same rest starts))
