-- A tree of the grammar is one tree of the walk.
use Rattle.std.proofs.Common.{◌≡◌, ℕ, zero, suc, ◌+◌, List, [], ◌∷◌, ◌++◌, length, flat_map, ap, sym, ◌∙◌, arith}
use Rattle.std.specs.List.{AllByRecursion}
use Rattle.std.proofs.lemmas.List.{append-nil, append_assoc}
use Rattle.prefix_trees.specs.Trees.{IsTree}
use Rattle.tree_visits.specs.Forests.{are_trees}
use Rattle.cert_lines.specs.declared.certificates.Node.{Node}
use Rattle.cert_names.specs.Sections.{branches_of}
use Rattle.cert_names.specs.Laws.{TreesAreWalked}

-- a tree in front is one tree less, and so are several
abbrev IsWalked : List Node → Type 0
IsWalked nodes = (k : ℕ) (rest : List Node) → are_trees branches_of (suc k) (nodes ++ rest) ≡ are_trees branches_of k rest

several : (branches : List (List Node)) → AllByRecursion IsWalked branches → (k : ℕ) (rest : List Node)
    → are_trees branches_of (length branches + k) (flat_map (λ branch. branch) branches ++ rest) ≡ are_trees branches_of k rest
several [] all k rest = let none : 0 + k ≡ k = omega arith in ap (λ n. are_trees branches_of n rest) none
several (branch ∷ branches) all k rest =
    let number : length (branch ∷ branches) + k ≡ suc (length branches + k) = omega arith in
    ap (λ n. are_trees branches_of n (branch ++ flat_map (λ b. b) branches ++ rest)) number
    ∙ ap (are_trees branches_of (suc (length branches + k))) (append_assoc branch (flat_map (λ b. b) branches) rest)
    ∙ all.0 (length branches + k) (flat_map (λ b. b) branches ++ rest)
    ∙ several branches all.1 k rest

all_more : {X : Type 0} (P Q : X → Type 0) → ((x : X) → P x → Q x) → (xs : List X) → AllByRecursion P xs → AllByRecursion Q xs
all_more P Q each [] all = tt
all_more P Q each (x ∷ xs) all = (each x all.0, all_more P Q each xs all.1)

walked : (count : Node → ℕ) → ((node : Node) → count node ≡ branches_of node) → (depth : ℕ) (nodes : List Node) → IsTree count depth nodes → IsWalked nodes
walked count same zero nodes tree k rest = absurd tree
walked count same (suc depth) nodes tree k rest =
    let node = tree.0 in
    let branches = tree.1 in
    ap (λ ns. are_trees branches_of (suc k) (ns ++ rest)) tree.2
    ∙ ap (λ n. are_trees branches_of (n + k) (flat_map (λ b. b) branches ++ rest)) (sym (same node) ∙ sym tree.3)
    ∙ several branches (all_more (IsTree count depth) IsWalked (walked count same depth) branches tree.4) k rest

pub trees_are_walked : TreesAreWalked
trees_are_walked count same nodes tree = ap (are_trees branches_of 1) (sym (append-nil nodes)) ∙ walked count same tree.0 nodes tree.1 0 []
