-- Trees in prefix order, and the branches that are to come after each node.
use Rattle.std.proofs.Common.{◌≡◌, ℕ, zero, suc, ◌+◌, ◌<◌, ◌≤◌, ◌⊎◌, inl, inr, List, [], ◌∷◌, ◌++◌, length, flat_map, refl, sym, ap, subst, ◌∙◌, arith}
use Rattle.std.specs.Prelude.{◌-◌}
use Rattle.std.specs.Bool.{⊤}
use Rattle.std.specs.List.{AllByRecursion}
use Rattle.std.proofs.lemmas.List.{append_assoc, append-nil}
use Rattle.prefix_trees.specs.Trees.{HasAbove, IsSomeTree, IsTree, opens_after, still_open}

-- `count_of` says how many branches a node has
module _ {N : Type 0} (count_of : N → ℕ) where
  abbrev pub joined : List (List N) → List N
  joined branches = flat_map (λ branch. branch) branches

  -- from these open nodes the nodes lead to those, each of them below fewer than `most` open ones, and one at least
  abbrev pub Climbs : ℕ → List ℕ → List N → List ℕ → Type 0
  Climbs most opens [] last = last ≡ opens
  Climbs most [] (node ∷ nodes) last = ⊥
  Climbs most (count ∷ counts) (node ∷ nodes) last =
      (length (count ∷ counts) < most) × Climbs most (opens_after (count_of node) (count ∷ counts)) nodes last

  -- the open nodes behind the nodes of a tree
  abbrev pub Grown : ℕ → List N → List ℕ → Type 0
  Grown most [] opens = opens ≡ []
  Grown most (root ∷ nodes) opens = (0 < most) × Climbs most (opens_after (count_of root) []) nodes opens

  pub one_less_than : (k : ℕ) → suc k - 1 ≡ k
  one_less_than k = omega arith

  -- whole trees
  climb_branches : (most depth : ℕ)
      → ((nodes : List N) → IsTree count_of depth nodes → (k : ℕ) (ks : List ℕ) (more : List N) (last : List ℕ) → depth + suc (length ks) ≤ most → Climbs most (still_open (k ∷ ks)) more last → Climbs most (suc k ∷ ks) (nodes ++ more) last)
      → (branches : List (List N)) → AllByRecursion (IsTree count_of depth) branches → (ks : List ℕ) (more : List N) (last : List ℕ) → depth + suc (length ks) ≤ most
      → Climbs most (still_open ks) more last → Climbs most (still_open (length branches ∷ ks)) (joined branches ++ more) last
  climb_branches most depth one [] trees ks more last fits rest = rest
  climb_branches most depth one (branch ∷ branches) (is, are) ks more last fits rest =
      subst (λ w. Climbs most (suc (length branches) ∷ ks) w last) (sym (append_assoc branch (joined branches) more))
      (one branch is (length branches) ks (joined branches ++ more) last fits (climb_branches most depth one branches are ks more last fits rest))

  pub climb_tree : (most depth : ℕ) (nodes : List N) → IsTree count_of depth nodes → (k : ℕ) (ks : List ℕ) (more : List N) (last : List ℕ) → depth + suc (length ks) ≤ most
      → Climbs most (still_open (k ∷ ks)) more last → Climbs most (suc k ∷ ks) (nodes ++ more) last
  climb_tree most zero nodes is k ks more last fits rest = absurd is
  climb_tree most (suc depth) nodes (node, branches, is, count, trees) k ks more last fits rest =
      subst (λ w. Climbs most (suc k ∷ ks) (w ++ more) last) (sym is) (
        omega (arith, fits),
        subst (λ b. Climbs most (still_open (b ∷ (suc k - 1) ∷ ks)) (joined branches ++ more) last) count
            (subst (λ j. Climbs most (still_open (length branches ∷ j ∷ ks)) (joined branches ++ more) last) (sym (one_less_than k))
            (climb_branches most depth (climb_tree most depth) branches trees (k ∷ ks) more last (omega (arith, fits)) rest)),
      )

  -- and back: what follows whole trees
  leave_branches : (most depth : ℕ)
      → ((nodes : List N) → IsTree count_of depth nodes → (k : ℕ) (ks : List ℕ) (more : List N) (last : List ℕ) → Climbs most (suc k ∷ ks) (nodes ++ more) last → Climbs most (still_open (k ∷ ks)) more last)
      → (branches : List (List N)) → AllByRecursion (IsTree count_of depth) branches → (j : ℕ) (ks : List ℕ) (more : List N) (last : List ℕ)
      → Climbs most (still_open ((length branches + j) ∷ ks)) (joined branches ++ more) last → Climbs most (still_open (j ∷ ks)) more last
  leave_branches most depth one [] trees j ks more last climbs = subst (λ n. Climbs most (still_open (n ∷ ks)) more last) (let none : 0 + j ≡ j = omega arith in none) climbs
  leave_branches most depth one (branch ∷ branches) (is, are) j ks more last climbs =
      leave_branches most depth one branches are j ks more last
      (one branch is (length branches + j) ks (joined branches ++ more) last
      (subst (λ w. Climbs most (suc (length branches + j) ∷ ks) w last) (append_assoc branch (joined branches) more)
      (subst (λ n. Climbs most (still_open (n ∷ ks)) ((branch ++ joined branches) ++ more) last) (let more_one : suc (length branches) + j ≡ suc (length branches + j) = omega arith in more_one) climbs)))

  pub leave_tree : (most depth : ℕ) (nodes : List N) → IsTree count_of depth nodes → (k : ℕ) (ks : List ℕ) (more : List N) (last : List ℕ)
      → Climbs most (suc k ∷ ks) (nodes ++ more) last → Climbs most (still_open (k ∷ ks)) more last
  leave_tree most zero nodes is k ks more last climbs = absurd is
  leave_tree most (suc depth) nodes (node, branches, is, count, trees) k ks more last climbs =
      let there = subst (λ w. Climbs most (suc k ∷ ks) (w ++ more) last) is climbs in
      let begun : Climbs most (still_open ((length branches + 0) ∷ k ∷ ks)) (joined branches ++ more) last =
      subst (λ b. Climbs most (still_open (b ∷ k ∷ ks)) (joined branches ++ more) last) (let all : count_of node ≡ length branches + 0 = omega (arith, count) in all)
      (subst (λ j. Climbs most (still_open (count_of node ∷ j ∷ ks)) (joined branches ++ more) last) (one_less_than k) there.1) in
      leave_branches most depth (leave_tree most depth) branches trees 0 (k ∷ ks) more last begun

  leave_some : (most : ℕ) (branches : List (List N)) → AllByRecursion (IsSomeTree count_of) branches → (j : ℕ) (ks : List ℕ) (more : List N) (last : List ℕ)
      → Climbs most (still_open ((length branches + j) ∷ ks)) (joined branches ++ more) last → Climbs most (still_open (j ∷ ks)) more last
  leave_some most [] trees j ks more last climbs = subst (λ n. Climbs most (still_open (n ∷ ks)) more last) (let none : 0 + j ≡ j = omega arith in none) climbs
  leave_some most (branch ∷ branches) (is, are) j ks more last climbs =
      leave_some most branches are j ks more last
      (leave_tree most is.0 branch is.1 (length branches + j) ks (joined branches ++ more) last
      (subst (λ w. Climbs most (suc (length branches + j) ∷ ks) w last) (append_assoc branch (joined branches) more)
      (subst (λ n. Climbs most (still_open (n ∷ ks)) ((branch ++ joined branches) ++ more) last) (let more_one : suc (length branches) + j ≡ suc (length branches + j) = omega arith in more_one) climbs)))

  -- a tree leaves nothing open
  pub grown_tree : (depth : ℕ) (nodes : List N) → IsTree count_of depth nodes → Grown depth nodes []
  grown_tree zero nodes is = absurd is
  grown_tree (suc depth) nodes (node, branches, is, count, trees) =
      subst (λ w. Grown (suc depth) w []) (sym is) (
        omega arith,
        subst (λ b. Climbs (suc depth) (still_open (b ∷ [])) (joined branches) []) count
            (subst (λ w. Climbs (suc depth) (still_open (length branches ∷ [])) w []) (append-nil (joined branches))
            (climb_branches (suc depth) depth (climb_tree (suc depth) depth) branches trees [] [] [] (omega arith) refl)),
      )

  -- the number of nodes above the next one
  above_climbs : (most above : ℕ) (nodes : List N) → HasAbove count_of above nodes → (k : ℕ) (ks last : List ℕ) → Climbs most (suc k ∷ ks) nodes last → length last ≡ above + suc (length ks)
  above_climbs most zero nodes none k ks last climbs =
      let is = subst (λ w. Climbs most (suc k ∷ ks) w last) none climbs in
      ap length is ∙ (let same : suc (length ks) ≡ 0 + suc (length ks) = omega arith in same)
  above_climbs most (suc above) nodes (node, whole, part, is, fewer, trees, inside) k ks last climbs =
      let there = subst (λ w. Climbs most (suc k ∷ ks) w last) is climbs in
      let j = count_of node - suc (length whole) in
      let begun : Climbs most (still_open ((length whole + suc j) ∷ k ∷ ks)) (joined whole ++ part) last =
      subst (λ b. Climbs most (still_open (b ∷ k ∷ ks)) (joined whole ++ part) last) (let all : count_of node ≡ length whole + suc j = omega (arith, fewer) in all)
      (subst (λ i. Climbs most (still_open (count_of node ∷ i ∷ ks)) (joined whole ++ part) last) (one_less_than k) there.1) in
      above_climbs most above part inside j (k ∷ ks) last (leave_some most whole trees (suc j) (k ∷ ks) part last begun)
      ∙ (let same : above + suc (suc (length ks)) ≡ suc above + suc (length ks) = omega arith in same)

  pub above_grown : (most above : ℕ) (nodes : List N) (last : List ℕ) → HasAbove count_of above nodes → Grown most nodes last → length last ≡ above
  above_grown most zero nodes last none grown = ap length (subst (λ w. Grown most w last) none grown)
  above_grown most (suc above) nodes last (node, whole, part, is, fewer, trees, inside) grown =
      let there = subst (λ w. Grown most w last) is grown in
      let j = count_of node - suc (length whole) in
      let begun : Climbs most (still_open ((length whole + suc j) ∷ [])) (joined whole ++ part) last =
      subst (λ b. Climbs most (still_open (b ∷ [])) (joined whole ++ part) last) (let all : count_of node ≡ length whole + suc j = omega (arith, fewer) in all) there.1 in
      above_climbs most above part inside j [] last (leave_some most whole trees (suc j) [] part last begun)
      ∙ (let same : above + 1 ≡ suc above = omega arith in same)

  -- the nodes by the open nodes that they stand in: whole branches, and the part of one more; or all branches, and what follows
  abbrev Inside : ℕ → List ℕ → ℕ → List (List N) → List N → Type 0
  Inside count counts open_count trees later =
      (length trees < count) × ((above : ℕ) × HasAbove count_of above later × (above + suc (length counts) ≡ open_count))

  abbrev Parts : ℕ → List ℕ → List N → ℕ → Type 0
  Parts most [] nodes open_count = (nodes ≡ []) × (open_count ≡ 0)
  Parts most (count ∷ counts) nodes open_count =
      (trees : List (List N))
      × (later : List N)
      × (nodes ≡ joined trees ++ later)
      × AllByRecursion (IsTree count_of (most - suc (length counts))) trees
      × (Inside count counts open_count trees later ⊎ ((length trees ≡ count) × Parts most counts later open_count))

  some_trees : (depth : ℕ) (trees : List (List N)) → AllByRecursion (IsTree count_of depth) trees → AllByRecursion (IsSomeTree count_of) trees
  some_trees depth [] trees = tt
  some_trees depth (tree ∷ trees) (is, are) = ((depth, is), some_trees depth trees are)

  parts_closed : (most : ℕ) (opens : List ℕ) (nodes : List N) (n : ℕ) → Parts most (still_open opens) nodes n → Parts most opens nodes n
  parts_closed most [] nodes n parts = parts
  parts_closed most (zero ∷ counts) nodes n parts = ([], nodes, refl, tt, inr (refl, parts_closed most counts nodes n parts))
  parts_closed most (suc count ∷ counts) nodes n parts = parts

  abbrev IsLive : List ℕ → Type 0
  IsLive [] = ⊤
  IsLive (zero ∷ counts) = ⊥
  IsLive (suc count ∷ counts) = ⊤

  live : (opens : List ℕ) → IsLive (still_open opens)
  live [] = tt
  live (zero ∷ counts) = live counts
  live (suc count ∷ counts) = tt

  parts_more : (most k : ℕ) (ks : List ℕ) (node : N) (nodes : List N) (n : ℕ) → suc (length ks) < most
      → Parts most (count_of node ∷ k ∷ ks) nodes n → Parts most (suc k ∷ ks) (node ∷ nodes) n
  parts_more most k ks node nodes n within (trees, later, is, are, inl (fewer, (above, inside, count))) = (
    [],
    node ∷ nodes,
    refl,
    tt,
    inl (
      omega arith,
      (suc above, (node, trees, later, ap (λ w. node ∷ w) is, fewer, some_trees _ trees are, inside), omega (arith, count)),
    ),
  )
  parts_more most k ks node nodes n within (trees, later, is, are, inr (whole, (others, last, is_others, are_others, ends))) =
      let depth : most - suc (length ks) ≡ suc (most - suc (suc (length ks))) = omega (arith, within) in
      let tree : IsTree count_of (most - suc (length ks)) (node ∷ joined trees) = subst (λ d. IsTree count_of d (node ∷ joined trees)) (sym depth) (node, trees, refl, whole, are) in (
        (node ∷ joined trees) ∷ others,
        last,
        ap (λ w. node ∷ w) (is ∙ ap (λ w. joined trees ++ w) is_others ∙ sym (append_assoc (joined trees) (joined others) last)),
        (tree, are_others),
        by ends,
      )
    where
      by : Inside k ks n others last ⊎ ((length others ≡ k) × Parts most ks last n)
          → Inside (suc k) ks n ((node ∷ joined trees) ∷ others) last ⊎ ((suc (length others) ≡ suc k) × Parts most ks last n)
      by (inl (fewer, inside)) = inl (omega (arith, fewer), inside)
      by (inr (all, parts)) = inr (ap suc all, parts)

  parts_of : (most : ℕ) (nodes : List N) (opens last : List ℕ) → IsLive opens → Climbs most opens nodes last → Parts most opens nodes (length last)
  parts_of most [] [] last is climbs = (refl, ap length climbs)
  parts_of most [] (zero ∷ ks) last is climbs = absurd is
  parts_of most [] (suc k ∷ ks) last is climbs = ([], [], refl, tt, inl (omega arith, (0, refl, (let same : 0 + suc (length ks) ≡ suc (length ks) = omega arith in same) ∙ sym (ap length climbs))))
  parts_of most (node ∷ nodes) [] last is climbs = absurd climbs
  parts_of most (node ∷ nodes) (zero ∷ ks) last is climbs = absurd is
  parts_of most (node ∷ nodes) (suc k ∷ ks) last is climbs =
      let b = count_of node in
      let there : Climbs most (still_open (b ∷ k ∷ ks)) nodes last = subst (λ i. Climbs most (still_open (b ∷ i ∷ ks)) nodes last) (one_less_than k) climbs.1 in
      parts_more most k ks node nodes (length last) climbs.0 (parts_closed most (b ∷ k ∷ ks) nodes (length last) (parts_of most nodes (still_open (b ∷ k ∷ ks)) last (live (b ∷ k ∷ ks)) there))

  parts_grown : (most : ℕ) (root : N) (nodes : List N) (last : List ℕ) → Grown most (root ∷ nodes) last → Parts most (count_of root ∷ []) nodes (length last)
  parts_grown most root nodes last grown =
      let b = count_of root in
      parts_closed most (b ∷ []) nodes (length last) (parts_of most nodes (still_open (b ∷ [])) last (live (b ∷ [])) grown.1)

  -- what leaves nothing open is a tree
  pub tree_grown : (most : ℕ) (root : N) (nodes : List N) → Grown most (root ∷ nodes) [] → IsTree count_of most (root ∷ nodes)
  tree_grown most root nodes grown = by (parts_grown most root nodes [] grown)
    where
      by : Parts most (count_of root ∷ []) nodes 0 → IsTree count_of most (root ∷ nodes)
      by (trees, later, is, are, inl (fewer, (above, inside, count))) = absurd (let never : above + 1 ≡ 0 → ⊥ = λ e. omega (arith, e) in never count)
      by (trees, later, is, are, inr (whole, (none, nothing))) =
          let depth : most ≡ suc (most - 1) = omega (arith, grown.0) in
          subst (λ d. IsTree count_of d (root ∷ nodes)) (sym depth) (
            root,
            trees,
            ap (λ w. root ∷ w) (is ∙ ap (λ w. joined trees ++ w) none ∙ append-nil (joined trees)),
            whole,
            are,
          )

  -- and what leaves some nodes open has those above the next one
  pub above_open : (most k : ℕ) (ks : List ℕ) (root : N) (nodes : List N) → Grown most (root ∷ nodes) (k ∷ ks) → HasAbove count_of (length (k ∷ ks)) (root ∷ nodes)
  above_open most k ks root nodes grown = by (parts_grown most root nodes (k ∷ ks) grown)
    where
      by : Parts most (count_of root ∷ []) nodes (suc (length ks)) → HasAbove count_of (suc (length ks)) (root ∷ nodes)
      by (trees, later, is, are, inl (fewer, (above, inside, count))) =
          let same : above ≡ length ks = omega (arith, count) in
          (root, trees, later, ap (λ w. root ∷ w) is, fewer, some_trees _ trees are, subst (λ n. HasAbove count_of n later) same inside)
      by (trees, later, is, are, inr (whole, (none, nothing))) = absurd (let never : suc (length ks) ≡ 0 → ⊥ = λ e. omega (arith, e) in never nothing)

  -- one more node
  climb_wider : (most more : ℕ) → most ≤ more → (nodes : List N) (opens last : List ℕ) → Climbs most opens nodes last → Climbs more opens nodes last
  climb_wider most more wider [] opens last climbs = climbs
  climb_wider most more wider (node ∷ nodes) [] last climbs = absurd climbs
  climb_wider most more wider (node ∷ nodes) (count ∷ counts) last climbs = (omega (arith, wider, climbs.0), climb_wider most more wider nodes _ last climbs.1)

  pub grown_wider : (most more : ℕ) → most ≤ more → (nodes : List N) (last : List ℕ) → Grown most nodes last → Grown more nodes last
  grown_wider most more wider [] last grown = grown
  grown_wider most more wider (root ∷ nodes) last grown = (omega (arith, wider, grown.0), climb_wider most more wider nodes _ last grown.1)

  climb_more : (most : ℕ) (node : N) (k : ℕ) (ks : List ℕ) → suc (length ks) < most → (nodes : List N) (opens : List ℕ) → Climbs most opens nodes (k ∷ ks)
      → Climbs most opens (nodes ++ node ∷ []) (opens_after (count_of node) (k ∷ ks))
  climb_more most node k ks within [] opens climbs = subst (λ w. Climbs most w (node ∷ []) (opens_after (count_of node) (k ∷ ks))) climbs (within, refl)
  climb_more most node k ks within (first ∷ nodes) [] climbs = absurd climbs
  climb_more most node k ks within (first ∷ nodes) (count ∷ counts) climbs = (climbs.0, climb_more most node k ks within nodes _ climbs.1)

  pub grown_more : (most : ℕ) (node : N) (k : ℕ) (ks : List ℕ) (nodes : List N) → suc (length ks) < most → Grown most nodes (k ∷ ks)
      → Grown most (nodes ++ node ∷ []) (opens_after (count_of node) (k ∷ ks))
  grown_more most node k ks [] within grown = absurd (cc)
  grown_more most node k ks (root ∷ nodes) within grown = (grown.0, climb_more most node k ks within nodes _ grown.1)

  -- and one fewer
  climb_less : (most : ℕ) (node : N) (nodes : List N) (opens last : List ℕ) → Climbs most opens (nodes ++ node ∷ []) last
      → (middle : List ℕ) × (Climbs most opens nodes middle × (length middle < most))
  climb_less most node [] [] last climbs = absurd climbs
  climb_less most node [] (count ∷ counts) last climbs = (count ∷ counts, (refl, climbs.0))
  climb_less most node (first ∷ nodes) [] last climbs = absurd climbs
  climb_less most node (first ∷ nodes) (count ∷ counts) last climbs =
      let less = climb_less most node nodes _ last climbs.1 in
      (less.0, ((climbs.0, less.1.0), less.1.1))

  pub grown_less : (most : ℕ) (node : N) (nodes : List N) (last : List ℕ) → Grown most (nodes ++ node ∷ []) last
      → (middle : List ℕ) × (Grown most nodes middle × (length middle < most))
  grown_less most node [] last grown = ([], (refl, grown.0))
  grown_less most node (root ∷ nodes) last grown =
      let less = climb_less most node nodes _ last grown.1 in
      (less.0, ((grown.0, less.1.0), less.1.1))

  -- there is one way
  climb_once : (most more : ℕ) (nodes : List N) (opens one other : List ℕ) → Climbs most opens nodes one → Climbs more opens nodes other → one ≡ other
  climb_once most more [] opens one other a b = a ∙ sym b
  climb_once most more (node ∷ nodes) [] one other a b = absurd a
  climb_once most more (node ∷ nodes) (count ∷ counts) one other a b = climb_once most more nodes _ one other a.1 b.1

  pub grown_once : (most more : ℕ) (nodes : List N) (one other : List ℕ) → Grown most nodes one → Grown more nodes other → one ≡ other
  grown_once most more [] one other a b = a ∙ sym b
  grown_once most more (root ∷ nodes) one other a b = climb_once most more nodes _ one other a.1 b.1
