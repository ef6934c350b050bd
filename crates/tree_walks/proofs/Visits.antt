-- Laws of visits, of what a walk over them comes to, and of the places of trees.
use Rattle.std.proofs.Common.{◌≡◌, ℕ, zero, suc, ◌+◌, ◌*◌, ◌<◌, ◌≤◌, List, [], ◌∷◌, ◌++◌, length, drop, slice_index_or, flat_map, Option, Some, None, Ok, Err, append-nil, add-one, refl, sym, ◌∙◌, ap, subst, arith}
use Rattle.std.specs.Prelude.{Result, IfOk, get_or}
use Rattle.std.proofs.Math.Seq.{drop-cons}
use Rattle.tree_visits.specs.Forests.{Forest, NoTree, Tree, forest_of, first_trees, trees_after, visits, tree_count}
use Rattle.tree_walks.specs.Walks.{ran, unless, AllFit, AreBranched, AreSizes}

pub visits-none : {N S : Type 0} (rounds : S → N → List (List S)) (forest : Forest N) → visits rounds forest [] ≡ []
visits-none rounds NoTree = refl
visits-none rounds (Tree node branches rest) = refl

-- the first tree alone, and then the others
visits-cons : {N S : Type 0} (rounds : S → N → List (List S)) (forest : Forest N) (s : S) (ss : List S)
    → visits rounds forest (s ∷ ss) ≡ visits rounds forest (s ∷ []) ++ visits rounds (trees_after 1 forest) ss
visits-cons rounds NoTree s [] = refl
visits-cons rounds NoTree s (t ∷ ss) = refl
visits-cons rounds (Tree node branches rest) s ss =
    let alone : flat_map (λ states. visits rounds branches states) (rounds s node) ++ visits rounds rest [] ≡ flat_map (λ states. visits rounds branches states) (rounds s node) =
    ap (λ v. flat_map (λ states. visits rounds branches states) (rounds s node) ++ v) (visits-none rounds rest) ∙ append-nil (flat_map (λ states. visits rounds branches states) (rounds s node)) in
    ap (λ v. (node, s) ∷ v ++ visits rounds rest ss) (sym alone)

ran-after_ok : {N S A X : Type 0} (stop : A → S → N → Option X) (next : A → S → N → A) (done more : A) (xs ys : List (N × S)) → ran stop next done xs ≡ Ok more → ran stop next done (xs ++ ys) ≡ ran stop next more ys
ran-after_ok {N} {S} {A} {X} stop next done more [] ys h = ap (λ d. ran stop next d ys) (same h)
  where
    same : ◌≡◌ {A = Result A X} (Ok done) (Ok more) → done ≡ more
    same e = cc
ran-after_ok {N} {S} {A} {X} stop next done more (v ∷ xs) ys h = cases (stop done v.1 v.0) h (ran-after_ok stop next (next done v.1 v.0) more xs ys)
  where
    cases : (o : Option X) → unless o (ran stop next (next done v.1 v.0) xs) ≡ Ok more → (ran stop next (next done v.1 v.0) xs ≡ Ok more → ran stop next (next done v.1 v.0) (xs ++ ys) ≡ ran stop next more ys)
        → unless o (ran stop next (next done v.1 v.0) (xs ++ ys)) ≡ ran stop next more ys
    cases None h later = later h
    cases (Some x) h later = absurd cc

ran-append_err : {N S A X : Type 0} (stop : A → S → N → Option X) (next : A → S → N → A) (done : A) (why : X) (xs ys : List (N × S)) → ran stop next done xs ≡ Err why → ran stop next done (xs ++ ys) ≡ Err why
ran-append_err stop next done why [] ys h = absurd cc
ran-append_err {N} {S} {A} {X} stop next done why (v ∷ xs) ys h = cases (stop done v.1 v.0) h (ran-append_err stop next (next done v.1 v.0) why xs ys)
  where
    cases : (o : Option X) → unless o (ran stop next (next done v.1 v.0) xs) ≡ Err why → (ran stop next (next done v.1 v.0) xs ≡ Err why → ran stop next (next done v.1 v.0) (xs ++ ys) ≡ Err why)
        → unless o (ran stop next (next done v.1 v.0) (xs ++ ys)) ≡ Err why
    cases None h later = later h
    cases (Some x) h later = h

drop_one : {X : Type 0} (xs : List X) (i : ℕ) (d : X) → i < length xs → drop i xs ≡ slice_index_or xs i d ∷ drop (i + 1) xs
drop_one xs i d h = rw (add-one, drop-cons xs i d) refl

-- the branch that is walked next makes the walk stop
pub stop_branch : {N S A X : Type 0} (rounds : S → N → List (List S)) (stop : A → S → N → Option X) (next : A → S → N → A) (done : A) (all : Result A X) (here : Forest N) (states : List S) (b : ℕ) (d s : S) (why : X)
    → all ≡ ran stop next done (visits rounds here (drop b states))
    → b < length states → s ≡ slice_index_or states b d → ran stop next done (visits rounds here (s ∷ [])) ≡ Err why
    → all ≡ Err why
stop_branch rounds stop next done all here states b d s why rest inside is fails =
    rest ∙ ap (λ ss. ran stop next done (visits rounds here ss)) (drop_one states b d inside ∙ ap (λ x. x ∷ drop (b + 1) states) (sym is))
    ∙ ap (ran stop next done) (visits-cons rounds here s (drop (b + 1) states))
    ∙ ran-append_err stop next done why (visits rounds here (s ∷ [])) (visits rounds (trees_after 1 here) (drop (b + 1) states)) fails

-- it comes to its end
pub next_branch : {N S A X : Type 0} (rounds : S → N → List (List S)) (stop : A → S → N → Option X) (next : A → S → N → A) (done more : A) (all : Result A X) (here after : Forest N) (states : List S) (b : ℕ) (d s : S)
    → all ≡ ran stop next done (visits rounds here (drop b states))
    → b < length states → s ≡ slice_index_or states b d → ran stop next done (visits rounds here (s ∷ [])) ≡ Ok more → after ≡ trees_after 1 here
    → all ≡ ran stop next more (visits rounds after (drop (b + 1) states))
next_branch rounds stop next done more all here after states b d s rest inside is none behind =
    rest ∙ ap (λ ss. ran stop next done (visits rounds here ss)) (drop_one states b d inside ∙ ap (λ x. x ∷ drop (b + 1) states) (sym is))
    ∙ ap (ran stop next done) (visits-cons rounds here s (drop (b + 1) states))
    ∙ ran-after_ok stop next done more (visits rounds here (s ∷ [])) (visits rounds (trees_after 1 here) (drop (b + 1) states)) none
    ∙ ap (λ f. ran stop next more (visits rounds f (drop (b + 1) states))) (sym behind)

-- one round of several
pub stop_round : {N S A X : Type 0} (stop : A → S → N → Option X) (next : A → S → N → A) (done : A) (all : Result A X) (f : List S → List (N × S)) (lists : List (List S)) (r : ℕ) (why : X)
    → all ≡ ran stop next done (flat_map f (drop r lists))
    → r < length lists → ran stop next done (f (slice_index_or lists r [])) ≡ Err why
    → all ≡ Err why
stop_round stop next done all f lists r why rest inside fails =
    rest ∙ ap (λ ls. ran stop next done (flat_map f ls)) (drop_one lists r [] inside)
    ∙ ran-append_err stop next done why (f (slice_index_or lists r [])) (flat_map f (drop (r + 1) lists)) fails

pub next_round : {N S A X : Type 0} (stop : A → S → N → Option X) (next : A → S → N → A) (done more : A) (all : Result A X) (f : List S → List (N × S)) (lists : List (List S)) (r : ℕ)
    → all ≡ ran stop next done (flat_map f (drop r lists))
    → r < length lists → ran stop next done (f (slice_index_or lists r [])) ≡ Ok more
    → all ≡ ran stop next more (flat_map f (drop (r + 1) lists))
next_round stop next done more all f lists r rest inside none =
    rest ∙ ap (λ ls. ran stop next done (flat_map f ls)) (drop_one lists r [] inside)
    ∙ ran-after_ok stop next done more (f (slice_index_or lists r [])) (flat_map f (drop (r + 1) lists)) none

-- visiting only as many trees as there are states
pub visits-first : {N S : Type 0} (rounds : S → N → List (List S)) (k : ℕ) (forest : Forest N) (ss : List S) → length ss ≡ k → visits rounds (first_trees k forest) ss ≡ visits rounds forest ss
visits-first rounds zero forest [] same = sym (visits-none rounds forest)
visits-first rounds zero forest (s ∷ ss) same = absurd (omega arith)
visits-first rounds (suc k) NoTree ss same = refl
visits-first rounds (suc k) (Tree node branches rest) [] same = refl
visits-first rounds (suc k) (Tree node branches rest) (s ∷ ss) same =
    ap (λ v. (node, s) ∷ flat_map (λ states. visits rounds branches states) (rounds s node) ++ v) (visits-first rounds k rest ss (omega arith))

-- what holds of an answer
pub ok_map : {T E : Type 0} {P Q : T → Type 0} (r : Result T E) → ((v : T) → P v → Q v) → IfOk r P → IfOk r Q
ok_map (Ok v) f h = f v h
ok_map (Err e) f h = tt

pub first_one : {X : Type 0} (xs : List X) (x : X) → 0 < length xs → x ≡ get_or xs 0 x → xs ≡ x ∷ drop 1 xs
first_one [] x some is = absurd (omega arith)
first_one (y ∷ ys) x some is = ap (λ z. z ∷ ys) (sym is)

pub item_at : {X : Type 0} (xs : List X) (at : ℕ) (x : X) → at < length xs → x ≡ get_or xs at x → drop at xs ≡ x ∷ drop (at + 1) xs
item_at xs at x inside is = rw (add-one, drop-cons xs at x inside) (ap (λ y. y ∷ drop (suc at) xs) (sym is))

pub left : {X : Type 0} (xs : List X) (at : ℕ) → at < length xs → 0 < length (drop at xs)
left [] at inside = absurd (omega arith)
left (x ∷ xs) zero inside = omega arith
left (x ∷ xs) (suc at) inside = left xs at (omega arith)

fewer_left : {X : Type 0} (xs : List X) (at : ℕ) → length (drop at xs) ≤ length xs
fewer_left xs zero = omega arith
fewer_left [] (suc at) = omega arith
fewer_left (x ∷ xs) (suc at) =
    let later = fewer_left xs at in
    omega arith

pub fewer : {X : Type 0} (xs : List X) (at : ℕ) → 3 * length (drop at xs) < 3 * length xs + 1
fewer xs at =
    let less = fewer_left xs at in
    omega arith

pub drop_all : {X : Type 0} (xs : List X) (at : ℕ) → length xs ≤ at → drop at xs ≡ []
drop_all [] zero past = refl
drop_all [] (suc at) past = refl
drop_all (x ∷ xs) zero past = absurd (omega arith)
drop_all (x ∷ xs) (suc at) past = drop_all xs at (omega arith)

-- places
count-after : {N : Type 0} (k : ℕ) (forest : Forest N) → k < tree_count forest → 0 < tree_count (trees_after k forest)
count-after zero forest h = h
count-after (suc k) NoTree h = absurd (omega arith)
count-after (suc k) (Tree node branches rest) h = count-after k rest (omega arith)

within : {N : Type 0} (count : N → ℕ) (nodes : List N) (place : ℕ) → 0 < tree_count (forest_of count (drop place nodes)) → place < length nodes
within count [] zero h = absurd (omega arith)
within count [] (suc place) h = absurd (omega arith)
within count (node ∷ nodes) zero h = omega arith
within count (node ∷ nodes) (suc place) h =
    let later = within count nodes place h in
    omega arith

-- where a branch is still to come there is a node for it
pub branch_is_there : {N : Type 0} (count : N → ℕ) (nodes : List N) (place b enough : ℕ) → enough ≤ tree_count (forest_of count nodes)
    → forest_of count (drop place nodes) ≡ trees_after b (forest_of count nodes) → b < enough → place < length nodes
branch_is_there count nodes place b enough there here more =
    within count nodes place (subst (λ f. 0 < tree_count f) (sym here) (count-after b (forest_of count nodes) (omega arith)))

-- and its tree is the first of those from there on
pub branch_is_tree : {N : Type 0} (count : N → ℕ) (nodes : List N) (place b enough : ℕ) → enough ≤ tree_count (forest_of count nodes)
    → forest_of count (drop place nodes) ≡ trees_after b (forest_of count nodes) → b < enough → 0 < tree_count (forest_of count (drop place nodes))
branch_is_tree count nodes place b enough there here more = subst (λ f. 0 < tree_count f) (sym here) (count-after b (forest_of count nodes) (omega arith))

pub fit_start : {N S : Type 0} (size : S → ℕ) (room : ℕ) (rounds : S → N → List (List S)) (forest : Forest N) (s : S) → 0 < tree_count forest → AllFit size room (visits rounds forest (s ∷ [])) → size s ≤ room
fit_start size room rounds NoTree s some fits = absurd (omega arith)
fit_start size room rounds (Tree node branches rest) s some fits = fits.0

pub branched-drop : {N : Type 0} (count : N → ℕ) (k : ℕ) (nodes : List N) → AreBranched count nodes → AreBranched count (drop k nodes)
branched-drop count zero nodes branched = branched
branched-drop count (suc k) [] branched = tt
branched-drop count (suc k) (node ∷ nodes) branched = branched-drop count k nodes branched.1

pub sizes-drop : {N : Type 0} (count : N → ℕ) (k : ℕ) (nodes : List N) (sizes : List ℕ) → AreSizes count nodes sizes → AreSizes count (drop k nodes) (drop k sizes)
sizes-drop count zero nodes sizes right = right
sizes-drop count (suc k) [] [] right = tt
sizes-drop count (suc k) [] (size ∷ sizes) right = absurd right
sizes-drop count (suc k) (node ∷ nodes) [] right = absurd right
sizes-drop count (suc k) (node ∷ nodes) (size ∷ sizes) right = sizes-drop count k nodes sizes right.1

pub sizes-length : {N : Type 0} (count : N → ℕ) (nodes : List N) (sizes : List ℕ) → AreSizes count nodes sizes → length sizes ≡ length nodes
sizes-length count [] [] right = refl
sizes-length count [] (size ∷ sizes) right = absurd right
sizes-length count (node ∷ nodes) [] right = absurd right
sizes-length count (node ∷ nodes) (size ∷ sizes) right = ap suc (sizes-length count nodes sizes right.1)

-- where the tree at a place ends
pub record Ended {N : Type 0} (count : N → ℕ) (nodes : List N) (at size : ℕ) : Type 0 where
  pub some : 1 ≤ size
  pub within : at + size ≤ length nodes
  pub rest : forest_of count (drop (at + size) nodes) ≡ trees_after 1 (forest_of count (drop at nodes))

pub tree_ends : {N : Type 0} (count : N → ℕ) (nodes : List N) (sizes : List ℕ) (at d : ℕ) → AreSizes count nodes sizes → at < length nodes → Ended count nodes at (slice_index_or sizes at d)
tree_ends count [] sizes at d right inside = absurd (omega arith)
tree_ends count (node ∷ nodes) [] at d right inside = absurd right
tree_ends count (node ∷ nodes) (size ∷ sizes) zero d right inside =
    record { some = right.0.some; within = omega (arith, right.0.within); rest = ap (λ k. forest_of count (drop k (node ∷ nodes))) (none size) ∙ right.0.rest }
  where
    none : (k : ℕ) → 0 + k ≡ k
    none k = omega arith
tree_ends count (node ∷ nodes) (size ∷ sizes) (suc at) d right inside =
    let later = tree_ends count nodes sizes at d right.1 (omega arith) in
    record { some = later.some; within = omega (arith, later.within); rest = ap (λ k. forest_of count (drop k (node ∷ nodes))) (shift at (slice_index_or sizes at d)) ∙ later.rest }
  where
    shift : (a b : ℕ) → suc a + b ≡ suc (a + b)
    shift a b = omega arith

pub trees_after-next : {N : Type 0} (k : ℕ) (forest : Forest N) → trees_after 1 (trees_after k forest) ≡ trees_after (k + 1) forest
trees_after-next zero forest = refl
trees_after-next {N} (suc k) NoTree = subst (λ n. ◌≡◌ {A = Forest N} NoTree (trees_after n NoTree)) (shift k) refl
  where
    shift : (n : ℕ) → suc (n + 1) ≡ suc n + 1
    shift n = omega arith
trees_after-next {N} (suc k) (Tree node branches rest) = trees_after-next k rest ∙ ap (λ n. trees_after n (Tree node branches rest)) (shift k)
  where
    shift : (n : ℕ) → suc (n + 1) ≡ suc n + 1
    shift n = omega arith

-- a node at which the walk goes on, and then its branches
pub node_first : {N S A X : Type 0} (count : N → ℕ) (rounds : S → N → List (List S)) (stop : A → S → N → Option X) (next : A → S → N → A) (done : A) (node : N) (nodes : List N) (s : S) → stop done s node ≡ None
    → ran stop next done (visits rounds (forest_of count (node ∷ nodes)) (s ∷ []))
    ≡ ran stop next (next done s node) (flat_map (λ states. visits rounds (first_trees (count node) (forest_of count nodes)) states) (rounds s node))
node_first {N} {S} {A} {X} count rounds stop next done node nodes s goes =
    alone (first_trees (count node) (forest_of count nodes)) (trees_after (count node) (forest_of count nodes))
  where
    alone : (branches rest : Forest N) → ran stop next done (visits rounds (Tree node branches rest) (s ∷ [])) ≡ ran stop next (next done s node) (flat_map (λ states. visits rounds branches states) (rounds s node))
    alone branches rest =
        ap (λ o. unless o (ran stop next (next done s node) (flat_map (λ states. visits rounds branches states) (rounds s node) ++ visits rounds rest []))) goes
        ∙ ap (λ v. ran stop next (next done s node) (flat_map (λ states. visits rounds branches states) (rounds s node) ++ v)) (visits-none rounds rest)
        ∙ ap (ran stop next (next done s node)) (append-nil (flat_map (λ states. visits rounds branches states) (rounds s node)))

-- a node at which the walk stops
pub node_stops : {N S A X : Type 0} (count : N → ℕ) (rounds : S → N → List (List S)) (stop : A → S → N → Option X) (next : A → S → N → A) (done : A) (node : N) (nodes : List N) (s : S) (why : X) → stop done s node ≡ Some why
    → ran stop next done (visits rounds (forest_of count (node ∷ nodes)) (s ∷ [])) ≡ Err why
node_stops {N} {S} {A} {X} count rounds stop next done node nodes s why stops =
    alone (first_trees (count node) (forest_of count nodes)) (trees_after (count node) (forest_of count nodes))
  where
    alone : (branches rest : Forest N) → ran stop next done (visits rounds (Tree node branches rest) (s ∷ [])) ≡ Err why
    alone branches rest =
        ap (λ o. unless o (ran stop next (next done s node) (flat_map (λ states. visits rounds branches states) (rounds s node) ++ visits rounds rest []))) stops

-- room
fit-append : {N S : Type 0} (size : S → ℕ) (room : ℕ) (xs ys : List (N × S)) → AllFit size room (xs ++ ys) → AllFit size room xs × AllFit size room ys
fit-append size room [] ys fits = (tt, fits)
fit-append size room (x ∷ xs) ys fits =
    let rest = fit-append size room xs ys fits.1 in
    ((fits.0, rest.0), rest.1)

fit-join : {N S : Type 0} (size : S → ℕ) (room : ℕ) (xs ys : List (N × S)) → AllFit size room xs → AllFit size room ys → AllFit size room (xs ++ ys)
fit-join size room [] ys first later = later
fit-join size room (x ∷ xs) ys first later = (first.0, fit-join size room xs ys first.1 later)

pub fit-more : {N S : Type 0} (size : S → ℕ) (room more : ℕ) (xs : List (N × S)) → room ≤ more → AllFit size room xs → AllFit size more xs
fit-more size room more [] rises fits = tt
fit-more size room more (x ∷ xs) rises fits =
    let here : size x.1 ≤ more = omega (arith, fits.0) in
    (here, fit-more size room more xs rises fits.1)

pub fit_round : {N S : Type 0} (size : S → ℕ) (room : ℕ) (f : List S → List (N × S)) (lists : List (List S)) (r : ℕ) → AllFit size room (flat_map f (drop r lists)) → r < length lists
    → AllFit size room (f (slice_index_or lists r [])) × AllFit size room (flat_map f (drop (r + 1) lists))
fit_round size room f lists r fits inside =
    fit-append size room (f (slice_index_or lists r [])) (flat_map f (drop (r + 1) lists))
    (subst (λ ls. AllFit size room (flat_map f ls)) (drop_one lists r [] inside) fits)

pub fit_after_round : {N S : Type 0} (size : S → ℕ) (room : ℕ) (f : List S → List (N × S)) (lists : List (List S)) (r : ℕ) → AllFit size room (f (slice_index_or lists r [])) → AllFit size room (flat_map f (drop (r + 1) lists))
    → r < length lists → AllFit size room (flat_map f (drop r lists))
fit_after_round size room f lists r here later inside =
    subst (λ ls. AllFit size room (flat_map f ls)) (sym (drop_one lists r [] inside)) (fit-join size room (f (slice_index_or lists r [])) (flat_map f (drop (r + 1) lists)) here later)

-- the branch that is entered now, and those after it
pub fit_branch : {N S : Type 0} (size : S → ℕ) (room : ℕ) (rounds : S → N → List (List S)) (here : Forest N) (states : List S) (b : ℕ) (d : S) → b < length states
    → AllFit size room (visits rounds here (drop b states))
    → AllFit size room (visits rounds here (slice_index_or states b d ∷ [])) × AllFit size room (visits rounds (trees_after 1 here) (drop (b + 1) states))
fit_branch size room rounds here states b d inside fits =
    fit-append size room (visits rounds here (slice_index_or states b d ∷ [])) (visits rounds (trees_after 1 here) (drop (b + 1) states))
    (subst (AllFit size room) (ap (λ ss. visits rounds here ss) (drop_one states b d inside) ∙ visits-cons rounds here (slice_index_or states b d) (drop (b + 1) states)) fits)

-- a node's own state, and those of its branches
pub fit_node : {N S : Type 0} (size : S → ℕ) (room : ℕ) (count : N → ℕ) (rounds : S → N → List (List S)) (node : N) (nodes : List N) (s : S)
    → AllFit size room (visits rounds (forest_of count (node ∷ nodes)) (s ∷ []))
    → (size s ≤ room) × AllFit size room (flat_map (λ states. visits rounds (first_trees (count node) (forest_of count nodes)) states) (rounds s node))
fit_node {N} {S} size room count rounds node nodes s fits =
    alone (first_trees (count node) (forest_of count nodes)) (trees_after (count node) (forest_of count nodes)) fits
  where
    alone : (branches rest : Forest N) → AllFit size room (visits rounds (Tree node branches rest) (s ∷ [])) → (size s ≤ room) × AllFit size room (flat_map (λ states. visits rounds branches states) (rounds s node))
    alone branches rest all = (all.0, (fit-append size room (flat_map (λ states. visits rounds branches states) (rounds s node)) (visits rounds rest []) all.1).0)

pub fit_whole : {N S : Type 0} (size : S → ℕ) (room : ℕ) (count : N → ℕ) (rounds : S → N → List (List S)) (node : N) (nodes : List N) (s : S) → size s ≤ room
    → AllFit size room (flat_map (λ states. visits rounds (first_trees (count node) (forest_of count nodes)) states) (rounds s node))
    → AllFit size room (visits rounds (forest_of count (node ∷ nodes)) (s ∷ []))
fit_whole {N} {S} size room count rounds node nodes s here below =
    alone (first_trees (count node) (forest_of count nodes)) (trees_after (count node) (forest_of count nodes)) below
  where
    alone : (branches rest : Forest N) → AllFit size room (flat_map (λ states. visits rounds branches states) (rounds s node)) → AllFit size room (visits rounds (Tree node branches rest) (s ∷ []))
    alone branches rest all = (here, fit-join size room (flat_map (λ states. visits rounds branches states) (rounds s node)) (visits rounds rest []) all (subst (AllFit size room) (sym (visits-none rounds rest)) tt))

-- the first branch, and then the others
pub fit_after_branch : {N S : Type 0} (size : S → ℕ) (room : ℕ) (rounds : S → N → List (List S)) (here : Forest N) (states : List S) (b : ℕ) (d : S) → b < length states
    → AllFit size room (visits rounds here (slice_index_or states b d ∷ [])) → AllFit size room (visits rounds (trees_after 1 here) (drop (b + 1) states))
    → AllFit size room (visits rounds here (drop b states))
fit_after_branch size room rounds here states b d inside first later =
    subst (AllFit size room) (sym (ap (λ ss. visits rounds here ss) (drop_one states b d inside) ∙ visits-cons rounds here (slice_index_or states b d) (drop (b + 1) states)))
    (fit-join size room (visits rounds here (slice_index_or states b d ∷ [])) (visits rounds (trees_after 1 here) (drop (b + 1) states)) first later)
