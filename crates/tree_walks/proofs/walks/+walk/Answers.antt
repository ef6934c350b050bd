use Rattle.std.proofs.Common.{rules, ◌≡◌, ◌<◌, ◌≤◌, [], ◌∷◌, length, drop, take, slice_index_or, ◌+◌, ◌-◌, ◌*◌, None, sym, ◌∙◌, ap, subst, arith}
use Rattle.tree_visits.specs.Forests.{forest_of, visits, first_trees, trees_after}
use Rattle.std.specs.Prelude.{IfOk}
use Rattle.std.proofs.lemmas.List.{take_rest}
use Rattle.tree_walks.specs.Walks.{ran, told, AllFit, AreBranched, AreSizes, Ends}
use Rattle.tree_walks.proofs.walks.+walk.Goals as goal
use Rattle.tree_walks.proofs.Visits.{branch_is_there, sizes-length, tree_ends, trees_after-next, branched-drop, sizes-drop, stop_branch, next_branch, stop_round, next_round, node_first, fit-more, fit_round, fit_after_round, fit_branch, fit_after_branch, fit_node, fit_whole, visits-first, visits-none, ok_map, first_one, branch_is_tree, fit_start, left, fewer, drop_all}

pub walk_branches-slice_bounds-walk_tree-count-in-loop-branch : goal.walk_branches-slice_bounds-walk_tree-count-in-loop-branch
walk_branches-slice_bounds-walk_tree-count-in-loop-branch g t c = rw (sizes-length g.P.Path.count c.args.nodes.now c.args.sizes.now c.requires.sizes) c.loop-branch.invariant.within

pub walk_branches-slice_bounds-walk_tree-start-in-loop-branch : goal.walk_branches-slice_bounds-walk_tree-start-in-loop-branch
walk_branches-slice_bounds-walk_tree-start-in-loop-branch g t c =
    let inside : c.loop-branch.at ≤ length c.args.sizes.now = rw (sizes-length g.P.Path.count c.args.nodes.now c.args.sizes.now c.requires.sizes) c.loop-branch.invariant.within in
    search rules

pub walk_branches-bounds-sizes-at : goal.walk_branches-bounds-sizes-at
walk_branches-bounds-sizes-at g t c =
    let there : c.loop-branch.at < length c.args.nodes.now = branch_is_there g.P.Path.count c.args.nodes.now c.loop-branch.at c.loop-branch.branch (g.P.Path.count c.args.node.now) c.requires.enough c.loop-branch.invariant.here (omega (arith, c.loop-branch.invariant.count)) in
    rw (sizes-length g.P.Path.count c.args.nodes.now c.args.sizes.now c.requires.sizes) there

pub walk_branches-offset_bounds-sizes-at : goal.walk_branches-offset_bounds-sizes-at
walk_branches-offset_bounds-sizes-at g t c =
    let inside : c.loop-branch.at ≤ length c.args.sizes.now = rw (sizes-length g.P.Path.count c.args.nodes.now c.args.sizes.now c.requires.sizes) c.loop-branch.invariant.within in
    search rules

pub walk_branches-offset_bounds-sizes-at-in-loop-branch : goal.walk_branches-offset_bounds-sizes-at-in-loop-branch
walk_branches-offset_bounds-sizes-at-in-loop-branch g t c =
    let inside : c.loop-branch.at ≤ length c.args.sizes.now = rw (sizes-length g.P.Path.count c.args.nodes.now c.args.sizes.now c.requires.sizes) c.loop-branch.invariant.within in
    search rules

pub walk_branches-overflow_add-at : goal.walk_branches-overflow_add-at
walk_branches-overflow_add-at g t c =
    let there : c.loop-branch.at < length c.args.nodes.now = branch_is_there g.P.Path.count c.args.nodes.now c.loop-branch.at c.loop-branch.branch (g.P.Path.count c.args.node.now) c.requires.enough c.loop-branch.invariant.here (omega (arith, c.loop-branch.invariant.count)) in
    let ended : c.loop-branch.at + slice_index_or c.args.sizes.now c.loop-branch.at 0 ≤ length c.args.nodes.now = (tree_ends g.P.Path.count c.args.nodes.now c.args.sizes.now c.loop-branch.at 0 c.requires.sizes there).within in
    let long = sizes-length g.P.Path.count c.args.nodes.now c.args.sizes.now c.requires.sizes in
    search rules

pub walk_branches-returns-clause-found : goal.walk_branches-returns-clause-found
walk_branches-returns-clause-found g t c =
    let ends : length (slice_index_or (g.P.Path.rounds (g.P.Path.top c.args.path.now) c.args.node.now) c.args.round []) ≤ c.loop-branch.branch = omega (arith, c.requires.sized, c.loop-branch.invariant.count, c.loop-branch-test.false) in
    sym (c.loop-branch.invariant.rest ∙ ap (λ ss. ran g.P.Path.stop g.P.Path.next (g.P.Path.spent c.loop-branch.path) (visits g.P.Path.rounds (forest_of g.P.Path.count (drop c.loop-branch.at c.args.nodes.now)) ss)) (drop_all (slice_index_or (g.P.Path.rounds (g.P.Path.top c.args.path.now) c.args.node.now) c.args.round []) c.loop-branch.branch ends)
    ∙ ap (ran g.P.Path.stop g.P.Path.next (g.P.Path.spent c.loop-branch.path)) (visits-none g.P.Path.rounds (forest_of g.P.Path.count (drop c.loop-branch.at c.args.nodes.now))))

pub walk_branches-returns-clause-has_room : goal.walk_branches-returns-clause-has_room
walk_branches-returns-clause-has_room g t c none =
    let ends : length (slice_index_or (g.P.Path.rounds (g.P.Path.top c.args.path.now) c.args.node.now) c.args.round []) ≤ c.loop-branch.branch = omega (arith, c.requires.sized, c.loop-branch.invariant.count, c.loop-branch-test.false) in
    let same = ap (λ ss. visits g.P.Path.rounds (forest_of g.P.Path.count (drop c.loop-branch.at c.args.nodes.now)) ss) (drop_all (slice_index_or (g.P.Path.rounds (g.P.Path.top c.args.path.now) c.args.node.now) c.args.round []) c.loop-branch.branch ends) ∙ visits-none g.P.Path.rounds (forest_of g.P.Path.count (drop c.loop-branch.at c.args.nodes.now)) in
    c.loop-branch.invariant.has_room (g.P.Path.room c.loop-branch.path) (omega arith) (subst (AllFit g.P.Path.size (g.P.Path.room c.loop-branch.path)) (sym same) tt)

pub walk_branches-walk_tree-requires : goal.walk_branches-walk_tree-requires
walk_branches-walk_tree-requires g t c κs within =
    let there : c.loop-branch.at < length c.args.nodes.now = branch_is_there g.P.Path.count c.args.nodes.now c.loop-branch.at c.loop-branch.branch (g.P.Path.count c.args.node.now) c.requires.enough c.loop-branch.invariant.here (omega (arith, c.loop-branch.invariant.count)) in
    let long = sizes-length g.P.Path.count c.args.nodes.now c.args.sizes.now c.requires.sizes in
    let some : 0 < length (take (length c.args.nodes.now - c.loop-branch.at) (drop c.loop-branch.at c.args.nodes.now)) = rw (take_rest c.args.nodes.now c.loop-branch.at) (left c.args.nodes.now c.loop-branch.at there) in
    let less : 3 * length (take (length c.args.nodes.now - c.loop-branch.at) (drop c.loop-branch.at c.args.nodes.now)) < 3 * length c.args.nodes.now + 1 = rw (take_rest c.args.nodes.now c.loop-branch.at) (fewer c.args.nodes.now c.loop-branch.at) in
    let branched : AreBranched g.P.Path.count (take (length c.args.nodes.now - c.loop-branch.at) (drop c.loop-branch.at c.args.nodes.now)) = rw (take_rest c.args.nodes.now c.loop-branch.at) (branched-drop g.P.Path.count c.loop-branch.at c.args.nodes.now c.requires.branched) in
    let sizes : AreSizes g.P.Path.count (take (length c.args.nodes.now - c.loop-branch.at) (drop c.loop-branch.at c.args.nodes.now)) (take (length c.args.sizes.now - c.loop-branch.at) (drop c.loop-branch.at c.args.sizes.now)) =
    rw (take_rest c.args.nodes.now c.loop-branch.at, take_rest c.args.sizes.now c.loop-branch.at) (sizes-drop g.P.Path.count c.loop-branch.at c.args.nodes.now c.args.sizes.now c.requires.sizes) in
    let room : g.P.Path.size (g.P.Path.top c.enter.new.self) ≤ g.P.Path.room c.enter.new.self = c.in_ok-enter.ensures.has_room in
    search rules

pub walk_tree-returns-clause-found : goal.walk_tree-returns-clause-found
walk_tree-returns-clause-found g t c =
    let is : c.args.nodes.now ≡ c.index-nodes-0.result ∷ drop 1 c.args.nodes.now = first_one c.args.nodes.now c.index-nodes-0.result c.requires.some c.index-nodes-0.is in
    let goes = sym c.visit.ensures.stop ∙ c.in_default.is in
    let found = rw (take_rest c.args.nodes.now 1, c.visit.ensures.top, c.visit.ensures.spent c.in_default.is) at c.walk_rounds.ensures.found in
    subst (λ ns. IfOk c.walk_rounds.result (λ stop. told stop (g.P.Path.spent c.walk_rounds.new.path) ≡ ran g.P.Path.stop g.P.Path.next (g.P.Path.spent c.args.path.now) (visits g.P.Path.rounds (forest_of g.P.Path.count ns) (g.P.Path.top c.args.path.now ∷ [])))) (sym is)
    (ok_map c.walk_rounds.result (λ stop so. so ∙ sym (node_first g.P.Path.count g.P.Path.rounds g.P.Path.stop g.P.Path.next (g.P.Path.spent c.args.path.now) c.index-nodes-0.result (drop 1 c.args.nodes.now) (g.P.Path.top c.args.path.now) goes)) found)

pub walk_tree-returns-clause-fits : goal.walk_tree-returns-clause-fits
walk_tree-returns-clause-fits g t c all =
    let is : c.args.nodes.now ≡ c.index-nodes-0.result ∷ drop 1 c.args.nodes.now = first_one c.args.nodes.now c.index-nodes-0.result c.requires.some c.index-nodes-0.is in
    let fits = rw (take_rest c.args.nodes.now 1, c.visit.ensures.top, c.visit.ensures.room) at c.walk_rounds.ensures.fits in
    fits (fit_node g.P.Path.size (g.P.Path.room c.args.path.now) g.P.Path.count g.P.Path.rounds c.index-nodes-0.result (drop 1 c.args.nodes.now) (g.P.Path.top c.args.path.now)
    (subst (λ ns. AllFit g.P.Path.size (g.P.Path.room c.args.path.now) (visits g.P.Path.rounds (forest_of g.P.Path.count ns) (g.P.Path.top c.args.path.now ∷ []))) is all)).1

pub walk_tree-returns-clause-has_room : goal.walk_tree-returns-clause-has_room
walk_tree-returns-clause-has_room g t c =
    let is : c.args.nodes.now ≡ c.index-nodes-0.result ∷ drop 1 c.args.nodes.now = first_one c.args.nodes.now c.index-nodes-0.result c.requires.some c.index-nodes-0.is in
    let rises : g.P.Path.room c.args.path.now ≤ g.P.Path.room c.walk_rounds.new.path = rw (sym c.visit.ensures.room) c.walk_rounds.ensures.room in
    let here : g.P.Path.size (g.P.Path.top c.args.path.now) ≤ g.P.Path.room c.walk_rounds.new.path = omega (arith, rises, c.requires.room) in
    let has_room = rw (take_rest c.args.nodes.now 1, c.visit.ensures.top) at c.walk_rounds.ensures.has_room in
    subst (λ ns. Ends c.walk_rounds.result (AllFit g.P.Path.size (g.P.Path.room c.walk_rounds.new.path) (visits g.P.Path.rounds (forest_of g.P.Path.count ns) (g.P.Path.top c.args.path.now ∷ [])))) (sym is)
    (ok_map c.walk_rounds.result (λ stop so none. fit_whole g.P.Path.size (g.P.Path.room c.walk_rounds.new.path) g.P.Path.count g.P.Path.rounds c.index-nodes-0.result (drop 1 c.args.nodes.now) (g.P.Path.top c.args.path.now) here (so none)) has_room)

pub walk_rounds-returns-in_err-stop-clause-fits : goal.walk_rounds-returns-in_err-stop-clause-fits
walk_rounds-returns-in_err-stop-clause-fits g t c all =
    let inside : c.loop-round.round < length (g.P.Path.rounds (g.P.Path.top c.args.path.now) c.args.node.now) = omega (arith, c.loop-round.invariant.count) in
    let same = visits-first g.P.Path.rounds (g.P.Path.count c.args.node.now) (forest_of g.P.Path.count c.args.nodes.now) (slice_index_or (g.P.Path.rounds (g.P.Path.top c.args.path.now) c.args.node.now) c.loop-round.round []) (c.loop-round.invariant.sized c.loop-round.round [] inside) in
    let here = (fit_round g.P.Path.size (g.P.Path.room c.args.path.now) (λ states. visits g.P.Path.rounds (first_trees (g.P.Path.count c.args.node.now) (forest_of g.P.Path.count c.args.nodes.now)) states) (g.P.Path.rounds (g.P.Path.top c.args.path.now) c.args.node.now) c.loop-round.round (c.loop-round.invariant.fits all) inside).0 in
    let more = fit-more g.P.Path.size (g.P.Path.room c.args.path.now) (g.P.Path.room c.loop-round.path) _ c.loop-round.invariant.room (rw (sym same) here) in
    let fits = rw c.loop-round.invariant.top at c.in_err-stop.ensures.fits in
    let bad = fits more in
    absurd cc

pub walk_rounds-returns-in-Some-clause-found : goal.walk_rounds-returns-in-Some-clause-found
walk_rounds-returns-in-Some-clause-found g t c =
    let inside : c.loop-round.round < length (g.P.Path.rounds (g.P.Path.top c.args.path.now) c.args.node.now) = omega (arith, c.loop-round.invariant.count) in
    let same = visits-first g.P.Path.rounds (g.P.Path.count c.args.node.now) (forest_of g.P.Path.count c.args.nodes.now) (slice_index_or (g.P.Path.rounds (g.P.Path.top c.args.path.now) c.args.node.now) c.loop-round.round []) (c.loop-round.invariant.sized c.loop-round.round [] inside) in
    let found = rw c.loop-round.invariant.top at c.in_ok-stop.ensures.found in
    sym (stop_round g.P.Path.stop g.P.Path.next (g.P.Path.spent c.loop-round.path) _ (λ states. visits g.P.Path.rounds (first_trees (g.P.Path.count c.args.node.now) (forest_of g.P.Path.count c.args.nodes.now)) states)
    (g.P.Path.rounds (g.P.Path.top c.args.path.now) c.args.node.now) c.loop-round.round c.in-Some.stop
    c.loop-round.invariant.rest inside (ap (ran g.P.Path.stop g.P.Path.next (g.P.Path.spent c.loop-round.path)) same ∙ sym found ∙ ap (λ r. told r (g.P.Path.spent c.walk_branches.new.path)) c.in-Some.is))

pub walk_rounds-loop-round-preserved : goal.walk_rounds-loop-round-preserved
walk_rounds-loop-round-preserved g t c =
    let inside : c.loop-round.round < length (g.P.Path.rounds (g.P.Path.top c.args.path.now) c.args.node.now) = omega (arith, c.loop-round.invariant.count) in
    let same = visits-first g.P.Path.rounds (g.P.Path.count c.args.node.now) (forest_of g.P.Path.count c.args.nodes.now) (slice_index_or (g.P.Path.rounds (g.P.Path.top c.args.path.now) c.args.node.now) c.loop-round.round []) (c.loop-round.invariant.sized c.loop-round.round [] inside) in
    let found = rw c.loop-round.invariant.top at c.in_ok-stop.ensures.found in
    let has_room = rw c.loop-round.invariant.top at c.in_ok-stop.ensures.has_room in
    let rises : g.P.Path.room c.loop-round.path ≤ g.P.Path.room c.walk_branches.new.path = c.walk_branches.ensures.room in
    record {
      count = c.loop-round.invariant.count;
      sized = c.loop-round.invariant.sized;
      top = c.in_ok-stop.ensures.top c.in_default.is ∙ c.loop-round.invariant.top;
      below = c.in_ok-stop.ensures.below c.in_default.is ∙ c.loop-round.invariant.below;
      room = omega (arith, rises, c.loop-round.invariant.room);
      fits = λ all. (fit_round g.P.Path.size (g.P.Path.room c.args.path.now) (λ states. visits g.P.Path.rounds (first_trees (g.P.Path.count c.args.node.now) (forest_of g.P.Path.count c.args.nodes.now)) states) (g.P.Path.rounds (g.P.Path.top c.args.path.now) c.args.node.now) c.loop-round.round (c.loop-round.invariant.fits all) inside).1;
      has_room = λ more enough later. c.loop-round.invariant.has_room more (omega (arith, rises, enough))
          (fit_after_round g.P.Path.size more (λ states. visits g.P.Path.rounds (first_trees (g.P.Path.count c.args.node.now) (forest_of g.P.Path.count c.args.nodes.now)) states) (g.P.Path.rounds (g.P.Path.top c.args.path.now) c.args.node.now) c.loop-round.round (fit-more g.P.Path.size (g.P.Path.room c.walk_branches.new.path) more _ enough (rw same (has_room c.in_default.is))) later inside);
      rest = next_round g.P.Path.stop g.P.Path.next (g.P.Path.spent c.loop-round.path) (g.P.Path.spent c.walk_branches.new.path) _ (λ states. visits g.P.Path.rounds (first_trees (g.P.Path.count c.args.node.now) (forest_of g.P.Path.count c.args.nodes.now)) states)
          (g.P.Path.rounds (g.P.Path.top c.args.path.now) c.args.node.now) c.loop-round.round
          c.loop-round.invariant.rest inside (ap (ran g.P.Path.stop g.P.Path.next (g.P.Path.spent c.loop-round.path)) same ∙ sym found ∙ ap (λ r. told r (g.P.Path.spent c.walk_branches.new.path)) c.in_default.is);
    }

pub walk_branches-returns-in_err-enter-clause-fits : goal.walk_branches-returns-in_err-enter-clause-fits
walk_branches-returns-in_err-enter-clause-fits g t c all =
    let inside : c.loop-branch.branch < length (slice_index_or (g.P.Path.rounds (g.P.Path.top c.args.path.now) c.args.node.now) c.args.round []) = omega (arith, c.requires.sized, c.loop-branch.invariant.count) in
    let pick = fit_branch g.P.Path.size (g.P.Path.room c.args.path.now) g.P.Path.rounds (forest_of g.P.Path.count (drop c.loop-branch.at c.args.nodes.now)) (slice_index_or (g.P.Path.rounds (g.P.Path.top c.args.path.now) c.args.node.now) c.args.round []) c.loop-branch.branch (g.P.Path.top c.args.path.now) inside (c.loop-branch.invariant.fits all) in
    let tree = branch_is_tree g.P.Path.count c.args.nodes.now c.loop-branch.at c.loop-branch.branch (g.P.Path.count c.args.node.now) c.requires.enough c.loop-branch.invariant.here (omega (arith, c.loop-branch.invariant.count)) in
    let small = fit_start g.P.Path.size (g.P.Path.room c.args.path.now) g.P.Path.rounds (forest_of g.P.Path.count (drop c.loop-branch.at c.args.nodes.now)) (slice_index_or (slice_index_or (g.P.Path.rounds (g.P.Path.top c.args.path.now) c.args.node.now) c.args.round []) c.loop-branch.branch (g.P.Path.top c.args.path.now)) tree pick.0 in
    let fits = rw c.loop-branch.invariant.top at c.in_err-enter.ensures.fits in
    let bad = fits (omega (arith, small, c.loop-branch.invariant.room)) in
    absurd cc

pub walk_branches-returns-in_err-stop-clause-fits : goal.walk_branches-returns-in_err-stop-clause-fits
walk_branches-returns-in_err-stop-clause-fits g t c all =
    let inside : c.loop-branch.branch < length (slice_index_or (g.P.Path.rounds (g.P.Path.top c.args.path.now) c.args.node.now) c.args.round []) = omega (arith, c.requires.sized, c.loop-branch.invariant.count) in
    let pick = fit_branch g.P.Path.size (g.P.Path.room c.args.path.now) g.P.Path.rounds (forest_of g.P.Path.count (drop c.loop-branch.at c.args.nodes.now)) (slice_index_or (g.P.Path.rounds (g.P.Path.top c.args.path.now) c.args.node.now) c.args.round []) c.loop-branch.branch (g.P.Path.top c.args.path.now) inside (c.loop-branch.invariant.fits all) in
    let is = rw c.loop-branch.invariant.top at c.in_ok-enter.ensures.top in
    let rises : g.P.Path.room c.loop-branch.path ≤ g.P.Path.room c.enter.new.self = c.enter.ensures.room in
    let fits = rw (take_rest c.args.nodes.now c.loop-branch.at, is) at c.in_err-stop.ensures.fits in
    let bad = fits (fit-more g.P.Path.size (g.P.Path.room c.args.path.now) (g.P.Path.room c.enter.new.self) _ (omega (arith, rises, c.loop-branch.invariant.room)) pick.0) in
    absurd cc

pub walk_branches-returns-in-Some-clause-found : goal.walk_branches-returns-in-Some-clause-found
walk_branches-returns-in-Some-clause-found g t c =
    let inside : c.loop-branch.branch < length (slice_index_or (g.P.Path.rounds (g.P.Path.top c.args.path.now) c.args.node.now) c.args.round []) = omega (arith, c.requires.sized, c.loop-branch.invariant.count) in
    let is = rw c.loop-branch.invariant.top at c.in_ok-enter.ensures.top in
    let found = rw (take_rest c.args.nodes.now c.loop-branch.at) at c.in_ok-stop.ensures.found in
    sym (stop_branch g.P.Path.rounds g.P.Path.stop g.P.Path.next (g.P.Path.spent c.loop-branch.path) _ (forest_of g.P.Path.count (drop c.loop-branch.at c.args.nodes.now)) (slice_index_or (g.P.Path.rounds (g.P.Path.top c.args.path.now) c.args.node.now) c.args.round []) c.loop-branch.branch (g.P.Path.top c.args.path.now) (g.P.Path.top c.enter.new.self) c.in-Some.stop
    c.loop-branch.invariant.rest inside is (ap (λ d. ran g.P.Path.stop g.P.Path.next d (visits g.P.Path.rounds (forest_of g.P.Path.count (drop c.loop-branch.at c.args.nodes.now)) (g.P.Path.top c.enter.new.self ∷ []))) (sym c.in_ok-enter.ensures.spent) ∙ sym found ∙ ap (λ r. told r (g.P.Path.spent c.walk_tree.new.path)) c.in-Some.is))

pub walk_branches-loop-branch-preserved : goal.walk_branches-loop-branch-preserved
walk_branches-loop-branch-preserved g t c =
    let inside : c.loop-branch.branch < length (slice_index_or (g.P.Path.rounds (g.P.Path.top c.args.path.now) c.args.node.now) c.args.round []) = omega (arith, c.requires.sized, c.loop-branch.invariant.count) in
    let there : c.loop-branch.at < length c.args.nodes.now = branch_is_there g.P.Path.count c.args.nodes.now c.loop-branch.at c.loop-branch.branch (g.P.Path.count c.args.node.now) c.requires.enough c.loop-branch.invariant.here (omega (arith, c.loop-branch.invariant.count)) in
    let is = rw c.loop-branch.invariant.top at c.in_ok-enter.ensures.top in
    let ended = tree_ends g.P.Path.count c.args.nodes.now c.args.sizes.now c.loop-branch.at 0 c.requires.sizes there in
    let back : g.P.Path.top c.leave.new.self ∷ g.P.Path.below c.leave.new.self ≡ g.P.Path.top c.loop-branch.path ∷ g.P.Path.below c.loop-branch.path =
    c.leave.ensures.back ∙ c.in_ok-stop.ensures.below c.in_default.is ∙ c.in_ok-enter.ensures.below in
    let top : g.P.Path.top c.leave.new.self ≡ g.P.Path.top c.loop-branch.path = cc in
    let below : g.P.Path.below c.leave.new.self ≡ g.P.Path.below c.loop-branch.path = cc in
    let entered : g.P.Path.room c.loop-branch.path ≤ g.P.Path.room c.enter.new.self = c.enter.ensures.room in
    let walked : g.P.Path.room c.enter.new.self ≤ g.P.Path.room c.walk_tree.new.path = c.walk_tree.ensures.room in
    let left_room = c.leave.ensures.room in
    let found = rw (take_rest c.args.nodes.now c.loop-branch.at) at c.in_ok-stop.ensures.found in
    let has_room = rw (take_rest c.args.nodes.now c.loop-branch.at, is) at c.in_ok-stop.ensures.has_room in
    record {
      count = c.loop-branch.invariant.count;
      top = top ∙ c.loop-branch.invariant.top;
      below = below ∙ c.loop-branch.invariant.below;
      room = omega (arith, entered, walked, left_room, c.loop-branch.invariant.room);
      within = ended.within;
      here = ended.rest ∙ ap (trees_after 1) c.loop-branch.invariant.here ∙ trees_after-next c.loop-branch.branch (forest_of g.P.Path.count c.args.nodes.now);
      fits = λ all. subst (λ f. AllFit g.P.Path.size (g.P.Path.room c.args.path.now) (visits g.P.Path.rounds f (drop (c.loop-branch.branch + 1) (slice_index_or (g.P.Path.rounds (g.P.Path.top c.args.path.now) c.args.node.now) c.args.round [])))) (sym ended.rest)
          (fit_branch g.P.Path.size (g.P.Path.room c.args.path.now) g.P.Path.rounds (forest_of g.P.Path.count (drop c.loop-branch.at c.args.nodes.now)) (slice_index_or (g.P.Path.rounds (g.P.Path.top c.args.path.now) c.args.node.now) c.args.round []) c.loop-branch.branch (g.P.Path.top c.args.path.now) inside (c.loop-branch.invariant.fits all)).1;
      has_room = λ more enough later. c.loop-branch.invariant.has_room more (omega (arith, entered, walked, left_room, enough))
          (fit_after_branch g.P.Path.size more g.P.Path.rounds (forest_of g.P.Path.count (drop c.loop-branch.at c.args.nodes.now)) (slice_index_or (g.P.Path.rounds (g.P.Path.top c.args.path.now) c.args.node.now) c.args.round []) c.loop-branch.branch (g.P.Path.top c.args.path.now) inside
          (fit-more g.P.Path.size (g.P.Path.room c.walk_tree.new.path) more _ (omega (arith, left_room, enough)) (has_room c.in_default.is))
          (subst (λ f. AllFit g.P.Path.size more (visits g.P.Path.rounds f (drop (c.loop-branch.branch + 1) (slice_index_or (g.P.Path.rounds (g.P.Path.top c.args.path.now) c.args.node.now) c.args.round [])))) ended.rest later));
      rest = next_branch g.P.Path.rounds g.P.Path.stop g.P.Path.next (g.P.Path.spent c.loop-branch.path) (g.P.Path.spent c.leave.new.self) _ (forest_of g.P.Path.count (drop c.loop-branch.at c.args.nodes.now)) (forest_of g.P.Path.count (drop (c.loop-branch.at + slice_index_or c.args.sizes.now c.loop-branch.at 0) c.args.nodes.now)) (slice_index_or (g.P.Path.rounds (g.P.Path.top c.args.path.now) c.args.node.now) c.args.round []) c.loop-branch.branch (g.P.Path.top c.args.path.now) (g.P.Path.top c.enter.new.self)
          c.loop-branch.invariant.rest inside is (ap (λ d. ran g.P.Path.stop g.P.Path.next d (visits g.P.Path.rounds (forest_of g.P.Path.count (drop c.loop-branch.at c.args.nodes.now)) (g.P.Path.top c.enter.new.self ∷ []))) (sym c.in_ok-enter.ensures.spent) ∙ sym found ∙ ap (λ r. told r (g.P.Path.spent c.walk_tree.new.path)) c.in_default.is ∙ ap (told None) (sym c.leave.ensures.spent)) ended.rest;
    }
