use Rattle.std.proofs.Common.{[], ◌∷◌}
use Rattle.tree_visits.specs.Forests.{forest_of, visits}
use Rattle.tree_walks.specs.Walks.{AllFit}
use Rattle.tree_walks.proofs.Visits.{fit-more}
use Rattle.case_tree.specs.States.{branch_count, room_of, rounds}
use Rattle.case_tree.proofs.costs.CostPath.walk_section.Goals as goal
use Rattle.case_tree.proofs.Walking.{root_fits}

pub returns-in_err-enter-clause-fits : goal.returns-in_err-enter-clause-fits
returns-in_err-enter-clause-fits g c all =
    let bad = c.in_err-enter.ensures.fits (root_fits c.args.self.now.path.path record { root = c.section.inside.root; nodes = c.section.inside.nodes.items } c.args.self.now.path.room c.section.invariant.0 (rw (← c.section.view_is) at all)) in
    absurd cc

pub returns-in_err-line-clause-fits : goal.returns-in_err-line-clause-fits
returns-in_err-line-clause-fits g c all =
    let there : AllFit room_of c.enter.new.self.room (visits rounds (forest_of branch_count c.deref.result.now) (c.enter.new.self.path ∷ [])) =
    rw (c.in_ok-enter.ensures.path, c.deref.ensures.value) (fit-more room_of c.args.self.now.path.room c.enter.new.self.room _ c.in_ok-enter.ensures.room (rw (← c.section.view_is) at all)) in
    let bad = c.in_err-line.ensures.fits there in
    absurd cc
