use Rattle.std.proofs.Common.{◌≤◌, sym, ap, ◌∙◌, subst, arith}
use Rattle.tree_walks.specs.Walks.{ran, told, AllFit}
use Rattle.tree_walks.proofs.Visits.{fit-more}
use Rattle.case_tree.specs.States.{next, room_of, stop, visits_of}
use Rattle.case_tree.proofs.costs.CostPath.walk_sections.Goals as goal
use Rattle.case_tree.proofs.Walking.{fit_after_one, next_one, stop_one}

pub returns-in-Some-clause-found : goal.returns-in-Some-clause-found
returns-in-Some-clause-found g c =
    let found = rw c.loop-section.invariant.path at c.in_ok-line.ensures.found in
    sym (stop_one stop next (visits_of c.args.self.now.path.path) c.loop-section.self.spent _ c.args.sections.now c.loop-section.section-index c.section-item.result c.in-Some.line c.loop-section.invariant.rest c.loop-section-test.true
    (ap (λ s. ran stop next c.loop-section.self.spent (visits_of c.args.self.now.path.path s)) (sym c.section-item.is) ∙ sym found ∙ ap (λ r. told r c.walk_section.new.self.spent) c.in-Some.is))

pub loop-section-preserved : goal.loop-section-preserved
loop-section-preserved g c =
    let found = rw c.loop-section.invariant.path at c.in_ok-line.ensures.found in
    let has_room = rw c.loop-section.invariant.path at c.in_ok-line.ensures.has_room in
    let rises : c.loop-section.self.path.room ≤ c.walk_section.new.self.path.room = c.in_ok-line.ensures.room in
    record {
      within = omega (arith, c.loop-section-test.true);
      path = c.in_ok-line.ensures.path c.in_default.is ∙ c.loop-section.invariant.path;
      room = omega (arith, rises, c.loop-section.invariant.room);
      rest = next_one stop next (visits_of c.args.self.now.path.path) c.loop-section.self.spent c.walk_section.new.self.spent _ c.args.sections.now c.loop-section.section-index c.section-item.result c.loop-section.invariant.rest c.loop-section-test.true
          (ap (λ s. ran stop next c.loop-section.self.spent (visits_of c.args.self.now.path.path s)) (sym c.section-item.is) ∙ sym found ∙ ap (λ r. told r c.walk_section.new.self.spent) c.in_default.is);
      has_room = λ more enough later. c.loop-section.invariant.has_room more (omega (arith, rises, enough))
          (fit_after_one room_of (visits_of c.args.self.now.path.path) more c.args.sections.now c.loop-section.section-index c.section-item.result
          (subst (λ s. AllFit room_of more (visits_of c.args.self.now.path.path s)) c.section-item.is (fit-more room_of c.walk_section.new.self.path.room more _ enough (has_room c.in_default.is))) later c.loop-section-test.true);
    }
