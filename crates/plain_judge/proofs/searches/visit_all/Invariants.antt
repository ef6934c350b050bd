use Rattle.std.proofs.Common.{◌≡◌, ◌<◌, ◌≤◌, true, take, All}
use Rattle.plain_judge.specs.Searching.{IsFirstMarked, keeps}
use Rattle.plain_judge.proofs.searches.visit_all.Given as goal

abbrev pub invariant-loop-incidence : goal.invariant-loop-incidence
invariant-loop-incidence l =
    All (λ other. other ≤ l.mark) l.marks
    × IsFirstMarked l.coefficients l.system l.marks l.mark l.least
    × (l.least ≤ l.fn.known)
    × All (λ one. one.transition < l.least → keeps l.coefficients l.system one.transition ≡ true) (take l.incidence-index l.incidences)
