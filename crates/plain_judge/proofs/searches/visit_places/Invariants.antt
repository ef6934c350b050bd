use Rattle.std.proofs.Common.{◌≤◌, take, All}
use Rattle.plain_judge.specs.Searching.{IsFirstMarked, KeepAtPlaces}
use Rattle.plain_judge.proofs.searches.visit_places.Given as goal

abbrev pub invariant-loop-at : goal.invariant-loop-at
invariant-loop-at l =
    All (λ other. other ≤ l.mark) l.marks
    × IsFirstMarked l.coefficients l.system l.marks l.mark l.least
    × KeepAtPlaces l.flow.ids (take l.at l.flow.flow.weights) l.incidences.list.items l.coefficients l.system l.least
