use Rattle.std.proofs.Common.{◌≡◌, ℕ, ◌≤◌, length, drop}
use Rattle.tree_walks.specs.Walks.{ran, AllFit}
use Rattle.case_tree.specs.States.{all_visits, next, room_of, stop}
use Rattle.case_tree.proofs.costs.CostPath.walk_sections.Given as goal

-- the sections that are still to come make up what all of them do
abbrev pub invariant-loop-section : goal.invariant-loop-section
invariant-loop-section g l = record {
  within : l.section-index ≤ length l.sections;
  path : l.self.path.path ≡ l.fn.self.path.path;
  room : l.fn.self.path.room ≤ l.self.path.room;
  rest : ran stop next l.fn.self.spent (all_visits l.fn.self.path.path l.sections) ≡ ran stop next l.self.spent (all_visits l.fn.self.path.path (drop l.section-index l.sections));
  has_room : (more : ℕ) → l.self.path.room ≤ more → AllFit room_of more (all_visits l.fn.self.path.path (drop l.section-index l.sections)) → AllFit room_of more (all_visits l.fn.self.path.path l.sections);
}
