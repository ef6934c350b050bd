-- Transition instances, their origins and their rows.
use Rattle.std.specs.Prelude.{◌≡◌, ◌<◌, ◌≤◌, List}
use Rattle.wide_sums.specs.declared.rows.Cell.{Cell}
use Rattle.pt_net.specs.declared.instances.Instance.{Instance}
use Rattle.pt_net.specs.declared.instances.Origin.{Origin}
use Rattle.pt_net.specs.declared.instances.Side.{Side}
use Rattle.pt_net.specs.declared.instances.Side.TheVariants.{Pre, Post}

-- the transition and the binding of an instance
abbrev pub origin_of : Instance → Origin
origin_of t = record { transition = t.transition; binding = t.binding }

-- one origin stands before another: its transition is lower, or it is the same and its binding is lower
pub record IsBefore (a b : Origin) : Type 0 where
  pub transition : a.transition ≤ b.transition
  pub binding : a.transition ≡ b.transition → a.binding < b.binding

-- the row of a side
abbrev pub row_of : Side → Instance → List Cell
row_of Pre t = t.pre
row_of Post t = t.post
