-- The firing of an instance at a marking, by the transition rule of ISO/IEC 15909-1.
use Rattle.std.specs.Prelude.{◌≡◌, ℕ, ◌+◌, List, length, slice_index}
use Rattle.wide_sums.specs.Cells.{amount}
use Rattle.pt_net.specs.declared.instances.Instance.{Instance}
use Rattle.pt_net.specs.Markings.{Covers}

-- an instance is enabled where each place has what it takes there
abbrev pub IsEnabled : List ℕ → Instance → Type 0
IsEnabled marking t = Covers marking t.pre

-- it fires where it is enabled: the new count of each place is the old one without what is taken and with what is added
pub record Fires (old : List ℕ) (t : Instance) (new : List ℕ) : Type 0 where
  pub enabled : IsEnabled old t
  pub as_long : length new ≡ length old
  pub moved : (p : ℕ) → slice_index new p + amount p t.pre ≡ slice_index old p + amount p t.post
