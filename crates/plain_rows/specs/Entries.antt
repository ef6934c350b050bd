-- The arcs of a net by the numbers of their ends, and the rows of its transitions.
use Rattle.std.specs.Prelude.{◌≡◌, ℕ, ◌<◌, ◌^◌, Bool, true, false, ◌&&◌, nat_eq, List, [], ◌∷◌, ◌++◌, map, filter, length, Some, slice_get, slice_index_or, All, sum_by, IsPermutation, ◌+◌}
use Rattle.wide_sums.specs.declared.rows.Cell.{Cell}
use Rattle.wide_sums.specs.Cells.{IsRow}
use Rattle.plain_model.specs.declared.nets.Arc.{Arc}
use Rattle.plain_model.specs.declared.nets.PlainNet.{PlainNet}
use Rattle.plain_model.specs.Plain.{place_ids}
use Rattle.pt_net.specs.declared.instances.Instance.{Instance}
use Rattle.pt_net.specs.declared.instances.Side.{Side}
use Rattle.pt_net.specs.declared.instances.Side.TheVariants.{Pre, Post}
use Rattle.plain_rows.specs.declared.entries.Entry.{Entry}

-- an arc enters a transition from a place, or leaves it for one
abbrev pub Ends : PlainNet → Arc → Side → ℕ → ℕ → Type 0
Ends net arc Pre place transition = (slice_get (place_ids net) place ≡ Some arc.source) × (slice_get net.transitions transition ≡ Some arc.target)
Ends net arc Post place transition = (slice_get (place_ids net) place ≡ Some arc.target) × (slice_get net.transitions transition ≡ Some arc.source)

-- the entry has the numbers of the ends of the arc, and its weight
pub record IsEntryOf (net : PlainNet) (arc : Arc) (entry : Entry) : Type 0 where
  pub ends : Ends net arc entry.side entry.place entry.transition
  pub weight : entry.weight ≡ arc.weight

-- one entry for each arc, in the order of the arcs
abbrev pub AreEntriesOf : PlainNet → List Arc → List Entry → Type 0
AreEntriesOf net [] [] = Unit {0}
AreEntriesOf net (arc ∷ arcs) (entry ∷ entries) = IsEntryOf net arc entry × AreEntriesOf net arcs entries
AreEntriesOf net [] (entry ∷ entries) = ⊥
AreEntriesOf net (arc ∷ arcs) [] = ⊥

abbrev pub is_same_side : Side → Side → Bool
is_same_side Pre Pre = true
is_same_side Pre Post = false
is_same_side Post Pre = false
is_same_side Post Post = true

-- the entry belongs to this side of this transition
abbrev pub is_on : Side → ℕ → Entry → Bool
is_on side transition entry = is_same_side entry.side side && nat_eq entry.transition transition

abbrev pub cell_of : Entry → Cell
cell_of entry = record { at = entry.place; count = entry.weight }

-- the cells of one side of a transition, in the order of the entries
abbrev pub cells_of : List Entry → Side → ℕ → List Cell
cells_of entries side transition = map cell_of (filter (is_on side transition) entries)

-- the instance of the transition with this number
abbrev pub instance_of : List Entry → ℕ → Instance
instance_of entries transition = record {
  transition = transition;
  binding = 0;
  pre = cells_of entries Pre transition;
  post = cells_of entries Post transition;
}

-- each instance is that of its number
abbrev pub AreInstances : List Entry → List Instance → Type 0
AreInstances entries instances = (transition : ℕ) (d : Instance) → transition < length instances → slice_index_or instances transition d ≡ instance_of entries transition

-- the instance with one more cell at the end of a row
abbrev pub with_cell : Side → Cell → Instance → Instance
with_cell Pre cell instance = record instance { pre = instance.pre ++ cell ∷ [] }
with_cell Post cell instance = record instance { post = instance.post ++ cell ∷ [] }

-- both lists of cells are rows
pub record HasRows (instance : Instance) : Type 0 where
  pub pre : IsRow instance.pre
  pub post : IsRow instance.post

-- the transition of the entry is one of so many, and its weight is a count of a row
pub record IsFillable (transitions : ℕ) (entry : Entry) : Type 0 where
  pub transition : entry.transition < transitions
  pub positive : 0 < entry.weight
  pub weight : entry.weight < 2 ^ 63

-- the entries of the arcs of the net, in some order
pub record IsRearranged (net : PlainNet) (sorted : List Entry) : Type 0 where
  pub entries : List Entry
  pub each : AreEntriesOf net net.arcs entries
  pub moved : IsPermutation entries sorted

-- instances with rows, one for each transition of the net, made of these entries
pub record AreBuilt (net : PlainNet) (instances : List Instance) : Type 0 where
  pub sorted : List Entry
  pub entries : IsRearranged net sorted
  pub as_many : length instances ≡ length net.transitions
  pub filled : AreInstances sorted instances
  pub rows : All HasRows instances
  pub cells : sum_by (λ t. length t.pre + length t.post) instances ≡ length sorted
