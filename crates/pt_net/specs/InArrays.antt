-- Instances whose rows stand one after another, the input rows in one array and the output rows in another.
use Rattle.std.specs.Prelude.{◌≡◌, ◌<◌, ◌≤◌, ℕ, zero, suc, List, [], map, length, slice_index, slice_index_or, slice_range}
use Rattle.std.specs.List.{range_with_len}
use Rattle.wide_sums.specs.declared.rows.Cell.{Cell}
use Rattle.wide_sums.specs.Cells.{IsRow}
use Rattle.pt_net.specs.declared.arrays.Head.{Head}
use Rattle.pt_net.specs.declared.instances.Instance.{Instance}
use Rattle.pt_net.specs.declared.instances.Origin.{Origin}
use Rattle.pt_net.specs.declared.instances.Side.{Side}
use Rattle.pt_net.specs.declared.instances.Side.TheVariants.{Pre, Post}

-- the end of a row, by its side, and those of all
abbrev pub end_of : Side → Head → ℕ
end_of Pre h = h.inputs_end
end_of Post h = h.outputs_end

abbrev pub ends_of : Side → List Head → List ℕ
ends_of side heads = map (end_of side) heads

-- a row starts where the one before it ends
abbrev pub start_of : List ℕ → ℕ → ℕ
start_of ends zero = 0
start_of ends (suc i) = slice_index ends i

abbrev pub row_in : List ℕ → List Cell → ℕ → List Cell
row_in ends cells i = slice_range cells (start_of ends i) (slice_index ends i)

-- the array of a side
abbrev pub array_of : Side → List Cell → List Cell → List Cell
array_of Pre inputs outputs = inputs
array_of Post inputs outputs = outputs

abbrev pub head_at : List Head → ℕ → Head
head_at heads i = slice_index_or heads i (record { transition = 0; binding = 0; inputs_end = 0; outputs_end = 0 })

abbrev pub origin_from : Head → Origin
origin_from h = record { transition = h.transition; binding = h.binding }

abbrev pub instance_in : List Head → List Cell → List Cell → ℕ → Instance
instance_in heads inputs outputs i = record {
  transition = (head_at heads i).transition;
  binding = (head_at heads i).binding;
  pre = row_in (ends_of Pre heads) inputs i;
  post = row_in (ends_of Post heads) outputs i;
}

unfoldable pub instances_in : List Head → List Cell → List Cell → List Instance
instances_in heads inputs outputs = map (instance_in heads inputs outputs) (range_with_len 0 (length heads))

-- rows that fill an array
pub record ArePacked (ends : List ℕ) (cells : List Cell) : Type 0 where
  pub rising : (i : ℕ) → i < length ends → start_of ends i ≤ slice_index ends i
  pub within : (i : ℕ) → i < length ends → slice_index ends i ≤ length cells
  pub whole : start_of ends (length ends) ≡ length cells
  pub rows : (i : ℕ) → i < length ends → IsRow (row_in ends cells i)

pub record AreInArrays (heads : List Head) (inputs outputs : List Cell) : Type 0 where
  pub pre : ArePacked (ends_of Pre heads) inputs
  pub post : ArePacked (ends_of Post heads) outputs

-- the instance of a number; where there is none, one that takes and adds nothing
abbrev pub one_at : List Instance → ℕ → Instance
one_at instances i = slice_index_or instances i (record { transition = 0; binding = 0; pre = []; post = [] })

-- an instance of this origin with these rows
abbrev pub instance_from : Origin → List Cell → List Cell → Instance
instance_from origin pre post = record { transition = origin.transition; binding = origin.binding; pre = pre; post = post }
