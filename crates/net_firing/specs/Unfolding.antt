-- The unfolded net of a coloured net: a place/transition net with an instance of each place for each colour of its sort, and an
-- instance of each transition for each of its modes (ISO/IEC 15909-1, the relation of high-level nets to place/transition nets).
use Rattle.std.specs.Prelude.{ℕ, zero, suc, ◌+◌, Bool, List, [], ◌∷◌, ◌++◌, map, filter, Option, None, Some, Result, Ok, Err, if◌then◌else◌}
use Rattle.wide_sums.specs.declared.rows.Cell.{Cell}
use Rattle.pt_net.specs.declared.instances.Instance.{Instance}
use Rattle.pt_net.specs.Systems.{NetSystem}
use Rattle.bindings.specs.Listed.{bindings}
use Rattle.net_firing.specs.Coloured.{ColouredArc, ColouredNet, ColouredTransition}
use Rattle.net_firing.specs.Firing.{put, taken}
use Rattle.net_firing.specs.Markings.{Marking, at_start, pairs, tokens}

-- the counts of all place instances, by place and then by colour; those of a marking
abbrev pub counts : ColouredNet → (ℕ → ℕ → ℕ) → List ℕ
counts net count = map (λ e. count e.0 e.1) (pairs net)

abbrev pub Flat : ColouredNet → Marking → List ℕ
Flat net m = counts net (tokens m)

-- a transition with one of its bindings, each with its number
pub record Candidate : Type 0 where
  pub transition : ℕ
  pub number : ℕ
  pub rule : ColouredTransition
  pub binding : List ℕ

-- all candidates: transitions in order, and the bindings of each in lexicographic order
abbrev pub numbered : ℕ → ColouredTransition → ℕ → List (List ℕ) → List Candidate
numbered at t number [] = []
numbered at t number (b ∷ bs) = record { transition = at; number = number; rule = t; binding = b } ∷ numbered at t (number + 1) bs

abbrev pub candidates_from : ℕ → List ColouredTransition → List Candidate
candidates_from at [] = []
candidates_from at (t ∷ ts) = numbered at t 0 (bindings t.sizes) ++ candidates_from (at + 1) ts

abbrev pub candidates : ColouredNet → List Candidate
candidates net = candidates_from 0 net.transitions

abbrev pub is_true : Candidate → Bool
is_true c = c.rule.guard c.binding

-- an arc without a value: its transition, the number of the binding, and its own number in the net
pub record ArcFault : Type 0 where
  pub transition : ℕ
  pub binding : ℕ
  pub arc : ℕ

-- the first of some arcs that has no value
abbrev pub first_undefined : List ColouredArc → List ℕ → Option ℕ
first_undefined [] b = None
first_undefined (a ∷ more) b = if (a.value b).is_defined then first_undefined more b else Some a.number

-- the row that has these counts: a cell for each place with a count that isn't 0
abbrev pub cells_from : ℕ → List ℕ → List Cell
cells_from at [] = []
cells_from at (zero ∷ more) = cells_from (at + 1) more
cells_from at (suc n ∷ more) = record { at = at; count = suc n } ∷ cells_from (at + 1) more

abbrev pub row_of : List ℕ → List Cell
row_of counts = cells_from 0 counts

-- the instance of a candidate, where all arcs have values
abbrev pub instance : ColouredNet → Candidate → Instance
instance net c = record {
  transition = c.transition;
  binding = c.number;
  pre = row_of (counts net (taken c.rule c.binding));
  post = row_of (counts net (put c.rule c.binding));
}

abbrev pub instance_or : Candidate → Instance → Option ℕ → Result Instance ArcFault
instance_or c made None = Ok made
instance_or c made (Some arc) = Err (record { transition = c.transition; binding = c.number; arc = arc })

abbrev pub instance_of : ColouredNet → Candidate → Result Instance ArcFault
instance_of net c = instance_or c (instance net c) (first_undefined c.rule.arcs c.binding)

-- all values, or the first fault
abbrev pub in_front : {A E : Type 0} → A → Result (List A) E → Result (List A) E
in_front x (Ok xs) = Ok (x ∷ xs)
in_front x (Err e) = Err e

abbrev pub all_ok : {A E : Type 0} → List (Result A E) → Result (List A) E
all_ok [] = Ok []
all_ok (Ok x ∷ more) = in_front x (all_ok more)
all_ok (Err e ∷ more) = Err e

-- the instances of the candidates whose guard is true
abbrev pub instances : ColouredNet → Result (List Instance) ArcFault
instances net = all_ok (map (instance_of net) (filter is_true (candidates net)))

-- the unfolded net; or, as a fault, the first candidate whose guard is true and that has an arc without a value, with its first such arc
abbrev pub system_with : List ℕ → Result (List Instance) ArcFault → Result NetSystem ArcFault
system_with counts (Ok instances) = Ok (record { initial = counts; instances = instances })
system_with counts (Err fault) = Err fault

abbrev pub unfolding_of : ColouredNet → Result NetSystem ArcFault
unfolding_of net = system_with (counts net (at_start net)) (instances net)
