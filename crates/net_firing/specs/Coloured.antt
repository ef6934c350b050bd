-- A coloured net: the places, transitions and arcs of a symmetric net, each with its meaning (ISO/IEC 15909-1, high-level net graphs
-- and symmetric nets). Places and colours are told by numbers: colour `k` of a sort is the one at the place `k`, from 0, of the list of
-- the sort's colours. A binding of a transition is a list of colours, one for each of its variables, in the order of the variables.
use Rattle.std.specs.Prelude.{ℕ, Bool, List}
use Rattle.pt_net.specs.declared.instances.Side.{Side}

-- the value of a term: how often each colour is in it, and whether the term has a value
pub record Value : Type 0 where
  pub count : ℕ → ℕ
  pub is_defined : Bool

-- how many colours the sort of a place has, and how often each is there at the start
pub record ColouredPlace : Type 0 where
  pub size : ℕ
  pub initial : ℕ → ℕ

-- the number of an arc among all arcs of the net, whether it leads to the transition (`Pre`) or away from it (`Post`), the place at its
-- other end, and its value under each binding
pub record ColouredArc : Type 0 where
  pub number : ℕ
  pub side : Side
  pub place : ℕ
  pub value : List ℕ → Value

-- for each variable of a transition how many colours its sort has, the guard, and the arcs of both sides in the order of the net
pub record ColouredTransition : Type 0 where
  pub sizes : List ℕ
  pub guard : List ℕ → Bool
  pub arcs : List ColouredArc

pub record ColouredNet : Type 0 where
  pub places : List ColouredPlace
  pub transitions : List ColouredTransition
