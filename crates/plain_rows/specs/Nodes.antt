-- The nodes of a net by their numbers.
use Rattle.std.specs.Prelude.{◌≡◌, ℕ, ◌<◌, ◌^◌, List, length, Some, slice_get, All}
use Rattle.plain_model.specs.declared.nets.Arc.{Arc}
use Rattle.plain_model.specs.declared.nets.Place.{Place}
use Rattle.plain_model.specs.declared.nets.PlainNet.{PlainNet}
use Rattle.plain_model.specs.Plain.{IsId, AreDistinct, node_ids, place_ids}
use Rattle.plain_rows.specs.declared.nodes.Node.{Node}
use Rattle.plain_rows.specs.declared.nodes.Node.TheVariants.{Place as PlaceAt, Transition as TransitionAt}

-- the id and the marking of the place are in form
pub record IsFreshPlace (place : Place) : Type 0 where
  pub id : IsId place.id
  pub marking : place.marking < 2 ^ 63

-- the id and the weight of the arc are in form
pub record IsFreshArc (arc : Arc) : Type 0 where
  pub id : IsId arc.id
  pub positive : 0 < arc.weight
  pub weight : arc.weight < 2 ^ 63

-- distinct names, which have numbers below 2^32
pub record AreNumbered (names : List (List ℕ)) : Type 0 where
  pub distinct : AreDistinct names
  pub few : length names < 2 ^ 32

-- the nodes of the net have distinct ids in form, and their counts are in range
pub record AreNodes (net : PlainNet) : Type 0 where
  pub numbered : AreNumbered (node_ids net)
  pub places : All IsFreshPlace net.places
  pub transitions : All IsId net.transitions
  pub arcs : All IsFreshArc net.arcs

-- the node is the one with this id
abbrev pub IsNode : PlainNet → List ℕ → Node → Type 0
IsNode net id (PlaceAt number) = slice_get (place_ids net) number ≡ Some id
IsNode net id (TransitionAt number) = slice_get net.transitions number ≡ Some id
