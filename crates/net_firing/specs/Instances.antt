-- Instances of the definitions that were worked out by hand.
use Rattle.std.specs.Prelude.{◌≡◌, ℕ, Bool, true, false, nat_eq, List, [], ◌∷◌, map, pos, codes, slice_index, Some, None, Ok, Err, if◌then◌else◌}
use Rattle.std.specs.Str.{bytes_eq}
use Rattle.net_model.specs.declared.kinds.Kind.TheVariants as kind
use Rattle.net_model.specs.declared.nets.Label.TheVariants as label
use Rattle.net_model.specs.declared.nets.Net.{Net}
use Rattle.net_model.specs.declared.nets.RefKind.TheVariants as refers
use Rattle.net_model.specs.declared.sorts.Span.{Span}
use Rattle.net_model.specs.declared.sorts.SortTerm.TheVariants as sort
use Rattle.net_model.specs.declared.terms.Guard.TheVariants as guards
use Rattle.net_model.specs.declared.terms.Order.TheVariants as order
use Rattle.net_model.specs.declared.terms.Term.TheVariants as term
use Rattle.pt_net.specs.declared.instances.Side.{Side}
use Rattle.pt_net.specs.declared.instances.Side.TheVariants.{Pre, Post}
use Rattle.net_firing.specs.Coloured.{ColouredArc, ColouredNet, ColouredPlace, ColouredTransition, Value}
use Rattle.net_firing.specs.FileNets.{coloured_net}
use Rattle.net_firing.specs.Markings.{pairs}
use Rattle.net_firing.specs.Unfolding.{row_of, unfolding_of}

-- a place with colours 0 and 1, of which two tokens of colour 1 are there at the start
abbrev pub two_colours : ColouredPlace
two_colours = record { size = 2; initial = λ k. if nat_eq k 1 then 2 else 0 }

-- one token of the colour of the first variable
abbrev pub first_colour : List ℕ → Value
first_colour b = record { count = λ k. if nat_eq k (slice_index b 0) then 1 else 0; is_defined = true }

-- a value that is there for colour 0 alone
abbrev pub only_zero : List ℕ → Value
only_zero b = record { count = λ k. 0; is_defined = nat_eq (slice_index b 0) 0 }

-- takes a token of any colour; its guard is true for colour 1 alone
abbrev pub takes : ColouredTransition
takes = record { sizes = 2 ∷ []; guard = λ b. nat_eq (slice_index b 0) 1; arcs = record { number = 0; side = Pre; place = 0; value = first_colour } ∷ [] }

abbrev pub fails : (List ℕ → Bool) → ColouredTransition
fails guard = record { sizes = 2 ∷ []; guard = guard; arcs = record { number = 3; side = Post; place = 0; value = first_colour } ∷ record { number = 4; side = Post; place = 0; value = only_zero } ∷ [] }

-- a file's net: the transition `t` moves the number 2 from the place `p` to the place `q`, which the arc knows as `r`
abbrev pub one_to_two : Span
one_to_two = record { first = pos 1; last = pos 2 }

abbrev pub file_net : Net
file_net = record {
  id = codes "n";
  kind = kind.Symmetric;
  sorts = record { id = codes "c"; sort = sort.Range one_to_two } ∷ [];
  partitions = [];
  variables = record { id = codes "y"; sort = sort.Dot } ∷ record { id = codes "x"; sort = sort.Named (codes "c") } ∷ [];
  places =
      record { id = codes "p"; sort = sort.Named (codes "c"); marking = label.Multiset (term.All (sort.Named (codes "c"))) }
      ∷ record { id = codes "q"; sort = sort.Range one_to_two; marking = label.Absent } ∷ [];
  transitions = record {
    id = codes "t";
    guard = Some (guards.Compare order.Equal (term.Variable (codes "x")) (term.Number (pos 2) one_to_two));
  } ∷ [];
  references = record { id = codes "r"; kind = refers.Place; target = codes "q" } ∷ [];
  arcs =
      record { id = codes "a"; source = codes "t"; target = codes "r"; label = label.Multiset (term.NumberOf 2 (term.Variable (codes "x"))) }
      ∷ record { id = codes "b"; source = codes "p"; target = codes "t"; label = label.Multiset (term.Variable (codes "x")) } ∷ [];
}

-- a file's net: the transition `t` takes a dot from the place `p` by an arc that has no inscription, and puts two by one that has
abbrev pub dot_net : Net
dot_net = record {
  id = codes "n";
  kind = kind.Symmetric;
  sorts = [];
  partitions = [];
  variables = [];
  places = record { id = codes "p"; sort = sort.Dot; marking = label.Absent } ∷ [];
  transitions = record { id = codes "t"; guard = None } ∷ [];
  references = [];
  arcs =
      record { id = codes "a"; source = codes "p"; target = codes "t"; label = label.Absent }
      ∷ record { id = codes "b"; source = codes "t"; target = codes "p"; label = label.Count 2 } ∷ [];
}

abbrev pub follow_r : List ℕ → List ℕ
follow_r id = if bytes_eq id (codes "r") then codes "q" else id

pub record WorkedInstances : Type 0 where
  pub pairs_of_two : pairs (record { places = two_colours ∷ record { size = 0; initial = λ _. 0 } ∷ two_colours ∷ []; transitions = [] }) ≡ (0, 0) ∷ (0, 1) ∷ (2, 0) ∷ (2, 1) ∷ []
  pub row : row_of (0 ∷ 3 ∷ 0 ∷ 1 ∷ []) ≡ record { at = 1; count = 3 } ∷ record { at = 3; count = 1 } ∷ []
  -- one of two candidates is an instance, by its number among both
  pub takes_one : unfolding_of (record { places = two_colours ∷ []; transitions = takes ∷ [] })
      ≡ Ok (record { initial = 0 ∷ 2 ∷ []; instances = record { transition = 0; binding = 1; pre = record { at = 1; count = 1 } ∷ []; post = [] } ∷ [] })
  -- the first candidate that has an arc without a value, with the arc's number in the net
  pub first_fault : unfolding_of (record { places = two_colours ∷ []; transitions = takes ∷ fails (λ _. true) ∷ [] }) ≡ Err (record { transition = 1; binding = 1; arc = 4 })
  -- a candidate whose guard is false has no fault
  pub no_fault : unfolding_of (record { places = two_colours ∷ []; transitions = fails (λ _. false) ∷ [] }) ≡ Ok (record { initial = 0 ∷ 2 ∷ []; instances = [] })
  -- the arcs of a file's transition, each with its number, its side and its place: a reference is followed
  pub of_file : map (λ t. map {B = ℕ × (Side × ℕ)} (λ a. (a.number, (a.side, a.place))) t.arcs) (coloured_net follow_r file_net).transitions ≡ ((0, (Post, 1)) ∷ (1, (Pre, 0)) ∷ []) ∷ []
  -- what the arcs of a file's transition move: one dot where there is no inscription
  pub of_dots : map (λ t. map {B = Side × ℕ} (λ a. (a.side, (a.value []).count 0)) t.arcs) (coloured_net (λ id. id) dot_net).transitions ≡ ((Pre, 1) ∷ (Post, 2) ∷ []) ∷ []
