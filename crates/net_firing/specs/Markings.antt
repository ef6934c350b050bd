-- Markings of a coloured net: finite maps that give a natural number to each place and colour of its sort (ISO/IEC 15909-1, markings).
use Rattle.std.specs.Prelude.{◌≡◌, ℕ, ◌+◌, ◌<◌, true, List, [], ◌∷◌, ◌++◌, map, slice_index_or}
use Rattle.std.specs.Cmp.Lexicographic.{slice_cmp}
use Rattle.std.specs.FinMap as finite
use Rattle.std.specs.List.{range_with_len}
use Rattle.std.specs.Option.{unwrap_or}
use Rattle.std.specs.Ordering.{nat_cmp}
use Rattle.net_firing.specs.Coloured.{ColouredNet, ColouredPlace}

-- a finite map from a place and a colour to a number; how many tokens of a colour are at a place
abbrev pub Marking : Type 0
Marking = finite.FinMap (slice_cmp nat_cmp) ℕ

abbrev pub key : ℕ → ℕ → List ℕ
key p k = p ∷ k ∷ []

abbrev pub tokens : Marking → ℕ → ℕ → ℕ
tokens m p k = unwrap_or (finite.get m (key p k)) 0

-- the place of a number; where there is none, one without colours
abbrev pub place_at : List ColouredPlace → ℕ → ColouredPlace
place_at places p = slice_index_or places p (record { size = 0; initial = λ _. 0 })

-- the place `p` is there, and its sort has the colour `k`
abbrev pub HasColour : ColouredNet → ℕ → ℕ → Type 0
HasColour net p k = k < (place_at net.places p).size

-- a marking of a net has a number for each place and colour of its sort, and for nothing else
pub record IsMarking (net : ColouredNet) (m : Marking) : Type 0 where
  pub each : (p k : ℕ) → HasColour net p k → finite.contains_key m (key p k) ≡ true
  pub only : (q : List ℕ) → finite.contains_key m q ≡ true → (p : ℕ) × ((k : ℕ) × ((q ≡ key p k) × HasColour net p k))

-- all places with their colours, by place and then by colour
abbrev pub pairs_from : ℕ → List ColouredPlace → List (ℕ × ℕ)
pairs_from p [] = []
pairs_from p (place ∷ places) = map (λ k. (p, k)) (range_with_len 0 place.size) ++ pairs_from (p + 1) places

abbrev pub pairs : ColouredNet → List (ℕ × ℕ)
pairs net = pairs_from 0 net.places

-- the marking with so many tokens of each colour at each place, and the initial marking
abbrev pub marking_of : ColouredNet → (ℕ → ℕ → ℕ) → Marking
marking_of net count = finite.from_entries (map (λ e. (key e.0 e.1, count e.0 e.1)) (pairs net))

abbrev pub at_start : ColouredNet → ℕ → ℕ → ℕ
at_start net p k = (place_at net.places p).initial k

abbrev pub initial : ColouredNet → Marking
initial net = marking_of net (at_start net)
