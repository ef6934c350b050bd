-- The names that the lines of a certificate use, and the first line with one that isn't there (this project's own).
use Rattle.std.specs.Prelude.{ℕ, List, take, find, Bool, not, ◌&&◌, nat_eq, nat_lt, Option, Some, None}
use Rattle.std.specs.List.{list_all, list_any}
use Rattle.std.specs.Str.{bytes_eq}

-- what there is to be named, each by its name
pub record Named : Type 0 where
  -- the places of the net, and how many colours each has
  pub places : List (List ℕ × ℕ)
  -- the instances of the unfolded net, by the transition and the number of the binding
  pub instances : List (List ℕ × ℕ)
  -- the facts of the certificate, in order
  pub facts : List (List ℕ)

-- a name on a line
pub data Use : Type 0 where
  Place : List ℕ → Use
  -- a place and a colour index
  PlaceInstance : List ℕ → ℕ → Use
  -- a transition and a binding number
  Instance : List ℕ → ℕ → Use
  -- one of so many first facts: of those before it on the step line of a bound, else of all
  Fact : ℕ → List ℕ → Use

abbrev pub is_known : Named → Use → Bool
is_known named (Place name) = list_any (λ place. bytes_eq name place.0) named.places
is_known named (PlaceInstance name colour) = list_any (λ place. bytes_eq name place.0 && nat_lt colour place.1) named.places
is_known named (Instance name binding) = list_any (λ instance. bytes_eq name instance.0 && nat_eq binding instance.1) named.instances
is_known named (Fact before name) = list_any (bytes_eq name) (take before named.facts)

-- a line and the names on it
pub record Line : Type 0 where
  pub number : ℕ
  pub uses : List Use

abbrev pub number_of : Option Line → Option ℕ
number_of None = None
number_of (Some line) = Some line.number

-- the first line with a name that isn't there
abbrev pub first_unknown : Named → List Line → Option ℕ
first_unknown named lines = number_of (find (λ line. not (list_all (is_known named) line.uses)) lines)
