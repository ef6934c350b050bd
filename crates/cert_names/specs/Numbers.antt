-- The numbers that the names on a certificate's lines stand for (this project's own).
use Rattle.std.specs.Prelude.{ℕ, ◌+◌, ◌-◌, Bool, false, ◌&&◌, nat_eq, nat_le, nat_lt, List, map, position, slice_index, Option, None, Some, if◌then◌else◌}
use Rattle.std.specs.List.{position_or_len}
use Rattle.std.specs.Str.{bytes_eq}
use Rattle.name_tables.specs.Numbering.{number_in}
use Rattle.pt_net.specs.Numbering.{NetNumbering}
use Rattle.pt_net.specs.Systems.{NetSystem}
use Rattle.pt_net.specs.declared.instances.Instance.{Instance}
use Rattle.line_words.specs.declared.items.PlaceRef.{PlaceRef}
use Rattle.cert_lines.specs.declared.certificates.Fact.{Fact}

-- the place instances from one number up to and without another one
pub record Interval : Type 0 where
  pub first : ℕ
  pub end : ℕ

abbrev pub is_in : Interval → ℕ → Bool
is_in interval q = nat_le interval.first q && nat_lt q interval.end

-- the instances of a place, by the place's number
abbrev pub instances_at : NetNumbering → ℕ → Interval
instances_at l p = record { first = slice_index l.starts p; end = slice_index l.starts (p + 1) }

abbrev pub size : Interval → ℕ
size interval = interval.end - interval.first

-- all colours, or one of them where it is there
abbrev pub with_colour : Interval → Option ℕ → Option Interval
with_colour all None = Some all
with_colour all (Some k) = if nat_lt k (size all) then Some (record { first = all.first + k; end = all.first + k + 1 }) else None

abbrev pub interval_at : NetNumbering → Option ℕ → Option ℕ → Option Interval
interval_at l None colour = None
interval_at l (Some p) colour = with_colour (instances_at l p) colour

-- the place instances that `P` or `P@K` stands for; none where it names nothing
abbrev pub interval_of : NetNumbering → PlaceRef → Option Interval
interval_of l place = interval_at l (number_in l.places place.place) place.colour

abbrev pub has : Option Interval → ℕ → Bool
has None q = false
has (Some interval) q = is_in interval q

-- the place instance of this number is among them
abbrev pub is_named : NetNumbering → PlaceRef → ℕ → Bool
is_named l place q = has (interval_of l place) q

abbrev pub is_number : Option ℕ → ℕ → Bool
is_number None n = false
is_number (Some k) n = nat_eq k n

-- `T@K` stands for the transition instance
abbrev pub is_at : NetNumbering → List ℕ → ℕ → Instance → Bool
is_at l transition binding i = is_number (number_in l.transitions transition) i.transition && nat_eq binding i.binding

-- the number of the transition instance that `T@K` stands for
abbrev pub instance_of : NetNumbering → NetSystem → List ℕ → ℕ → Option ℕ
instance_of l net transition binding = position (is_at l transition binding) net.instances

abbrev pub names_of : List Fact → List (List ℕ)
names_of facts = map (λ fact. fact.name) facts

-- the number of the fact of a name; that past the last one where there is none
abbrev pub fact_number : List (List ℕ) → List ℕ → ℕ
fact_number names name = position_or_len (bytes_eq name) names
