-- What stands for each place, and what a reduction of a net is as a whole.
use Rattle.std.specs.Prelude.{◌≡◌, ◌<◌, ◌^◌, ℕ, Bool, true, false, not, List, [], ◌∷◌, map, length, slice_index, slice_index_or}
use Rattle.std.specs.List.{range_with_len}
use Rattle.pt_net.specs.Systems.{NetSystem, IsSystem, places, size}
use Rattle.trap_siphon.specs.Sets.{has}
use Rattle.reductions.specs.declared.Fate.{Fate}
use Rattle.reductions.specs.declared.Slot.{Slot}
use Rattle.reductions.specs.declared.Slot.TheVariants.{Kept, Constant}
use Rattle.reductions.specs.Numbers.{numbers, rank}
use Rattle.reductions.specs.Rounds.{constant, rounds}
use Rattle.reductions.specs.Reduced.{fate, last_active, reduced}

-- the places that are constant in the last round
abbrev pub last_constant : NetSystem → List Bool
last_constant net = constant net (last_active net)

-- a constant place with its count, or the number of a place among those that stay
abbrev pub slot_over : NetSystem → List Bool → ℕ → Slot
slot_over net constant p = elim (has constant p) [ true ↦ Constant (slice_index net.initial p) | false ↦ Kept (rank (λ q. not (has constant q)) p) ]

unfoldable pub slots_over : NetSystem → List Bool → List Slot
slots_over net constant = map (slot_over net constant) (range_with_len 0 (places net))

unfoldable pub fates : NetSystem → List Fate
fates net = map (fate net) (range_with_len 0 (size net))

-- the slots, the fates, the reduced net and the number of rounds are those of this net
pub record IsReduction (net : NetSystem) (slots : List Slot) (told : List Fate) (red : NetSystem) (number : ℕ) : Type 0 where
  pub slots_are : slots ≡ slots_over net (last_constant net)
  pub fates_are : told ≡ fates net
  pub net_is : red ≡ reduced net
  pub rounds_are : number ≡ rounds net

-- they are those of some net
abbrev pub CanBeGiven : List Slot → List Fate → NetSystem → ℕ → Type 0
CanBeGiven slots told red number = (net : NetSystem) × (IsSystem net × IsReduction net slots told red number)

-- the counts of a marking at the places that stay, by the slots
abbrev pub slot_at : List Slot → ℕ → Slot
slot_at slots p = slice_index_or slots p (Constant 0)

abbrev pub is_kept : Slot → Bool
is_kept (Kept number) = true
is_kept (Constant count) = false

abbrev pub kept_count : Slot → ℕ → List ℕ
kept_count (Kept number) count = count ∷ []
kept_count (Constant other) count = []

abbrev pub projected : List Slot → List ℕ → List ℕ
projected slots marking = map (slice_index marking) (numbers (length slots) (λ p. is_kept (slot_at slots p)))

-- the count at a place, by its slot and the counts of those that stay
abbrev pub slot_count : List ℕ → Slot → ℕ
slot_count counts (Kept number) = slice_index counts number
slot_count counts (Constant count) = count

-- the number of a slot is one of a place that stays, and its count is one that a marking can have
abbrev pub Fits : ℕ → Slot → Type 0
Fits kept (Kept number) = number < kept
Fits kept (Constant count) = count < 2 ^ 63
