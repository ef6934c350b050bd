-- How many elements typed arcs move between the same place and transition in the same direction.
use Rattle.std.specs.Prelude.{◌≡◌, ℕ, ◌+◌, ◌*◌, ◌-◌, ◌<◌, ◌≤◌, ◌^◌, nat_eq, Bool, true, false, List, All, length, take, sum_by, slice_index_or, Option, None, Some, if◌then◌else◌}
use Rattle.net_typing.specs.declared.arcs.ArcTyping.{ArcTyping}
use Rattle.net_typing.specs.declared.arcs.Ends.{Ends}
use Rattle.net_typing.specs.declared.inscribed.Inscribed.{Inscribed}
use Rattle.net_typing.specs.declared.inscribed.Inscribed.TheVariants as inscribed

-- a number that tells what an arc joins
abbrev pub key_of : Ends → ℕ
key_of ends = (ends.transition * 2 ^ 32 + ends.place) * 2 + (if ends.is_input then 1 else 0)

abbrev pub gross_moved : Inscribed → ℕ
gross_moved (inscribed.Dots number) = number
gross_moved (inscribed.Term c) = c.gross

abbrev pub gross_of_arc : ArcTyping → ℕ
gross_of_arc a = gross_moved a.moves

abbrev pub gross_with : ℕ → ArcTyping → ℕ
gross_with key a = if nat_eq key (key_of a.ends) then gross_of_arc a else 0

-- what the first arcs of a list move that join the same
abbrev pub weight_among : List ArcTyping → ℕ → ℕ → ℕ
weight_among arcs count key = sum_by (gross_with key) (take count arcs)

-- an arc of a list moves too much together with those in front of it, and the first that does
abbrev pub IsOver : List ArcTyping → ℕ → Type 0
IsOver arcs at = (a : ArcTyping) → a ≡ slice_index_or arcs at a → 2 ^ 63 ≤ weight_among arcs (at + 1) (key_of a.ends)

abbrev pub IsWithinWeight : List ArcTyping → ℕ → Type 0
IsWithinWeight arcs at = (a : ArcTyping) → a ≡ slice_index_or arcs at a → weight_among arcs (at + 1) (key_of a.ends) < 2 ^ 63

abbrev pub AreWithinWeight : List ArcTyping → ℕ → Type 0
AreWithinWeight arcs count = (at : ℕ) → at < count → IsWithinWeight arcs at

abbrev pub IsFirstOver : List ArcTyping → Option ℕ → Type 0
IsFirstOver arcs None = AreWithinWeight arcs (length arcs)
IsFirstOver arcs (Some at) = (at < length arcs) × IsOver arcs at × AreWithinWeight arcs at

-- no arc moves too much by itself
abbrev pub IsLight : ArcTyping → Type 0
IsLight a = gross_of_arc a < 2 ^ 63
