-- What is known of the files of the outside: which names are held, and the bytes of each.
use Rattle.std.specs.Prelude.{◌≡◌, ℕ, List, Option, Some, None, ⊤}
use Rattle.std.specs.Ordering.{nat_cmp}
use Rattle.std.specs.Cmp.Lexicographic.{slice_cmp}
use Rattle.std.specs.FinMap as map

-- a finite map from names to the bytes of their files
abbrev pub Held : Type 0
Held = map.FinMap (slice_cmp nat_cmp) (List ℕ)

-- the bytes that are held under a name
abbrev pub bytes_of : Held → List ℕ → Option (List ℕ)
bytes_of held name = map.get held name

-- a name was opened: it is held, and all its bytes are left to read. Where nothing is told, this claims nothing
abbrev pub IsOpened : Option Held → List ℕ → Option (List ℕ) → Type 0
IsOpened None name left = ⊤
IsOpened (Some held) name left = (bytes : List ℕ) × (bytes_of held name ≡ Some bytes) × (left ≡ Some bytes)

-- it is told which names are held, and this one is not
abbrev pub IsUnheld : Option Held → List ℕ → Type 0
IsUnheld None name = ⊥
IsUnheld (Some held) name = bytes_of held name ≡ None
