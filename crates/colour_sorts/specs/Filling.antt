-- Blocks of partitions by the numbers of colours.
use Rattle.std.specs.Prelude.{◌≡◌, ℕ, ◌<◌, ◌≤◌, ◌⊎◌, Bool, true, false, nat_eq, List, length, Option, Some, MatchOption, slice_get, slice_index_or}
use Rattle.std.specs.List.{count_by}
use Rattle.net_model.specs.declared.sorts.Block.{Block}
use Rattle.colour_sorts.specs.declared.sorts.Colour.{Colour}
use Rattle.net_model.specs.declared.sorts.Member.{Member}
use Rattle.colour_sorts.specs.Dividing.{block_with, is_colour, members_of}

-- the member is the colour at the place, and no other
pub record IsColourAt (cs : List Colour) (m : Member) (place : ℕ) : Type 0 where
  pub within : place < length cs
  pub only : (at : ℕ) (c : Colour) → slice_get cs at ≡ Some c → is_colour c m ≡ nat_eq at place

-- the place of a member among the colours, where a test tells whether it is one of them
abbrev pub IsMemberAt : List Colour → Member → Bool → Option ℕ → Type 0
IsMemberAt cs m test place = MatchOption place (test ≡ false) (λ at. (test ≡ true) × IsColourAt cs m at)

-- what stands at a colour, where these blocks are done and of the next one these members: the number of its block, or else the
-- number that stands for none
abbrev pub IsFilling : List Block → List Member → ℕ → Colour → ℕ → Type 0
IsFilling done ms most c v =
    ((count_by (is_colour c) (members_of done) ≡ 0) × (count_by (is_colour c) ms ≡ 0) × (v ≡ most))
    ⊎ (((count_by (is_colour c) (members_of done) ≡ 1) × (count_by (is_colour c) ms ≡ 0) × (v ≡ block_with done c) × (v < length done))
    ⊎ ((count_by (is_colour c) (members_of done) ≡ 0) × (count_by (is_colour c) ms ≡ 1) × (v ≡ length done)))

pub record AreFilling (cs : List Colour) (done : List Block) (ms : List Member) (most : ℕ) (blocks : List ℕ) : Type 0 where
  pub as_long : length blocks ≡ length cs
  pub filled : (at : ℕ) (c : Colour) → slice_get cs at ≡ Some c → IsFilling done ms most c (slice_index_or blocks at 0)

-- a colour stands twice among these members
abbrev pub IsTwice : List Colour → List Member → Type 0
IsTwice cs ms = (at : ℕ) × (c : Colour) × (slice_get cs at ≡ Some c) × (2 ≤ count_by (is_colour c) ms)

-- a place is free, or none is
abbrev pub HasFree : List ℕ → ℕ → Type 0
HasFree blocks most = (at : ℕ) × (at < length blocks) × (slice_index_or blocks at 0 ≡ most)

abbrev pub IsFull : List ℕ → ℕ → Type 0
IsFull blocks most = (at : ℕ) → at < length blocks → slice_index_or blocks at 0 ≡ most → ⊥
