-- Instances of the definitions that were worked out by hand.
use Rattle.std.specs.Prelude.{◌≡◌, ℕ, pos, List, [], ◌∷◌, codes}
use Rattle.net_model.specs.declared.sorts.Block.{Block}
use Rattle.net_model.specs.declared.sorts.Member.TheVariants as member
use Rattle.colour_sorts.specs.declared.sorts.Colour.{Colour}
use Rattle.colour_sorts.specs.declared.sorts.Colour.TheVariants as colour
use Rattle.colour_sorts.specs.declared.sorts.Sort.{Sort}
use Rattle.colour_sorts.specs.declared.sorts.Sort.TheVariants as sort
use Rattle.colour_sorts.specs.Colours.{colours, size, tuple}
use Rattle.colour_sorts.specs.Dividing.{block_with}
use Rattle.colour_sorts.specs.Limits.{depth, sorts_in}
use Rattle.colour_sorts.specs.Places.{before_of, next_of}

-- an enumeration of `a` and `b`, and a cyclic one of `c` and `d`
abbrev pub two_lists : List (List (List ℕ))
two_lists = (codes "a" ∷ codes "b" ∷ []) ∷ (codes "c" ∷ codes "d" ∷ []) ∷ []

abbrev pub pair : List ℕ → List ℕ → Colour
pair first second = tuple (colour.Constant first ∷ colour.Constant second ∷ [])

-- the blocks of `c1` and `c2`, and of `c3`
abbrev pub two_blocks : List Block
two_blocks =
    record { id = codes "e"; members = member.Constant (codes "c1") ∷ member.Constant (codes "c2") ∷ [] }
    ∷ record { id = codes "f"; members = member.Constant (codes "c3") ∷ [] } ∷ []

abbrev pub dot_alone : Sort
dot_alone = sort.Product (sort.Dot ∷ [])

pub record WorkedInstances : Type 0 where
  -- the first component of a tuple is the most significant
  pub order : colours two_lists (sort.Product (sort.Listed 0 ∷ sort.Cyclic 1 ∷ []))
      ≡ pair (codes "a") (codes "c") ∷ pair (codes "a") (codes "d") ∷ pair (codes "b") (codes "c") ∷ pair (codes "b") (codes "d") ∷ []
  -- the first of three follows the last, and the last is before the first
  pub next : next_of 3 0 ≡ 1
  pub wrap : next_of 3 2 ≡ 0
  pub wrap_back : before_of 3 0 ≡ 2
  -- a range that is upside down has no numbers
  pub upside_down : size [] (sort.Range (record { first = pos 3; last = pos 1 })) ≡ 0
  -- the first and the second block
  pub first_block : block_with two_blocks (colour.Constant (codes "c2")) ≡ 0
  pub second_block : block_with two_blocks (colour.Constant (codes "c3")) ≡ 1
  -- the product of dot alone has two sorts in it, one above the other
  pub sorts : sorts_in dot_alone ≡ 2
  pub deep : depth dot_alone ≡ 2
