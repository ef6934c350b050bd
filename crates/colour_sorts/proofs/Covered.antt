-- Whether all places are filled, and what the blocks are then.
use Rattle.std.proofs.Common.{◌≡◌, ℕ, zero, suc, ◌<◌, inl, inr, Bool, true, false, cond, not, List, [], ◌∷◌, ◌++◌, take, map, length, get_or, refl, sym, ap, ◌∙◌, arith, Some, None}
use Rattle.std.proofs.lemmas.Bool.Decides.{nat_tests}
use Rattle.std.proofs.lemmas.List.{ext_get_or, get_or-map, length-map}
use Rattle.std.proofs.lemmas.Option.{slice_get-get_or, slice_get_within}
use Rattle.std.specs.List.{count_by, list_all, slice_get}
use Rattle.std.specs.Prelude.{◌==◌}
use Rattle.std.proofs.Math.Seq.{take-append_seam}
use Rattle.colour_sorts.specs.declared.rules.Rule.TheVariants as rule
use Rattle.colour_sorts.specs.declared.sorts.Colour.{Colour}
use Rattle.colour_sorts.specs.declared.sorts.Colour.TheVariants as colour
use Rattle.net_model.specs.declared.sorts.Block.{Block}
use Rattle.colour_sorts.specs.Dividing.{block_with, is_colour, members_of}
use Rattle.colour_sorts.specs.Filling.{AreFilling, IsFilling, IsTwice}
use Rattle.colour_sorts.proofs.Grouped.{not-true}

-- each colour of a list stands once among the members of the blocks
abbrev stands_once : List Block → Colour → Bool
stands_once elements c = count_by (is_colour c) (members_of elements) == 1

all-at : (p : Colour → Bool) (cs : List Colour) → ((j : ℕ) (c : Colour) → slice_get cs j ≡ Some c → p c ≡ true) → list_all p cs ≡ true
all-at p [] h = refl
all-at p (c ∷ cs) h = let first = h 0 c refl in let rest = all-at p cs (λ j d e. h (suc j) d e) in grind (arith, first, rest)

at-all : (p : Colour → Bool) (cs : List Colour) (j : ℕ) (c : Colour) → slice_get cs j ≡ Some c → list_all p cs ≡ true → p c ≡ true
at-all p [] j c e h = absurd (absent c e)
  where
    absent : (c : Colour) → None ≡ Some c → ⊥
    absent c e = grind arith
at-all p (d ∷ cs) zero c e h = ap p (sym (same d c e)) ∙ (let first : p d ≡ true = grind (arith, h) in first)
  where
    same : (d c : Colour) → Some d ≡ Some c → d ≡ c
    same d c e = grind (arith, e)
at-all p (d ∷ cs) (suc j) c e h = at-all p cs j c e (grind (arith, h))

-- where no place is free each colour stands once
pub full-covered : (cs : List Colour) (elements : List Block) (most : ℕ) (blocks : List ℕ) → AreFilling cs elements [] most blocks
    → ((j : ℕ) → j < length blocks → get_or blocks j 0 ≡ most → ⊥) → list_all (stands_once elements) cs ≡ true
full-covered cs elements most blocks filling full = all-at (stands_once elements) cs (λ j c e. by j c e (filling.filled j c e))
  where
    by : (j : ℕ) (c : Colour) → slice_get cs j ≡ Some c → IsFilling elements [] most c (get_or blocks j 0) → stands_once elements c ≡ true
    by j c e (inl (_, _, v)) = absurd (full j (omega (arith, slice_get_within cs j c e, filling.as_long)) v)
    by j c e (inr (inl (a, _, _, _))) = grind (arith, nat_tests, a)
    by j c e (inr (inr (_, b, _))) = absurd (omega (arith, b))

pub full-blocks : (cs : List Colour) (elements : List Block) (most : ℕ) (blocks : List ℕ) → AreFilling cs elements [] most blocks
    → ((j : ℕ) → j < length blocks → get_or blocks j 0 ≡ most → ⊥) → blocks ≡ map (block_with elements) cs
full-blocks cs elements most blocks filling full = ext_get_or 0 blocks (map (block_with elements) cs) (filling.as_long ∙ sym (length-map cs (block_with elements)))
    (λ j within. (let inside : j < length cs = omega (arith, within, filling.as_long) in
    by j (get_or cs j colour.Dot) within (filling.filled j (get_or cs j colour.Dot) (slice_get-get_or cs j colour.Dot inside)) ∙ sym (get_or-map (block_with elements) cs j colour.Dot 0 inside)))
  where
    by : (j : ℕ) (c : Colour) → j < length blocks → IsFilling elements [] most c (get_or blocks j 0) → get_or blocks j 0 ≡ block_with elements c
    by j c within (inl (_, _, v)) = absurd (full j within v)
    by j c within (inr (inl (_, _, v, _))) = v
    by j c within (inr (inr (_, b, _))) = absurd (omega (arith, b))

-- a free place, and a colour that stands twice
pub free-uncovered : (cs : List Colour) (elements : List Block) (most j : ℕ) (blocks : List ℕ) → AreFilling cs elements [] most blocks → most ≡ length elements
    → j < length blocks → get_or blocks j 0 ≡ most → list_all (stands_once elements) cs ≡ false
free-uncovered cs elements most j blocks filling end within free =
    let inside : j < length cs = omega (arith, within, filling.as_long) in
    let there = slice_get-get_or cs j colour.Dot inside in
    not-true _ (λ all. by (get_or cs j colour.Dot) (filling.filled j (get_or cs j colour.Dot) there) (at-all (stands_once elements) cs j (get_or cs j colour.Dot) there all))
  where
    by : (c : Colour) → IsFilling elements [] most c (get_or blocks j 0) → stands_once elements c ≡ true → ⊥
    by c (inl (a, _, _)) once = grind (arith, nat_tests, a, once)
    by c (inr (inl (_, _, _, small))) once = omega (arith, small, free, end)
    by c (inr (inr (_, b, _))) once = omega (arith, b)

pub twice-uncovered : (cs : List Colour) (elements : List Block) → IsTwice cs (members_of elements) → list_all (stands_once elements) cs ≡ false
twice-uncovered cs elements (j, c, e, two) = not-true _ (λ all. (let once = at-all (stands_once elements) cs j c e all in grind (arith, nat_tests, two, once)))

-- the last rule of partitions
pub cover-rule : (d m v x : Bool) → d ≡ true → m ≡ true → v ≡ x
    → cond (not d) (Some rule.PartitionSort) (cond (not m) (Some rule.PartitionMember) (cond (not v) (Some rule.PartitionCover) None)) ≡ cond (not x) (Some rule.PartitionCover) None
cover-rule d m v x ed em ev = rw (ed, em, ev) refl

pub spliced : (n : ℕ) (new rest : List ℕ) → n ≡ length new → take n (new ++ rest) ≡ new
spliced n new rest e = ap (λ k. take k (new ++ rest)) e ∙ take-append_seam new rest
