-- Facts about readings of trees and of lists of trees.
use Rattle.std.proofs.Common.{◌≡◌, subst, ℕ, ◌+◌, ◌*◌, ◌<◌, ◌≤◌, Bool, true, false, List, [], ◌∷◌, length, drop, get_or, refl, ap, sym, ◌∙◌, arith, drop-cons, add-one}
use Rattle.std.specs.Prelude.{◌&&◌}
use Rattle.std.proofs.Math.Nat.{mul-le-mul_left}
use Rattle.std.proofs.lemmas.Bool.Decides.{nat_tests}
use Rattle.multiset_terms.specs.declared.trees.Tree.{Tree, fold-roll-Tree}
use Rattle.multiset_terms.specs.declared.trees.Tree.TheVariants.{Next, Before, rolls-Next, rolls-Before}
use Rattle.multiset_terms.specs.declared.trees.Tree.TheOpen as layer
use Rattle.multiset_terms.specs.Trees.{Reading, reading, reading_of_parts, readings, are_colours, tuple_size, tuple_place}

pub and-true : (a b : Bool) → (a && b) ≡ true → (a ≡ true) × (b ≡ true)
and-true true b h = (refl, h)
and-true false b h = absurd (grind (arith, nat_tests))

pub reading-Next : (b : List ℕ) (size : ℕ) (c : Tree) → reading b (Next size c) ≡ reading_of_parts b (layer.Next size (reading b c))
reading-Next b size c = ap (reading b) (sym (rolls-Next size c)) ∙ fold-roll-Tree Reading (reading_of_parts b) (layer.Next size c)

pub reading-Before : (b : List ℕ) (size : ℕ) (c : Tree) → reading b (Before size c) ≡ reading_of_parts b (layer.Before size (reading b c))
reading-Before b size c = ap (reading b) (sym (rolls-Before size c)) ∙ fold-roll-Tree Reading (reading_of_parts b) (layer.Before size c)

next-size : (b : List ℕ) (size : ℕ) (c : Reading) → (reading_of_parts b (layer.Next size c)).is_sound ≡ true → c.size ≡ size
next-size b size c h = grind (arith, nat_tests)

before-size : (b : List ℕ) (size : ℕ) (c : Reading) → (reading_of_parts b (layer.Before size c)).is_sound ≡ true → c.size ≡ size
before-size b size c h = grind (arith, nat_tests)

pub size-Next : (b : List ℕ) (size : ℕ) (c : Tree) → (reading b (Next size c)).is_sound ≡ true → (reading b c).size ≡ size
size-Next b size c h = next-size b size (reading b c) (ap (λ r. r.is_sound) (sym (reading-Next b size c)) ∙ h)

pub size-Before : (b : List ℕ) (size : ℕ) (c : Tree) → (reading b (Before size c)).is_sound ≡ true → (reading b c).size ≡ size
size-Before b size c h = before-size b size (reading b c) (ap (λ r. r.is_sound) (sym (reading-Before b size c)) ∙ h)

-- the reading in front of the others
pub readings-drop : (b : List ℕ) (parts : List Tree) (i : ℕ) (d : Tree) → i < length parts
    → readings b (drop i parts) ≡ reading b (get_or parts i d) ∷ readings b (drop (i + 1) parts)
readings-drop b parts i d within = rw (add-one, drop-cons parts i d) refl

pub record IsColour (c : Reading) : Type 0 where
  pub sound : c.is_sound ≡ true
  pub colour : c.is_colour ≡ true
  pub choice : c.is_choice ≡ true
  pub within : c.place < c.size

pub colours-head : (c : Reading) (cs : List Reading) → are_colours (c ∷ cs) ≡ true → IsColour c
colours-head c cs h = record { sound = grind (arith, nat_tests); colour = grind (arith, nat_tests); choice = grind (arith, nat_tests); within = grind (arith, nat_tests) }

pub colours-tail : (c : Reading) (cs : List Reading) → are_colours (c ∷ cs) ≡ true → are_colours cs ≡ true
colours-tail c cs h = grind (arith, nat_tests)

pub colours-some : (cs : List Reading) → are_colours cs ≡ true → 1 ≤ tuple_size cs
colours-some [] h = omega arith
colours-some (c ∷ cs) h =
    let first = (colours-head c cs h).within in
    let rest = colours-some cs (colours-tail c cs h) in
    let more : c.size * 1 ≤ c.size * tuple_size cs = mul-le-mul_left c.size rest in
    omega arith

-- one more component of a tuple stays in range
pub front-within : (at size place rest total : ℕ) → (at + 1) * (size * rest) ≤ total → place < size → (at * size + place + 1) * rest ≤ total
front-within at size place rest total known within = grind arith

pub front-fits : (at size place rest total : ℕ) → (at + 1) * (size * rest) ≤ total → place < size → 1 ≤ rest → at * size + size ≤ total
front-fits at size place rest total known within some =
    let less : (at + 1) * (size * 1) ≤ (at + 1) * (size * rest) = mul-le-mul_left (at + 1) (mul-le-mul_left size some) in
    omega arith

-- one component of a tuple that is read from the front
pub record TupleStep (front : ℕ) (whole : ℕ) (total : ℕ) (c : Reading) (cs : List Reading) : Type 0 where
  pub colour : IsColour c
  pub room : front * c.size + c.size ≤ total
  pub place : tuple_place (front * c.size + c.place) cs ≡ whole
  pub colours : are_colours cs ≡ true
  pub within : (front * c.size + c.place + 1) * tuple_size cs ≤ total

pub tuple-step : (front whole total : ℕ) (c : Reading) (cs all : List Reading) → all ≡ c ∷ cs → tuple_place front all ≡ whole → are_colours all ≡ true
    → (front + 1) * tuple_size all ≤ total → TupleStep front whole total c cs
tuple-step front whole total c cs all is place colours within =
    let known = ap are_colours (sym is) ∙ colours in
    let first = colours-head c cs known in
    let room : (front + 1) * (c.size * tuple_size cs) ≤ total = subst (λ rs. (front + 1) * tuple_size rs ≤ total) is within in
    record {
      colour = first;
      room = front-fits front c.size c.place (tuple_size cs) total room first.within (colours-some cs (colours-tail c cs known));
      place = ap (tuple_place front) (sym is) ∙ place;
      colours = colours-tail c cs known;
      within = front-within front c.size c.place (tuple_size cs) total room first.within;
    }
