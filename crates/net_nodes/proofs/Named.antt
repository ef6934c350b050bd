-- The node of an id, from the number of the id among all.
use Rattle.std.proofs.Common.{◌≡◌, ℕ, ◌+◌, ◌<◌, ◌≤◌, Bool, true, false, cond, List, [], ◌∷◌, ◌++◌, take, drop, length, refl, sym, ap, ◌∙◌, arith, None, Some}
use Rattle.std.specs.Prelude.{Option}
use Rattle.std.specs.List.{position_from}
use Rattle.std.specs.Option.{option_map, option_or, unwrap_or}
use Rattle.std.specs.Str.{bytes_eq}
use Rattle.std.proofs.lemmas.Bool.Decides.{nat_tests}
use Rattle.std.proofs.lemmas.Iterator.Adapters.{position_from-zero}
use Rattle.std.proofs.lemmas.List.{length-drop, length-take-le, take-append-drop}
use Rattle.std.proofs.lemmas.Option.{none-some}
use Rattle.name_tables.specs.Numbering.{number_in}
use Rattle.net_nodes.specs.declared.nodes.Node.{Node}
use Rattle.net_nodes.specs.declared.nodes.Node.TheVariants as node
use Rattle.net_nodes.specs.Nodes.{named_among}
use Rattle.net_nodes.specs.Numbered.{cut, node_at}

-- the first place that passes a test, in a list that starts at a number
from-shift : {A : Type 0} (p : A → Bool) (i k : ℕ) (xs : List A) → position_from p (i + k) xs ≡ option_map (λ n. i + n) (position_from p k xs)
from-shift p i k [] = refl
from-shift p i k (x ∷ xs) = by (p x) (ap (λ n. position_from p n xs) (omega arith) ∙ from-shift p i (k + 1) xs)
  where
    by : (b : Bool) → position_from p (i + k + 1) xs ≡ option_map (λ n. i + n) (position_from p (k + 1) xs)
        → cond b (Some (i + k)) (position_from p (i + k + 1) xs) ≡ option_map (λ n. i + n) (cond b (Some k) (position_from p (k + 1) xs))
    by true h = refl
    by false h = h

from-append : {A : Type 0} (p : A → Bool) (i : ℕ) (xs ys : List A) → position_from p i (xs ++ ys) ≡ option_or (position_from p i xs) (position_from p (i + length xs) ys)
from-append p i [] ys = ap (λ n. position_from p n ys) (omega arith)
from-append p i (x ∷ xs) ys = by (p x) (from-append p (i + 1) xs ys ∙ ap (λ n. option_or (position_from p (i + 1) xs) (position_from p n ys)) (omega arith))
  where
    by : (b : Bool) → position_from p (i + 1) (xs ++ ys) ≡ option_or (position_from p (i + 1) xs) (position_from p (i + length (x ∷ xs)) ys)
        → cond b (Some i) (position_from p (i + 1) (xs ++ ys)) ≡ option_or (cond b (Some i) (position_from p (i + 1) xs)) (position_from p (i + length (x ∷ xs)) ys)
    by true h = refl
    by false h = h

from-within : {A : Type 0} (p : A → Bool) (i : ℕ) (xs : List A) (n : ℕ) → position_from p i xs ≡ Some n → n < i + length xs
from-within p i [] n e = absurd (none-some n e)
from-within p i (x ∷ xs) n e = by (p x) e (from-within p (i + 1) xs n)
  where
    by : (b : Bool) → cond b (Some i) (position_from p (i + 1) xs) ≡ Some n → (position_from p (i + 1) xs ≡ Some n → n < i + 1 + length xs) → n < i + length (x ∷ xs)
    by true is h = let same : i ≡ n = ap (λ o. unwrap_or o n) is in omega (arith, same)
    by false is h = let less = h is in omega (arith, less)

from : (names : List (List ℕ)) (id : List ℕ) → number_in names id ≡ position_from (bytes_eq id) 0 names
from names id = position_from-zero (bytes_eq id) names

pub number-within : (names : List (List ℕ)) (id : List ℕ) (n : ℕ) → number_in names id ≡ Some n → n < length names
number-within names id n e = let h = from-within (bytes_eq id) 0 names n (sym (from names id) ∙ e) in omega (arith, h)

number-append : (xs ys : List (List ℕ)) (id : List ℕ) → number_in (xs ++ ys) id ≡ option_or (number_in xs id) (option_map (λ n. length xs + n) (number_in ys id))
number-append xs ys id =
    from (xs ++ ys) id
    ∙ from-append (bytes_eq id) 0 xs ys
    ∙ ap (λ o. option_or o (position_from (bytes_eq id) (0 + length xs) ys)) (sym (from xs id))
    ∙ ap (λ n. option_or (number_in xs id) (position_from (bytes_eq id) n ys)) (omega arith)
    ∙ ap (option_or (number_in xs id)) (from-shift (bytes_eq id) (length xs) 0 ys ∙ ap (option_map (λ n. length xs + n)) (sym (from ys id)))

pub is-place : (p t n : ℕ) → n < p → node_at p t n ≡ node.Place n
is-place p t n h = grind (arith, nat_tests)

pub is-transition : (p t n m : ℕ) → n ≡ p + m → m < t → node_at p t n ≡ node.Transition m
is-transition p t n m is h = grind (arith, nat_tests)

pub is-reference : (p t n m : ℕ) → n ≡ p + (t + m) → node_at p t n ≡ node.Reference m
is-reference p t n m is = grind (arith, nat_tests)

named-joined : (a b c : List (List ℕ)) (id : List ℕ)
    → named_among (record { places = a; transitions = b; references = c }) id ≡ option_map (node_at (length a) (length b)) (number_in (a ++ (b ++ c)) id)
named-joined a b c id =
    by (number_in a id) (number_in b id) (number_in c id) (number-within a id) (number-within b id)
    ∙ ap (option_map (node_at (length a) (length b))) (sym (number-append a (b ++ c) id ∙ ap (λ o. option_or (number_in a id) (option_map (λ n. length a + n) o)) (number-append b c id)))
  where
    by : (x y z : Option ℕ) → ((n : ℕ) → x ≡ Some n → n < length a) → ((n : ℕ) → y ≡ Some n → n < length b)
        → option_or (option_map node.Place x) (option_or (option_map node.Transition y) (option_map node.Reference z))
        ≡ option_map (node_at (length a) (length b)) (option_or x (option_map (λ n. length a + n) (option_or y (option_map (λ n. length b + n) z))))
    by (Some n) y z in-a in-b = ap Some (sym (is-place (length a) (length b) n (in-a n refl)))
    by None (Some n) z in-a in-b = ap Some (sym (is-transition (length a) (length b) (length a + n) n refl (in-b n refl)))
    by None None (Some n) in-a in-b = ap Some (sym (is-reference (length a) (length b) (length a + (length b + n)) n refl))
    by None None None in-a in-b = refl

-- the node of an id in a list that is cut in three
pub named-cut : (p t : ℕ) (ids : List (List ℕ)) (id : List ℕ) → p + t ≤ length ids → named_among (cut p t ids) id ≡ option_map (node_at p t) (number_in ids id)
named-cut p t ids id within =
    named-joined (take p ids) (take t (drop p ids)) (drop t (drop p ids)) id
    ∙ ap (λ xs. option_map (node_at (length (take p ids)) (length (take t (drop p ids)))) (number_in xs id))
    (ap (λ xs. take p ids ++ xs) (take-append-drop t (drop p ids)) ∙ take-append-drop p ids)
    ∙ ap (λ n. option_map (node_at n (length (take t (drop p ids)))) (number_in ids id)) (length-take-le p ids (omega (arith, within)))
    ∙ ap (λ n. option_map (node_at p n) (number_in ids id)) (length-take-le t (drop p ids) (let l = length-drop p ids in omega (arith, within, l)))

pub named-at : (p t : ℕ) (ids : List (List ℕ)) (id : List ℕ) (at : ℕ) (found : Node) → p + t ≤ length ids → number_in ids id ≡ Some at → node_at p t at ≡ found → named_among (cut p t ids) id ≡ Some found
named-at p t ids id at found within is are = named-cut p t ids id within ∙ ap (option_map (node_at p t)) is ∙ ap Some are

pub named-none : (p t : ℕ) (ids : List (List ℕ)) (id : List ℕ) → p + t ≤ length ids → number_in ids id ≡ None → named_among (cut p t ids) id ≡ None
named-none p t ids id within is = named-cut p t ids id within ∙ ap (option_map (node_at p t)) is
