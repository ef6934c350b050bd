-- The places of the file's net as they are read.
use Rattle.std.proofs.Common.{◌≡◌, ℕ, zero, suc, ◌+◌, ◌<◌, ◌≤◌, Bool, true, false, not, cond, List, [], ◌∷◌, ◌++◌, map, length, get_or, refl, sym, ap, subst, ◌∙◌, arith, Some, None}
use Rattle.std.specs.Prelude.{Option, nat_lt, slice_index, slice_index_or, position}
use Rattle.std.specs.List.{IsDistinct, position_or_len, range_with_len}
use Rattle.std.specs.Str.{bytes_eq}
use Rattle.std.proofs.lemmas.Bool.{cases_lt}
use Rattle.std.proofs.lemmas.List.{length-map}
use Rattle.std.proofs.lemmas.List.FromFn.{get_or-map-range_with_len, length-map-range_with_len}
use Rattle.name_tables.proofs.Places.{name_has_its_number, prefix_len-map}
use Rattle.net_model.proofs.Layers.{term-Dot}
use Rattle.net_model.specs.declared.nets.Net.{Net}
use Rattle.net_model.specs.declared.nets.Place.{Place}
use Rattle.net_model.specs.declared.sorts.SortTerm.TheVariants as written
use Rattle.net_model.specs.Ids.{constants_of}
use Rattle.colour_sorts.specs.Colours.{colours}
use Rattle.colour_sorts.specs.Naming.{enough, sort_by_part, sort_within}
use Rattle.colour_sorts.specs.declared.sorts.Sort.{Sort}
use Rattle.colour_sorts.proofs.Folds.{colours-Dot}
use Rattle.pt_net.specs.Systems.{NetSystem}
use Rattle.net_firing.specs.Coloured.{ColouredNet, ColouredPlace}
use Rattle.net_firing.specs.FileNets.{context_of, place_number, place_of, sort_of_place}
use Rattle.net_firing.specs.Laws.{start_of}
use Rattle.net_firing.specs.Markings.{pairs, pairs_from, place_at}
use Rattle.net_firing.specs.Unfolding.{counts}
use Rattle.net_firing.proofs.Lists.{get_past}
use Rattle.unfolded_files.specs.Files.{file_net, id_at, place_with, places_with}
use Rattle.unfolded_files.specs.Laws.{AreNamed, read}

-- a place of dots has one colour
dot_colours : (net : Net) (id : List ℕ) (count : ℕ) → length (colours (constants_of (context_of net).sorts) (sort_of_place net (place_with id count))) ≡ 1
dot_colours net id count =
    ap (λ (s : Sort). length (colours (constants_of (context_of net).sorts) s)) (term-Dot (sort_by_part (sort_within (context_of net).sorts (enough (context_of net).sorts)) 0))
    ∙ ap length (colours-Dot (constants_of (context_of net).sorts))

abbrev pub dots : ℕ → ColouredPlace
dots count = record { size = 1; initial = λ _. count }

abbrev sized : ℕ → ℕ → ColouredPlace
sized count size = record { size = size; initial = λ _. count }

one_place : (net : Net) (id : List ℕ) (count : ℕ) → place_of net (place_with id count) ≡ dots count
one_place net id count = ap (sized count) (dot_colours net id count)

pub read_places : (net : Net) (ids : List (List ℕ)) (initial : List ℕ) → length ids ≡ length initial → map (place_of net) (places_with ids initial) ≡ map dots initial
read_places net [] [] e = refl
read_places net [] (n ∷ initial) e = absurd (omega (arith, e))
read_places net (id ∷ ids) [] e = absurd (omega (arith, e))
read_places net (id ∷ ids) (n ∷ initial) e =
    ap (λ (p : ColouredPlace). p ∷ map (place_of net) (places_with ids initial)) (one_place net id n)
    ∙ ap (λ (ps : List ColouredPlace). dots n ∷ ps) (read_places net ids initial (omega (arith, e)))

-- the pairs of such places, and their counts
pairs_of_dots : (first : ℕ) (initial : List ℕ) → pairs_from first (map dots initial) ≡ map {B = ℕ × ℕ} (λ p. (p, 0)) (range_with_len first (length initial))
pairs_of_dots first [] = refl
pairs_of_dots first (n ∷ initial) = ap (λ (es : List (ℕ × ℕ)). (first, 0) ∷ es) (pairs_of_dots (first + 1) initial)

pub counts_of_dots : (net : ColouredNet) (initial : List ℕ) (f : ℕ → ℕ → ℕ) → net.places ≡ map dots initial → counts net f ≡ map (λ p. f p 0) (range_with_len 0 (length initial))
counts_of_dots net initial f is =
    ap (λ (ps : List ColouredPlace). map (λ (e : ℕ × ℕ). f e.0 e.1) (pairs_from 0 ps)) is
    ∙ ap (map (λ (e : ℕ × ℕ). f e.0 e.1)) (pairs_of_dots 0 initial)
    ∙ mapped (range_with_len 0 (length initial))
  where
    mapped : (xs : List ℕ) → map (λ (e : ℕ × ℕ). f e.0 e.1) (map {B = ℕ × ℕ} (λ p. (p, 0)) xs) ≡ map (λ p. f p 0) xs
    mapped [] = refl
    mapped (x ∷ xs) = ap (λ ys. f x 0 ∷ ys) (mapped xs)

-- the count of each place, and past all
pub count_inside : (net : ColouredNet) (initial : List ℕ) (f : ℕ → ℕ → ℕ) (p : ℕ) → net.places ≡ map dots initial → p < length initial → slice_index (counts net f) p ≡ f p 0
count_inside net initial f p is inside =
    ap (λ xs. slice_index xs p) (counts_of_dots net initial f is) ∙ get_or-map-range_with_len (λ p. f p 0) 0 (length initial) p p 0 inside (omega arith)

pub count_past : (net : ColouredNet) (initial : List ℕ) (f : ℕ → ℕ → ℕ) (p : ℕ) → net.places ≡ map dots initial → length initial ≤ p → slice_index (counts net f) p ≡ 0
count_past net initial f p is high =
    ap (λ xs. slice_index xs p) (counts_of_dots net initial f is)
    ∙ get_past (map (λ p. f p 0) (range_with_len 0 (length initial))) p (omega (arith, high, length-map-range_with_len (λ p. f p 0) 0 (length initial)))

pub long_counts : (net : ColouredNet) (initial : List ℕ) (f : ℕ → ℕ → ℕ) → net.places ≡ map dots initial → length (counts net f) ≡ length initial
long_counts net initial f is = ap length (counts_of_dots net initial f is) ∙ length-map-range_with_len (λ p. f p 0) 0 (length initial)

pub start_inside : (initial : List ℕ) (p : ℕ) → p < length initial → (place_at (map dots initial) p).initial 0 ≡ slice_index initial p
start_inside [] p inside = absurd (omega (arith, inside))
start_inside (n ∷ initial) zero inside = refl
start_inside (n ∷ initial) (suc p) inside = start_inside initial p (omega (arith, inside))

-- the number of a place by its id
pub ids_of : (ids : List (List ℕ)) (initial : List ℕ) → length ids ≡ length initial → map (λ (p : Place). p.id) (places_with ids initial) ≡ ids
ids_of [] [] e = refl
ids_of [] (n ∷ initial) e = absurd (omega (arith, e))
ids_of (id ∷ ids) [] e = absurd (omega (arith, e))
ids_of (id ∷ ids) (n ∷ initial) e = ap (λ (rest : List (List ℕ)). id ∷ rest) (ids_of ids initial (omega (arith, e)))

place_by : (place most at : ℕ) (less : Bool) → cond less (Some place) None ≡ Some at → place ≡ at
place_by place most at true e = cc
place_by place most at false e = absurd (clash at e)
  where
    clash : {A : Type 0} (x : A) → ◌≡◌ {A = Option A} None (Some x) → ⊥
    clash x e = cc

pub numbered : (id : List ℕ) (places transitions : List (List ℕ)) (u : NetSystem) (p : ℕ) → AreNamed places transitions u → p < length places
    → place_number (file_net id places transitions u) (id_at places p) ≡ p
numbered id places transitions u p named inside =
    let name = id_at places p in
    let known = name_has_its_number places p [] named.places_differ inside in
    sym (prefix_len-map (λ (q : Place). q.id) (λ (other : List ℕ). not (bytes_eq name other)) (places_with places u.initial))
    ∙ ap (position_or_len (bytes_eq name)) (ids_of places u.initial named.each_place)
    ∙ place_by (position_or_len (bytes_eq name) places) (length places) p (nat_lt (position_or_len (bytes_eq name) places) (length places)) known
