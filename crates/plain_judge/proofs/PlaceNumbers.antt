-- Laws of the numbers of the places of weights.
use Rattle.std.proofs.Common.{◌≡◌, ℕ, ◌+◌, ◌<◌, List, [], ◌∷◌, ◌++◌, length, map, take, get_or, Option, None, Some, pos, sym, ◌∙◌, ap, arith}
use Rattle.std.specs.Prelude.{All}
use Rattle.std.proofs.lemmas.List.{get_or-map, get_or_default, length-map, map-append, map_more}
use Rattle.name_tables.specs.Numbering.{number_in}
use Rattle.plain_model.specs.declared.certificates.Flow.{Flow}
use Rattle.plain_model.specs.declared.certificates.Weight.{Weight}
use Rattle.plain_judge.specs.Numbered.{AreNumbersOf, ArePlacesOf, AreNumbered, IsNumbered}
use Rattle.plain_judge.proofs.MetNames.{numbered_within}

abbrev number_of : List (List ℕ) → Weight → Option ℕ
number_of ids weight = number_in ids weight.place

abbrev numbers_of : List (List ℕ) → Flow → List (Option ℕ)
numbers_of ids flow = map (λ (weight : Weight). number_in ids weight.place) flow.weights

abbrev told : List ℕ → List (Option ℕ)
told numbers = map (λ (number : ℕ). Some number) numbers

-- there is one number for each weight
pub as_long : (ids : List (List ℕ)) (weights : List Weight) (numbers : List ℕ) → AreNumbersOf ids weights numbers → length numbers ≡ length weights
as_long ids weights numbers are =
    let first = length-map weights (number_of ids) in
    let second = length-map numbers (λ (number : ℕ). Some number) in
    let same = ap length are in
    omega (arith, first, second, same)

-- the number at an index is that of the place of the weight there
pub number_at : (ids : List (List ℕ)) (weights : List Weight) (numbers : List ℕ) (i : ℕ) (weight : Weight) (number : ℕ)
    → AreNumbersOf ids weights numbers → i < length weights → number_in ids (get_or weights i weight).place ≡ Some (get_or numbers i number)
number_at ids weights numbers i weight number are within =
    let long = as_long ids weights numbers are in
    sym (get_or-map (number_of ids) weights i weight None within)
    ∙ ap (λ os. get_or os i None) are
    ∙ get_or-map (λ (n : ℕ). Some n) numbers i number None (omega (arith, long, within))

-- the weight at an index
abbrev pub weight_at : List Weight → ℕ → Weight
weight_at weights i = get_or weights i (record { value = pos 0; place = [] })

pub weight_at-is : (weights : List Weight) (i : ℕ) → i < length weights → weight_at weights i ≡ get_or weights i (weight_at weights i)
weight_at-is weights i within = get_or_default weights i (record { value = pos 0; place = [] }) (weight_at weights i) within

-- the numbers are those of places
pub are_within : (ids : List (List ℕ)) (weights : List Weight) (numbers : List ℕ) → AreNumbersOf ids weights numbers → All (λ place. place < length ids) numbers
are_within ids weights numbers are =
    λ k d inside.
    let long = as_long ids weights numbers are in
    numbered_within ids (weight_at weights k).place (get_or numbers k d) (number_at ids weights numbers k (record { value = pos 0; place = [] }) d are (omega (arith, long, inside)))

-- the numbers of one weight more
pub numbers_more : (ids : List (List ℕ)) (weights : List Weight) (numbers : List ℕ) (i : ℕ) (weight : Weight) (number : ℕ)
    → i < length weights → weight ≡ get_or weights i weight → number_in ids weight.place ≡ Some number
    → AreNumbersOf ids (take i weights) numbers → AreNumbersOf ids (take (i + 1) weights) (numbers ++ number ∷ [])
numbers_more ids weights numbers i weight number within item found are =
    map_more (number_of ids) weights i weight within
    ∙ ap (λ (w : Weight). map (number_of ids) (take i weights) ++ number_of ids w ∷ []) (sym item)
    ∙ ap (λ os. os ++ number_of ids weight ∷ []) are
    ∙ ap (λ o. told numbers ++ o ∷ []) found
    ∙ sym (map-append (λ (n : ℕ). Some n) numbers (number ∷ []))

-- the numbers of one flow more
pub places_more : (ids : List (List ℕ)) (flows : List Flow) (places : List (List ℕ)) (i : ℕ) (flow : Flow) (numbers : List ℕ)
    → i < length flows → flow ≡ get_or flows i flow → AreNumbersOf ids flow.weights numbers
    → ArePlacesOf ids (take i flows) places → ArePlacesOf ids (take (i + 1) flows) (places ++ numbers ∷ [])
places_more ids flows places i flow numbers within item found are =
    map_more (numbers_of ids) flows i flow within
    ∙ ap (λ (f : Flow). map (numbers_of ids) (take i flows) ++ numbers_of ids f ∷ []) (sym item)
    ∙ ap (λ os. os ++ numbers_of ids flow ∷ []) are
    ∙ ap (λ o. map told places ++ o ∷ []) found
    ∙ sym (map-append told places (numbers ∷ []))

-- the flow with a number has its numbers
pub numbered_flow : (ids names : List (List ℕ)) (flows : List Flow) (places : List (List ℕ)) (i : ℕ) (flow : Flow) (numbers : List ℕ)
    → AreNumbered ids names flows places → i < length flows → flow ≡ get_or flows i flow → numbers ≡ get_or places i numbers → IsNumbered ids flow numbers
numbered_flow ids names flows places i flow numbers are within item same = record {
  distinct = are.distinct;
  are =
      let first = length-map flows (numbers_of ids) in
      let second = length-map places told in
      let long = ap length are.are in
      ap (numbers_of ids) item
      ∙ sym (get_or-map (numbers_of ids) flows i flow [] within)
      ∙ ap (λ os. get_or os i []) are.are
      ∙ get_or-map told places i numbers [] (omega (arith, first, second, long, within))
      ∙ ap told (sym same);
}
