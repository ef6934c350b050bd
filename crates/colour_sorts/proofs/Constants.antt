-- The places of names in a part of a list of distinct names.
use Rattle.std.proofs.Common.{◌≡◌, ℕ, ◌+◌, ◌<◌, ◌≤◌, ◌⊎◌, List, [], map, take, drop, length, get_or, refl, sym, ap, ◌∙◌, arith, Some, None, Option, true, false, Bool, cond, nat_lt}
use Rattle.std.proofs.lemmas.Bool.Decides.{nat_tests}
use Rattle.std.proofs.lemmas.Cmp.{nat_list_eq_equiv}
use Rattle.std.proofs.lemmas.List.{get_or-drop, get_or-map, get_or-take, get_or_past, length-map}
use Rattle.std.proofs.lemmas.List.Quantifiers.{position-Some}
use Rattle.std.proofs.lemmas.List.Sums.{position_or_len_is}
use Rattle.std.proofs.lemmas.Map.Keys.{apart_from_distinct}
use Rattle.std.proofs.lemmas.Option.{get_or_from_slice_get, slice_get_within}
use Rattle.std.specs.Cmp.Lexicographic.{bytes_decides}
use Rattle.std.specs.List.{slice_get, IsDistinct, position_or_len}
use Rattle.std.specs.Str.{bytes_eq}
use Rattle.std.specs.Prelude.{All, MatchOption}
use Rattle.std.proofs.Common.{length-drop, length-take}
use Rattle.name_tables.specs.Numbering.{number_in}
use Rattle.colour_sorts.specs.declared.groups.Group.{Group}
use Rattle.colour_sorts.specs.Colours.{constants_at}
use Rattle.colour_sorts.specs.Groups.{is_part, names_of}
use Rattle.colour_sorts.specs.Places.{IsPlace}
use Rattle.colour_sorts.proofs.PlacesIn.{IsPlace-none, get-at, none-is-some, some-is-some}

-- a number is the place of its name
pub number_in-found : (names : List (List ℕ)) (name : List ℕ) (n : ℕ) → number_in names name ≡ Some n → slice_get names n ≡ Some name
number_in-found names name n e =
    let known = position-Some (bytes_eq name) names n name e in
    get-at names n name name known.0 (sym ((bytes_decides name (get_or names n name)).0 known.1))

pub number_in-only : (names : List (List ℕ)) (name : List ℕ) (n : ℕ) → IsDistinct bytes_eq names → slice_get names n ≡ Some name → number_in names name ≡ Some n
number_in-only names name n distinct e =
    let within : n < length names = slice_get_within names n name e in
    let here : get_or names n name ≡ name = get_or_from_slice_get names n name name e in
    let place : position_or_len (bytes_eq name) names ≡ n = position_or_len_is (bytes_eq name) names n name (omega (arith, within))
    (λ k before. nat_list_eq_equiv.symm name (get_or names k name) ∙ ap (bytes_eq (get_or names k name)) (sym here) ∙ apart_from_distinct bytes_eq names k n name distinct before within)
    (λ _. ap (bytes_eq name) here ∙ nat_list_eq_equiv.refl name) in
    found (position_or_len (bytes_eq name) names) (length names) n place within
  where
    found : (m most n : ℕ) → m ≡ n → n < most → cond (nat_lt m most) (Some m) None ≡ Some n
    found m most n e within = grind (arith, nat_tests)

-- a part of the names
pub length-part : {X : Type 0} (xs : List X) (first count : ℕ) → first + count ≤ length xs → length (take count (drop first xs)) ≡ count
length-part xs first count room = omega (arith, length-take count (drop first xs), length-drop first xs, room)

pub part-from : {X : Type 0} (xs : List X) (first count k : ℕ) (x : X) → first + count ≤ length xs → k < count → slice_get xs (first + k) ≡ Some x → slice_get (take count (drop first xs)) k ≡ Some x
part-from xs first count k x room within e =
    get-at (take count (drop first xs)) k x x (omega (arith, length-part xs first count room, within))
    (get_or-take count (drop first xs) k x within ∙ get_or-drop first xs k x ∙ get_or_from_slice_get xs (first + k) x x e)

pub part-to : {X : Type 0} (xs : List X) (first count k : ℕ) (x : X) → first + count ≤ length xs → slice_get (take count (drop first xs)) k ≡ Some x → (k < count) × (slice_get xs (first + k) ≡ Some x)
part-to xs first count k x room e =
    let within : k < count = omega (arith, slice_get_within (take count (drop first xs)) k x e, length-part xs first count room) in (
      within,
      get-at xs (first + k) x x (omega (arith, within, room))
          (sym (get_or-take count (drop first xs) k x within ∙ get_or-drop first xs k x) ∙ get_or_from_slice_get (take count (drop first xs)) k x x e),
    )

pub place-inside : (names : List (List ℕ)) (name : List ℕ) (first count number place : ℕ) → IsDistinct bytes_eq names → first + count ≤ length names
    → number_in names name ≡ Some number → number ≡ first + place → place < count → IsPlace (take count (drop first names)) name (Some place)
place-inside names name first count number place distinct room e is within = record {
  found = part-from names first count place name room within (ap (slice_get names) (sym is) ∙ number_in-found names name number e);
  only = λ at h. (let there = part-to names first count at name room h in
      let same = some-is-some number (first + at) (sym e ∙ number_in-only names name (first + at) distinct there.1) in
      let equal : place ≡ at = omega (arith, same, is) in ap Some equal);
}

pub place-outside : (names : List (List ℕ)) (name : List ℕ) (first count number : ℕ) → IsDistinct bytes_eq names → first + count ≤ length names
    → number_in names name ≡ Some number → (number < first) ⊎ (first + count ≤ number) → IsPlace (take count (drop first names)) name None
place-outside names name first count number distinct room e out = IsPlace-none (take count (drop first names)) name (λ at h.
    (let there = part-to names first count at name room h in
    let same = some-is-some number (first + at) (sym e ∙ number_in-only names name (first + at) distinct there.1) in
    omega (arith, same, out, there.0)))

pub place-nowhere : (names : List (List ℕ)) (name : List ℕ) (first count : ℕ) → IsDistinct bytes_eq names → first + count ≤ length names
    → number_in names name ≡ None → IsPlace (take count (drop first names)) name None
place-nowhere names name first count distinct room e = IsPlace-none (take count (drop first names)) name (λ at h.
    (let there = part-to names first count at name room h in
    none-is-some (first + at) (sym e ∙ number_in-only names name (first + at) distinct there.1)))

-- the constants of an group
pub constants_at-group : (names : List (List ℕ)) (groups : List Group) (at : ℕ) (d : Group) → at < length groups
    → constants_at (map (names_of names) groups) at ≡ names_of names (get_or groups at d)
constants_at-group names groups at d within = get_or-map (names_of names) groups at d [] within

pub constants_at-within : (constants : List (List (List ℕ))) (at : ℕ) → 0 < length (constants_at constants at) → at < length constants
constants_at-within constants at some = by (nat_lt at (length constants)) refl
  where
    by : (b : Bool) → nat_lt at (length constants) ≡ b → at < length constants
    by true e = grind (arith, nat_tests, e)
    by false e = absurd (let past : length constants ≤ at = grind (arith, nat_tests, e) in
        let none = ap length (get_or_past constants at [] past) in omega (arith, some, none))

pub place-by : (names : List (List ℕ)) (name : List ℕ) (first count number : ℕ) (place : Option ℕ) → IsDistinct bytes_eq names → first + count ≤ length names
    → number_in names name ≡ Some number
    → MatchOption place ((number < first) ⊎ (first + count ≤ number)) (λ place. (number ≡ first + place) × (place < count))
    → IsPlace (take count (drop first names)) name place
place-by names name first count number None distinct room e out = place-outside names name first count number distinct room e out
place-by names name first count number (Some place) distinct room e known = place-inside names name first count number place distinct room e known.0 known.1

-- the constants of a named sort are the part that its group says
pub record IsGroupAt (names : List (List ℕ)) (constants : List (List (List ℕ))) (at : ℕ) (group : Group) : Type 0 where
  pub listed : constants_at constants at ≡ names_of names group
  pub room : group.first + group.count ≤ length names
  pub count : length (constants_at constants at) ≡ group.count

abbrev pub no_group : Group
no_group = record { first = 0; count = 0 }

pub group-at : (names : List (List ℕ)) (groups : List Group) (constants : List (List (List ℕ))) (at : ℕ)
    → map (names_of names) groups ≡ constants → All (is_part names) groups → 0 < length (constants_at constants at)
    → IsGroupAt names constants at (get_or groups at no_group)
group-at names groups constants at viewed all some =
    let group = get_or groups at no_group in
    let within : at < length groups = omega (arith, length-map groups (names_of names), ap length viewed, constants_at-within constants at some) in
    let room : group.first + group.count ≤ length names = all at no_group within in
    let listed = ap (λ cs. constants_at cs at) (sym viewed) ∙ constants_at-group names groups at no_group within in
    record { listed = listed; room = room; count = ap length listed ∙ length-part names group.first group.count room }
