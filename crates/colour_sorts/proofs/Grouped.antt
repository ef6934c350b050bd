-- Names in groups: where a name stands, and groups with one more.
use Rattle.std.proofs.Common.{◌≡◌, ℕ, zero, suc, ◌+◌, ◌-◌, ◌<◌, ◌≤◌, ◌^◌, ◌⊎◌, inl, inr, Bool, true, false, cond, nat_lt, List, [], ◌∷◌, ◌++◌, map, take, drop, length, length-append, length-drop, replicate, get_or, refl, sym, ap, ◌∙◌, arith, subst, Some, None}
use Rattle.std.proofs.lemmas.Bool.{cases_lt, false≢true}
use Rattle.std.proofs.lemmas.Bool.Decides.{nat_tests}
use Rattle.std.proofs.lemmas.Cmp.{nat_list_eq_equiv}
use Rattle.std.proofs.lemmas.List.{drop-append-le, get_or-append-add, get_or-append_right, get_or-take, take_more, get_or-map, get_or-replicate, get_or_append_left, length-map, length-replicate, append_assoc, map-append, take-append-drop, take-append-le, take_all}
use Rattle.std.proofs.Math.Seq.{drop-append_seam, take-append-add}
use Rattle.std.proofs.lemmas.List.Concat.{flat_map-append}
use Rattle.std.proofs.lemmas.List.Elements.{All-append}
use Rattle.std.proofs.lemmas.List.Sums.{position_or_len_is}
use Rattle.std.proofs.lemmas.Option.{get_or_from_slice_get, slice_get-get_or, slice_get_within}
use Rattle.std.specs.Cmp.Lexicographic.{bytes_decides}
use Rattle.std.specs.List.{slice_get, IsDistinct, list_any, position, position_or_len}
use Rattle.std.specs.Prelude.{All}
use Rattle.std.specs.Str.{bytes_eq}
use Rattle.name_tables.proofs.Places.{position_none}
use Rattle.name_tables.specs.Numbering.{IsAdded, number_in}
use Rattle.name_tables.specs.declared.numbering.Added.{Added}
use Rattle.name_tables.specs.declared.numbering.Added.TheVariants.{New, Old}
use Rattle.std.proofs.lemmas.Map.Keys.{IsDistinct-from_apart, apart_from_distinct}
use Rattle.std.proofs.lemmas.List.Quantifiers.{position-Some}
use Rattle.std.proofs.Common.{length-take}
use Rattle.colour_sorts.specs.declared.groups.Group.{Group}
use Rattle.colour_sorts.specs.Calls.{group_of, place_in}
use Rattle.colour_sorts.specs.Colours.{constants_at}
use Rattle.net_model.specs.Ids.{names_in}
use Rattle.colour_sorts.specs.Groups.{AreOwned, HasNumber, IsGrouped, is_part, names_of}
use Rattle.colour_sorts.specs.Places.{IsPlace}
use Rattle.colour_sorts.proofs.Constants.{no_group, number_in-only, part-to, place-inside, place-nowhere}
use Rattle.colour_sorts.proofs.PlacesIn.{get-at, none-is-some, some-is-some}

-- values in a list of two parts
pub left-get : {X : Type 0} (xs ys : List X) (i : ℕ) (x : X) → slice_get xs i ≡ Some x → slice_get (xs ++ ys) i ≡ Some x
left-get xs ys i x e =
    let within = slice_get_within xs i x e in
    get-at (xs ++ ys) i x x (omega (arith, within, length-append xs ys)) (get_or_append_left xs ys x i within ∙ get_or_from_slice_get xs i x x e)

pub right-get : {X : Type 0} (xs ys : List X) (i j : ℕ) (x : X) → i ≡ length xs + j → slice_get ys j ≡ Some x → slice_get (xs ++ ys) i ≡ Some x
right-get xs ys i j x is e =
    let within = slice_get_within ys j x e in
    let same : i - length xs ≡ j = omega (arith, is) in
    get-at (xs ++ ys) i x x (omega (arith, within, is, length-append xs ys))
    (get_or-append_right xs ys (length xs) i x refl (omega (arith, is)) ∙ ap (λ k. get_or ys k x) same ∙ get_or_from_slice_get ys j x x e)

pub part-get : {X : Type 0} (xs ys : List X) (i : ℕ) (x : X) → slice_get (xs ++ ys) i ≡ Some x
    → (slice_get xs i ≡ Some x) ⊎ ((j : ℕ) × (i ≡ length xs + j) × (slice_get ys j ≡ Some x))
part-get xs ys i x e = by (cases_lt i (length xs))
  where
    by : ((i < length xs) ⊎ (length xs ≤ i)) → (slice_get xs i ≡ Some x) ⊎ ((j : ℕ) × (i ≡ length xs + j) × (slice_get ys j ≡ Some x))
    by (inl less) = inl (get-at xs i x x less (sym (get_or_append_left xs ys x i less) ∙ get_or_from_slice_get (xs ++ ys) i x x e))
    by (inr more) = inr (
      i - length xs,
      omega (arith, more),
      get-at ys (i - length xs) x x (omega (arith, more, slice_get_within (xs ++ ys) i x e, length-append xs ys))
          (sym (get_or-append_right xs ys (length xs) i x refl more) ∙ get_or_from_slice_get (xs ++ ys) i x x e),
    )

pub replicate-get : {X : Type 0} (n i : ℕ) (x y : X) → slice_get (replicate n x) i ≡ Some y → (i < n) × (y ≡ x)
replicate-get n i x y e =
    let within : i < n = omega (arith, slice_get_within (replicate n x) i y e, length-replicate n x) in
    (within, sym (get_or_from_slice_get (replicate n x) i y y e) ∙ get_or-replicate n i x y within)

pub get-replicate : {X : Type 0} (n i : ℕ) (x : X) → i < n → slice_get (replicate n x) i ≡ Some x
get-replicate n i x within = get-at (replicate n x) i x x (omega (arith, within, length-replicate n x)) (get_or-replicate n i x x within)

-- a name is in a list where it has a place
pub any-place : (name : List ℕ) (xs : List (List ℕ)) → list_any (bytes_eq name) xs ≡ true → (j : ℕ) × (slice_get xs j ≡ Some name)
any-place name [] e = absurd (false≢true e)
any-place name (x ∷ xs) e = by (bytes_eq name x) refl e (any-place name xs)
  where
    by : (b : Bool) → bytes_eq name x ≡ b → list_any (bytes_eq name) (x ∷ xs) ≡ true → (list_any (bytes_eq name) xs ≡ true → (j : ℕ) × (slice_get xs j ≡ Some name))
        → (j : ℕ) × (slice_get (x ∷ xs) j ≡ Some name)
    by true same e more = (0, ap Some (sym ((bytes_decides name x).0 same)))
    by false other e more = let later = more (grind (arith, other, e)) in (suc later.0, later.1)

pub place-any : (name : List ℕ) (xs : List (List ℕ)) (j : ℕ) → slice_get xs j ≡ Some name → list_any (bytes_eq name) xs ≡ true
place-any name [] j e = absurd (none-is-some name e)
place-any name (x ∷ xs) zero e = let same : bytes_eq name x ≡ true = ap (bytes_eq name) (some-is-some x name e) ∙ nat_list_eq_equiv.refl name in grind (arith, same)
place-any name (x ∷ xs) (suc j) e = let later = place-any name xs j e in grind (arith, later)

-- the first place of a value
pub position-at : {X : Type 0} (p : X → Bool) (xs : List X) (n : ℕ) (d : X) → n < length xs → ((k : ℕ) → k < n → p (get_or xs k d) ≡ false) → p (get_or xs n d) ≡ true
    → (position_or_len p xs ≡ n) × (position p xs ≡ Some n)
position-at p xs n d within before here =
    let place = position_or_len_is p xs n d (omega (arith, within)) before (λ _. here) in
    (place, found (position_or_len p xs) (length xs) n place within)
  where
    found : (m most n : ℕ) → m ≡ n → n < most → cond (nat_lt m most) (Some m) None ≡ Some n
    found m most n e within = grind (arith, nat_tests)

pub not-true : (b : Bool) → (b ≡ true → ⊥) → b ≡ false
not-true true never = absurd (never refl)
not-true false never = refl

pub first-place : (xs : List (List ℕ)) (name : List ℕ) (k : ℕ) → IsPlace xs name (Some k) → position_or_len (bytes_eq name) xs ≡ k
first-place xs name k is =
    let within = slice_get_within xs k name is.found in
    (position-at (bytes_eq name) xs k name within
    (λ j before. not-true _ (λ e. (let there = get-at xs j name name (omega (arith, before, within)) (sym ((bytes_decides name (get_or xs j name)).0 e)) in
    let same = some-is-some k j (is.only j there) in omega (arith, before, same))))
    (ap (bytes_eq name) (get_or_from_slice_get xs k name name is.found) ∙ nat_list_eq_equiv.refl name)).0

-- where no number is the name's, no group has it
pub nowhere : (names : List (List ℕ)) (groups : List Group) (name : List ℕ) → IsDistinct bytes_eq names → All (is_part names) groups
    → number_in names name ≡ None → group_of (map (names_of names) groups) name ≡ None
nowhere names groups name distinct parts none = position_none (list_any (bytes_eq name)) (map (names_of names) groups) (all groups parts)
  where
    all : (gs : List Group) → All (is_part names) gs → list_any (list_any (bytes_eq name)) (map (names_of names) gs) ≡ false
    all [] parts = refl
    all (g ∷ gs) parts =
        let first : list_any (bytes_eq name) (names_of names g) ≡ false = not-true _ (λ e. (let there = any-place name (names_of names g) e in
        none-is-some there.0 ((place-nowhere names name g.first g.count distinct (parts 0 g (omega arith)) none).only there.0 there.1))) in
        let rest = all gs (λ i d within. parts (suc i) d (omega (arith, within))) in
        grind (arith, first, rest)

-- the group of a number
pub record IsSpot (groups : List (List (List ℕ))) (name : List ℕ) (at index : ℕ) : Type 0 where
  pub group : group_of groups name ≡ Some at
  pub place : place_in groups at name ≡ index

pub found-spot : (names : List (List ℕ)) (groups : List Group) (owners : List ℕ) (name : List ℕ) (number at : ℕ) → IsDistinct bytes_eq names → All (is_part names) groups
    → AreOwned groups owners → number_in names name ≡ Some number → slice_get owners number ≡ Some at
    → (HasNumber (get_or groups at no_group) number) × IsSpot (map (names_of names) groups) name at (number - (get_or groups at no_group).first)
found-spot names groups owners name number at distinct parts owned found is =
    let own = owned.owned number at is in
    let g = own.0 in
    let here : get_or groups at no_group ≡ g = get_or_from_slice_get groups at g no_group own.1 in
    let inside : at < length groups = slice_get_within groups at g own.1 in
    let room : is_part names g = subst (is_part names) here (parts at no_group inside) in
    let place = place-inside names name g.first g.count number (number - g.first) distinct room found (omega (arith, own.2.0)) (omega (arith, own.2.0, own.2.1)) in
    let views : get_or (map (names_of names) groups) at [] ≡ names_of names g = get_or-map (names_of names) groups at no_group [] inside ∙ ap (names_of names) here in
    let first = position-at (list_any (bytes_eq name)) (map (names_of names) groups) at [] (omega (arith, inside, length-map groups (names_of names)))
    (λ k before. not-true _ (λ e. other k before (ap (list_any (bytes_eq name)) (sym (get_or-map (names_of names) groups k no_group [] (omega (arith, before, inside)))) ∙ e) inside))
    (ap (list_any (bytes_eq name)) views ∙ place-any name (names_of names g) (number - g.first) place.found) in
    subst (λ h. HasNumber h number × IsSpot (map (names_of names) groups) name at (number - h.first)) (sym here) (
      own.2,
      record {
        group = first.1;
        place = ap (position_or_len (bytes_eq name)) views ∙ first-place (names_of names g) name (number - g.first) place;
      },
    )
  where
    other : (k : ℕ) → k < at → list_any (bytes_eq name) (names_of names (get_or groups k no_group)) ≡ true → at < length groups → ⊥
    other k before e inside =
        let h = get_or groups k no_group in
        let there = any-place name (names_of names h) e in
        let part = part-to names h.first h.count there.0 name (parts k no_group (omega (arith, before, inside))) there.1 in
        let same = some-is-some number (h.first + there.0) (sym found ∙ number_in-only names name (h.first + there.0) distinct part.1) in
        let known = owned.known number k h (slice_get-get_or groups k no_group (omega (arith, before, inside))) (omega (arith, same), omega (arith, same, part.0)) in
        let equal = some-is-some at k (sym is ∙ known) in
        omega (arith, before, equal)

-- one group more
pub parts-more : (names group : List (List ℕ)) (groups : List Group) (g : Group) → All (is_part names) groups → g.first ≡ length names → g.count ≡ length group
    → All (is_part (names ++ group)) (groups ++ g ∷ [])
parts-more names group groups g parts first count = All-append (is_part (names ++ group)) groups (g ∷ [])
    (λ i d within. omega (arith, parts i d within, length-append names group))
    (λ i d within. last i d within)
  where
    last : (i : ℕ) (d : Group) → i < 1 → is_part (names ++ group) (get_or (g ∷ []) i d)
    last zero d within = omega (arith, first, count, length-append names group)
    last (suc i) d within = absurd (omega (arith, within))

old-names : (names group : List (List ℕ)) (g : Group) → is_part names g → names_of (names ++ group) g ≡ names_of names g
old-names names group g room =
    ap (take g.count) (drop-append-le g.first names group (omega (arith, room)))
    ∙ take-append-le g.count (drop g.first names) group (let n = length-drop g.first names in omega (arith, room, n))

views-old : (names group : List (List ℕ)) (gs : List Group) → All (is_part names) gs → map (names_of (names ++ group)) gs ≡ map (names_of names) gs
views-old names group [] parts = refl
views-old names group (g ∷ gs) parts =
    ap (λ x. x ∷ map (names_of (names ++ group)) gs) (old-names names group g (parts 0 g (omega arith)))
    ∙ ap (λ xs. names_of names g ∷ xs) (views-old names group gs (λ i d within. parts (suc i) d (omega (arith, within))))

pub views-more : (names group : List (List ℕ)) (groups : List Group) (g : Group) → All (is_part names) groups → g.first ≡ length names → g.count ≡ length group
    → map (names_of (names ++ group)) (groups ++ g ∷ []) ≡ map (names_of names) groups ++ group ∷ []
views-more names group groups g parts first count =
    map-append (names_of (names ++ group)) groups (g ∷ [])
    ∙ ap (λ xs. xs ++ names_of (names ++ group) g ∷ []) (views-old names group groups parts)
    ∙ ap (λ x. map (names_of names) groups ++ x ∷ []) whole
  where
    whole : names_of (names ++ group) g ≡ group
    whole =
        ap (λ n. take n (drop g.first (names ++ group))) count
        ∙ ap (λ n. take (length group) (drop n (names ++ group))) first
        ∙ ap (take (length group)) (drop-append_seam names group)
        ∙ take_all (length group) group (omega arith)

pub joined-more : (names group : List (List ℕ)) (groups : List (List (List ℕ))) → names ≡ names_in groups → names ++ group ≡ names_in (groups ++ group ∷ [])
joined-more names group groups is =
    ap (λ xs. xs ++ group) is ∙ sym (flat_map-append (λ g. g) groups (group ∷ []) ∙ ap (λ xs. names_in groups ++ xs) (append-nil group))
  where
    append-nil : {X : Type 0} (xs : List X) → xs ++ [] ≡ xs
    append-nil [] = refl
    append-nil (x ∷ xs) = ap (λ ys. x ∷ ys) (append-nil xs)

pub owned-more : (names group : List (List ℕ)) (groups : List Group) (owners : List ℕ) (g : Group) → All (is_part names) groups → length owners ≡ length names → AreOwned groups owners
    → g.first ≡ length names → g.count ≡ length group → AreOwned (groups ++ g ∷ []) (owners ++ replicate (length group) (length groups))
owned-more names group groups owners g parts long owned first count = record {
  known = λ number at h e has. known number at h (part-get groups (g ∷ []) at h e) has;
  owned = λ number at e. own number at (part-get owners (replicate (length group) (length groups)) number at e);
}
  where
    last : (j : ℕ) (h : Group) → slice_get (g ∷ []) j ≡ Some h → (j ≡ 0) × (g ≡ h)
    last zero h e = (refl, some-is-some g h e)
    last (suc j) h e = absurd (none-is-some h e)

    known : (number at : ℕ) (h : Group) → (slice_get groups at ≡ Some h) ⊎ ((j : ℕ) × (at ≡ length groups + j) × (slice_get (g ∷ []) j ≡ Some h)) → HasNumber h number
        → slice_get (owners ++ replicate (length group) (length groups)) number ≡ Some at
    known number at h (inl old) has = left-get owners (replicate (length group) (length groups)) number at (owned.known number at h old has)
    known number at h (inr (j, is, e)) has =
        let end = last j h e in
        let same : at ≡ length groups = omega (arith, is, end.0) in
        let from = ap (λ h. h.first) end.1 in
        let long_ = ap (λ h. h.count) end.1 in
        right-get owners (replicate (length group) (length groups)) number (number - length names) at (omega (arith, has.0, from, first, long))
        (get-replicate (length group) (number - length names) (length groups) (omega (arith, has.0, has.1, from, long_, first, count)) ∙ ap Some (sym same))

    own : (number at : ℕ) → (slice_get owners number ≡ Some at) ⊎ ((j : ℕ) × (number ≡ length owners + j) × (slice_get (replicate (length group) (length groups)) j ≡ Some at))
        → (h : Group) × (slice_get (groups ++ g ∷ []) at ≡ Some h) × HasNumber h number
    own number at (inl old) = let known = owned.owned number at old in (known.0, left-get groups (g ∷ []) at known.0 known.1, known.2)
    own number at (inr (j, is, e)) =
        let here = replicate-get (length group) j (length groups) at e in
        (g, right-get groups (g ∷ []) at 0 g (omega (arith, here.1)) refl, (omega (arith, is, long, first), omega (arith, is, long, first, count, here.0)))

pub owned-none : AreOwned [] []
owned-none = record {
  known = λ number at g e has. absurd (none-is-some g e);
  owned = λ number at e. absurd (none-is-some at e);
}

-- the next name of a group is new
pub add-next : (names group : List (List ℕ)) (i : ℕ) (name : List ℕ) (added : Added) (now after : List (List ℕ)) → IsDistinct bytes_eq (names ++ group) → i < length group
    → name ≡ get_or group i name → now ≡ names ++ take i group → IsAdded now name added after → after ≡ names ++ take (i + 1) group
add-next names group i name (New at) now after distinct within is so_far (_, _, e) =
    e ∙ ap (λ xs. xs ++ name ∷ []) so_far ∙ append_assoc names (take i group) (name ∷ []) ∙ ap (λ x. names ++ (take i group ++ x ∷ [])) is ∙ ap (λ xs. names ++ xs) (sym (take_more group i name within))
add-next names group i name (Old at) now after distinct within is so_far (e, _) =
    let known = position-Some (bytes_eq name) now at name e in
    let front : now ≡ take (length names + i) (names ++ group) = so_far ∙ sym (take-append-add names group i) in
    let long : length now ≡ length names + i = ap length so_far ∙ length-append names (take i group) ∙ (let n = length-take i group in omega (arith, n, within)) in
    let before : at < length names + i = omega (arith, known.0, long) in
    let here : get_or (names ++ group) (length names + i) name ≡ name = get_or-append-add names group i name ∙ sym is in
    let there : get_or (names ++ group) at name ≡ name =
    sym (ap (λ xs. get_or xs at name) front ∙ get_or-take (length names + i) (names ++ group) at name before) ∙ sym ((bytes_decides name (get_or now at name)).0 known.1) in
    let apart = apart_from_distinct bytes_eq (names ++ group) at (length names + i) name distinct before (omega (arith, within, length-append names group)) in
    absurd (false≢true (sym apart ∙ ap (λ x. bytes_eq x (get_or (names ++ group) (length names + i) name)) there ∙ ap (bytes_eq name) here ∙ nat_list_eq_equiv.refl name))

-- a place past the end
pub get-none : {X : Type 0} (xs : List X) (i : ℕ) → slice_get xs i ≡ None → length xs ≤ i
get-none [] i e = omega arith
get-none (x ∷ xs) zero e = absurd (none-is-some x (sym e))
get-none (x ∷ xs) (suc i) e = let h = get-none xs i e in omega (arith, h)

pub grouped-more : (names group names2 : List (List ℕ)) (groups groups2 : List Group) (owners owners2 : List ℕ) (at : ℕ) (g : Group) → IsGrouped names groups owners
    → names2 ≡ names ++ group → groups2 ≡ groups ++ g ∷ [] → owners2 ≡ owners ++ replicate (length group) at → at ≡ length groups → g.first ≡ length names → g.count ≡ length group
    → IsDistinct bytes_eq (names ++ group) → length (names ++ group) < 2 ^ 32 → IsGrouped names2 groups2 owners2
grouped-more names group names2 groups groups2 owners owners2 at g (_, parts, few, owned, long, joined) is1 is2 is3 end first count distinct less =
    let now_owned = owned-more names group groups owners g parts long owned first count in
    let rest : length (owners ++ replicate (length group) (length groups)) ≡ length (names ++ group) =
    (let a = length-append owners (replicate (length group) (length groups)) in let b = length-append names group in let n = length-replicate (length group) (length groups) in omega (arith, a, b, n, long)) in
    rw (is1, is2, is3, end) (
      distinct,
      parts-more names group groups g parts first count,
      less,
      now_owned,
      rest,
      joined-more names group (map (names_of names) groups) joined ∙ ap names_in (sym (views-more names group groups g parts first count)),
    )

pub grouped-none : IsGrouped [] [] []
unfolding IsDistinct
grouped-none = (tt, (λ k d within. absurd (omega (arith, within))), omega arith, owned-none, refl, refl)

-- a group that has a name isn't empty
pub group-some : (groups : List (List (List ℕ))) (name : List ℕ) (at : ℕ) → group_of groups name ≡ Some at → 0 < length (constants_at groups at)
group-some groups name at e = by (get_or groups at []) (position-Some (list_any (bytes_eq name)) groups at [] e).1
  where
    by : (xs : List (List ℕ)) → list_any (bytes_eq name) xs ≡ true → 0 < length xs
    by [] e = absurd (false≢true e)
    by (x ∷ xs) e = omega arith

-- the first names of distinct names are distinct
pub distinct-front : (xs ys : List (List ℕ)) → IsDistinct bytes_eq (xs ++ ys) → IsDistinct bytes_eq xs
distinct-front xs ys distinct = IsDistinct-from_apart bytes_eq xs (λ i j d less within.
    ap (λ x. bytes_eq x (get_or xs j d)) (sym (get_or_append_left xs ys d i (omega (arith, less, within))))
    ∙ ap (bytes_eq (get_or (xs ++ ys) i d)) (sym (get_or_append_left xs ys d j within))
    ∙ apart_from_distinct bytes_eq (xs ++ ys) i j d distinct less (omega (arith, within, length-append xs ys)))

-- the groups in front of one, and it, and those behind it
pub names-split : (groups : List (List (List ℕ))) (i : ℕ) (g : List (List ℕ)) → i < length groups → g ≡ get_or groups i g
    → names_in groups ≡ (names_in (take i groups) ++ g) ++ names_in (drop (i + 1) groups)
names-split groups i g within is =
    ap names_in (sym (take-append-drop (i + 1) groups))
    ∙ flat_map-append (λ g. g) (take (i + 1) groups) (drop (i + 1) groups)
    ∙ ap (λ xs. xs ++ names_in (drop (i + 1) groups)) (ap names_in (take_more groups i g within ∙ ap (λ x. take i groups ++ x ∷ []) (sym is)) ∙ sym (joined-more (names_in (take i groups)) g (take i groups) refl))

pub distinct-next : (groups : List (List (List ℕ))) (i : ℕ) (g : List (List ℕ)) → i < length groups → g ≡ get_or groups i g
    → IsDistinct bytes_eq (names_in groups) → IsDistinct bytes_eq (names_in (take i groups) ++ g)
distinct-next groups i g within is distinct =
    distinct-front (names_in (take i groups) ++ g) (names_in (drop (i + 1) groups)) (subst (IsDistinct bytes_eq) (names-split groups i g within is) distinct)

pub few-next : (groups : List (List (List ℕ))) (i : ℕ) (g : List (List ℕ)) → i < length groups → g ≡ get_or groups i g
    → length (names_in (take i groups) ++ g) ≤ length (names_in groups)
few-next groups i g within is =
    omega (arith, ap length (names-split groups i g within is), length-append (names_in (take i groups) ++ g) (names_in (drop (i + 1) groups)))
