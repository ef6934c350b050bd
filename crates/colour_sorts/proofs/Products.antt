-- The facts of a product, from those of its components one after the other.
use Rattle.std.proofs.Common.{◌≡◌, ℕ, zero, suc, ◌+◌, ◌*◌, ◌<◌, ◌≤◌, Bool, true, false, ◌||◌, ◌&&◌, List, [], ◌∷◌, map, length, drop, get_or, min, max, nat_le, refl, sym, ap, ◌∙◌, arith, subst}
use Rattle.std.proofs.Math.Bool.{and_assoc, or_assoc}
use Rattle.std.proofs.Math.Nat.{mul_assoc, mul_comm, one-mul, le-mul_of_pos_right, mul-zero, mul-one}
use Rattle.std.proofs.lemmas.Bool.Decides.{nat_tests}
use Rattle.std.proofs.lemmas.List.{drop_all, length-map}
use Rattle.std.specs.List.{list_all, list_any}
use Rattle.std.specs.Prelude.{◌==◌}
use Rattle.colour_sorts.specs.declared.facts.Facts.{Facts}
use Rattle.colour_sorts.specs.declared.facts.Mark.{Mark}
use Rattle.net_model.specs.declared.sorts.NamedSort.{NamedSort}
use Rattle.net_model.specs.declared.sorts.SortTerm.{SortTerm}
use Rattle.net_model.specs.declared.sorts.SortTerm.TheVariants as term
use Rattle.colour_sorts.specs.declared.sorts.Sort.{Sort}
use Rattle.colour_sorts.specs.declared.sorts.Sort.TheVariants as sort
use Rattle.colour_sorts.specs.Colours.{colours, size, tuples}
use Rattle.colour_sorts.specs.Limits.{all_together, depth, depth_part, greatest, is_upside_down, is_upside_down_part, lacks_components, lacks_components_part, lacks_constants, lacks_constants_part, sorts_in, sorts_in_part}
use Rattle.net_model.specs.Ids.{constants_of}
use Rattle.colour_sorts.specs.Naming.{ends_within, is_known_within, names_pass, names_pass_part, sort_by, sort_by_part, sort_within}
use Rattle.colour_sorts.specs.Judging.{IsFacts, IsJudged, IsWaiting, joined}
use Rattle.colour_sorts.specs.Searching.{Has, places_named}
use Rattle.colour_sorts.proofs.Folds.{size-Product}
use Rattle.net_model.proofs.Layers.{term-Product}
use Rattle.colour_sorts.proofs.Layers.{at-Product}
use Rattle.colour_sorts.proofs.Has.{has-part}
use Rattle.colour_sorts.proofs.Named.{places-Product}
use Rattle.colour_sorts.proofs.Tuples.{length-tuples, step}

-- the facts of a product of sorts, where its first components are joined and the rest are to be
pub record IsGrowing (constants : List (List (List ℕ))) (rest whole : List Sort) (f : Facts) : Type 0 where
  pub upside : (f.is_upside_down || list_any (λ b. b) (map is_upside_down rest)) ≡ list_any (λ b. b) (map is_upside_down whole)
  pub no_constants : (f.lacks_constants || list_any (λ b. b) (map (lacks_constants constants) rest)) ≡ list_any (λ b. b) (map (lacks_constants constants) whole)
  pub no_components : (f.lacks_components || list_any (λ b. b) (map lacks_components rest)) ≡ ((length whole == 0) || list_any (λ b. b) (map lacks_components whole))
  pub size : min 1048577 (f.size * length (tuples (map (colours constants) rest))) ≡ min 1048577 (length (tuples (map (colours constants) whole)))
  pub sorts_together : min 4097 (f.sorts + all_together (map sorts_in rest)) ≡ min 4097 (all_together (map sorts_in whole) + 1)
  pub deepest : min 257 (max f.depth (greatest (map depth rest) + 1)) ≡ min 257 (greatest (map depth whole) + 1)

-- numbers that stop at a limit
capped-mul : (c x r : ℕ) → min c (min c x * r) ≡ min c (x * r)
capped-mul c x zero = ap (min c) (mul-zero (min c x) ∙ sym (mul-zero x))
capped-mul c x (suc r) = by (nat_le x c) refl (le-mul_of_pos_right x (omega arith)) (le-mul_of_pos_right (min c x) (omega arith))
  where
    by : (b : Bool) → nat_le x c ≡ b → x ≤ x * suc r → min c x ≤ min c x * suc r → min c (min c x * suc r) ≡ min c (x * suc r)
    by true e _ _ = let le : x ≤ c = grind (arith, nat_tests, e) in let is : min c x ≡ x = omega (arith, le) in ap (λ y. min c (y * suc r)) is
    by false e a b = let lt : c < x = grind (arith, nat_tests, e) in omega (arith, lt, a, b)

pub growing-none : (constants : List (List (List ℕ))) (whole : List Sort) (f : Facts) (is_empty : Bool)
    → f ≡ record { is_known = true; is_upside_down = false; lacks_constants = false; lacks_components = is_empty; size = 1; sorts = 1; depth = 1 }
    → is_empty ≡ (length whole == 0) → IsGrowing constants whole whole f
growing-none constants whole f is_empty e empty = subst (IsGrowing constants whole whole) (sym e) (record {
  upside = refl;
  no_constants = refl;
  no_components = ap (λ b. b || list_any (λ b. b) (map lacks_components whole)) empty;
  size = ap (min 1048577) (one-mul _);
  sorts_together = turn (all_together (map sorts_in whole));
  deepest = least (greatest (map depth whole));
})
  where
    turn : (n : ℕ) → min 4097 (1 + n) ≡ min 4097 (n + 1)
    turn n = omega arith

    least : (n : ℕ) → min 257 (max 1 (n + 1)) ≡ min 257 (n + 1)
    least n = omega arith

pub growing-more : (constants : List (List (List ℕ))) (s : Sort) (rest whole : List Sort) (f p : Facts)
    → IsFacts constants s p → IsGrowing constants (s ∷ rest) whole f → IsGrowing constants rest whole (joined f p)
growing-more constants s rest whole f p here known = record {
  upside = or_assoc f.is_upside_down p.is_upside_down _ ∙ ap (λ b. f.is_upside_down || (b || list_any (λ b. b) (map is_upside_down rest))) here.upside_down ∙ known.upside;
  no_constants = or_assoc f.lacks_constants p.lacks_constants _ ∙ ap (λ b. f.lacks_constants || (b || list_any (λ b. b) (map (lacks_constants constants) rest))) here.no_constants ∙ known.no_constants;
  no_components = or_assoc f.lacks_components p.lacks_components _ ∙ ap (λ b. f.lacks_components || (b || list_any (λ b. b) (map lacks_components rest))) here.no_components ∙ known.no_components;
  size = sizes f.size p.size (size constants s) (length (tuples (map (colours constants) rest))) here.size
      ∙ ap (λ n. min 1048577 (f.size * n)) (sym (length-tuples (colours constants s) (map (colours constants) rest)))
      ∙ known.size;
  sorts_together = sums f.sorts p.sorts (sorts_in s) (all_together (map sorts_in rest)) here.sorts ∙ known.sorts_together;
  deepest = depths f.depth p.depth (depth s) (greatest (map depth rest)) here.depth ∙ known.deepest;
}
  where
    sizes : (a b s r : ℕ) → b ≡ min 1048577 s → min 1048577 (min (a * b) 1048577 * r) ≡ min 1048577 (a * (s * r))
    sizes a b s r e =
        let turned : min (a * b) 1048577 ≡ min 1048577 (a * b) = omega arith in
        let one : (a * b) * r ≡ b * (a * r) = ap (λ n. n * r) (mul_comm a b) ∙ mul_assoc b a r in
        let two : s * (a * r) ≡ a * (s * r) = sym (mul_assoc s a r) ∙ ap (λ n. n * r) (mul_comm s a) ∙ mul_assoc a s r in
        ap (λ n. min 1048577 (n * r)) turned
        ∙ capped-mul 1048577 (a * b) r
        ∙ ap (min 1048577) one
        ∙ ap (λ b. min 1048577 (b * (a * r))) e
        ∙ capped-mul 1048577 s (a * r)
        ∙ ap (min 1048577) two

    sums : (a b s r : ℕ) → b ≡ min 4097 s → min 4097 (min (a + b) 4097 + r) ≡ min 4097 (a + (s + r))
    sums a b s r e = omega (arith, e)

    depths : (a b s r : ℕ) → b ≡ min 257 s → min 257 (max (min (max a (b + 1)) 257) (r + 1)) ≡ min 257 (max a (max s r + 1))
    depths a b s r e = omega (arith, e)

pub facts-Product : (constants : List (List (List ℕ))) (parts : List Sort) (f : Facts)
    → f.is_upside_down ≡ list_any (λ b. b) (map is_upside_down parts)
    → f.lacks_constants ≡ list_any (λ b. b) (map (lacks_constants constants) parts)
    → f.lacks_components ≡ ((length parts == 0) || list_any (λ b. b) (map lacks_components parts))
    → f.size ≡ min 1048577 (length (tuples (map (colours constants) parts)))
    → f.sorts ≡ min 4097 (all_together (map sorts_in parts) + 1)
    → f.depth ≡ min 257 (greatest (map depth parts) + 1) → IsFacts constants (sort.Product parts) f
facts-Product constants parts f upside none empty is many deep = record {
  upside_down = upside ∙ sym (at-Product is_upside_down_part parts);
  no_constants = none ∙ sym (at-Product (lacks_constants_part constants) parts);
  no_components = empty ∙ sym (at-Product lacks_components_part parts ∙ ap (λ n. (n == 0) || list_any (λ b. b) (map lacks_components parts)) (length-map parts lacks_components));
  size = is ∙ ap (min 1048577) (sym (size-Product constants parts));
  sorts = many ∙ ap (min 4097) (sym (at-Product sorts_in_part parts));
  depth = deep ∙ ap (min 257) (sym (at-Product depth_part parts));
}

pub growing-all : (constants : List (List (List ℕ))) (whole : List Sort) (f : Facts) → f.size ≤ 1048577 → f.sorts ≤ 4097 → f.depth ≤ 257 → 1 ≤ f.depth
    → IsGrowing constants [] whole f → IsFacts constants (sort.Product whole) f
growing-all constants whole f small few flat deep known = facts-Product constants whole f
    (or-false f.is_upside_down ∙ known.upside) (or-false f.lacks_constants ∙ known.no_constants) (or-false f.lacks_components ∙ known.no_components)
    (one f.size small ∙ known.size) (none f.sorts few ∙ known.sorts_together) (least f.depth flat deep ∙ known.deepest)
  where
    or-false : (b : Bool) → b ≡ (b || false)
    or-false true = refl
    or-false false = refl

    one : (n : ℕ) → n ≤ 1048577 → n ≡ min 1048577 (n * 1)
    one n h = omega (arith, h, mul-one n)

    none : (n : ℕ) → n ≤ 4097 → n ≡ min 4097 (n + 0)
    none n h = omega (arith, h)

    least : (n : ℕ) → n ≤ 257 → 1 ≤ n → n ≡ min 257 (max n (0 + 1))
    least n h k = omega (arith, h, k)

-- and of a product of terms
pub record IsGoing (sorts : List NamedSort) (steps at : ℕ) (rest whole : List SortTerm) (f : Facts) : Type 0 where
  pub ends : list_all (λ b. b) (map (names_pass (ends_within sorts steps)) rest) ≡ list_all (λ b. b) (map (names_pass (ends_within sorts steps)) whole)
  pub known : (f.is_known && list_all (λ b. b) (map (names_pass (is_known_within sorts steps)) rest)) ≡ list_all (λ b. b) (map (names_pass (is_known_within sorts steps)) whole)
  pub growing : IsGrowing (constants_of sorts) (map (sort_by (sort_within sorts steps) at) rest) (map (sort_by (sort_within sorts steps) at) whole) f

pub going-none : (sorts : List NamedSort) (steps at : ℕ) (whole : List SortTerm) (f : Facts) (is_empty : Bool)
    → f ≡ record { is_known = true; is_upside_down = false; lacks_constants = false; lacks_components = is_empty; size = 1; sorts = 1; depth = 1 }
    → is_empty ≡ (length whole == 0) → IsGoing sorts steps at whole whole f
going-none sorts steps at whole f is_empty e empty = record {
  ends = refl;
  known = ap (λ b. b && list_all (λ b. b) (map (names_pass (is_known_within sorts steps)) whole)) (ap (λ f. f.is_known) e);
  growing = growing-none (constants_of sorts) (map (sort_by (sort_within sorts steps) at) whole) f is_empty e
      (empty ∙ ap (λ n. n == 0) (sym (length-map whole (sort_by (sort_within sorts steps) at))));
}

pub going-more : (sorts : List NamedSort) (steps at : ℕ) (t : SortTerm) (rest whole : List SortTerm) (f p : Facts)
    → IsJudged sorts steps at t p → IsGoing sorts steps at (t ∷ rest) whole f → IsGoing sorts steps at rest whole (joined f p)
going-more sorts steps at t rest whole f p here known = record {
  ends = sym (ap (λ b. b && list_all (λ b. b) (map (names_pass (ends_within sorts steps)) rest)) here.ends) ∙ known.ends;
  known = and_assoc f.is_known p.is_known _ ∙ ap (λ b. f.is_known && (b && list_all (λ b. b) (map (names_pass (is_known_within sorts steps)) rest))) here.known ∙ known.known;
  growing = growing-more (constants_of sorts) (sort_by (sort_within sorts steps) at t) (map (sort_by (sort_within sorts steps) at) rest) (map (sort_by (sort_within sorts steps) at) whole) f p here.tests known.growing;
}

pub going-all : (sorts : List NamedSort) (steps at : ℕ) (whole : List SortTerm) (f : Facts) → f.size ≤ 1048577 → f.sorts ≤ 4097 → f.depth ≤ 257 → 1 ≤ f.depth
    → IsGoing sorts steps at [] whole f → IsJudged sorts steps at (term.Product whole) f
going-all sorts steps at whole f small few flat deep known = record {
  ends = term-Product (names_pass_part (ends_within sorts steps)) whole ∙ sym known.ends;
  known = and-true f.is_known ∙ known.known ∙ sym (term-Product (names_pass_part (is_known_within sorts steps)) whole);
  tests = subst (λ s. IsFacts (constants_of sorts) s f) (sym (sort.rolls-Product (map (sort_by (sort_within sorts steps) at) whole)) ∙ sym (term-Product (sort_by_part (sort_within sorts steps) at) whole))
      (growing-all (constants_of sorts) (map (sort_by (sort_within sorts steps) at) whole) f small few flat deep known.growing);
}
  where
    and-true : (b : Bool) → b ≡ (b && true)
    and-true true = refl
    and-true false = refl

-- a product waits where a component does
pub all-fails : {X : Type 0} (p : X → Bool) (xs : List X) (i : ℕ) (x : X) → i < length xs → get_or xs i x ≡ x → p x ≡ false → list_all (λ b. b) (map p xs) ≡ false
all-fails p [] i x within e h = absurd (omega (arith, within))
all-fails p (y ∷ ys) zero x within e h = ap (λ b. b && list_all (λ b. b) (map p ys)) (ap p e ∙ h)
all-fails p (y ∷ ys) (suc i) x within e h = ap (λ b. p y && b) (all-fails p ys i x (omega (arith, within)) e h) ∙ and-false (p y)
  where
    and-false : (b : Bool) → (b && false) ≡ false
    and-false true = refl
    and-false false = refl

pub waiting-part : (ids : List (List ℕ)) (marks : List Mark) (parts : List SortTerm) (i : ℕ) (part : SortTerm) (at : ℕ) → i < length parts → part ≡ get_or parts i part
    → IsWaiting ids marks part at → IsWaiting ids marks (term.Product parts) at
waiting-part ids marks parts i part at within is known = record {
  within = known.within;
  open_ = known.open_;
  named = subst (λ l. Has l at) (sym (places-Product ids parts)) (has-part (places_named ids) parts i part at within (sym is) known.named);
}

-- the same by places in the list of components
pub going-part : (sorts : List NamedSort) (steps at : ℕ) (parts : List SortTerm) (i : ℕ) (part : SortTerm) (f p : Facts) → i < length parts → part ≡ get_or parts i part
    → IsJudged sorts steps at part p → IsGoing sorts steps at (drop i parts) parts f → IsGoing sorts steps at (drop (i + 1) parts) parts (joined f p)
going-part sorts steps at parts i part f p within is here known =
    going-more sorts steps at part (drop (i + 1) parts) parts f p here (subst (λ rest. IsGoing sorts steps at rest parts f) (step parts i part within is) known)

pub going-end : (sorts : List NamedSort) (steps at : ℕ) (parts : List SortTerm) (i : ℕ) (f : Facts) → length parts ≤ i → f.size ≤ 1048577 → f.sorts ≤ 4097 → f.depth ≤ 257 → 1 ≤ f.depth
    → IsGoing sorts steps at (drop i parts) parts f → IsJudged sorts steps at (term.Product parts) f
going-end sorts steps at parts i f end small few flat deep known =
    going-all sorts steps at parts f small few flat deep (subst (λ rest. IsGoing sorts steps at rest parts f) (drop_all i parts end) known)

-- the same for sorts
pub growing-part : (constants : List (List (List ℕ))) (parts : List Sort) (i : ℕ) (part : Sort) (f p : Facts) → i < length parts → part ≡ get_or parts i part
    → IsFacts constants part p → IsGrowing constants (drop i parts) parts f → IsGrowing constants (drop (i + 1) parts) parts (joined f p)
growing-part constants parts i part f p within is here known =
    growing-more constants part (drop (i + 1) parts) parts f p here (subst (λ rest. IsGrowing constants rest parts f) (step parts i part within is) known)

pub growing-end : (constants : List (List (List ℕ))) (parts : List Sort) (i : ℕ) (f : Facts) → length parts ≤ i → f.size ≤ 1048577 → f.sorts ≤ 4097 → f.depth ≤ 257 → 1 ≤ f.depth
    → IsGrowing constants (drop i parts) parts f → IsFacts constants (sort.Product parts) f
growing-end constants parts i f end small few flat deep known =
    growing-all constants parts f small few flat deep (subst (λ rest. IsGrowing constants rest parts f) (drop_all i parts end) known)
