-- The named sorts as they are built stand for their declarations.
use Rattle.std.proofs.Common.{◌≡◌, ℕ, suc, ◌+◌, ◌<◌, ◌≤◌, inl, inr, Bool, true, false, not, cond, List, [], ◌∷◌, map, length, get_or, refl, sym, ap, ◌∙◌, arith, subst, Some, None, Option}
use Rattle.std.proofs.lemmas.List.{ext_get_or, get_or-map, length-map}
use Rattle.std.proofs.lemmas.List.Quantifiers.{position-Some}
use Rattle.std.proofs.lemmas.Option.{get_or_from_slice_get}
use Rattle.std.specs.List.{IsDistinct, slice_get}
use Rattle.std.specs.Str.{bytes_eq}
use Rattle.colour_sorts.specs.declared.breaking.BrokenSort.{BrokenSort}
use Rattle.colour_sorts.specs.declared.facts.Facts.{Facts}
use Rattle.colour_sorts.specs.declared.facts.Mark.{Mark}
use Rattle.colour_sorts.specs.declared.facts.Mark.TheVariants.{Done, Fresh}
use Rattle.colour_sorts.specs.declared.rules.Rule.{Rule}
use Rattle.colour_sorts.specs.declared.rules.Rule.TheVariants as rule
use Rattle.colour_sorts.specs.declared.sorts.Sort.{Sort}
use Rattle.colour_sorts.specs.declared.sorts.Sort.TheVariants as sort
use Rattle.net_model.specs.declared.sorts.NamedSort.{NamedSort}
use Rattle.net_model.specs.declared.sorts.SortTerm.{SortTerm, map-SortTerm, out-SortTerm, roll-out-SortTerm, fold-roll-SortTerm}
use Rattle.net_model.specs.declared.sorts.SortTerm.TheOpen as layer
use Rattle.colour_sorts.specs.Colours.{constants_at}
use Rattle.colour_sorts.specs.Compiling.{AreAllCompiled, IsCompiling, count_some, one_if_some}
use Rattle.colour_sorts.specs.Domain.{Domain, before, StandsFor, domain_of, sort_fault_from, sorts_from}
use Rattle.colour_sorts.specs.Held.{AreHeld, IsEnumeration, IsHeld, sort_held}
use Rattle.colour_sorts.specs.Judging.{IsFacts}
use Rattle.net_model.specs.Ids.{constants_in, constants_in_layer, constants_of, ids_of}
use Rattle.colour_sorts.specs.Naming.{at_place, broken_rule, ends_within, enough, is_known, is_known_within, place_of, sort_by, sort_by_part, sort_of, sort_within, term_at}
use Rattle.colour_sorts.specs.Walking.{AreMarked, AreSound}
use Rattle.colour_sorts.proofs.Broken.{done-facts, nothing, place-back}
use Rattle.colour_sorts.proofs.Broken.{count-le as marks-le}
use Rattle.colour_sorts.proofs.Constants.{constants_at-within}
use Rattle.colour_sorts.proofs.Judged.{ends-unknown}
use Rattle.colour_sorts.proofs.Walks.{constants-at, term-at}
use Rattle.colour_sorts.proofs.PlacesIn.{get-at, none-is-some}
use Rattle.colour_sorts.proofs.Resolved.{sorts_from-at}

known-of-none : (sorts : List NamedSort) (at : ℕ) (t : SortTerm) → broken_rule sorts at t ≡ None → is_known sorts t ≡ true
known-of-none sorts at t e = by (is_known sorts t) _ e
  where
    by : (k : Bool) (rest : Option Rule) → cond (not k) (Some rule.UnknownSort) rest ≡ None → k ≡ true
    by true rest e = refl
    by false rest e = absurd (none-is-some rule.UnknownSort (sym e))

count-le : (xs : List (Option Sort)) → count_some xs ≤ length xs
count-le [] = omega arith
count-le (x ∷ xs) = by x (count-le xs)
  where
    by : (x : Option Sort) → count_some xs ≤ length xs → one_if_some x + count_some xs ≤ suc (length xs)
    by None h = omega (arith, h)
    by (Some s) h = omega (arith, h)

some-of : (o : Option Sort) → (o ≡ None → ⊥) → (s : Sort) × (o ≡ Some s)
some-of None never = absurd (never refl)
some-of (Some s) never = (s, refl)

-- a term that declares constants is an enumeration
enumerated : (t : SortTerm) (named : List ℕ → Sort) (at : ℕ) → 0 < length (constants_in t) → IsEnumeration (sort_by named at t) at
enumerated t named at some =
    subst (λ u. IsEnumeration (sort_by named at u) at) (roll-out-SortTerm t)
    (subst (λ s. IsEnumeration s at) (sym (fold-roll-SortTerm Sort (sort_by_part named at) (out-SortTerm t))) (by (out-SortTerm t) some))
  where
    by : (y : layer.SortTerm-F SortTerm) → 0 < length (constants_in_layer y) → IsEnumeration (sort_by_part named at (map-SortTerm SortTerm Sort (sort_by named at) y)) at
    by layer.Dot some = absurd (omega (arith, some))
    by (layer.Named id) some = absurd (omega (arith, some))
    by (layer.Product parts) some = absurd (omega (arith, some))
    by (layer.Range span) some = absurd (omega (arith, some))
    by (layer.Listed names) some = inl refl
    by (layer.Cyclic names) some = inr refl

-- what is known of a named sort
pub record IsBuilt (sorts : List NamedSort) (compiled : List (Option Sort)) (marks : List Mark) (at : ℕ) : Type 0 where
  pub one : Sort
  pub facts : Facts
  pub there : slice_get compiled at ≡ Some (Some one)
  pub done : slice_get marks at ≡ Some (Done facts)
  pub held : IsHeld (constants_of sorts) one facts
  pub is : one ≡ sort_of sorts at (term_at sorts at)
  pub within : (id : List ℕ) → place_of (ids_of sorts) id ≡ Some at → one ≡ sort_within sorts (enough sorts) id
  pub ends : (id : List ℕ) → place_of (ids_of sorts) id ≡ Some at → ends_within sorts (enough sorts) id ≡ true
  pub known : (id : List ℕ) → place_of (ids_of sorts) id ≡ Some at → is_known_within sorts (enough sorts) id ≡ true

pub built-at : (sorts : List NamedSort) (compiled : List (Option Sort)) (marks : List Mark) → IsDistinct bytes_eq (ids_of sorts) → AreMarked sorts marks → AreSound sorts marks (length sorts)
    → IsCompiling sorts compiled → AreAllCompiled compiled (length sorts) → (at : ℕ) → at < length sorts → IsBuilt sorts compiled marks at
built-at sorts compiled marks distinct walk sound compiling all at inside =
    let id = get_or (ids_of sorts) at [] in
    let place = place-back sorts at distinct inside in
    let here = sound at inside in
    let f = here.0.0 in
    let mark = get_or_from_slice_get marks at (Done f) Fresh here.0.1 in
    let facts = done-facts sorts marks at f distinct walk inside mark in
    let known : f.is_known ≡ true = facts.known ∙ known-of-none sorts at (term_at sorts at) here.1 in
    let long : at < length compiled = omega (arith, inside, compiling.as_long) in
    let some = some-of (get_or compiled at None) (λ e. all at inside (get-at compiled at None None long e)) in
    let there = get-at compiled at (Some some.0) None long some.1 in
    let few : count_some compiled < enough sorts = omega (arith, count-le compiled, compiling.as_long) in
    let now = λ (id2 : List ℕ) (e : place_of (ids_of sorts) id2 ≡ Some at). compiling.settled (enough sorts) few id2 at some.0 e there in
    let settled = λ (id2 : List ℕ) (e : place_of (ids_of sorts) id2 ≡ Some at). walk.settled (enough sorts) (omega (arith, marks-le marks, walk.as_long)) id2 at f e here.0.1 in
    let next = compiling.settled (suc (enough sorts)) (omega (arith, few)) id at some.0 place there in
    record {
      one = some.0;
      facts = f;
      there = there;
      done = here.0.1;
      held = record { known = known; capped = walk.capped at f here.0.1; tests = subst (λ s. IsFacts (constants_of sorts) s f) (sym (now id place)) (settled id place).tests };
      is = next ∙ ap (at_place sort.Dot (λ at. sort_by (sort_within sorts (enough sorts)) at (term_at sorts at))) place;
      within = now;
      ends = λ id2 e. (settled id2 e).ends;
      known = λ id2 e. sym (settled id2 e).known ∙ known;
    }

pub built-held : (sorts : List NamedSort) (compiled : List (Option Sort)) (marks : List Mark) → length marks ≡ length sorts → length compiled ≡ length sorts
    → ((at : ℕ) → at < length sorts → IsBuilt sorts compiled marks at) → AreHeld (constants_of sorts) compiled marks
built-held sorts compiled marks long1 long2 built = record {
  as_long = long1 ∙ sym long2;
  held = λ at within. (let b = built at (omega (arith, within, long2)) in (b.one, b.facts, b.there, b.done, b.held));
  listed = λ at some. (let inside : at < length sorts = omega (arith, constants_at-within (constants_of sorts) at some, length-map sorts (λ s. constants_in s.sort)) in
      let b = built at inside in
      let same : constants_at (constants_of sorts) at ≡ constants_in (term_at sorts at) = constants-at sorts at nothing inside ∙ ap constants_in (sym (term-at sorts at nothing inside)) in
      (b.one, b.there, subst (λ s. IsEnumeration s at) (sym b.is) (enumerated (term_at sorts at) (sort_within sorts (enough sorts)) at (omega (arith, some, ap length same)))));
}

length-sorts_from : (all : List NamedSort) (n : ℕ) (rest : List NamedSort) → length (sorts_from all n rest) ≡ length rest
length-sorts_from all n [] = refl
length-sorts_from all n (s ∷ rest) = ap suc (length-sorts_from all (n + 1) rest)

pub built-sorts : (sorts : List NamedSort) (compiled : List (Option Sort)) (marks : List Mark) → length compiled ≡ length sorts
    → ((at : ℕ) → at < length sorts → IsBuilt sorts compiled marks at) → map sort_held compiled ≡ sorts_from sorts 0 sorts
built-sorts sorts compiled marks long built = ext_get_or sort.Dot (map sort_held compiled) (sorts_from sorts 0 sorts)
    (length-map compiled sort_held ∙ long ∙ sym (length-sorts_from sorts 0 sorts))
    (λ at within. (let inside : at < length sorts = omega (arith, within, length-map compiled sort_held, long) in
    let b = built at inside in
    let plain : 0 + at ≡ at = omega arith in
    get_or-map sort_held compiled at None sort.Dot (omega (arith, inside, long))
    ∙ ap sort_held (get_or_from_slice_get compiled at (Some b.one) None b.there)
    ∙ b.is
    ∙ sym (sorts_from-at sorts 0 sorts at inside ∙ ap (λ k. sort_of sorts k (term_at sorts at)) plain)))

pub built-stands : (sorts : List NamedSort) (compiled : List (Option Sort)) (marks : List Mark) (d : Domain) → d ≡ domain_of sorts [] → sort_fault_from sorts 0 sorts ≡ None
    → ((at : ℕ) → at < length sorts → IsBuilt sorts compiled marks at) → StandsFor d sorts []
built-stands sorts compiled marks d is sound built = record {
  is = is;
  sound = ap (λ f. before f None) sound;
  ends = λ id. ends id (place_of (ids_of sorts) id) refl;
  known = λ id at place. (built at (inside id at place)).known id place;
  named = λ id at place. (let b = built at (inside id at place) in sym (b.within id place) ∙ b.is);
}
  where
    inside : (id : List ℕ) (at : ℕ) → place_of (ids_of sorts) id ≡ Some at → at < length sorts
    inside id at place = omega (arith, (position-Some (bytes_eq id) (ids_of sorts) at id place).0, length-map sorts (λ s. s.id))

    ends : (id : List ℕ) (place : Option ℕ) → place_of (ids_of sorts) id ≡ place → ends_within sorts (enough sorts) id ≡ true
    ends id None e = ends-unknown sorts (enough sorts) id (omega arith) e
    ends id (Some at) e = (built at (inside id at e)).ends id e

pub none-if-not-broken : (o : Option BrokenSort) → ((b : BrokenSort) → o ≡ Some b → ⊥) → o ≡ None
none-if-not-broken None never = refl
none-if-not-broken (Some b) never = absurd (never b refl)
