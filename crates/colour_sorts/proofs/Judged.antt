-- The facts of each kind of term.
use Rattle.std.proofs.Common.{◌≡◌, ℕ, zero, suc, ◌<◌, true, false, List, [], ◌∷◌, length, refl, sym, ap, ◌∙◌, arith, subst, Some, None}
use Rattle.std.specs.List.{slice_get}
use Rattle.colour_sorts.specs.declared.facts.Facts.{Facts}
use Rattle.colour_sorts.specs.declared.facts.Mark.{Mark}
use Rattle.colour_sorts.specs.declared.facts.Mark.TheVariants.{Done}
use Rattle.net_model.specs.declared.sorts.Span.{Span}
use Rattle.net_model.specs.declared.sorts.NamedSort.{NamedSort}
use Rattle.net_model.specs.declared.sorts.SortTerm.TheVariants as term
use Rattle.colour_sorts.specs.declared.sorts.Sort.TheVariants as sort
use Rattle.colour_sorts.specs.Colours.{constants_at}
use Rattle.net_model.specs.Ids.{constants_of, ids_of}
use Rattle.colour_sorts.specs.Naming.{at_place, ends_within, is_known_within, names_pass, names_pass_part, place_of, sort_by, sort_by_part, sort_within, term_at}
use Rattle.colour_sorts.specs.Judging.{IsFacts, IsJudgedBy, IsWaiting}
use Rattle.colour_sorts.specs.Searching.{Has, places_named_part}
use Rattle.net_model.proofs.Layers.{term-Cyclic, term-Dot, term-Listed, term-Named, term-Range}

pub judged-Dot : (ids : List (List ℕ)) (marks : List Mark) (own : ℕ) (f : Facts) → f.is_known ≡ true
    → ((constants : List (List (List ℕ))) → IsFacts constants sort.Dot f) → IsJudgedBy ids marks own term.Dot f
judged-Dot ids marks own f known tests = λ sorts steps at e settled some is. record {
  ends = term-Dot (names_pass_part (ends_within sorts steps));
  known = known ∙ sym (term-Dot (names_pass_part (is_known_within sorts steps)));
  tests = subst (λ s. IsFacts (constants_of sorts) s f) (sym (term-Dot (sort_by_part (sort_within sorts steps) at))) (tests (constants_of sorts));
}

pub judged-Range : (ids : List (List ℕ)) (marks : List Mark) (own : ℕ) (span : Span) (f : Facts) → f.is_known ≡ true
    → ((constants : List (List (List ℕ))) → IsFacts constants (sort.Range span) f) → IsJudgedBy ids marks own (term.Range span) f
judged-Range ids marks own span f known tests = λ sorts steps at e settled some is. record {
  ends = term-Range (names_pass_part (ends_within sorts steps)) span;
  known = known ∙ sym (term-Range (names_pass_part (is_known_within sorts steps)) span);
  tests = subst (λ s. IsFacts (constants_of sorts) s f) (sym (term-Range (sort_by_part (sort_within sorts steps) at) span)) (tests (constants_of sorts));
}

pub judged-Listed : (ids : List (List ℕ)) (marks : List Mark) (own : ℕ) (names : List (List ℕ)) (f : Facts) → f.is_known ≡ true
    → ((constants : List (List (List ℕ))) (at : ℕ) → own ≡ length (constants_at constants at) → IsFacts constants (sort.Listed at) f) → IsJudgedBy ids marks own (term.Listed names) f
judged-Listed ids marks own names f known tests = λ sorts steps at e settled some is. record {
  ends = term-Listed (names_pass_part (ends_within sorts steps)) names;
  known = known ∙ sym (term-Listed (names_pass_part (is_known_within sorts steps)) names);
  tests = subst (λ s. IsFacts (constants_of sorts) s f) (sym (term-Listed (sort_by_part (sort_within sorts steps) at) names)) (tests (constants_of sorts) at is);
}

pub judged-Cyclic : (ids : List (List ℕ)) (marks : List Mark) (own : ℕ) (names : List (List ℕ)) (f : Facts) → f.is_known ≡ true
    → ((constants : List (List (List ℕ))) (at : ℕ) → own ≡ length (constants_at constants at) → IsFacts constants (sort.Cyclic at) f) → IsJudgedBy ids marks own (term.Cyclic names) f
judged-Cyclic ids marks own names f known tests = λ sorts steps at e settled some is. record {
  ends = term-Cyclic (names_pass_part (ends_within sorts steps)) names;
  known = known ∙ sym (term-Cyclic (names_pass_part (is_known_within sorts steps)) names);
  tests = subst (λ s. IsFacts (constants_of sorts) s f) (sym (term-Cyclic (sort_by_part (sort_within sorts steps) at) names)) (tests (constants_of sorts) at is);
}

-- a name that isn't declared
pub ends-unknown : (sorts : List NamedSort) (steps : ℕ) (id : List ℕ) → 0 < steps → place_of (ids_of sorts) id ≡ None → ends_within sorts steps id ≡ true
ends-unknown sorts zero id some e = absurd (omega (arith, some))
ends-unknown sorts (suc steps) id some e = ap (at_place true (λ at. names_pass (ends_within sorts steps) (term_at sorts at))) e

pub known-unknown : (sorts : List NamedSort) (steps : ℕ) (id : List ℕ) → place_of (ids_of sorts) id ≡ None → is_known_within sorts steps id ≡ false
known-unknown sorts zero id e = ap (at_place false (λ at. true)) e
known-unknown sorts (suc steps) id e = ap (at_place false (λ at. names_pass (is_known_within sorts steps) (term_at sorts at))) e

pub sort-unknown : (sorts : List NamedSort) (steps : ℕ) (id : List ℕ) → place_of (ids_of sorts) id ≡ None → sort_within sorts steps id ≡ sort.Dot
sort-unknown sorts zero id e = refl
sort-unknown sorts (suc steps) id e = ap (at_place sort.Dot (λ at. sort_by (sort_within sorts steps) at (term_at sorts at))) e

pub judged-unknown : (ids : List (List ℕ)) (marks : List Mark) (own : ℕ) (id : List ℕ) (f : Facts) → place_of ids id ≡ None → f.is_known ≡ false
    → ((constants : List (List (List ℕ))) → IsFacts constants sort.Dot f) → IsJudgedBy ids marks own (term.Named id) f
judged-unknown ids marks own id f missing known tests = λ sorts steps at e settled some is.
    (let none : place_of (ids_of sorts) id ≡ None = ap (λ ids. place_of ids id) (sym e) ∙ missing in
    record {
      ends = term-Named (names_pass_part (ends_within sorts steps)) id ∙ ends-unknown sorts steps id some none;
      known = known ∙ sym (term-Named (names_pass_part (is_known_within sorts steps)) id ∙ known-unknown sorts steps id none);
      tests = subst (λ s. IsFacts (constants_of sorts) s f) (sym (term-Named (sort_by_part (sort_within sorts steps) at) id ∙ sort-unknown sorts steps id none)) (tests (constants_of sorts));
    })

pub judged-done : (ids : List (List ℕ)) (marks : List Mark) (own : ℕ) (id : List ℕ) (place : ℕ) (f : Facts) → place_of ids id ≡ Some place
    → slice_get marks place ≡ Some (Done f) → IsJudgedBy ids marks own (term.Named id) f
judged-done ids marks own id place f found done = λ sorts steps at e settled some is.
    (let known = settled id place f (ap (λ ids. place_of ids id) (sym e) ∙ found) done in
    record {
      ends = term-Named (names_pass_part (ends_within sorts steps)) id ∙ known.ends;
      known = known.known ∙ sym (term-Named (names_pass_part (is_known_within sorts steps)) id);
      tests = subst (λ s. IsFacts (constants_of sorts) s f) (sym (term-Named (sort_by_part (sort_within sorts steps) at) id)) known.tests;
    })

pub waiting-name : (ids : List (List ℕ)) (marks : List Mark) (id : List ℕ) (at : ℕ) → at < length ids → ((f : Facts) → slice_get marks at ≡ Some (Done f) → ⊥)
    → place_of ids id ≡ Some at → IsWaiting ids marks (term.Named id) at
waiting-name ids marks id at within open_ found = record {
  within = within;
  open_ = open_;
  named = subst (λ l. Has l at) (sym (term-Named (places_named_part ids) id ∙ ap (at_place [] (λ at. at ∷ [])) found)) (0, refl);
}
