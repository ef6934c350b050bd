-- What is held of the named sorts, where it stands for declarations.
use Rattle.std.proofs.Common.{◌≡◌, ℕ, zero, suc, ◌+◌, ◌<◌, Bool, true, false, not, cond, ◌&&◌, List, [], ◌∷◌, map, length, get_or, refl, sym, ap, ◌∙◌, arith, subst, Some, None, Option}
use Rattle.std.proofs.lemmas.List.{get_or-map, length-map}
use Rattle.std.proofs.lemmas.List.Quantifiers.{position-Some}
use Rattle.std.proofs.lemmas.Option.{get_or_from_slice_get, slice_get_within}
use Rattle.std.specs.List.{slice_get}
use Rattle.std.specs.Str.{bytes_eq}
use Rattle.colour_sorts.specs.declared.facts.Facts.{Facts}
use Rattle.colour_sorts.specs.declared.facts.Mark.{Mark}
use Rattle.colour_sorts.specs.declared.facts.Mark.TheVariants.{Done}
use Rattle.colour_sorts.specs.declared.rules.Rule.{Rule}
use Rattle.colour_sorts.specs.declared.rules.Rule.TheVariants as rule
use Rattle.colour_sorts.specs.declared.sorts.Sort.{Sort}
use Rattle.colour_sorts.specs.declared.sorts.Sort.TheVariants as sort
use Rattle.net_model.specs.declared.sorts.NamedSort.{NamedSort}
use Rattle.net_model.specs.declared.sorts.Partition.{Partition}
use Rattle.net_model.specs.declared.sorts.SortTerm.{SortTerm}
use Rattle.colour_sorts.specs.Compiling.{AreCompiled, IsUncompiled}
use Rattle.colour_sorts.specs.Domain.{Domain, StandsFor, sorts_from}
use Rattle.colour_sorts.specs.Held.{AreHeld, IsHeld, sort_held}
use Rattle.colour_sorts.specs.Judging.{AreSettled, IsFacts, IsJudged}
use Rattle.colour_sorts.specs.Limits.{broken_in}
use Rattle.net_model.specs.Ids.{constants_of, ids_of}
use Rattle.colour_sorts.specs.Naming.{broken_rule, enough, has_end, is_known, place_of, sort_of, sort_within, term_at}
use Rattle.colour_sorts.proofs.PlacesIn.{none-is-some, some-is-some}
use Rattle.colour_sorts.proofs.Walks.{done-is}

-- the sorts of named sorts by their positions
pub sorts_from-at : (all : List NamedSort) (n : ℕ) (rest : List NamedSort) (at : ℕ) → at < length rest → get_or (sorts_from all n rest) at sort.Dot ≡ sort_of all (n + at) (term_at rest at)
sorts_from-at all n [] at within = absurd (omega (arith, within))
sorts_from-at all n (s ∷ rest) zero within = let e : n ≡ n + 0 = omega arith in ap (λ k. sort_of all k s.sort) e
sorts_from-at all n (s ∷ rest) (suc at) within =
    let e : (n + 1) + at ≡ n + suc at = omega arith in
    sorts_from-at all (n + 1) rest at (omega (arith, within)) ∙ ap (λ k. sort_of all k (term_at rest at)) e

pub record IsReady (sorts : List NamedSort) (compiled : List (Option Sort)) (marks : List Mark) : Type 0 where
  pub settled : AreSettled sorts marks (enough sorts)
  pub compiled_so : AreCompiled sorts compiled (enough sorts)

pub ready : (ids : List (List ℕ)) (constants : List (List (List ℕ))) (compiled : List (Option Sort)) (marks : List Mark) (d : Domain) (sorts : List NamedSort) (partitions : List Partition)
    → AreHeld constants compiled marks → length compiled ≡ length ids → ids ≡ d.ids → constants ≡ d.constants → map sort_held compiled ≡ d.sorts
    → StandsFor d sorts partitions → IsReady sorts compiled marks
ready ids constants compiled marks d sorts partitions held long is1 is2 is3 stands = record {
  settled = λ id at f place e. (let h = here id at place in record {
    ends = stands.ends id;
    known = ap (λ f. f.is_known) (same at f h.1 e h.3) ∙ h.4.known ∙ sym (stands.known id at place);
    tests = subst (λ cs. IsFacts cs (sort_within sorts (enough sorts) id) f) (is2 ∙ ap (λ d. d.constants) stands.is)
        (subst (λ s. IsFacts constants s f) (named id at h.0 place h.2) (subst (IsFacts constants h.0) (sym (same at f h.1 e h.3)) h.4.tests));
  });
  compiled_so = λ id at s place e. named id at s place e;
}
  where
    plain : (n : ℕ) → 0 + n ≡ n
    plain n = omega arith

    ids_are : ids ≡ ids_of sorts
    ids_are = is1 ∙ ap (λ d. d.ids) stands.is

    inside : (id : List ℕ) (at : ℕ) → place_of (ids_of sorts) id ≡ Some at → at < length sorts
    inside id at place = omega (arith, (position-Some (bytes_eq id) (ids_of sorts) at id place).0, length-map sorts (λ s. s.id))

    here : (id : List ℕ) (at : ℕ) → place_of (ids_of sorts) id ≡ Some at
        → (s : Sort) × (f : Facts) × (slice_get compiled at ≡ Some (Some s)) × (slice_get marks at ≡ Some (Done f)) × IsHeld constants s f
    here id at place = held.held at (omega (arith, inside id at place, long, ap length ids_are, length-map sorts (λ s. s.id)))

    same : (at : ℕ) (f g : Facts) → slice_get marks at ≡ Some (Done f) → slice_get marks at ≡ Some (Done g) → f ≡ g
    same at f g a b = done-is f g (some-is-some (Done f) (Done g) (sym a ∙ b))

    named : (id : List ℕ) (at : ℕ) (s : Sort) → place_of (ids_of sorts) id ≡ Some at → slice_get compiled at ≡ Some (Some s) → s ≡ sort_within sorts (enough sorts) id
    named id at s place e =
        let within = inside id at place in
        let there : at < length compiled = omega (arith, within, long, ap length ids_are, length-map sorts (λ s. s.id)) in
        sym (get_or-map sort_held compiled at None sort.Dot there ∙ ap sort_held (get_or_from_slice_get compiled at (Some s) None e))
        ∙ ap (λ ss. get_or ss at sort.Dot) (is3 ∙ ap (λ d. d.sorts) stands.is)
        ∙ sorts_from-at sorts 0 sorts at within
        ∙ ap (λ k. sort_of sorts k (term_at sorts at)) (plain at)
        ∙ sym (stands.named id at place)

-- the first rule of a term, from its facts
pub rule-of-known : (sorts : List NamedSort) (t : SortTerm) (f : Facts) (broken : Option Rule) → IsJudged sorts (enough sorts) 0 t f → f.is_known ≡ true
    → broken ≡ broken_in (constants_of sorts) (sort_of sorts 0 t) → broken ≡ broken_rule sorts 0 t
rule-of-known sorts t f broken judged known e = by (is_known sorts t) (has_end sorts t) (sym judged.known ∙ known) judged.ends e
  where
    by : (k h : Bool) {rest : Option Rule} → k ≡ true → h ≡ true → broken ≡ rest → broken ≡ cond (not k) (Some rule.UnknownSort) (cond (not h) (Some rule.SortCircle) rest)
    by k h a b e = e ∙ grind (arith, a, b)

pub rule-of-unknown : (sorts : List NamedSort) (t : SortTerm) (f : Facts) → IsJudged sorts (enough sorts) 0 t f → f.is_known ≡ false → Some rule.UnknownSort ≡ broken_rule sorts 0 t
rule-of-unknown sorts t f judged known =
    sym (ap (λ k. cond (not k) (Some rule.UnknownSort) (cond (not (has_end sorts t)) (Some rule.SortCircle) (broken_in (constants_of sorts) (sort_of sorts 0 t)))) (sym judged.known ∙ known))

-- all named sorts have their sorts
pub never-uncompiled : (ids : List (List ℕ)) (constants : List (List (List ℕ))) (compiled : List (Option Sort)) (marks : List Mark) (t : SortTerm)
    → AreHeld constants compiled marks → IsUncompiled ids compiled t → ⊥
never-uncompiled ids constants compiled marks t held (at, _, none) =
    let h = held.held at (slice_get_within compiled at None none) in
    none-is-some h.0 (some-is-some None (Some h.0) (sym none ∙ h.2))

pub none-if-not-some : (o : Option Rule) → ((r : Rule) → o ≡ Some r → ⊥) → o ≡ None
none-if-not-some None never = refl
none-if-not-some (Some r) never = absurd (never r refl)
