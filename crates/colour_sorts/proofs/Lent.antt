-- The sorts that names stand for, as they are lent.
use Rattle.std.proofs.Common.{◌≡◌, ℕ, zero, suc, ◌+◌, ◌<◌, Bool, true, false, not, cond, List, [], ◌∷◌, map, length, get_or, refl, sym, ap, ◌∙◌, arith, Some, None, Option}
use Rattle.std.proofs.lemmas.Bool.{false≢true}
use Rattle.std.proofs.lemmas.List.{get_or-map, length-map}
use Rattle.std.proofs.lemmas.List.Quantifiers.{position-Some}
use Rattle.std.proofs.lemmas.Option.{get_or_from_slice_get, slice_get_within}
use Rattle.std.specs.List.{slice_get}
use Rattle.std.specs.Str.{bytes_eq}
use Rattle.colour_sorts.specs.declared.rules.Rule.{Rule}
use Rattle.colour_sorts.specs.declared.rules.Rule.TheVariants as rule
use Rattle.colour_sorts.specs.declared.sorts.Sort.{Sort}
use Rattle.colour_sorts.specs.declared.sorts.Sort.TheVariants as sort
use Rattle.net_model.specs.declared.sorts.NamedSort.{NamedSort}
use Rattle.net_model.specs.declared.sorts.Partition.{Partition}
use Rattle.net_model.specs.declared.sorts.SortTerm.TheVariants as term
use Rattle.net_model.proofs.Layers.{term-Named}
use Rattle.colour_sorts.specs.Calls.{IsNamedSort, sort_at}
use Rattle.colour_sorts.specs.Domain.{Domain, Fault, StandsFor, before, fault_at, partition_fault, sort_fault_from}
use Rattle.colour_sorts.specs.Held.{sort_held}
use Rattle.colour_sorts.specs.Limits.{broken_in}
use Rattle.net_model.specs.Ids.{constants_of, ids_of}
use Rattle.colour_sorts.specs.Naming.{broken_rule, ends_within, enough, has_end, is_known, is_known_within, names_pass_part, place_of, sort_by_part, sort_of, sort_within, term_at}
use Rattle.colour_sorts.proofs.Judged.{known-unknown}
use Rattle.colour_sorts.proofs.PlacesIn.{none-is-some}
use Rattle.colour_sorts.proofs.Resolved.{sorts_from-at}

pub held-sort : (compiled : List (Option Sort)) (at : ℕ) (s : Sort) → slice_get compiled at ≡ Some (Some s) → s ≡ sort_at (map sort_held compiled) at
held-sort compiled at s e =
    sym (get_or-map sort_held compiled at None sort.Dot (slice_get_within compiled at (Some s) e) ∙ ap sort_held (get_or_from_slice_get compiled at (Some s) None e))

both-none : (first more : Option Fault) → before first more ≡ None → (first ≡ None) × (more ≡ None)
both-none None more e = (refl, e)
both-none (Some fault) more e = absurd (none-is-some fault (sym e))

no-rule : (id : List ℕ) (o : Option Rule) → fault_at id o ≡ None → o ≡ None
no-rule id None e = refl
no-rule id (Some broken) e = absurd (none-is-some (id, broken) (sym e))

-- no named sort breaks a rule
sound-at : (all : List NamedSort) (n : ℕ) (rest : List NamedSort) (at : ℕ) → sort_fault_from all n rest ≡ None → at < length rest → broken_rule all (n + at) (term_at rest at) ≡ None
sound-at all n [] at e within = absurd (omega (arith, within))
sound-at all n (s ∷ rest) zero e within =
    (let same : n + 0 ≡ n = omega arith in
    ap (λ k. broken_rule all k s.sort) same ∙ no-rule s.id (broken_rule all n s.sort) (both-none (fault_at s.id (broken_rule all n s.sort)) (sort_fault_from all (n + 1) rest) e).0)
sound-at all n (s ∷ rest) (suc at) e within =
    (let same : n + suc at ≡ (n + 1) + at = omega arith in
    ap (λ k. broken_rule all k (term_at rest at)) same
    ∙ sound-at all (n + 1) rest at (both-none (fault_at s.id (broken_rule all n s.sort)) (sort_fault_from all (n + 1) rest) e).1 (omega (arith, within)))

abbrev rule_by : Bool → Bool → Option Rule → Option Rule
rule_by known ends rest = cond (not known) (Some rule.UnknownSort) (cond (not ends) (Some rule.SortCircle) rest)

unbroken : (known ends : Bool) (rest : Option Rule) → rule_by known ends rest ≡ None → rest ≡ None
unbroken true true rest e = e
unbroken true false rest e = absurd (none-is-some rule.SortCircle (sym e))
unbroken false ends rest e = absurd (none-is-some rule.UnknownSort (sym e))

whole : (known ends : Bool) (rest : Option Rule) → known ≡ true → ends ≡ true → rest ≡ None → rule_by known ends rest ≡ None
whole true true rest a b e = e
whole true false rest a b e = absurd (false≢true b)
whole false ends rest a b e = absurd (false≢true a)

pub named-sort : (d : Domain) (sorts : List NamedSort) (partitions : List Partition) (id : List ℕ) → StandsFor d sorts partitions → (place : Option ℕ) → place_of (ids_of sorts) id ≡ place → IsNamedSort d sorts id place
named-sort d sorts partitions id stands None e =
    ap (λ k. rule_by k (has_end sorts (term.Named id)) (broken_in (constants_of sorts) (sort_of sorts 0 (term.Named id))))
    (term-Named (names_pass_part (is_known_within sorts (enough sorts))) id ∙ known-unknown sorts (enough sorts) id e)
named-sort d sorts partitions id stands (Some at) e = (
  omega (arith, ap (λ d. length d.ids) stands.is, (position-Some (bytes_eq id) (ids_of sorts) at id e).0),
  whole (is_known sorts (term.Named id)) (has_end sorts (term.Named id)) (broken_in (constants_of sorts) (sort_of sorts 0 (term.Named id)))
      (term-Named (names_pass_part (is_known_within sorts (enough sorts))) id ∙ stands.known id at e)
      (term-Named (names_pass_part (ends_within sorts (enough sorts))) id ∙ stands.ends id)
      (ap (broken_in (constants_of sorts)) same ∙ unbroken (is_known sorts (term_at sorts at)) (has_end sorts (term_at sorts at)) (broken_in (constants_of sorts) (sort_of sorts at (term_at sorts at))) sound),
  ap (λ d. sort_at d.sorts at) stands.is ∙ sorts_from-at sorts 0 sorts at inside ∙ ap (λ k. sort_of sorts k (term_at sorts at)) plain ∙ sym same,
)
  where
    plain : 0 + at ≡ at
    plain = omega arith

    inside : at < length sorts
    inside = omega (arith, (position-Some (bytes_eq id) (ids_of sorts) at id e).0, length-map sorts (λ s. s.id))

    same : sort_of sorts 0 (term.Named id) ≡ sort_of sorts at (term_at sorts at)
    same = term-Named (sort_by_part (sort_within sorts (enough sorts)) 0) id ∙ stands.named id at e

    sound : broken_rule sorts at (term_at sorts at) ≡ None
    sound = ap (λ k. broken_rule sorts k (term_at sorts at)) (sym plain) ∙ sound-at sorts 0 sorts at (both-none (sort_fault_from sorts 0 sorts) (partition_fault sorts partitions) stands.sound).0 inside
