-- Declarations with partitions.
use Rattle.std.proofs.Common.{◌≡◌, ℕ, ◌+◌, ◌<◌, ◌≤◌, ◌^◌, List, [], ◌∷◌, ◌++◌, map, take, drop, get_or, length, refl, sym, ap, ◌∙◌, subst, Some, None, Option, Bool, true, false, not, cond}
use Rattle.std.proofs.lemmas.List.{append_assoc, length-map, map-append, take-append-drop, take_more}
use Rattle.colour_sorts.specs.declared.rules.Rule.{Rule}
use Rattle.colour_sorts.specs.declared.rules.Rule.TheVariants as rule
use Rattle.net_model.specs.declared.sorts.NamedSort.{NamedSort}
use Rattle.net_model.specs.declared.sorts.Partition.{Partition}
use Rattle.net_model.specs.declared.sorts.SortTerm.{SortTerm}
use Rattle.colour_sorts.specs.declared.sorts.Sort.{Sort}
use Rattle.colour_sorts.specs.Colours.{size}
use Rattle.colour_sorts.specs.Dividing.{after, broken_blocks, broken_partition}
use Rattle.colour_sorts.specs.Limits.{broken_in}
use Rattle.colour_sorts.specs.declared.domains.Division.{Division}
use Rattle.colour_sorts.specs.Calls.{AreDivided}
use Rattle.net_model.specs.Ids.{constants_of, element_ids}
use Rattle.colour_sorts.specs.Domain.{Domain, Fault, StandsFor, before, blocks_of, domain_of, fault_at, first_fault, partition_fault, partition_sort_of, sort_fault_from, with_partitions}
use Rattle.colour_sorts.specs.Held.{blocks_of_division, sort_of_division}
use Rattle.colour_sorts.specs.Naming.{broken_rule, has_end, is_known, sort_of}
use Rattle.colour_sorts.proofs.PlacesIn.{none-is-some}
use Rattle.colour_sorts.proofs.Sizes.{unbroken-size}

-- partitions that break no rule stand before others
pub fault-behind : (sorts : List NamedSort) (done rest : List Partition) → partition_fault sorts done ≡ None → partition_fault sorts (done ++ rest) ≡ partition_fault sorts rest
fault-behind sorts [] rest e = refl
fault-behind sorts (p ∷ done) rest e = by (fault_at p.id (broken_partition sorts p)) e (fault-behind sorts done rest)
  where
    by : (o : Option Fault) → before o (partition_fault sorts done) ≡ None → (partition_fault sorts done ≡ None → partition_fault sorts (done ++ rest) ≡ partition_fault sorts rest)
        → before o (partition_fault sorts (done ++ rest)) ≡ partition_fault sorts rest
    by None e more = more e
    by (Some f) e more = absurd (none-is-some f (sym e))

pub faults-behind : (sorts : List NamedSort) (done rest : List Partition) → first_fault sorts done ≡ None → first_fault sorts (done ++ rest) ≡ partition_fault sorts rest
faults-behind sorts done rest e = by (sort_fault_from sorts 0 sorts) e
  where
    by : (o : Option Fault) → before o (partition_fault sorts done) ≡ None → before o (partition_fault sorts (done ++ rest)) ≡ partition_fault sorts rest
    by None e = fault-behind sorts done rest e
    by (Some f) e = absurd (none-is-some f (sym e))

-- the first rule that a partition breaks
pub broken-first : (sorts : List NamedSort) (p : Partition) (rule : Rule) → broken_rule sorts 0 p.sort ≡ Some rule → broken_partition sorts p ≡ Some rule
broken-first sorts p rule e = ap (λ o. after o (broken_blocks (constants_of sorts) (sort_of sorts 0 p.sort) p.elements)) e

pub broken-later : (sorts : List NamedSort) (p : Partition) (o : Option Rule) → broken_rule sorts 0 p.sort ≡ None → broken_blocks (constants_of sorts) (sort_of sorts 0 p.sort) p.elements ≡ o
    → broken_partition sorts p ≡ o
broken-later sorts p o e blocks = ap (λ f. after f (broken_blocks (constants_of sorts) (sort_of sorts 0 p.sort) p.elements)) e ∙ blocks

-- what breaks no rule has a sort that breaks none
pub unbroken-sort : (sorts : List NamedSort) (t : SortTerm) → broken_rule sorts 0 t ≡ None → broken_in (constants_of sorts) (sort_of sorts 0 t) ≡ None
unbroken-sort sorts t e = by (is_known sorts t) (has_end sorts t) (broken_in (constants_of sorts) (sort_of sorts 0 t)) e
  where
    by : (k h : Bool) (o : Option Rule) → cond (not k) (Some rule.UnknownSort) (cond (not h) (Some rule.SortCircle) o) ≡ None → o ≡ None
    by false h o e = absurd (none-is-some rule.UnknownSort (sym e))
    by true false o e = absurd (none-is-some rule.SortCircle (sym e))
    by true true o e = e

-- the first partition that breaks a rule
pub fault-here : (sorts : List NamedSort) (ps : List Partition) (i : ℕ) (p : Partition) (rule : Rule) → i < length ps → p ≡ get_or ps i p → first_fault sorts (take i ps) ≡ None
    → broken_partition sorts p ≡ Some rule → first_fault sorts ps ≡ Some (p.id, rule)
fault-here sorts ps i p rule within is sound broken =
    sym (ap (first_fault sorts) split)
    ∙ faults-behind sorts (take i ps) (p ∷ drop (i + 1) ps) sound
    ∙ ap (λ o. before (fault_at p.id o) (partition_fault sorts (drop (i + 1) ps))) broken
  where
    split : take i ps ++ p ∷ drop (i + 1) ps ≡ ps
    split =
        sym (append_assoc (take i ps) (p ∷ []) (drop (i + 1) ps))
        ∙ ap (λ xs. xs ++ drop (i + 1) ps) (ap (λ x. take i ps ++ x ∷ []) is ∙ sym (take_more ps i p within))
        ∙ take-append-drop (i + 1) ps

-- the sort that a term stands for has colours, and not too many
pub resolved-size : (d : Domain) (sorts : List NamedSort) (partitions : List Partition) (t : SortTerm) (s : Sort) → StandsFor d sorts partitions → broken_rule sorts 0 t ≡ None → s ≡ sort_of sorts 0 t
    → (0 < size d.constants s) × (size d.constants s ≤ 2 ^ 20)
resolved-size d sorts partitions t s stands unbroken is =
    let bounds = unbroken-size (constants_of sorts) (sort_of sorts 0 t) (unbroken-sort sorts t unbroken) in
    subst (λ cs. (0 < size cs s) × (size cs s ≤ 2 ^ 20)) (sym (ap (λ d. d.constants) stands.is))
    (subst (λ s. (0 < size (constants_of sorts) s) × (size (constants_of sorts) s ≤ 2 ^ 20)) (sym is) bounds)

-- a partition that breaks no rule, after others that break none
pub divided-more : (sorts : List NamedSort) (ps : List Partition) (divisions more : List Division) (i : ℕ) (p : Partition) (division : Division) → i < length ps → p ≡ get_or ps i p
    → AreDivided sorts (take i ps) divisions → broken_partition sorts p ≡ None → division.sort ≡ partition_sort_of sorts p → division.blocks ≡ blocks_of sorts p
    → more ≡ divisions ++ division ∷ [] → AreDivided sorts (take (i + 1) ps) more
divided-more sorts ps divisions more i p division within is done unbroken sort blocks e =
    rw (e, take_more ps i p within ∙ ap (λ x. take i ps ++ x ∷ []) (sym is)) (record {
      sound = fault-behind sorts (take i ps) (p ∷ []) done.sound ∙ ap (λ o. before (fault_at p.id o) None) unbroken;
      sorts_match = map-append sort_of_division divisions (division ∷ []) ∙ ap (λ xs. xs ++ division.sort ∷ []) done.sorts_match ∙ ap (λ x. map (partition_sort_of sorts) (take i ps) ++ x ∷ []) sort
          ∙ sym (map-append (partition_sort_of sorts) (take i ps) (p ∷ []));
      blocks_match = map-append blocks_of_division divisions (division ∷ []) ∙ ap (λ xs. xs ++ division.blocks ∷ []) done.blocks_match ∙ ap (λ x. map (blocks_of sorts) (take i ps) ++ x ∷ []) blocks
          ∙ sym (map-append (blocks_of sorts) (take i ps) (p ∷ []));
    })

-- what breaks no rule, where the named sorts break none
pub sound-with : (sorts : List NamedSort) (ps : List Partition) → first_fault sorts [] ≡ None → partition_fault sorts ps ≡ None → first_fault sorts ps ≡ None
sound-with sorts ps e none = by (sort_fault_from sorts 0 sorts) e
  where
    by : (o : Option Fault) → before o None ≡ None → before o (partition_fault sorts ps) ≡ None
    by None e = none
    by (Some f) e = absurd (none-is-some f (sym e))

-- named sorts with partitions that break no rule
pub stands-with : (d e : Domain) (sorts : List NamedSort) (ps : List Partition) (divisions : List Division) → StandsFor d sorts [] → AreDivided sorts ps divisions
    → e ≡ with_partitions d (map (λ p. p.id) ps) (map element_ids ps) (map sort_of_division divisions) (map blocks_of_division divisions) → StandsFor e sorts ps
stands-with d e sorts ps divisions stands divided is = record {
  is = is ∙ ap (λ d. with_partitions d (map (λ p. p.id) ps) (map element_ids ps) (map sort_of_division divisions) (map blocks_of_division divisions)) stands.is
      ∙ ap (λ ss. with_partitions (domain_of sorts []) (map (λ p. p.id) ps) (map element_ids ps) ss (map blocks_of_division divisions)) divided.sorts_match
      ∙ ap (λ bs. with_partitions (domain_of sorts []) (map (λ p. p.id) ps) (map element_ids ps) (map (partition_sort_of sorts) ps) bs) divided.blocks_match;
  sound = sound-with sorts ps stands.sound divided.sound;
  ends = stands.ends;
  known = stands.known;
  named = stands.named;
}

-- as many partitions as sorts and blocks of them
pub divided-length : (sorts : List NamedSort) (ps : List Partition) (divisions : List Division) → AreDivided sorts ps divisions → length divisions ≡ length ps
divided-length sorts ps divisions divided =
    sym (length-map divisions sort_of_division) ∙ ap length divided.sorts_match ∙ length-map ps (partition_sort_of sorts)
