-- Sound values from sound parts: numbers, sorts, terms and guards.
use Rattle.std.proofs.Common.{◌≡◌, ℕ, zero, suc, ◌==◌, ◌^◌, nat_lt, pos, neg_ℤ, Bool, true, false, ◌&&◌, List, length, drop, Option, None, Some, refl, ap, sym, subst, ◌∙◌, if◌then◌else◌}
use Rattle.std.proofs.lemmas.Bool.{and_parts, false≢true}
use Rattle.std.specs.Bool.{⊤}
use Rattle.std.specs.Char.{is_ascii_digit}
use Rattle.std.specs.List.{list_all}
use Rattle.std.specs.Option.{option_map}
use Rattle.std.specs.Prelude.{slice_index}
use Rattle.name_tables.specs.Grammar.{decimal_value, is_id_text, magnitude_of, number_of}
use Rattle.net_model.specs.declared.sorts.SortTerm.{SortTerm, map-SortTerm, out-SortTerm, roll-SortTerm, fold-roll-SortTerm, fold_out-SortTerm, out-roll-SortTerm}
use Rattle.net_model.specs.declared.sorts.SortTerm.TheOpen as sort
use Rattle.net_model.specs.declared.sorts.SortTerm.TheVariants as written
use Rattle.net_model.specs.declared.terms.Term.{Term, map-Term, roll-Term, fold-roll-Term}
use Rattle.net_model.specs.declared.terms.Term.TheOpen as term
use Rattle.net_model.specs.declared.terms.Guard.{Guard, map-Guard, roll-Guard, fold-roll-Guard}
use Rattle.net_model.specs.declared.terms.Guard.TheOpen as guard
use Rattle.pnml_read.specs.Nets.{or_zero, signed, unsigned}
use Rattle.canon_laws.specs.Fitting.{fits}
use Rattle.canon_laws.proofs.Sound.{declared_sound, declared_sound_by_parts, guard_sound, guard_sound_by_parts, sort_sound, sort_sound_by_parts, term_sound, term_sound_by_parts}

-- Numbers.

abbrev IsSmall : Option ℕ → Type 0
IsSmall None = ⊤
IsSmall (Some n) = nat_lt n (2 ^ 63) ≡ true

magnitude_small : (digits : List ℕ) → IsSmall (magnitude_of digits)
magnitude_small digits = by (nat_lt 0 (length digits) && list_all is_ascii_digit digits && nat_lt (decimal_value digits) (2 ^ 63)) (decimal_value digits)
    (λ h. (and_parts (nat_lt 0 (length digits) && list_all is_ascii_digit digits) (nat_lt (decimal_value digits) (2 ^ 63)) h).1)
  where
    by : (b : Bool) (n : ℕ) → (b ≡ true → nat_lt n (2 ^ 63) ≡ true) → IsSmall (if b then Some n else None)
    by true n h = h refl
    by false n h = tt

zero_fits : fits (pos 0) ≡ true
zero_fits = refl

pos_fits : (o : Option ℕ) → IsSmall o → fits (or_zero (option_map pos o)) ≡ true
pos_fits None h = zero_fits
pos_fits (Some n) h = h

neg_fits : (o : Option ℕ) → IsSmall o → fits (or_zero (option_map (λ n. neg_ℤ (pos n)) o)) ≡ true
neg_fits None h = zero_fits
neg_fits (Some zero) h = zero_fits
neg_fits (Some (suc n)) h = h

number_fits : (sign : Bool) (text : List ℕ) → fits (or_zero (number_of sign text)) ≡ true
unfolding number_of
number_fits sign text = by (sign && slice_index text 0 == 45) (magnitude_of (drop 1 text)) (magnitude_of text) (magnitude_small (drop 1 text)) (magnitude_small text)
  where
    by : (b : Bool) (rest whole : Option ℕ) → IsSmall rest → IsSmall whole
        → fits (or_zero (if b then option_map (λ n. neg_ℤ (pos n)) rest else option_map pos whole)) ≡ true
    by true rest whole h k = neg_fits rest h
    by false rest whole h k = pos_fits whole k

pub signed_fits : (text : List ℕ) → fits (signed text) ≡ true
signed_fits text = number_fits true text

pub unsigned_fits : (text : List ℕ) → nat_lt (unsigned text) (2 ^ 63) ≡ true
unsigned_fits text = number_fits false text

-- Sorts, terms and guards, from their layers.

pub sort_from : (y : sort.SortTerm-F SortTerm) (s : SortTerm) → roll-SortTerm y ≡ s → sort_sound_by_parts (map-SortTerm SortTerm Bool sort_sound y) ≡ true → sort_sound s ≡ true
sort_from y s is h = subst (λ s. sort_sound s ≡ true) is (fold-roll-SortTerm Bool sort_sound_by_parts y ∙ h)

pub term_from : (y : term.Term-F Term) (t : Term) → roll-Term y ≡ t → term_sound_by_parts (map-Term Term Bool term_sound y) ≡ true → term_sound t ≡ true
term_from y t is h = subst (λ t. term_sound t ≡ true) is (fold-roll-Term Bool term_sound_by_parts y ∙ h)

pub guard_from : (y : guard.Guard-F Guard) (g : Guard) → roll-Guard y ≡ g → guard_sound_by_parts (map-Guard Guard Bool guard_sound y) ≡ true → guard_sound g ≡ true
guard_from y g is h = subst (λ g. guard_sound g ≡ true) is (fold-roll-Guard Bool guard_sound_by_parts y ∙ h)

pub listed_sound : (ids : List (List ℕ)) → list_all is_id_text ids ≡ true → declared_sound (written.Listed ids) ≡ true
listed_sound ids h =
    subst (λ s. declared_sound s ≡ true) (written.rolls-Listed ids)
    (ap (λ y. declared_sound_by_parts y (sort_sound (roll-SortTerm (sort.Listed ids)))) (out-roll-SortTerm (sort.Listed ids)) ∙ h)

pub cyclic_sound : (ids : List (List ℕ)) → list_all is_id_text ids ≡ true → declared_sound (written.Cyclic ids) ≡ true
cyclic_sound ids h =
    subst (λ s. declared_sound s ≡ true) (written.rolls-Cyclic ids)
    (ap (λ y. declared_sound_by_parts y (sort_sound (roll-SortTerm (sort.Cyclic ids)))) (out-roll-SortTerm (sort.Cyclic ids)) ∙ h)

-- a sort without an enumeration is a declared sort too
pub declared_from : (s : SortTerm) → sort_sound s ≡ true → declared_sound s ≡ true
declared_from s h = by (out-SortTerm s) (sort_sound s) (sym (fold_out-SortTerm Bool sort_sound_by_parts s) ∙ h) h
  where
    by : (y : sort.SortTerm-F SortTerm) (b : Bool) → sort_sound_by_parts (map-SortTerm SortTerm Bool sort_sound y) ≡ true → b ≡ true → declared_sound_by_parts y b ≡ true
    by sort.Dot b h is = is
    by (sort.Named id) b h is = is
    by (sort.Product parts) b h is = is
    by (sort.Range span) b h is = is
    by (sort.Listed ids) b h is = absurd (false≢true h)
    by (sort.Cyclic ids) b h is = absurd (false≢true h)
