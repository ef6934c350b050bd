-- The number that digits write, read from the front.
use Rattle.std.proofs.Common.{◌≡◌, ℕ, ◌+◌, ◌*◌, ◌^◌, ◌<◌, ◌≤◌, Bool, true, false, cond, nat_lt, ◌&&◌, List, [], ◌∷◌, length, drop, get_or, ◌==◌, neg_ℤ, unsigned_abs, negsuc, suc, Option, None, Some, ℤ, pos, refl, sym, ap, ◌∙◌, arith, rules}
use Rattle.std.specs.Prelude.{◌-◌}
use Rattle.std.proofs.Math.Nat.{pow-suc}
use Rattle.std.proofs.lemmas.Bool.{lt-ltb, cond-true, cond-false, eq-eqb, ne_eqb}
use Rattle.std.proofs.lemmas.Bool.Decides.{nat_tests}
use Rattle.std.proofs.lemmas.Str.Parse.{IsDigitsTest, IsNumeralModel, numerals_by_weight, not_in_digits}
use Rattle.std.specs.Char.{is_ascii_digit}
use Rattle.std.specs.List.{list_all}
use Rattle.std.specs.Option.{option_map}
use Rattle.std.specs.Str.{IsUtf8}
use Rattle.std.proofs.lemmas.Fmt.{IsAscii-from_digits, digits_decimal, digits_value-decimal, decimal_nonempty}
use Rattle.std.specs.Fmt.{decimal, signed_decimal}
use Rattle.std.proofs.lemmas.Str.{IsUtf8-from_ascii}
use Rattle.name_tables.specs.Grammar.{decimal_value, magnitude_of, number_of}

digits_test : IsDigitsTest (λ ds. list_all is_ascii_digit ds ≡ true)
digits_test = search rules

pub decimal_numerals : IsNumeralModel (λ ds. list_all is_ascii_digit ds ≡ true) decimal_value
decimal_numerals = numerals_by_weight _ digits_test decimal_value (search rules)

pub IsUtf8-digits : (digits : List ℕ) → list_all is_ascii_digit digits ≡ true → IsUtf8 digits
IsUtf8-digits digits are = IsUtf8-from_ascii digits (IsAscii-from_digits digits (decimal_numerals.to digits are))

-- the number that digits write behind those of a number, where it is below 2^63
abbrev pub read_on : ℕ → List ℕ → Option ℕ
read_on value [] = cond (nat_lt value (2 ^ 63)) (Some value) None
read_on value (c ∷ cs) = cond (is_ascii_digit c) (read_on (value * 10 + (c - 48)) cs) None

abbrev if_small : Bool → ℕ → Option ℕ
if_small are value = cond (are && nat_lt value (2 ^ 63)) (Some value) None

shifted : (value digit power behind : ℕ) → (value * 10 + digit) * power + behind ≡ value * (power * 10) + (digit * power + behind)
shifted value digit power behind = omega arith

read_on-value : (digits : List ℕ) (value : ℕ) → read_on value digits ≡ if_small (list_all is_ascii_digit digits) (value * 10 ^ length digits + decimal_value digits)
read_on-value [] value = let same : value ≡ value * 10 ^ 0 + 0 = omega arith in ap (if_small true) same
read_on-value (c ∷ cs) value = by (is_ascii_digit c) refl (read_on-value cs (value * 10 + (c - 48)))
  where
    by : (t : Bool) → is_ascii_digit c ≡ t
        → read_on (value * 10 + (c - 48)) cs ≡ if_small (list_all is_ascii_digit cs) ((value * 10 + (c - 48)) * 10 ^ length cs + decimal_value cs)
        → read_on value (c ∷ cs) ≡ if_small (list_all is_ascii_digit (c ∷ cs)) (value * 10 ^ length (c ∷ cs) + decimal_value (c ∷ cs))
    by true is later =
        rw is (later ∙ ap (if_small (list_all is_ascii_digit cs)) (shifted value (c - 48) (10 ^ length cs) (decimal_value cs) ∙ ap (λ p. value * p + decimal_value (c ∷ cs)) (sym (pow-suc 10 (length cs)))))
    by false is later = rw is refl

-- one or more digits are read from 0 on
pub magnitude_read : (digits : List ℕ) → 0 < length digits → magnitude_of digits ≡ read_on 0 digits
magnitude_read digits some =
    let whole : 0 * 10 ^ length digits + decimal_value digits ≡ decimal_value digits = omega arith in
    ap (λ t. cond (t && list_all is_ascii_digit digits && nat_lt (decimal_value digits) (2 ^ 63)) (Some (decimal_value digits)) None) (lt-ltb 0 (length digits) some)
    ∙ sym (read_on-value digits 0 ∙ ap (if_small (list_all is_ascii_digit digits)) whole)

-- a number that is past 2^63 - 1 stays past it
pub read_on-past : (digits : List ℕ) (value : ℕ) → 2 ^ 63 ≤ value → read_on value digits ≡ None
read_on-past [] value past = cond-false (nat_lt value (2 ^ 63)) _ _ (grind (arith, nat_tests))
read_on-past (c ∷ cs) value past = by (is_ascii_digit c) (read_on-past cs (value * 10 + (c - 48)) (omega arith))
  where
    by : (t : Bool) → read_on (value * 10 + (c - 48)) cs ≡ None → cond t (read_on (value * 10 + (c - 48)) cs) None ≡ None
    by true none = none
    by false none = refl

-- and so does one that is past it with one digit more
pub read_on-past_before : (digits : List ℕ) (value : ℕ) → 0 < length digits → 922337203685477580 < value → read_on value digits ≡ None
read_on-past_before [] value some past = absurd (omega arith)
read_on-past_before (c ∷ cs) value some past = by (is_ascii_digit c) (read_on-past cs (value * 10 + (c - 48)) (omega arith))
  where
    by : (t : Bool) → read_on (value * 10 + (c - 48)) cs ≡ None → cond t (read_on (value * 10 + (c - 48)) cs) None ≡ None
    by true none = none
    by false none = refl

-- a text with a minus in front, where one may stand there, and any other
pub number_negative : (text : List ℕ) → get_or text 0 0 ≡ 45 → option_map (λ n. neg_ℤ (pos n)) (magnitude_of (drop 1 text)) ≡ number_of true text
unfolding number_of
number_negative text minus = sym (cond-true (get_or text 0 0 == 45) _ _ (eq-eqb _ _ minus))

pub number_plain : (signed : Bool) (text : List ℕ) → (signed ≡ true → get_or text 0 0 ≡ 45 → ⊥) → option_map pos (magnitude_of text) ≡ number_of signed text
unfolding number_of
number_plain false text plain = refl
number_plain true text plain = sym (cond-false (get_or text 0 0 == 45) _ _ (ne_eqb _ _ (plain refl)))

-- the text of a number is its own numeral
magnitude-decimal : (value : ℕ) → value < 2 ^ 63 → magnitude_of (decimal value) ≡ Some value
magnitude-decimal value small =
    let are : list_all is_ascii_digit (decimal value) ≡ true = digits_decimal decimal_numerals value (omega arith) in
    let is : decimal_value (decimal value) ≡ value = digits_value-decimal decimal_numerals value (omega arith) in
    let some : 0 < length (decimal value) = decimal_nonempty value (omega arith) in
    by (length (decimal value)) (list_all is_ascii_digit (decimal value)) (decimal_value (decimal value)) value some are is small
  where
    by : (n : ℕ) (b : Bool) (v value : ℕ) → 0 < n → b ≡ true → v ≡ value → value < 2 ^ 63
        → cond (nat_lt 0 n && b && nat_lt v (2 ^ 63)) (Some v) None ≡ Some value
    by n b v value some are is small = grind (arith, nat_tests)

pub decimal-read_back : (value : ℕ) (signed : Bool) → value < 2 ^ 63 → number_of signed (decimal value) ≡ Some (pos value)
decimal-read_back value signed small =
    sym (number_plain signed (decimal value) (λ _ minus. not_minus minus)) ∙ ap (option_map pos) (magnitude-decimal value small)
  where
    not_minus : get_or (decimal value) 0 0 ≡ 45 → ⊥
    not_minus minus =
        not_in_digits decimal_numerals (decimal value) 45 (digits_decimal decimal_numerals value (omega arith)) (λ within. omega (arith, within.0)) 0 (decimal_nonempty value (omega arith)) minus

pub signed_decimal-read_back : (value : ℤ) → unsigned_abs value < 2 ^ 63 → number_of true (signed_decimal value) ≡ Some value
signed_decimal-read_back (pos n) small = decimal-read_back n true small
signed_decimal-read_back (negsuc n) small =
    sym (number_negative (45 ∷ decimal (suc n)) refl) ∙ ap (option_map (λ n. neg_ℤ (pos n))) (magnitude-decimal (suc n) small)
