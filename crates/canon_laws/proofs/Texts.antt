-- Decimal texts have no white at their ends.
use Rattle.std.proofs.Common.{◌≡◌, ℕ, ◌<◌, ◌^◌, true, false, List, [], ◌∷◌, reverse, refl, ap, ◌∙◌, arith, if◌then◌else◌}
use Rattle.std.proofs.lemmas.Bool.{and_from, and_parts}
use Rattle.std.proofs.lemmas.Bool.Decides.{nat_tests}
use Rattle.std.proofs.lemmas.Fmt.{digits_decimal}
use Rattle.std.proofs.lemmas.List.{reverse-append, reverse-reverse}
use Rattle.std.specs.Char.{is_ascii_digit}
use Rattle.std.specs.Fmt.{decimal}
use Rattle.std.specs.List.{list_all}
use Rattle.doc_tree.specs.Characters.{is_white}
use Rattle.name_tables.proofs.Numbers.{decimal_numerals}
use Rattle.net_elements.specs.Rules.{trimmed, without_front}
use Rattle.pnml_read.specs.Nets.{unsigned}
use Rattle.pnml_read.proofs.Each.{all_both}
use Rattle.canon_laws.proofs.Numbers.{unsigned_back}

pub digit_is_dark : (c : ℕ) → is_ascii_digit c ≡ true → is_white c ≡ false
unfolding is_white
digit_is_dark c h = grind (arith, nat_tests, h)

front_stays : (xs : List ℕ) → list_all is_ascii_digit xs ≡ true → without_front xs ≡ xs
front_stays [] h = refl
front_stays (c ∷ cs) h = ap (λ b. if b then without_front cs else c ∷ cs) (digit_is_dark c (and_parts (is_ascii_digit c) (list_all is_ascii_digit cs) h).0)

all_reversed : (xs : List ℕ) → list_all is_ascii_digit xs ≡ true → list_all is_ascii_digit (reverse xs) ≡ true
all_reversed [] h = refl
all_reversed (x ∷ xs) h =
    ap (list_all is_ascii_digit) (reverse-append (x ∷ []) xs)
    ∙ all_both is_ascii_digit (reverse xs) (x ∷ []) (all_reversed xs (and_parts (is_ascii_digit x) (list_all is_ascii_digit xs) h).1)
    (and_from (is_ascii_digit x) true (and_parts (is_ascii_digit x) (list_all is_ascii_digit xs) h).0 refl)

trimmed_digits : (xs : List ℕ) → list_all is_ascii_digit xs ≡ true → trimmed xs ≡ xs
trimmed_digits xs h =
    ap (λ ys. reverse (without_front (reverse ys))) (front_stays xs h)
    ∙ ap reverse (front_stays (reverse xs) (all_reversed xs h))
    ∙ reverse-reverse xs

pub trimmed_decimal : (n : ℕ) → n < 2 ^ 63 → trimmed (decimal n) ≡ decimal n
trimmed_decimal n small = trimmed_digits (decimal n) (digits_decimal decimal_numerals n (omega (arith, small)))

pub trimmed_back : (n : ℕ) → n < 2 ^ 63 → unsigned (trimmed (decimal n)) ≡ n
trimmed_back n small = ap unsigned (trimmed_decimal n small) ∙ unsigned_back n small
