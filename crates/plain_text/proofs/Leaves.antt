-- What an element with a text alone writes.
use Rattle.std.proofs.Common.{◌≡◌, ℕ, ◌^◌, ◌<◌, Bool, true, false, ◌&&◌, List, [], ◌∷◌, ◌++◌, length, codes, decimal, refl, sym, ap, ◌∙◌, append_assoc, arith}
use Rattle.std.proofs.lemmas.Bool.{false≢true}
use Rattle.std.proofs.lemmas.Bool.Decides.{nat_tests}
use Rattle.std.proofs.lemmas.Fmt.{digits_decimal, decimal_nonempty}
use Rattle.std.proofs.lemmas.List.{append-nil}
use Rattle.std.specs.Char.{is_ascii_digit}
use Rattle.std.specs.List.{list_all}
use Rattle.doc_model.specs.Texts.{escaped, escaped_byte}
use Rattle.doc_model.proofs.TextLaws.{text_of-leaf}
use Rattle.name_tables.proofs.Numbers.{decimal_numerals}
use Rattle.plain_text.specs.Markup.{end_tag, leaf_text, number_element, text_element}

pub leaf_text-text : (name text : List ℕ) → leaf_text name text ≡ text_element name text
unfolding leaf_text text_element
leaf_text-text name [] = text_of-leaf name [] ∙ ap (λ start. start ++ codes "/>\n") (sym (append-nil (60 ∷ name)))
leaf_text-text name (c ∷ cs) = text_of-leaf name (c ∷ cs) ∙ sym (append_assoc (60 ∷ name) (62 ∷ escaped (c ∷ cs)) (end_tag name))

-- a digit is written as it is
plain_digit : (c : ℕ) → is_ascii_digit c ≡ true → escaped_byte c ≡ c ∷ []
plain_digit c digit = grind (arith, nat_tests, digit)

both : (a b : Bool) → (a && b) ≡ true → (a ≡ true) × (b ≡ true)
both true true _ = (refl, refl)
both true false never = absurd (false≢true never)
both false b never = absurd (false≢true never)

plain_digits : (digits : List ℕ) → list_all is_ascii_digit digits ≡ true → escaped digits ≡ digits
plain_digits [] _ = refl
plain_digits (c ∷ cs) are =
    let parts = both (is_ascii_digit c) (list_all is_ascii_digit cs) are in
    ap (λ front. front ++ escaped cs) (plain_digit c parts.0) ∙ ap (λ rest. c ∷ rest) (plain_digits cs parts.1)

text_element-plain : (name text : List ℕ) → 0 < length text → escaped text ≡ text → text_element name text ≡ 60 ∷ name ++ 62 ∷ text ++ end_tag name
unfolding text_element
text_element-plain name [] some plain = absurd (omega (arith, some))
text_element-plain name (c ∷ cs) some plain = ap (λ text. 60 ∷ name ++ 62 ∷ text ++ end_tag name) plain

pub leaf_text-number : (name : List ℕ) (number : ℕ) → number < 2 ^ 64 → leaf_text name (decimal number) ≡ number_element name number
unfolding number_element
leaf_text-number name number fits =
    leaf_text-text name (decimal number)
    ∙ text_element-plain name (decimal number) (decimal_nonempty number fits) (plain_digits (decimal number) (digits_decimal decimal_numerals number fits))
