-- Texts that a document may have: ids, decimal texts and the names of the table.
use Rattle.std.proofs.Common.{◌≡◌, ℕ, suc, ◌+◌, ◌*◌, ◌/◌, ◌%◌, ◌<◌, ◌≤◌, ◌^◌, ◌⊎◌, inl, inr, ℤ, pos, negsuc, Bool, true, false, ◌&&◌, nat_lt, List, [], ◌∷◌, ◌++◌, length, chars, append_assoc, append-nil, refl, sym, subst, arith, ◌∙◌}
use Rattle.std.proofs.Math.Utf8.{encode, encodes, scalar, scalars, scalar_cases}
use Rattle.std.proofs.lemmas.Bool.{and_parts, cases_lt, cond-false, cond-true, false≢true, le-ltb, lt-ltb, ltb-true}
use Rattle.std.proofs.lemmas.Bool.Decides.{nat_tests}
use Rattle.std.proofs.lemmas.Fmt.{digits_decimal}
use Rattle.std.proofs.lemmas.Str.{IsUtf8-from_is_utf8, encode_ascii, encodes-chars, scalars-chars}
use Rattle.std.specs.Char.{is_ascii_digit}
use Rattle.std.specs.Fmt.{decimal, signed_decimal}
use Rattle.std.specs.List.{list_all}
use Rattle.std.specs.Str.{is_utf8}
use Rattle.doc_tree.specs.Characters
use Rattle.doc_tree.specs.Characters.{is_ascii, is_front_of_four, is_front_of_three, is_lead_of_two, is_name_byte, is_name_start, is_tail, is_white, IsCharacter, IsWide}
use Rattle.doc_tree.specs.Documents
use Rattle.doc_tree.specs.Documents.{IsName}
use Rattle.doc_tree.specs.Writable
use Rattle.doc_tree.specs.Writable.{AreCharacters}
use Rattle.name_tables.proofs.Numbers.{decimal_numerals}
use Rattle.name_tables.specs.Grammar.{is_id_character, is_id_text}
use Rattle.canon_laws.specs.Fitting.{fits}

-- characters in front of others
one_character : {w : List ℕ} → IsCharacter is_ascii w → AreCharacters w
one_character is = Writable.AreCharacters.more Writable.AreCharacters.nothing is

joined : (a : List ℕ) {b : List ℕ} → AreCharacters a → AreCharacters b → AreCharacters (a ++ b)
joined a are Writable.AreCharacters.nothing = subst AreCharacters (sym (append-nil a)) are
joined a are (Writable.AreCharacters.more {b} {w} front last) = subst AreCharacters (append_assoc a b w) (Writable.AreCharacters.more (joined a are front) last)

-- texts of ASCII
pub ascii_characters : (text : List ℕ) → list_all is_ascii text ≡ true → AreCharacters text
ascii_characters [] are = Writable.AreCharacters.nothing
ascii_characters (c ∷ cs) are =
    let parts = and_parts (is_ascii c) (list_all is_ascii cs) are in
    joined (c ∷ []) (one_character (Characters.IsCharacter.ascii c parts.0)) (ascii_characters cs parts.1)

digit_is_ascii : (c : ℕ) → is_ascii_digit c ≡ true → is_ascii c ≡ true
unfolding is_ascii is_white
digit_is_ascii c is = grind (arith, nat_tests, is)

-- what passes a test passes another
pub all_pass : {A : Type 0} (test other : A → Bool) → ((x : A) → test x ≡ true → other x ≡ true) → (xs : List A) → list_all test xs ≡ true → list_all other xs ≡ true
all_pass test other each [] h = refl
all_pass test other each (x ∷ xs) h =
    let parts = and_parts (test x) (list_all test xs) h in
    λ i. each x parts.0 i && all_pass test other each xs parts.1 i

pub digit_characters : (text : List ℕ) → list_all is_ascii_digit text ≡ true → AreCharacters text
digit_characters text are = ascii_characters text (all_pass is_ascii_digit is_ascii digit_is_ascii text are)

pub decimal_digits : (n : ℕ) → n < 2 ^ 64 → list_all is_ascii_digit (decimal n) ≡ true
decimal_digits n small = digits_decimal decimal_numerals n small

pub decimal_characters : (n : ℕ) → n < 2 ^ 64 → AreCharacters (decimal n)
decimal_characters n small = digit_characters (decimal n) (decimal_digits n small)

minus_is_ascii : is_ascii 45 ≡ true
unfolding is_ascii is_white
minus_is_ascii = refl

pub signed_characters : (n : ℤ) → fits n ≡ true → AreCharacters (signed_decimal n)
signed_characters (pos n) fit = decimal_characters n (let small : n < 2 ^ 63 = ltb-true n (2 ^ 63) fit in omega (arith, small))
signed_characters (negsuc n) fit =
    joined (45 ∷ []) (one_character (Characters.IsCharacter.ascii 45 minus_is_ascii))
    (decimal_characters (suc n) (let small : suc n < 2 ^ 63 = ltb-true (suc n) (2 ^ 63) fit in omega (arith, small)))

-- ids
id_is_ascii : (c : ℕ) → is_id_character c ≡ true → c < 128 → is_ascii c ≡ true
unfolding is_ascii is_white
id_is_ascii c is small = grind (arith, nat_tests, is)

-- the bytes of a character past ASCII, by their number
two_bytes : (c : ℕ) → 128 ≤ c → c < 2048 → encode c ≡ (192 + c / 64) ∷ (128 + c % 64) ∷ []
unfolding encode
two_bytes c l h = cond-false _ _ _ (le-ltb c 128 l) ∙ cond-true _ _ _ (lt-ltb c 2048 h)

three_bytes : (c : ℕ) → 2048 ≤ c → c < 65536 → encode c ≡ (224 + c / 4096) ∷ (128 + c / 64 % 64) ∷ (128 + c % 64) ∷ []
unfolding encode
three_bytes c l h = cond-false _ _ _ (le-ltb c 128 (omega arith)) ∙ cond-false _ _ _ (le-ltb c 2048 l) ∙ cond-true _ _ _ (lt-ltb c 65536 h)

four_bytes : (c : ℕ) → 65536 ≤ c → encode c ≡ (240 + c / 262144) ∷ (128 + c / 4096 % 64) ∷ (128 + c / 64 % 64) ∷ (128 + c % 64) ∷ []
unfolding encode
four_bytes c l =
    cond-false _ _ _ (le-ltb c 128 (omega arith)) ∙ cond-false _ _ _ (le-ltb c 2048 (omega arith)) ∙ cond-false _ _ _ (le-ltb c 65536 l)

lead_two : (a b c : ℕ) → 192 ≤ a → a < 224 → b < 192 → c + 12416 ≡ a * 64 + b → 128 ≤ c → is_lead_of_two a ≡ true
unfolding is_lead_of_two
lead_two a b c low high tail is past = let least : 194 ≤ a = omega arith in grind (arith, nat_tests)

tail_next : (x : ℕ) → is_tail (128 + x % 64) ≡ true
unfolding is_tail
tail_next x = let small : 128 + x % 64 < 192 = omega arith in grind (arith, nat_tests)

front_three : (a b d c : ℕ) → 224 ≤ a → a < 240 → 128 ≤ b → b < 192 → 128 ≤ d → d < 192 → c + 925824 ≡ a * 4096 + b * 64 + d → 2048 ≤ c → (c < 55296) ⊎ (57344 ≤ c)
    → is_front_of_three a b ≡ true
unfolding is_front_of_three is_tail
front_three a b d c a_low a_high b_low b_high d_low d_high is past range =
    let long : a ≡ 224 → 160 ≤ b = λ e. omega arith in
    let no_surrogate : a ≡ 237 → b < 160 = λ e. elim range [ inl below ↦ omega arith | inr above ↦ omega arith ] in
    grind (arith, nat_tests)

front_four : (a b d e c : ℕ) → 240 ≤ a → 128 ≤ b → b < 192 → 128 ≤ d → d < 192 → 128 ≤ e → e < 192
    → c + 63447168 ≡ a * 262144 + b * 4096 + d * 64 + e → 65536 ≤ c → c < 1114112 → is_front_of_four a b ≡ true
unfolding is_front_of_four is_tail
front_four a b d e c a_low b_low b_high d_low d_high e_low e_high is past below =
    let high : a < 245 = omega arith in
    let long : a ≡ 240 → 144 ≤ b = λ e. omega arith in
    let last : a ≡ 244 → b < 144 = λ e. omega arith in
    grind (arith, nat_tests)

encoded_wide : (c : ℕ) → (c < 55296) ⊎ ((57344 ≤ c) × (c < 1114112)) → 128 ≤ c → IsWide (encode c)
encoded_wide c range past = by (cases_lt c 2048) (cases_lt c 65536)
  where
    below : c < 1114112
    below = elim range [ inl h ↦ omega arith | inr h ↦ h.1 ]

    apart : (c < 55296) ⊎ (57344 ≤ c)
    apart = elim range [ inl h ↦ inl h | inr h ↦ inr h.0 ]

    by : (c < 2048) ⊎ (2048 ≤ c) → (c < 65536) ⊎ (65536 ≤ c) → IsWide (encode c)
    by (inl h) _ =
        subst IsWide (sym (two_bytes c past h))
        (Characters.IsWide.two (192 + c / 64) (128 + c % 64)
        (lead_two (192 + c / 64) (128 + c % 64) c (omega arith) (omega arith) (omega arith) (omega arith) past) (tail_next c))
    by (inr l) (inl h) =
        subst IsWide (sym (three_bytes c l h))
        (Characters.IsWide.three (224 + c / 4096) (128 + c / 64 % 64) (128 + c % 64)
        (front_three (224 + c / 4096) (128 + c / 64 % 64) (128 + c % 64) c
        (omega arith) (omega arith) (omega arith) (omega arith) (omega arith) (omega arith) (omega arith) l apart)
        (tail_next c))
    by (inr _) (inr l) =
        subst IsWide (sym (four_bytes c l))
        (Characters.IsWide.four (240 + c / 262144) (128 + c / 4096 % 64) (128 + c / 64 % 64) (128 + c % 64)
        (front_four (240 + c / 262144) (128 + c / 4096 % 64) (128 + c / 64 % 64) (128 + c % 64) c
        (omega arith) (omega arith) (omega arith) (omega arith) (omega arith) (omega arith) (omega arith) (omega arith) l below)
        (tail_next (c / 64)) (tail_next c))

encoded_character : (c : ℕ) → scalar c ≡ true → is_id_character c ≡ true → IsCharacter is_ascii (encode c)
encoded_character c ok is = elim (cases_lt c 128) [
  | inl small ↦ subst (IsCharacter is_ascii) (sym (encode_ascii c small)) (Characters.IsCharacter.ascii c (id_is_ascii c is small))
  | inr past ↦ Characters.IsCharacter.wide (encoded_wide c (scalar_cases c ok) past)
]

encoded_characters : (cs : List ℕ) → scalars cs ≡ true → list_all is_id_character cs ≡ true → AreCharacters (encodes cs)
encoded_characters [] ok are = Writable.AreCharacters.nothing
encoded_characters (c ∷ cs) ok are =
    let oks = and_parts (scalar c) (scalars cs) ok in
    let parts = and_parts (is_id_character c) (list_all is_id_character cs) are in
    joined (encode c) (one_character (encoded_character c oks.0 parts.0)) (encoded_characters cs oks.1 parts.1)

pub id_characters : (id : List ℕ) → is_id_text id ≡ true → AreCharacters id
unfolding is_id_text
id_characters id is =
    let parts = and_parts (nat_lt 0 (length id) && is_utf8 id) (list_all is_id_character (chars id)) is in
    let valid = IsUtf8-from_is_utf8 id (and_parts (nat_lt 0 (length id)) (is_utf8 id) parts.0).1 in
    subst AreCharacters (encodes-chars id valid) (encoded_characters (chars id) (scalars-chars id valid) parts.1)

-- names of ASCII
abbrev pub is_ascii_name : List ℕ → Bool
is_ascii_name [] = false
is_ascii_name (c ∷ cs) = is_name_start c && list_all is_name_byte cs

longer_name : (n s : List ℕ) → IsName n → list_all is_name_byte s ≡ true → IsName (n ++ s)
longer_name n [] is are = subst IsName (sym (append-nil n)) is
longer_name n (c ∷ cs) is are =
    let parts = and_parts (is_name_byte c) (list_all is_name_byte cs) are in
    subst IsName (append_assoc n (c ∷ []) cs) (longer_name (n ++ c ∷ []) cs (Documents.IsName.more is (Characters.IsCharacter.ascii c parts.0)) parts.1)

pub ascii_name : (n : List ℕ) → is_ascii_name n ≡ true → IsName n
ascii_name [] never = absurd (false≢true never)
ascii_name (c ∷ cs) is =
    let parts = and_parts (is_name_start c) (list_all is_name_byte cs) is in
    longer_name (c ∷ []) cs (Documents.IsName.one (Characters.IsCharacter.ascii c parts.0)) parts.1
