-- The characters of documents, byte by byte.
use Rattle.std.specs.Prelude.{◌≡◌, ℕ, ◌+◌, ◌-◌, ◌*◌, ◌/◌, ◌%◌, Bool, true, false, cond, not, List, [], ◌∷◌, ◌++◌, nat_eq, nat_lt, nat_le, ◌&&◌, ◌||◌, codes}
use Rattle.doc_tree.specs.declared.places.Quote.{Quote}
use Rattle.doc_tree.specs.declared.places.Quote.TheVariants.{Single, Double}
use Rattle.doc_tree.specs.declared.places.Class.{Class}
use Rattle.doc_tree.specs.declared.places.Class.TheVariants.{White, Text, Value, Comment, Instruction}
use Rattle.doc_tree.specs.declared.places.Entity.{Entity}
use Rattle.doc_tree.specs.declared.places.Entity.TheVariants as entity
use Rattle.doc_tree.specs.declared.places.Radix.{Radix}
use Rattle.doc_tree.specs.declared.places.Radix.TheVariants.{Decimal, Hexadecimal}

-- space, tab, line feed and carriage return
unfoldable pub is_white : ℕ → Bool
is_white c = nat_eq c 32 || nat_eq c 9 || nat_eq c 10 || nat_eq c 13

-- a character of ASCII: white, or from U+0021 on
unfoldable pub is_ascii : ℕ → Bool
is_ascii c = is_white c || (nat_le 33 c && nat_lt c 128)

-- one that stands for itself in a text: no `&` and no `<`
unfoldable pub is_text : ℕ → Bool
is_text c = is_ascii c && not (nat_eq c 38 || nat_eq c 60)

abbrev pub quote_byte : Quote → ℕ
quote_byte Single = 39
quote_byte Double = 34

-- one that stands for itself in a value
unfoldable pub is_value : Quote → ℕ → Bool
is_value q c = is_text c && not (nat_eq c (quote_byte q))

-- a letter, `_` or `:`
unfoldable pub is_name_start : ℕ → Bool
is_name_start c = (nat_le 97 c && nat_le c 122) || (nat_le 65 c && nat_le c 90) || nat_eq c 95 || nat_eq c 58

-- these, digits, `-` and `.`
unfoldable pub is_name_byte : ℕ → Bool
is_name_byte c = is_name_start c || (nat_le 48 c && nat_le c 57) || nat_eq c 45 || nat_eq c 46

-- a character of ASCII that isn't `-` or `>`
unfoldable pub is_comment_byte : ℕ → Bool
is_comment_byte c = is_ascii c && not (nat_eq c 45 || nat_eq c 62)

-- a character of ASCII that isn't `?` or `>`
unfoldable pub is_instruction_byte : ℕ → Bool
is_instruction_byte c = is_ascii c && not (nat_eq c 63 || nat_eq c 62)

-- all bytes pass a test
abbrev pub all_bytes : (ℕ → Bool) → List ℕ → Bool
all_bytes ok [] = true
all_bytes ok (c ∷ s) = cond (ok c) (all_bytes ok s) false

-- the tests by which bytes are taken in one go
abbrev pub class_test : Class → ℕ → Bool
class_test White = is_white
class_test Text = is_text
class_test (Value q) = is_value q
class_test Comment = is_comment_byte
class_test Instruction = is_instruction_byte

-- Bytes of the characters past ASCII, as the table of well-formed UTF-8 byte sequences of the Unicode standard (table 3-7) has them:
-- the first byte of any, then the first of two, and any byte after the second
unfoldable pub is_lead : ℕ → Bool
is_lead a = nat_le 194 a && nat_lt a 245

unfoldable pub is_lead_of_two : ℕ → Bool
is_lead_of_two a = nat_le 194 a && nat_lt a 224

unfoldable pub is_tail : ℕ → Bool
is_tail b = nat_le 128 b && nat_lt b 192

-- the first two bytes of three: after E0 no overlong form, after ED no surrogate
unfoldable pub is_front_of_three : ℕ → ℕ → Bool
is_front_of_three a b = nat_le 224 a && nat_lt a 240 && is_tail b && (nat_le 160 b || not (nat_eq a 224)) && (nat_lt b 160 || not (nat_eq a 237))

-- the first two bytes of four: after F0 no overlong form, after F4 nothing past U+10FFFF
unfoldable pub is_front_of_four : ℕ → ℕ → Bool
is_front_of_four a b = nat_le 240 a && nat_lt a 245 && is_tail b && (nat_le 144 b || not (nat_eq a 240)) && (nat_lt b 144 || not (nat_eq a 244))

-- the bytes of a character past ASCII
pub data IsWide : List ℕ → Type 0 where
  two : (a b : ℕ) → is_lead_of_two a ≡ true → is_tail b ≡ true → IsWide (a ∷ b ∷ [])
  three : (a b c : ℕ) → is_front_of_three a b ≡ true → is_tail c ≡ true → IsWide (a ∷ b ∷ c ∷ [])
  four : (a b c d : ℕ) → is_front_of_four a b ≡ true → is_tail c ≡ true → is_tail d ≡ true → IsWide (a ∷ b ∷ c ∷ d ∷ [])

-- a character: one of ASCII that passes the test, or any past ASCII
pub data IsCharacter (ok : ℕ → Bool) : List ℕ → Type 0 where
  ascii : (c : ℕ) → ok c ≡ true → IsCharacter ok (c ∷ [])
  wide : {w : List ℕ} → IsWide w → IsCharacter ok w

-- the number of a character that a document may have
unfoldable pub is_character_number : ℕ → Bool
is_character_number n = nat_eq n 9 || nat_eq n 10 || nat_eq n 13 || (nat_le 32 n && nat_lt n 55296) || (nat_le 57344 n && nat_le n 1114111)

-- the bytes of the character with this number, in UTF-8
unfoldable pub utf8 : ℕ → List ℕ
utf8 n =
    cond (nat_lt n 128) (n ∷ [])
    (cond (nat_lt n 2048) ((192 + n / 64) ∷ (128 + n % 64) ∷ [])
    (cond (nat_lt n 65536) ((224 + n / 4096) ∷ (128 + n / 64 % 64) ∷ (128 + n % 64) ∷ [])
    ((240 + n / 262144) ∷ (128 + n / 4096 % 64) ∷ (128 + n / 64 % 64) ∷ (128 + n % 64) ∷ [])))

-- the five named references: the name with its `;`, and the byte that it stands for
abbrev pub entity_text : Entity → List ℕ
entity_text entity.Less = codes "lt;"
entity_text entity.Greater = codes "gt;"
entity_text entity.Ampersand = codes "amp;"
entity_text entity.Apostrophe = codes "apos;"
entity_text entity.Quotation = codes "quot;"

abbrev pub entity_byte : Entity → ℕ
entity_byte entity.Less = 60
entity_byte entity.Greater = 62
entity_byte entity.Ampersand = 38
entity_byte entity.Apostrophe = 39
entity_byte entity.Quotation = 34

-- digits and their values
unfoldable pub is_digit : Radix → ℕ → Bool
is_digit Decimal c = nat_le 48 c && nat_le c 57
is_digit Hexadecimal c = (nat_le 48 c && nat_le c 57) || (nat_le 65 c && nat_le c 70) || (nat_le 97 c && nat_le c 102)

unfoldable pub digit_value : ℕ → ℕ
digit_value c = cond (nat_le c 57) (c - 48) (cond (nat_le c 70) (c - 55) (c - 87))

abbrev pub base : Radix → ℕ
base Decimal = 10
base Hexadecimal = 16

-- what stands before the digits
abbrev pub number_mark : Radix → List ℕ
number_mark Decimal = codes "&#"
number_mark Hexadecimal = codes "&#x"

-- digits and the number that they are
pub data IsNumeral (r : Radix) : List ℕ → ℕ → Type 0 where
  first : (c : ℕ) → is_digit r c ≡ true → IsNumeral r (c ∷ []) (digit_value c)
  more : (c : ℕ) {s : List ℕ} {n : ℕ} → IsNumeral r s n → is_digit r c ≡ true → IsNumeral r (s ++ c ∷ []) (base r * n + digit_value c)

-- a reference and the bytes of the character that it stands for
pub data IsReference : List ℕ → List ℕ → Type 0 where
  named : (e : Entity) → IsReference (38 ∷ entity_text e) (entity_byte e ∷ [])
  number : (r : Radix) {s : List ℕ} (n : ℕ) → IsNumeral r s n → is_character_number n ≡ true → IsReference (number_mark r ++ s ++ 59 ∷ []) (utf8 n)
