-- The grammars of ids and of numbers.
use Rattle.std.specs.Prelude.{ℕ, true, ◌+◌, ◌-◌, ◌*◌, ◌^◌, Bool, ◌&&◌, ◌||◌, ◌==◌, nat_lt, nat_le, ◌<◌, ◌≡◌, unsigned_abs, List, [], ◌∷◌, length, drop, slice_index, Option, None, Some, ℤ, pos, neg_ℤ, if◌then◌else◌}
use Rattle.std.specs.Char.{is_ascii, is_ascii_alphanumeric, is_ascii_digit}
use Rattle.std.specs.Fmt.{decimal, signed_decimal}
use Rattle.std.specs.List.{list_all}
use Rattle.std.specs.Option.{option_map}
use Rattle.std.specs.Str.{is_utf8, chars}

-- a character of an id: an ASCII letter or digit, `_`, `-`, `.`, `:`, or any character past ASCII
abbrev pub is_id_character : ℕ → Bool
is_id_character c = is_ascii_alphanumeric c || c == 95 || c == 45 || c == 46 || c == 58 || nat_le 128 c

-- one of these in ASCII
abbrev pub is_ascii_id_character : ℕ → Bool
is_ascii_id_character c = is_ascii c && is_id_character c

-- an id: one or more of these characters, in well-formed UTF-8
unfoldable pub is_id_text : List ℕ → Bool
is_id_text text = nat_lt 0 (length text) && is_utf8 text && list_all is_id_character (chars text)

-- the number that digits write: the sum of the digits, each times its power of ten
abbrev pub decimal_value : List ℕ → ℕ
decimal_value [] = 0
decimal_value (c ∷ cs) = (c - 48) * 10 ^ length cs + decimal_value cs

-- the number that one or more digits write, where it is below 2^63
abbrev pub magnitude_of : List ℕ → Option ℕ
magnitude_of digits =
    if nat_lt 0 (length digits) && list_all is_ascii_digit digits && nat_lt (decimal_value digits) (2 ^ 63)
    then Some (decimal_value digits)
    else None

-- the number that a text writes, where `-` may stand before the digits if it is signed
unfoldable pub number_of : Bool → List ℕ → Option ℤ
number_of signed text =
    if signed && slice_index text 0 == 45
    then option_map (λ n. neg_ℤ (pos n)) (magnitude_of (drop 1 text))
    else option_map pos (magnitude_of text)

-- the decimal text of a number below 2^63 in absolute value is read back as the number
abbrev pub DecimalIsReadBack : Type 0
DecimalIsReadBack = (value : ℤ) → unsigned_abs value < 2 ^ 63 → number_of true (signed_decimal value) ≡ Some value

-- and without a sign where it isn't negative
abbrev pub UnsignedDecimalIsReadBack : Type 0
UnsignedDecimalIsReadBack = (value : ℕ) (signed : Bool) → value < 2 ^ 63 → number_of signed (decimal value) ≡ Some (pos value)
