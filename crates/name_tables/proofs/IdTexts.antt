-- When a text is an id.
use Rattle.std.proofs.Common.{◌≡◌, ℕ, zero, suc, ◌+◌, ◌<◌, Bool, true, false, not, List, [], ◌∷◌, get_or, length, map, nat_lt, ◌&&◌, ◌==◌, refl, sym, ap, ◌∙◌, arith}
use Rattle.std.proofs.lemmas.Bool.{false≢true, false_from_ne_true}
use Rattle.std.proofs.lemmas.Bool.Decides.{nat_tests}
use Rattle.std.proofs.lemmas.Str.{IsUtf8-from_ascii, IsUtf8-from_is_utf8, chars-IsAscii, is_utf8-from_IsUtf8}
use Rattle.std.specs.List.{list_all}
use Rattle.std.specs.Char.{is_ascii}
use Rattle.std.specs.Str.{IsAscii, IsUtf8, is_utf8, chars}
use Rattle.name_tables.specs.Grammar.{is_ascii_id_character, is_id_character, is_id_text}

all_hold : (a b c : Bool) → a ≡ true → b ≡ true → c ≡ (a && b && c)
all_hold true true c _ _ = refl
all_hold true false c _ e = absurd (false≢true e)
all_hold false b c e _ = absurd (false≢true e)

fails_first : (a b c : Bool) → a ≡ false → false ≡ (a && b && c)
fails_first false b c _ = refl
fails_first true b c e = absurd (false≢true (sym e))

fails_second : (a b c : Bool) → b ≡ false → false ≡ (a && b && c)
fails_second true false c _ = refl
fails_second false b c _ = refl
fails_second true true c e = absurd (false≢true (sym e))

pub id-valid : (text : List ℕ) → IsUtf8 text → (length text == 0) ≡ false → list_all is_id_character (chars text) ≡ is_id_text text
unfolding is_id_text
id-valid text valid some =
    all_hold (nat_lt 0 (length text)) (is_utf8 text) _ (grind (arith, nat_tests)) (is_utf8-from_IsUtf8 text valid)

pub id-empty : (text : List ℕ) → (length text == 0) ≡ true → false ≡ is_id_text text
unfolding is_id_text
id-empty text none = fails_first (nat_lt 0 (length text)) (is_utf8 text) _ (grind (arith, nat_tests))

pub id-invalid : (text : List ℕ) → (IsUtf8 text → ⊥) → false ≡ is_id_text text
unfolding is_id_text
id-invalid text ill_formed =
    fails_second (nat_lt 0 (length text)) (is_utf8 text) _ (false_from_ne_true _ (λ e. ill_formed (IsUtf8-from_is_utf8 text e)))

both : (a b : Bool) → (a && b) ≡ true → (a ≡ true) × (b ≡ true)
both true b e = (refl, e)
both false b e = absurd (false≢true e)

and_true : (a b : Bool) → a ≡ true → b ≡ true → (a && b) ≡ true
and_true true b _ e = e
and_true false b e _ = e

pub below_128 : (c : ℕ) → is_ascii c ≡ true → c < 128
below_128 c is = grind (arith, nat_tests)

IsAscii-ids : (text : List ℕ) → list_all is_ascii_id_character text ≡ true → IsAscii text
IsAscii-ids [] are i = omega arith
IsAscii-ids (c ∷ cs) are zero = below_128 c (both (is_ascii c) (is_id_character c) (both (is_ascii_id_character c) (list_all is_ascii_id_character cs) are).0).0
IsAscii-ids (c ∷ cs) are (suc i) = IsAscii-ids cs (both (is_ascii_id_character c) (list_all is_ascii_id_character cs) are).1 i

ids-ids : (text : List ℕ) → list_all is_ascii_id_character text ≡ true → list_all is_id_character text ≡ true
ids-ids [] are = refl
ids-ids (c ∷ cs) are =
    let parts = both (is_ascii_id_character c) (list_all is_ascii_id_character cs) are in
    and_true (is_id_character c) (list_all is_id_character cs) (both (is_ascii c) (is_id_character c) parts.0).1 (ids-ids cs parts.1)

some_are : (n : ℕ) → nat_lt 0 (suc n) ≡ true
some_are n = grind (arith, nat_tests)

not_none : (n : ℕ) → (suc n == 0) ≡ false
not_none n = grind (arith, nat_tests)

-- a text of ASCII bytes that are characters of ids is an id unless it is empty
pub id-ascii : (text : List ℕ) → list_all is_ascii_id_character text ≡ true → not (length text == 0) ≡ is_id_text text
unfolding is_id_text
id-ascii [] are = refl
id-ascii (c ∷ cs) are =
    let ascii = IsAscii-ids (c ∷ cs) are in
    ap not (not_none (length cs))
    ∙ sym (ap (list_all is_id_character) (chars-IsAscii (c ∷ cs) ascii) ∙ ids-ids (c ∷ cs) are)
    ∙ all_hold (nat_lt 0 (length (c ∷ cs))) (is_utf8 (c ∷ cs)) _ (some_are (length cs)) (is_utf8-from_IsUtf8 (c ∷ cs) (IsUtf8-from_ascii (c ∷ cs) ascii))

-- so many numbers from one on
abbrev pub counted : ℕ → ℕ → List ℕ
counted from zero = []
counted from (suc n) = from ∷ counted (suc from) n

at_place : (from n at : ℕ) (d : Bool) → at < n → get_or (map is_ascii_id_character (counted from n)) at d ≡ is_ascii_id_character (from + at)
at_place from zero at d within = absurd (omega arith)
at_place from (suc n) zero d within = let here : from ≡ from + 0 = omega arith in ap is_ascii_id_character here
at_place from (suc n) (suc at) d within = let there : suc from + at ≡ from + suc at = omega arith in at_place (suc from) n at d (omega arith) ∙ ap is_ascii_id_character there

-- what a table of all ASCII bytes says of each of them
pub id-by_table : (at : ℕ) (d : Bool) → at < 128 → get_or (map is_ascii_id_character (counted 0 128)) at d ≡ is_ascii_id_character at
id-by_table at d within = let here : 0 + at ≡ at = omega arith in at_place 0 128 at d within ∙ ap is_ascii_id_character here
