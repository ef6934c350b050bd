-- The texts of ids: they are ids, and tell their parts.
use Rattle.std.proofs.Common.{◌≡◌, ℕ, zero, suc, ◌+◌, ◌<◌, ◌≤◌, ◌^◌, Bool, true, false, not, ◌&&◌, ◌||◌, ◌==◌, nat_eq, nat_lt, List, [], ◌∷◌, ◌++◌, length, drop, get_or, codes, refl, sym, ap, subst, ◌∙◌, arith, length-append}
use Rattle.std.specs.Char.{is_ascii, is_ascii_alphanumeric, is_ascii_digit}
use Rattle.std.specs.Fmt.{decimal}
use Rattle.std.specs.List.{AllByRecursion, IsDistinct, list_all, list_any}
use Rattle.std.specs.Str.{IsAscii, IsUtf8, bytes_eq, chars, is_utf8}
use Rattle.std.proofs.lemmas.Bool.{and_parts, false_from_ne_true}
use Rattle.std.proofs.lemmas.Bool.Decides.{nat_tests}
use Rattle.std.proofs.lemmas.Fmt.{IsAscii-decimal, decimal_injective, digits_decimal}
use Rattle.std.proofs.lemmas.Map.Keys.{IsDistinct-cons, IsDistinct-head, IsDistinct-tail}
use Rattle.std.proofs.lemmas.Slice.Eq.{bytes_eq-Decides}
use Rattle.std.proofs.lemmas.Str.{IsAscii-append, IsUtf8-append, IsUtf8-from_ascii, IsUtf8-from_is_utf8, chars-IsAscii, chars-append}
use Rattle.name_tables.specs.Grammar.{is_ascii_id_character, is_id_character, is_id_text}
use Rattle.name_tables.proofs.IdTexts.{id-ascii, id-valid}
use Rattle.name_tables.proofs.Numbers.{decimal_numerals}
use Rattle.unfolded_files.specs.Files.{arc_id, instance_id}

-- texts that aren't the same
pub told_apart : (x y : List ℕ) → (x ≡ y → ⊥) → bytes_eq x y ≡ false
told_apart x y differ = false_from_ne_true (bytes_eq x y) (λ e. differ ((bytes_eq-Decides x y).0 e))

pub not_same : (x y : List ℕ) → bytes_eq x y ≡ false → x ≡ y → ⊥
not_same x y e same = clash (sym e ∙ (bytes_eq-Decides x y).1 same)
  where
    clash : false ≡ true → ⊥
    clash e = cc

-- texts with a dot, and digits, which have none
abbrev has_dot : List ℕ → Bool
has_dot text = list_any (nat_eq 46) text

or_true : (a b : Bool) → b ≡ true → (a || b) ≡ true
or_true true b e = refl
or_true false b e = e

dot_in : (x d : List ℕ) → has_dot (x ++ 46 ∷ d) ≡ true
dot_in [] d = refl
dot_in (c ∷ x) d = or_true (nat_eq 46 c) (has_dot (x ++ 46 ∷ d)) (dot_in x d)

digit_no_dot : (c : ℕ) → is_ascii_digit c ≡ true → nat_eq 46 c ≡ false
digit_no_dot c is = grind (arith, nat_tests)

or_false : (a b : Bool) → a ≡ false → b ≡ false → (a || b) ≡ false
or_false false b e f = f
or_false true b e f = cc

digits_no_dot : (ds : List ℕ) → list_all is_ascii_digit ds ≡ true → has_dot ds ≡ false
digits_no_dot [] are = refl
digits_no_dot (c ∷ ds) are =
    let parts = and_parts (is_ascii_digit c) (list_all is_ascii_digit ds) are in
    or_false (nat_eq 46 c) (has_dot ds) (digit_no_dot c parts.0) (digits_no_dot ds parts.1)

digits_of : (n : ℕ) → n < 2 ^ 64 → list_all is_ascii_digit (decimal n) ≡ true
digits_of n small = digits_decimal decimal_numerals n small

no_dot : (n : ℕ) → n < 2 ^ 64 → has_dot (decimal n) ≡ false
no_dot n small = digits_no_dot (decimal n) (digits_of n small)

-- the last dot parts a text
record AreSame (x y d e : List ℕ) : Type 0 where
  front : x ≡ y
  behind : d ≡ e

clash : false ≡ true → ⊥
clash e = cc

last_dot : (x y d e : List ℕ) → has_dot d ≡ false → has_dot e ≡ false → x ++ 46 ∷ d ≡ y ++ 46 ∷ e → AreSame x y d e
last_dot [] [] d e one two same = record { front = refl; behind = ap (drop 1) same }
last_dot [] (c ∷ y) d e one two same =
    let tail : d ≡ y ++ 46 ∷ e = ap (drop 1) same in
    absurd (clash (sym one ∙ ap has_dot tail ∙ dot_in y e))
last_dot (c ∷ x) [] d e one two same =
    let tail : x ++ 46 ∷ d ≡ e = ap (drop 1) same in
    absurd (clash (sym two ∙ ap has_dot (sym tail) ∙ dot_in x d))
last_dot (b ∷ x) (c ∷ y) d e one two same =
    let rest = last_dot x y d e one two (ap (drop 1) same) in
    let first : b ≡ c = ap (λ xs. get_or xs 0 0) same in
    record { front = ap (λ n. n ∷ x) first ∙ ap (λ xs. c ∷ xs) rest.front; behind = rest.behind }

-- an id of an instance tells its parts
pub record TellsParts (x y : List ℕ) (k l : ℕ) : Type 0 where
  pub name : x ≡ y
  pub number : k ≡ l

pub instance_parts : (x y : List ℕ) (k l : ℕ) → k < 2 ^ 64 → l < 2 ^ 64 → instance_id x k ≡ instance_id y l → TellsParts x y k l
instance_parts x y k l small low same =
    let parts = last_dot x y (decimal k) (decimal l) (no_dot k small) (no_dot l low) same in
    record { name = parts.front; number = decimal_injective k l small low parts.behind }

pub arc_number : (m n : ℕ) → m < 2 ^ 64 → n < 2 ^ 64 → arc_id m ≡ arc_id n → m ≡ n
arc_number m n small low same = decimal_injective m n small low (ap (drop 3) same)

-- an id of an arc is none of an instance
pub arc_apart : (x : List ℕ) (k n : ℕ) → n < 2 ^ 64 → instance_id x k ≡ arc_id n → ⊥
arc_apart x k n small same = clash (sym (no_dot n small) ∙ sym (ap has_dot same) ∙ dot_in x (decimal k))

-- they are ids
digit_is_character : (c : ℕ) → is_ascii_digit c ≡ true → is_ascii_id_character c ≡ true
digit_is_character c is = grind (arith, nat_tests)

digits_are_characters : (ds : List ℕ) → list_all is_ascii_digit ds ≡ true → list_all is_ascii_id_character ds ≡ true
digits_are_characters [] are = refl
digits_are_characters (c ∷ ds) are =
    let parts = and_parts (is_ascii_digit c) (list_all is_ascii_digit ds) are in
    ap (λ b. b && list_all is_ascii_id_character ds) (digit_is_character c parts.0) ∙ digits_are_characters ds parts.1

some_length : (n : ℕ) → 0 < n → (n == 0) ≡ false
some_length n some = grind (arith, nat_tests)

pub arc_is_id : (n : ℕ) → n < 2 ^ 64 → is_id_text (arc_id n) ≡ true
arc_is_id n small = sym (id-ascii (arc_id n) (digits_are_characters (decimal n) (digits_of n small))) ∙ ap not (some_length (length (arc_id n)) (omega (arith, length-append (codes "arc") (decimal n))))

all_append : (p : ℕ → Bool) (xs ys : List ℕ) → list_all p xs ≡ true → list_all p ys ≡ true → list_all p (xs ++ ys) ≡ true
all_append p [] ys one two = two
all_append p (x ∷ xs) ys one two =
    let parts = and_parts (p x) (list_all p xs) one in
    ap (λ b. b && list_all p (xs ++ ys)) parts.0 ∙ all_append p xs ys parts.1 two

record IsText (x : List ℕ) : Type 0 where
  valid : IsUtf8 x
  characters : list_all is_id_character (chars x) ≡ true

text_of : (x : List ℕ) → is_id_text x ≡ true → IsText x
unfolding is_id_text
text_of x is =
    let outer = and_parts (nat_lt 0 (length x) && is_utf8 x) (list_all is_id_character (chars x)) is in
    let inner = and_parts (nat_lt 0 (length x)) (is_utf8 x) outer.0 in
    record { valid = IsUtf8-from_is_utf8 x inner.1; characters = outer.1 }

ascii_part : (c : ℕ) → is_ascii_id_character c ≡ true → is_id_character c ≡ true
ascii_part c is = (and_parts (is_ascii c) (is_id_character c) is).1

ascii_parts : (ds : List ℕ) → list_all is_ascii_id_character ds ≡ true → list_all is_id_character ds ≡ true
ascii_parts [] are = refl
ascii_parts (c ∷ ds) are =
    let parts = and_parts (is_ascii_id_character c) (list_all is_ascii_id_character ds) are in
    ap (λ b. b && list_all is_id_character ds) (ascii_part c parts.0) ∙ ascii_parts ds parts.1

dot_ascii : IsAscii (46 ∷ [])
dot_ascii zero = omega arith
dot_ascii (suc i) = omega arith

pub instance_is_id : (x : List ℕ) (k : ℕ) → is_id_text x ≡ true → k < 2 ^ 64 → is_id_text (instance_id x k) ≡ true
instance_is_id x k is small =
    let known = text_of x is in
    let tail = 46 ∷ decimal k in
    let ascii : IsAscii tail = IsAscii-append (46 ∷ []) (decimal k) dot_ascii (IsAscii-decimal k small) in
    let valid = IsUtf8-append x tail known.valid (IsUtf8-from_ascii tail ascii) in
    let own : list_all is_id_character (chars x ++ tail) ≡ true = all_append is_id_character (chars x) tail known.characters (ascii_parts (decimal k) (digits_are_characters (decimal k) (digits_of k small))) in
    let letters : chars (instance_id x k) ≡ chars x ++ tail = chars-append x tail known.valid ∙ ap (λ cs. chars x ++ cs) (chars-IsAscii tail ascii) in
    sym (id-valid (instance_id x k) valid (some_length (length (instance_id x k)) (omega (arith, length-append x tail)))) ∙ ap (list_all is_id_character) letters ∙ own

-- lists of names that differ
pub distinct_both : (xs ys : List (List ℕ)) → IsDistinct bytes_eq xs → IsDistinct bytes_eq ys → AllByRecursion (λ x. AllByRecursion (λ y. bytes_eq x y ≡ false) ys) xs → IsDistinct bytes_eq (xs ++ ys)
distinct_both [] ys one two apart = two
distinct_both (x ∷ xs) ys one two apart =
    IsDistinct-cons bytes_eq x (xs ++ ys) (both xs ys (IsDistinct-head bytes_eq x xs one) apart.0) (distinct_both xs ys (IsDistinct-tail bytes_eq x xs one) two apart.1)
  where
    both : (us vs : List (List ℕ)) → AllByRecursion (λ y. bytes_eq x y ≡ false) us → AllByRecursion (λ y. bytes_eq x y ≡ false) vs → AllByRecursion (λ y. bytes_eq x y ≡ false) (us ++ vs)
    both [] vs p q = q
    both (u ∷ us) vs p q = (p.0, both us vs p.1 q)
