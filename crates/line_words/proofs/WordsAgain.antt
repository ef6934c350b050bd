-- What a word says is said again by the word that it is written as.
use Rattle.std.proofs.Common.{◌≡◌, ℕ, ℤ, pos, negsuc, zero, suc, Bool, true, false, List, [], ◌∷◌, ◌++◌, ◌&&◌, ◌||◌, ◌<◌, ◌≤◌, ◌^◌, ◌+◌, ◌/◌, nat_lt, map, length, drop, Option, None, Some, neg_ℤ, unsigned_abs, refl, sym, ap, subst, ◌∙◌, arith}
use Rattle.std.specs.Prelude.{◌==◌, decimal, slice_index, if◌then◌else◌}
use Rattle.std.specs.Bool.{⊤}
use Rattle.std.specs.Char.{is_ascii_digit}
use Rattle.std.specs.Fmt.{signed_decimal}
use Rattle.std.specs.List.{list_all}
use Rattle.std.specs.Option.{option_and_then, option_map}
use Rattle.std.specs.Str.{IsUtf8, chars, is_utf8}
use Rattle.std.proofs.Math.Utf8.{encode, encodes, next}
use Rattle.std.proofs.lemmas.Bool.{false≢true, ltb-true}
use Rattle.std.proofs.lemmas.Bool.Decides.{nat_tests}
use Rattle.std.proofs.lemmas.List.{append-nil}
use Rattle.std.proofs.lemmas.Str.{IsUtf8-append, IsUtf8-from_is_utf8, encodes-chars}
use Rattle.std.proofs.lemmas.Fmt.{digits_decimal, decimal_nonempty}
use Rattle.name_tables.specs.Grammar.{decimal_value, is_id_character, is_id_text, magnitude_of, number_of}
use Rattle.name_tables.proofs.Numbers.{IsUtf8-digits, decimal-read_back, decimal_numerals, signed_decimal-read_back}
use Rattle.line_words.specs.Parts.{coefficient_from, coefficient_of, factor_from, factor_of, factor_on, id_of, index_from, index_of, instance_from, instance_of, multiplier_from, multiplier_of, place_from, place_of, signed_of, weight_from, weight_of}
use Rattle.line_words.specs.Lists.{all_of, both_of, end_with, first_of, word_then, words_then}
use Rattle.line_words.specs.Texts.{factor_text, instance_text, multiplier_text, place_text, weight_text}
use Rattle.line_words.specs.Words.{before_mark, behind_mark, is_some_text}
use Rattle.line_words.specs.declared.items.InstanceRef.{InstanceRef}
use Rattle.line_words.specs.declared.items.PlaceRef.{PlaceRef}
use Rattle.line_words.specs.declared.items.Weight.{Weight}
use Rattle.line_words.specs.declared.items.Factor.{Factor}
use Rattle.line_words.specs.declared.items.Multiplier.{Multiplier}
use Rattle.line_words.specs.declared.items.Multiplier.TheVariants.{Fact, Hypothesis}
use Rattle.line_words.proofs.SpacedWords.{AreWords, IsWord, all_also, all_joined, before_cut, before_free, behind_cut, behind_free, both, dark_of, free_of, is_dark, isnt, not_true, one_byte, with_both}

-- a word that is written for a value says that value
pub record Writes {A : Type 0} (meaning : List ℕ → Option A) (text : A → List ℕ) (value : A) : Type 0 where
  pub again : meaning (text value) ≡ Some value
  pub word : IsWord (text value)

pub mapped : {A B : Type 0} (f : A → B) (o : Option A) (b : B) → option_map f o ≡ Some b → (a : A) × (o ≡ Some a) × (f a ≡ b)
mapped f None b e = absurd (cc)
mapped f (Some a) b e = (a, refl, cc)

-- ids: the bytes of an id are bytes of ASCII that an id may have, or past ASCII
high : (b : ℕ) → 128 ≤ b → is_id_character b ≡ true
high b le = grind (arith, nat_tests)

abbrev AreHigh : List ℕ → Type 0
AreHigh [] = ⊤
AreHigh (b ∷ bs) = (128 ≤ b) × AreHigh bs

all_high : (bs : List ℕ) → AreHigh bs → list_all is_id_character bs ≡ true
all_high [] are = refl
all_high (b ∷ bs) (le, are) = with_both (is_id_character b) (list_all is_id_character bs) (high b le) (all_high bs are)

encoded : (c : ℕ) → is_id_character c ≡ true → list_all is_id_character (encode c) ≡ true
unfolding encode
encoded c is = by (nat_lt c 128) (nat_lt c 2048) (nat_lt c 65536)
  where
    by : (a b d : Bool) → list_all is_id_character (if a then c ∷ [] else if b then (192 + c / 64) ∷ next c ∷ [] else if d then (224 + c / 4096) ∷ next (c / 64) ∷ next c ∷ [] else (240 + c / 262144) ∷ next (c / 4096) ∷ next (c / 64) ∷ next c ∷ []) ≡ true
    by true b d = with_both (is_id_character c) true is refl
    by false true d = all_high ((192 + c / 64) ∷ next c ∷ []) (omega arith, (omega arith, tt))
    by false false true = all_high ((224 + c / 4096) ∷ next (c / 64) ∷ next c ∷ []) (omega arith, (omega arith, (omega arith, tt)))
    by false false false = all_high ((240 + c / 262144) ∷ next (c / 4096) ∷ next (c / 64) ∷ next c ∷ []) (omega arith, (omega arith, (omega arith, (omega arith, tt))))

all_encoded : (cs : List ℕ) → list_all is_id_character cs ≡ true → list_all is_id_character (encodes cs) ≡ true
all_encoded [] are = refl
all_encoded (c ∷ cs) are =
    let parts = both (is_id_character c) (list_all is_id_character cs) are in
    all_joined is_id_character (encode c) (encodes cs) (encoded c parts.0) (all_encoded cs parts.1)

pub record IsIdText (id : List ℕ) : Type 0 where
  pub is : is_id_text id ≡ true
  pub bytes : list_all is_id_character id ≡ true
  pub word : IsWord id

first_some : (w : List ℕ) → nat_lt 0 (length w) ≡ true → is_some_text w ≡ true
first_some [] e = absurd (cc)
first_some (c ∷ cs) e = refl

id_parts : (id : List ℕ) → is_id_text id ≡ true → (nat_lt 0 (length id) ≡ true) × (is_utf8 id ≡ true) × (list_all is_id_character (chars id) ≡ true)
unfolding is_id_text
id_parts id is =
    let first = both (nat_lt 0 (length id) && is_utf8 id) (list_all is_id_character (chars id)) is in
    let text = both (nat_lt 0 (length id)) (is_utf8 id) first.0 in
    (text.0, text.1, first.1)

pub id_text : (id : List ℕ) → is_id_text id ≡ true → IsIdText id
id_text id is =
    let parts = id_parts id is in
    let text : IsUtf8 id = IsUtf8-from_is_utf8 id parts.1 in
    let bytes : list_all is_id_character id ≡ true = subst (λ w. list_all is_id_character w ≡ true) (encodes-chars id text) (all_encoded (chars id) parts.2) in
    record {
      is = is;
      bytes = bytes;
      word = record { some = first_some id parts.0; dark = dark_of is_id_character refl refl refl refl id bytes; text = text };
    }

pub id_said : (word id : List ℕ) → id_of word ≡ Some id → IsIdText id
id_said word id e = id_text id (by (is_id_text word) refl e)
  where
    by : (t : Bool) → is_id_text word ≡ t → (if t then Some word else None) ≡ Some id → is_id_text id ≡ true
    by true is some = let same : word ≡ id = cc in subst (λ w. is_id_text w ≡ true) same is
    by false is none = absurd (cc)

pub id_again : (id : List ℕ) → IsIdText id → id_of id ≡ Some id
id_again id is = ap (λ t. if t then Some id else None) is.is

-- numbers
pub record IsNumberText (isa : ℕ → Bool) (text : List ℕ) : Type 0 where
  pub bytes : list_all isa text ≡ true
  pub word : IsWord text

abbrev pub is_signed_byte : ℕ → Bool
is_signed_byte c = is_ascii_digit c || c == 45

digit_also : (c : ℕ) → is_ascii_digit c ≡ true → is_signed_byte c ≡ true
digit_also c is = ap (λ t. t || c == 45) is

pub decimal_text : (n : ℕ) → n < 2 ^ 63 → IsNumberText is_ascii_digit (decimal n)
decimal_text n small =
    let bytes : list_all is_ascii_digit (decimal n) ≡ true = digits_decimal decimal_numerals n (omega (arith, small)) in
    record {
      bytes = bytes;
      word = record {
        some = first_some (decimal n) (grind (arith, nat_tests, decimal_nonempty n (omega (arith, small))));
        dark = dark_of is_ascii_digit refl refl refl refl (decimal n) bytes;
        text = IsUtf8-digits (decimal n) bytes;
      };
    }

pub signed_text : (z : ℤ) → unsigned_abs z < 2 ^ 63 → IsNumberText is_signed_byte (signed_decimal z)
signed_text (pos n) small =
    let plain = decimal_text n small in
    record { bytes = all_also is_ascii_digit is_signed_byte digit_also (decimal n) plain.bytes; word = plain.word }
signed_text (negsuc n) small =
    let plain = decimal_text (suc n) small in
    let bytes : list_all is_signed_byte (45 ∷ decimal (suc n)) ≡ true = all_also is_ascii_digit is_signed_byte digit_also (decimal (suc n)) plain.bytes in
    record {
      bytes = bytes;
      word = record {
        some = refl;
        dark = dark_of is_signed_byte refl refl refl refl (45 ∷ decimal (suc n)) bytes;
        text = IsUtf8-append (45 ∷ []) (decimal (suc n)) (one_byte 45 (omega arith)) plain.word.text;
      };
    }

magnitude_small : (digits : List ℕ) (n : ℕ) → magnitude_of digits ≡ Some n → n < 2 ^ 63
magnitude_small digits n e = by (nat_lt 0 (length digits)) (list_all is_ascii_digit digits) (decimal_value digits) n e
  where
    by : (a b : Bool) (v n : ℕ) → (if a && b && nat_lt v (2 ^ 63) then Some v else None) ≡ Some n → n < 2 ^ 63
    by true true v n e = grind (arith, nat_tests)
    by true false v n e = absurd (cc)
    by false b v n e = absurd (cc)

size_of_minus : (n : ℕ) → unsigned_abs (neg_ℤ (pos n)) ≡ n
size_of_minus zero = refl
size_of_minus (suc n) = refl

pub number_small : (signed : Bool) (text : List ℕ) (z : ℤ) → number_of signed text ≡ Some z → unsigned_abs z < 2 ^ 63
unfolding number_of
number_small signed text z e = by (signed && slice_index text 0 == 45) e
  where
    by : (t : Bool) → (if t then option_map (λ n. neg_ℤ (pos n)) (magnitude_of (drop 1 text)) else option_map pos (magnitude_of text)) ≡ Some z → unsigned_abs z < 2 ^ 63
    by true e =
        let found = mapped (λ n. neg_ℤ (pos n)) (magnitude_of (drop 1 text)) z e in
        subst (λ v. unsigned_abs v < 2 ^ 63) found.2 (subst (λ n. n < 2 ^ 63) (sym (size_of_minus found.0)) (magnitude_small (drop 1 text) found.0 found.1))
    by false e =
        let found = mapped pos (magnitude_of text) z e in
        subst (λ v. unsigned_abs v < 2 ^ 63) found.2 (magnitude_small text found.0 found.1)

index_fits : (o : Option ℤ) (k : ℕ) → index_from o ≡ Some k → nat_lt k (2 ^ 32) ≡ true
index_fits None k e = absurd (cc)
index_fits (Some (negsuc n)) k e = absurd (cc)
index_fits (Some (pos n)) k e = by (nat_lt n (2 ^ 32)) refl e
  where
    by : (t : Bool) → nat_lt n (2 ^ 32) ≡ t → (if t then Some n else None) ≡ Some k → nat_lt k (2 ^ 32) ≡ true
    by true is some = let same : n ≡ k = cc in subst (λ m. nat_lt m (2 ^ 32) ≡ true) same is
    by false is none = absurd (cc)

-- a number below 2^32
pub record IsIndexText (k : ℕ) : Type 0 where
  pub again : index_of (decimal k) ≡ Some k
  pub text : IsNumberText is_ascii_digit (decimal k)

pub index_said : (word : List ℕ) (k : ℕ) → index_of word ≡ Some k → IsIndexText k
index_said word k e =
    let fits : nat_lt k (2 ^ 32) ≡ true = index_fits (number_of false word) k e in
    let small : k < 2 ^ 32 = ltb-true k (2 ^ 32) fits in
    record {
      again = ap index_from (decimal-read_back k false (omega (arith, small))) ∙ ap (λ t. if t then Some k else None) fits;
      text = decimal_text k (omega (arith, small));
    }

-- a number with a sign
pub record IsSignedText (z : ℤ) : Type 0 where
  pub again : number_of true (signed_decimal z) ≡ Some z
  pub text : IsNumberText is_signed_byte (signed_decimal z)

pub signed_said : (word : List ℕ) (z : ℤ) → number_of true word ≡ Some z → IsSignedText z
signed_said word z e =
    let small : unsigned_abs z < 2 ^ 63 = number_small true word z e in
    record { again = signed_decimal-read_back z small; text = signed_text z small }

-- two words with a mark between them
pub word_joined : (x : List ℕ) (mark : ℕ) (y : List ℕ) → IsWord x → is_dark mark ≡ true → mark < 128 → list_all is_dark y ≡ true → IsUtf8 y → IsWord (x ++ mark ∷ y)
word_joined [] mark y is dark low are text = absurd (false≢true is.some)
word_joined (c ∷ cs) mark y is dark low are text = record {
  some = refl;
  dark = all_joined is_dark (c ∷ cs) (mark ∷ y) is.dark (with_both (is_dark mark) (list_all is_dark y) dark are);
  text = IsUtf8-append (c ∷ cs) (mark ∷ y) is.text (IsUtf8-append (mark ∷ []) y (one_byte mark low) text);
}

-- places
place_without : (id : List ℕ) → IsIdText id → Writes place_of place_text (record { place = id; colour = None })
place_without id is =
    let free : list_all (isnt 64) id ≡ true = free_of is_id_character 64 refl id is.bytes in
    let whole : id ++ [] ≡ id = append-nil id in
    record {
      again = ap place_of whole ∙ ap (λ b. place_from (id_of b) (behind_mark 64 id)) (before_free 64 id free)
          ∙ ap (λ o. place_from (id_of id) o) (behind_free 64 id free) ∙ ap (λ o. place_from o None) (id_again id is);
      word = subst IsWord (sym whole) is.word;
    }

place_with : (id : List ℕ) (k : ℕ) → IsIdText id → IsIndexText k → Writes place_of place_text (record { place = id; colour = Some k })
place_with id k is index =
    let free : list_all (isnt 64) id ≡ true = free_of is_id_character 64 refl id is.bytes in
    record {
      again = ap (λ b. place_from (id_of b) (behind_mark 64 (id ++ 64 ∷ decimal k))) (before_cut 64 id (decimal k) free)
          ∙ ap (λ o. place_from (id_of id) o) (behind_cut 64 id (decimal k) free)
          ∙ ap (λ o. place_from o (Some (decimal k))) (id_again id is)
          ∙ ap (option_map (λ c. record { place = id; colour = Some c })) index.again;
      word = word_joined id 64 (decimal k) is.word refl (omega arith) index.text.word.dark index.text.word.text;
    }

pub place_said : (word : List ℕ) (place : PlaceRef) → place_of word ≡ Some place → Writes place_of place_text place
place_said word place e = by (id_of (before_mark 64 word)) (behind_mark 64 word) refl e
  where
    by : (o : Option (List ℕ)) (b : Option (List ℕ)) → id_of (before_mark 64 word) ≡ o → place_from o b ≡ Some place → Writes place_of place_text place
    by None b is e = absurd (cc)
    by (Some id) None is e = let same : record { place = id; colour = None } ≡ place = cc in subst (Writes place_of place_text) same (place_without id (id_said (before_mark 64 word) id is))
    by (Some id) (Some digits) is e =
        let found = mapped (λ k. record { place = id; colour = Some k }) (index_of digits) place e in
        subst (Writes place_of place_text) found.2 (place_with id found.0 (id_said (before_mark 64 word) id is) (index_said digits found.0 found.1))

-- transition instances
instance_with : (id : List ℕ) (k : ℕ) → IsIdText id → IsIndexText k → Writes instance_of instance_text (record { transition = id; binding = k })
instance_with id k is index =
    let free : list_all (isnt 64) id ≡ true = free_of is_id_character 64 refl id is.bytes in
    record {
      again = ap (λ b. instance_from (id_of b) (behind_mark 64 (id ++ 64 ∷ decimal k))) (before_cut 64 id (decimal k) free)
          ∙ ap (λ o. instance_from (id_of id) o) (behind_cut 64 id (decimal k) free)
          ∙ ap (λ o. instance_from o (Some (decimal k))) (id_again id is)
          ∙ ap (option_map (λ c. record { transition = id; binding = c })) index.again;
      word = word_joined id 64 (decimal k) is.word refl (omega arith) index.text.word.dark index.text.word.text;
    }

pub instance_said : (word : List ℕ) (instance : InstanceRef) → instance_of word ≡ Some instance → Writes instance_of instance_text instance
instance_said word instance e = by (id_of (before_mark 64 word)) (behind_mark 64 word) refl e
  where
    by : (o : Option (List ℕ)) (b : Option (List ℕ)) → id_of (before_mark 64 word) ≡ o → instance_from o b ≡ Some instance → Writes instance_of instance_text instance
    by None b is e = absurd (cc)
    by (Some i) None is e = absurd (cc)
    by (Some i) (Some digits) is e =
        let found = mapped (λ c. record { transition = i; binding = c }) (index_of digits) instance e in
        subst (Writes instance_of instance_text) found.2 (instance_with i found.0 (id_said (before_mark 64 word) i is) (index_said digits found.0 found.1))

-- coefficients
coefficient_parts : (o : Option ℤ) (b : Option (List ℕ)) (value : ℤ) (on : List ℕ) → coefficient_from o b ≡ Some (value, on) → o ≡ Some value
coefficient_parts None b value on e = absurd (cc)
coefficient_parts (Some z) None value on e = absurd (cc)
coefficient_parts (Some z) (Some rest) value on e = ap Some (ap (λ p. p.0) (some_same (z, rest) (value, on) e))
  where
    some_same : {A : Type 0} (x y : A) → Some x ≡ Some y → x ≡ y
    some_same x y e = cc

coefficient_again : (value : ℤ) (on : List ℕ) → IsSignedText value → coefficient_of (signed_decimal value ++ 42 ∷ on) ≡ Some (value, on)
coefficient_again value on is =
    let free : list_all (isnt 42) (signed_decimal value) ≡ true = free_of is_signed_byte 42 refl (signed_decimal value) is.text.bytes in
    ap (λ b. coefficient_from (number_of true b) (behind_mark 42 (signed_decimal value ++ 42 ∷ on))) (before_cut 42 (signed_decimal value) on free)
    ∙ ap (λ o. coefficient_from (number_of true (signed_decimal value)) o) (behind_cut 42 (signed_decimal value) on free)
    ∙ ap (λ o. coefficient_from o (Some on)) is.again

coefficient_said : (word : List ℕ) (value : ℤ) (on : List ℕ) → coefficient_of word ≡ Some (value, on) → IsSignedText value
coefficient_said word value on e =
    signed_said (before_mark 42 word) value (coefficient_parts (number_of true (before_mark 42 word)) (behind_mark 42 word) value on e)

coefficient_word : (value : ℤ) (on : List ℕ) → IsSignedText value → IsWord on → IsWord (signed_decimal value ++ 42 ∷ on)
coefficient_word value on is word = word_joined (signed_decimal value) 42 on is.text.word refl (omega arith) word.dark word.text

-- weights, factors and multipliers
pub weight_said : (word : List ℕ) (weight : Weight) → weight_of word ≡ Some weight → Writes weight_of weight_text weight
weight_said word weight e = by (coefficient_of word) refl e
  where
    by : (o : Option (ℤ × List ℕ)) → coefficient_of word ≡ o → weight_from o ≡ Some weight → Writes weight_of weight_text weight
    by None is e = absurd (cc)
    by (Some (value, on)) is e =
        let found = mapped (λ p. record { value = value; place = p }) (place_of on) weight e in
        let signed = coefficient_said word value on is in
        let place = place_said on found.0 found.1 in
        subst (Writes weight_of weight_text) found.2 (record {
          again = ap weight_from (coefficient_again value (place_text found.0) signed) ∙ ap (option_map (λ p. record { value = value; place = p })) place.again;
          word = coefficient_word value (place_text found.0) signed place.word;
        })

factor_parts : (value : ℤ) (on : List ℕ) (factor : Factor) → IsSignedText value → factor_on value on ≡ Some factor → IsIdText factor.fact × (factor.value ≡ value)
factor_parts value on factor signed e =
    let found = mapped (λ name. record { value = value; fact = name }) (id_of on) factor e in
    (subst IsIdText (ap (λ f. f.fact) found.2) (id_said on found.0 found.1), sym (ap (λ f. f.value) found.2))

factor_on_again : (factor : Factor) → IsIdText factor.fact → factor_on factor.value factor.fact ≡ Some factor
factor_on_again factor is = ap (option_map (λ name. record { value = factor.value; fact = name })) (id_again factor.fact is)

pub factor_said : (word : List ℕ) (factor : Factor) → factor_of word ≡ Some factor → Writes factor_of factor_text factor
factor_said word factor e = by (coefficient_of word) refl e
  where
    by : (o : Option (ℤ × List ℕ)) → coefficient_of word ≡ o → factor_from o ≡ Some factor → Writes factor_of factor_text factor
    by None is e = absurd (cc)
    by (Some (value, on)) is e =
        let first = coefficient_said word value on is in
        let parts = factor_parts value on factor first e in
        let signed : IsSignedText factor.value = subst IsSignedText (sym parts.1) first in
        record {
          again = ap factor_from (coefficient_again factor.value factor.fact signed) ∙ factor_on_again factor parts.0;
          word = coefficient_word factor.value factor.fact signed parts.0.word;
        }

at_sign : (w : List ℕ) → is_some_text w ≡ true → list_all (isnt 64) w ≡ true → (slice_index w 0 == 64) ≡ false
at_sign [] some free = absurd (false≢true some)
at_sign (c ∷ cs) some free = not_true (c == 64) (both (isnt 64 c) (list_all (isnt 64) cs) free).0

pub multiplier_said : (word : List ℕ) (multiplier : Multiplier) → multiplier_of word ≡ Some multiplier → Writes multiplier_of multiplier_text multiplier
multiplier_said word multiplier e = by (coefficient_of word) refl e
  where
    told : (value : ℤ) (on : List ℕ) (t : Bool) → IsSignedText value
        → (if t then option_map (Hypothesis value) (index_of (drop 1 on)) else option_map Fact (factor_on value on)) ≡ Some multiplier
        → Writes multiplier_of multiplier_text multiplier
    told value on true signed e =
        let found = mapped (Hypothesis value) (index_of (drop 1 on)) multiplier e in
        let index = index_said (drop 1 on) found.0 found.1 in
        subst (Writes multiplier_of multiplier_text) found.2 (record {
          again = ap multiplier_from (coefficient_again value (64 ∷ decimal found.0) signed) ∙ ap (option_map (Hypothesis value)) index.again;
          word = coefficient_word value (64 ∷ decimal found.0) signed (record {
            some = refl;
            dark = index.text.word.dark;
            text = IsUtf8-append (64 ∷ []) (decimal found.0) (one_byte 64 (omega arith)) index.text.word.text;
          });
        })
    told value on false signed e =
        let found = mapped Fact (factor_on value on) multiplier e in
        let factor : Factor = found.0 in
        let parts = factor_parts value on factor signed found.1 in
        let own : IsSignedText factor.value = subst IsSignedText (sym parts.1) signed in
        let free : list_all (isnt 64) factor.fact ≡ true = free_of is_id_character 64 refl factor.fact parts.0.bytes in
        subst (Writes multiplier_of multiplier_text) found.2 (record {
          again = ap multiplier_from (coefficient_again factor.value factor.fact own)
              ∙ ap (λ t. if t then option_map (Hypothesis factor.value) (index_of (drop 1 factor.fact)) else option_map Fact (factor_on factor.value factor.fact)) (at_sign factor.fact parts.0.word.some free)
              ∙ ap (option_map Fact) (factor_on_again factor parts.0);
          word = coefficient_word factor.value factor.fact own parts.0.word;
        })

    by : (o : Option (ℤ × List ℕ)) → coefficient_of word ≡ o → multiplier_from o ≡ Some multiplier → Writes multiplier_of multiplier_text multiplier
    by None is e = absurd (cc)
    by (Some (value, on)) is e = told value on (slice_index on 0 == 64) (coefficient_said word value on is) e

-- lists
pub record AllWrite {A : Type 0} (meaning : List ℕ → Option A) (text : A → List ℕ) (values : List A) : Type 0 where
  pub again : all_of meaning (map text values) ≡ Some values
  pub words : AreWords (map text values)

pub all_said : {A : Type 0} (meaning : List ℕ → Option A) (text : A → List ℕ) → ((word : List ℕ) (value : A) → meaning word ≡ Some value → Writes meaning text value)
    → (words : List (List ℕ)) (values : List A) → all_of meaning words ≡ Some values → AllWrite meaning text values
all_said meaning text said [] values e = let same : [] ≡ values = cc in subst (AllWrite meaning text) same (record { again = refl; words = tt })
all_said {A} meaning text said (word ∷ words) values e = by (meaning word) (all_of meaning words) refl refl e (all_said meaning text said words)
  where
    by : (o : Option A) (os : Option (List A)) → meaning word ≡ o → all_of meaning words ≡ os → both_of o os ≡ Some values
        → ((later : List A) → all_of meaning words ≡ Some later → AllWrite meaning text later) → AllWrite meaning text values
    by None os is are e ih = absurd (cc)
    by (Some x) None is are e ih = absurd (cc)
    by (Some x) (Some xs) is are e ih =
        let same : x ∷ xs ≡ values = cc in
        let first = said word x is in
        let later = ih xs are in
        subst (AllWrite meaning text) same (record {
          again = ap (λ o. both_of o (all_of meaning (map text xs))) first.again ∙ ap (both_of (Some x)) later.again;
          words = (first.word, later.words);
        })

-- one word
pub id_writes : (word id : List ℕ) → id_of word ≡ Some id → Writes id_of (λ w. w) id
id_writes word id e = let is = id_said word id e in record { again = id_again id is; word = is.word }

pub signed_writes : (word : List ℕ) (z : ℤ) → signed_of word ≡ Some z → Writes signed_of signed_decimal z
signed_writes word z e = let is = signed_said word z e in record { again = is.again; word = is.text.word }

pub index_writes : (word : List ℕ) (k : ℕ) → index_of word ≡ Some k → Writes index_of decimal k
index_writes word k e = let is = index_said word k e in record { again = is.again; word = is.text.word }

-- a row of words
pub record Begins {A B : Type 0} (one : List ℕ → Option A) (rest : A → List (List ℕ) → Option B) (value : B) : Type 0 where
  pub first : A
  pub word : List ℕ
  pub later : List (List ℕ)
  pub says : one word ≡ Some first
  pub goes_on : rest first later ≡ Some value

pub begins : {A B : Type 0} (one : List ℕ → Option A) (rest : A → List (List ℕ) → Option B) (words : List (List ℕ)) (value : B)
    → word_then one rest words ≡ Some value → Begins one rest value
begins one rest [] value e = absurd (cc)
begins {A} one rest (word ∷ words) value e = by (one word) refl e
  where
    by : (o : Option A) → one word ≡ o → option_and_then (λ (x : A × List (List ℕ)). rest x.0 x.1) (option_map (λ x. (x, words)) o) ≡ Some value → Begins one rest value
    by None is e = absurd (cc)
    by (Some x) is e = record { first = x; word = word; later = words; says = is; goes_on = e }

-- words say the value again
pub record Rewrites {B : Type 0} (meaning : List (List ℕ) → Option B) (value : B) (words : List (List ℕ)) : Type 0 where
  pub again : meaning words ≡ Some value
  pub are : AreWords words

pub put_before : {A B : Type 0} (one : List ℕ → Option A) (text : A → List ℕ) (rest : A → List (List ℕ) → Option B) (x : A) (value : B) (words : List (List ℕ))
    → Writes one text x → Rewrites (rest x) value words → Rewrites (word_then one rest) value (text x ∷ words)
put_before {A} one text rest x value words first later = record {
  again = ap (λ o. option_and_then (λ (p : A × List (List ℕ)). rest p.0 p.1) (option_map (λ y. (y, words)) o)) first.again ∙ later.again;
  are = (first.word, later.are);
}

pub nothing_more : {B : Type 0} (made value : B) (words : List (List ℕ)) → end_with made words ≡ Some value → made ≡ value
nothing_more made value [] e = cc
nothing_more made value (word ∷ words) e = absurd (cc)

pub record Listing {A B : Type 0} (one : List ℕ → Option A) (text : A → List ℕ) (made : List A → B) (value : B) : Type 0 where
  pub values : List A
  pub is : made values ≡ value
  pub rewrites : Rewrites (words_then one made) (made values) (map text values)

pub list_said : {A B : Type 0} (one : List ℕ → Option A) (text : A → List ℕ) (made : List A → B) → ((word : List ℕ) (x : A) → one word ≡ Some x → Writes one text x)
    → (words : List (List ℕ)) (value : B) → words_then one made words ≡ Some value → Listing one text made value
list_said one text made said words value e =
    let found = mapped made (all_of one words) value e in
    let list = all_said one text said words found.0 found.1 in
    record { values = found.0; is = found.2; rewrites = record { again = ap (option_map made) list.again; are = list.words } }
