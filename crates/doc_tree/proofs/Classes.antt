-- What the tests on characters say of one another, and what whole characters and references lead to.
use Rattle.std.proofs.Common.{◌≡◌, ℕ, suc, ◌+◌, ◌*◌, ◌≤◌, Bool, true, false, List, [], ◌∷◌, ◌++◌, length, Option, Some, None, refl, ap, ◌∙◌, arith, nat_le, ◌&&◌}
use Rattle.std.proofs.lemmas.Bool.Decides.{nat_tests}
use Rattle.doc_model.specs.declared.tree.Element.{Element}
use Rattle.doc_tree.specs.declared.places.Quote.{Quote}
use Rattle.doc_tree.specs.declared.places.Quote.TheVariants.{Single, Double}
use Rattle.doc_tree.specs.declared.places.Entity.{Entity}
use Rattle.doc_tree.specs.declared.places.Entity.TheVariants as entity
use Rattle.doc_tree.specs.declared.places.Radix.{Radix}
use Rattle.doc_tree.specs.declared.places.Radix.TheVariants.{Decimal, Hexadecimal}
use Rattle.doc_tree.specs.declared.places.Open.{Open}
use Rattle.doc_tree.specs.declared.places.Place.{Place}
use Rattle.doc_tree.specs.declared.places.Place.TheVariants.{Between, Less, TagName, Blank, Key, Value, Comment, Question, Target, Instruction}
use Rattle.doc_tree.specs.declared.places.Part.{Part}
use Rattle.doc_tree.specs.declared.places.Part.TheVariants.{Whole, Lead, Reference, Hash, HashX, Digits}
use Rattle.doc_tree.specs.Characters
use Rattle.doc_tree.specs.Characters.{is_white, is_text, quote_byte, is_value, is_name_start, is_name_byte, is_comment_byte, is_instruction_byte, is_lead, is_lead_of_two, is_front_of_three, is_front_of_four, is_tail, is_digit, digit_value, base, entity_text, entity_byte, number_mark, utf8, is_character_number, IsCharacter, IsReference, IsNumeral}
use Rattle.doc_tree.specs.Machine.{State, state, chosen, takes, taken, next, run}
use Rattle.doc_tree.proofs.Past.{takes_reference}
use Rattle.doc_tree.proofs.Steps.{taking}

pub white_not_lead : (c : ℕ) → is_white c ≡ true → is_lead c ≡ false
unfolding is_white is_lead
white_not_lead c h = grind (arith, nat_tests)

pub ascii_not_lead : (c : ℕ) → Characters.is_ascii c ≡ true → is_lead c ≡ false
unfolding is_white Characters.is_ascii is_lead
ascii_not_lead c h = grind (arith, nat_tests)

and_left : (s t : Bool) → s && t ≡ true → s ≡ true
and_left true t h = refl
and_left false t h = absurd cc

text_ascii : (c : ℕ) → is_text c ≡ true → Characters.is_ascii c ≡ true
unfolding is_text
text_ascii c h = and_left _ _ h

pub text_not_lead : (c : ℕ) → is_text c ≡ true → is_lead c ≡ false
text_not_lead c h = ascii_not_lead c (text_ascii c h)

pub value_not_lead : (q : Quote) (c : ℕ) → is_value q c ≡ true → is_lead c ≡ false
unfolding is_value
value_not_lead q c h = text_not_lead c (and_left _ _ h)

pub comment_not_lead : (c : ℕ) → is_comment_byte c ≡ true → is_lead c ≡ false
unfolding is_comment_byte
comment_not_lead c h = ascii_not_lead c (and_left _ _ h)

pub instruction_not_lead : (c : ℕ) → is_instruction_byte c ≡ true → is_lead c ≡ false
unfolding is_instruction_byte
instruction_not_lead c h = ascii_not_lead c (and_left _ _ h)

pub name_byte_not_lead : (c : ℕ) → is_name_byte c ≡ true → is_lead c ≡ false
unfolding is_name_byte is_name_start is_lead
name_byte_not_lead c h = grind (arith, nat_tests)

pub name_start_not_lead : (c : ℕ) → is_name_start c ≡ true → is_lead c ≡ false
unfolding is_name_start is_lead
name_start_not_lead c h = grind (arith, nat_tests)

pub white_not_name_byte : (c : ℕ) → is_white c ≡ true → is_name_byte c ≡ false
unfolding is_white is_name_byte is_name_start
white_not_name_byte c h = grind (arith, nat_tests)

pub white_not_name_start : (c : ℕ) → is_white c ≡ true → is_name_start c ≡ false
unfolding is_white is_name_start
white_not_name_start c h = grind (arith, nat_tests)

pub lead_of_two : (a : ℕ) → is_lead_of_two a ≡ true → is_lead a ≡ true
unfolding is_lead_of_two is_lead
lead_of_two a h = grind (arith, nat_tests)

pub lead_of_three : (a b : ℕ) → is_front_of_three a b ≡ true → (is_lead a ≡ true) × (is_lead_of_two a ≡ false)
unfolding is_front_of_three is_lead_of_two is_lead is_tail
lead_of_three a b h = (grind (arith, nat_tests), grind (arith, nat_tests))

pub lead_of_four : (a b : ℕ) → is_front_of_four a b ≡ true → (is_lead a ≡ true) × (is_lead_of_two a ≡ false) × (is_front_of_three a b ≡ false)
unfolding is_front_of_four is_front_of_three is_lead_of_two is_lead is_tail
lead_of_four a b h = (grind (arith, nat_tests), grind (arith, nat_tests), grind (arith, nat_tests))

pub character_bound : (n : ℕ) → is_character_number n ≡ true → n ≤ 1114111
unfolding is_character_number
character_bound n h = grind (arith, nat_tests)

-- the step at a character of ASCII
pub ascii_step : (p : Place) (os : List Open) (r : Option Element) (at c : ℕ) → takes p os r ≡ true → taking p c ≡ true → next (state p Whole os r) at c ≡ chosen (taken p os r (c ∷ []))
ascii_step Between [] r at c fits h = absurd cc
ascii_step Between (o ∷ os) r at c fits h = rw (text_not_lead c h, h) refl
ascii_step (Less from) os None at c fits h = rw (name_start_not_lead c h, h) refl
ascii_step (Less from) os (Some root) at c fits h = absurd cc
ascii_step (TagName from n) os r at c fits h = rw (name_byte_not_lead c h, h) refl
ascii_step (Blank t) os r at c fits h = rw (name_start_not_lead c h, h) refl
ascii_step (Key t k) os r at c fits h = rw (name_byte_not_lead c h, h) refl
ascii_step (Value t k q v) os r at c fits h = rw (value_not_lead q c h, h) refl
ascii_step (Comment d) os r at c fits h = rw (comment_not_lead c h, h) refl
ascii_step Question os r at c fits h = rw (name_start_not_lead c h, h) refl
ascii_step Target os r at c fits h = rw (name_byte_not_lead c h, h) refl
ascii_step (Instruction ends) os r at c fits h = rw (instruction_not_lead c h, h) refl
ascii_step p os r at c fits h = absurd cc

-- the step at the first byte of one past ASCII
lead_step : (p : Place) (os : List Open) (r : Option Element) (at a : ℕ) → takes p os r ≡ true → is_lead a ≡ true → next (state p Whole os r) at a ≡ state p (Lead a) os r
lead_step Between [] r at a fits h = absurd cc
lead_step Between (o ∷ os) r at a fits h = rw h refl
lead_step (Less from) os None at a fits h = rw h refl
lead_step (Less from) os (Some root) at a fits h = absurd cc
lead_step (TagName from n) os r at a fits h = rw h refl
lead_step (Blank t) os r at a fits h = rw h refl
lead_step (Key t k) os r at a fits h = rw h refl
lead_step (Value t k q v) os r at a fits h = rw h refl
lead_step (Comment d) os r at a fits h = rw h refl
lead_step Question os r at a fits h = rw h refl
lead_step Target os r at a fits h = rw h refl
lead_step (Instruction ends) os r at a fits h = rw h refl
lead_step p os r at a fits h = absurd cc

pub run_character : (p : Place) (os : List Open) (r : Option Element) (at : ℕ) {w : List ℕ} → takes p os r ≡ true → IsCharacter (taking p) w → run (state p Whole os r) at w ≡ chosen (taken p os r w)
run_character p os r at fits (Characters.IsCharacter.ascii c h) = ascii_step p os r at c fits h
run_character p os r at fits (Characters.IsCharacter.wide (Characters.IsWide.two a b two tail)) =
    ap (λ st. run st (suc at) (b ∷ [])) (lead_step p os r at a fits (lead_of_two a two)) ∙ rw (two, tail) refl
run_character p os r at fits (Characters.IsCharacter.wide (Characters.IsWide.three a b c front tail)) =
    ap (λ st. run st (suc at) (b ∷ c ∷ [])) (lead_step p os r at a fits (lead_of_three a b front).0) ∙ rw ((lead_of_three a b front).1, front, tail) refl
run_character p os r at fits (Characters.IsCharacter.wide (Characters.IsWide.four a b c d front third tail)) =
    ap (λ st. run st (suc at) (b ∷ c ∷ d ∷ [])) (lead_step p os r at a fits (lead_of_four a b front).0) ∙ rw ((lead_of_four a b front).1, (lead_of_four a b front).2, front, third, tail) refl

-- references
reference_step : (p : Place) (os : List Open) (r : Option Element) (at : ℕ) → takes_reference p os ≡ true → next (state p Whole os r) at 38 ≡ state p Reference os r
unfolding is_lead is_text is_value Characters.is_ascii is_white
reference_step Between [] r at fits = absurd cc
reference_step Between (o ∷ os) r at fits = refl
reference_step (Value t k Single v) os r at fits = refl
reference_step (Value t k Double v) os r at fits = refl
reference_step p os r at fits = absurd cc

digits_place : Radix → Part
digits_place Decimal = Hash
digits_place Hexadecimal = HashX

first_digit : (x : Radix) (p : Place) (os : List Open) (r : Option Element) (at c : ℕ) → is_digit x c ≡ true → next (state p (digits_place x) os r) at c ≡ state p (Digits x (digit_value c)) os r
unfolding digits_place
first_digit Decimal p os r at c h = rw h refl
first_digit Hexadecimal p os r at c h = rw h refl

fewer : (x : Radix) (n v m : ℕ) → base x * n + v ≤ m → n ≤ m
fewer Decimal n v m h = omega arith
fewer Hexadecimal n v m h = omega arith

pub more_digits : (x : Radix) (p : Place) (os : List Open) (r : Option Element) (at n c : ℕ) → is_digit x c ≡ true → base x * n + digit_value c ≤ 1114111
    → next (state p (Digits x n) os r) at c ≡ state p (Digits x (base x * n + digit_value c)) os r
more_digits x p os r at n c h bound =
    let small : nat_le (base x * n + digit_value c) 1114111 ≡ true = grind (arith, nat_tests) in
    rw (h, small) refl

pub run_append : (a b : List ℕ) (st : State) (at : ℕ) → run st at (a ++ b) ≡ run (run st at a) (at + length a) b
run_append [] b st at = ap (λ n. run st n b) (omega arith)
run_append (c ∷ a) b st at = run_append a b (next st at c) (suc at) ∙ ap (λ n. run (run (next st at c) (suc at) a) n b) (omega arith)

pub then_run : (st : State) (at : ℕ) (a b : List ℕ) {mid last : State} → run st at a ≡ mid → run mid (at + length a) b ≡ last → run st at (a ++ b) ≡ last
then_run st at a b {mid} {last} first second = run_append a b st at ∙ ap (λ x. run x (at + length a) b) first ∙ second

run_numeral : (x : Radix) (p : Place) (os : List Open) (r : Option Element) (at : ℕ) {s : List ℕ} {n : ℕ} → IsNumeral x s n → n ≤ 1114111 → run (state p (digits_place x) os r) at s ≡ state p (Digits x n) os r
run_numeral x p os r at (Characters.IsNumeral.first c h) bound = first_digit x p os r at c h
run_numeral x p os r at (Characters.IsNumeral.more c {s} {n} before h) bound =
    then_run _ at s (c ∷ []) (run_numeral x p os r at before (fewer x n (digit_value c) 1114111 bound)) (more_digits x p os r (at + length s) n c h bound)

pub number_ends : (x : Radix) (p : Place) (os : List Open) (r : Option Element) (at n : ℕ) → is_character_number n ≡ true → next (state p (Digits x n) os r) at 59 ≡ chosen (taken p os r (utf8 n))
unfolding is_digit
number_ends Decimal p os r at n h = rw h refl
number_ends Hexadecimal p os r at n h = rw h refl

mark_run : (x : Radix) (p : Place) (os : List Open) (r : Option Element) (at : ℕ) → takes_reference p os ≡ true → run (state p Whole os r) at (number_mark x) ≡ state p (digits_place x) os r
unfolding is_digit digits_place
mark_run Decimal p os r at fits = ap (λ st. run st (suc at) (35 ∷ [])) (reference_step p os r at fits)
mark_run Hexadecimal p os r at fits = ap (λ st. run st (suc at) (35 ∷ 120 ∷ [])) (reference_step p os r at fits)

pub named_run : (e : Entity) (p : Place) (os : List Open) (r : Option Element) (at : ℕ) → run (state p Reference os r) at (entity_text e) ≡ chosen (taken p os r (entity_byte e ∷ []))
named_run entity.Less p os r at = refl
named_run entity.Greater p os r at = refl
named_run entity.Ampersand p os r at = refl
named_run entity.Apostrophe p os r at = refl
named_run entity.Quotation p os r at = refl

pub run_reference : (p : Place) (os : List Open) (r : Option Element) (at : ℕ) {s w : List ℕ} → takes_reference p os ≡ true → IsReference s w → run (state p Whole os r) at s ≡ chosen (taken p os r w)
run_reference p os r at fits (Characters.IsReference.named e) =
    ap (λ st. run st (suc at) (entity_text e)) (reference_step p os r at fits) ∙ named_run e p os r (suc at)
run_reference p os r at fits (Characters.IsReference.number x {s} n numeral known) =
    then_run _ at (number_mark x ++ s) (59 ∷ [])
    (then_run _ at (number_mark x) s (mark_run x p os r at fits) (run_numeral x p os r (at + length (number_mark x)) numeral (character_bound n known)))
    (number_ends x p os r (at + length (number_mark x ++ s)) n known)
