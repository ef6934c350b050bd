-- What doesn't refuse goes on to a document.
use Rattle.std.proofs.Common.{zero, drop, length-take-le, take-append-drop, drop-cons, ◌≡◌, ℕ, suc, ◌+◌, ◌*◌, ◌<◌, ◌≤◌, Bool, true, false, List, [], ◌∷◌, ◌++◌, length, length-append, take, get_or, Option, Some, refl, sym, ap, ◌∙◌, subst, append_assoc, append-nil, arith, nat_eq, nat_lt, nat_le}
use Rattle.std.proofs.lemmas.Bool.Decides.{nat_tests}
use Rattle.doc_model.specs.declared.tree.Element.{Element}
use Rattle.doc_tree.specs.declared.places.Quote.{Quote}
use Rattle.doc_tree.specs.declared.places.Quote.TheVariants.{Double}
use Rattle.doc_tree.specs.declared.places.Dashes.{Dashes}
use Rattle.doc_tree.specs.declared.places.Dashes.TheVariants.{Neither}
use Rattle.doc_tree.specs.declared.places.Entity.{Entity}
use Rattle.doc_tree.specs.declared.places.Entity.TheVariants as entity
use Rattle.doc_tree.specs.declared.places.Radix.{Radix}
use Rattle.doc_tree.specs.declared.places.Radix.TheVariants.{Decimal, Hexadecimal}
use Rattle.doc_tree.specs.declared.places.Tag.{Tag}
use Rattle.doc_tree.specs.declared.places.Open.{Open}
use Rattle.doc_tree.specs.declared.places.Place.{Place}
use Rattle.doc_tree.specs.declared.places.Place.TheVariants.{Between, MarkOne, MarkTwo, Less, TagName, Blank, Key, AfterKey, Equals, Value, Attributed, Slash, Close, CloseWhite, Bang, BangDash, Comment, Question, Target, TargetEnd, Instruction, Refused}
use Rattle.doc_tree.specs.declared.places.Part.{Part}
use Rattle.doc_tree.specs.declared.places.Part.TheVariants.{Whole, Lead, Three, Four, Last, Reference, ReferenceA, Named, Hash, HashX, Digits}
use Rattle.doc_tree.specs.Characters
use Rattle.doc_tree.specs.Characters.{is_white, is_text, quote_byte, is_value, is_name_start, is_name_byte, is_comment_byte, is_instruction_byte, is_lead, is_lead_of_two, is_front_of_three, is_front_of_four, is_tail, is_digit, digit_value, base, entity_text, entity_byte, number_mark, utf8, is_character_number, IsCharacter, IsReference, IsNumeral}
use Rattle.doc_tree.specs.Documents
use Rattle.std.specs.Str.{bytes_eq}
use Rattle.std.specs.Cmp.Lexicographic.{bytes_decides}
use Rattle.doc_tree.specs.Documents.{is_fresh, IsWhite, IsBlank, IsName, IsValue, AreAttributes, IsCommentText, IsInstructionText, IsAside, IsElement, IsContent}
use Rattle.doc_tree.specs.Machine.{State, state, chosen, takes, taken, tag, next, run}
use Rattle.doc_tree.proofs.Past.{takes_reference}
use Rattle.doc_model.specs.declared.tree.Attribute.{Attribute}
use Rattle.doc_model.specs.Trees.{element_at}
use Rattle.doc_tree.specs.Documents.{AreExtras, IsProlog, Spells, shown}
use Rattle.doc_tree.specs.Machine.{closed, empty_element, element_of, with_attribute, with_child}
use Rattle.doc_tree.proofs.Classes.{then_run}
use Rattle.doc_tree.proofs.Forward.{held_empty, blank_empty}
use Rattle.std.proofs.lemmas.Bool.{eq-eqb}
use Rattle.doc_tree.specs.Reading.{Begins}
use Rattle.doc_tree.proofs.Stems
use Rattle.doc_tree.proofs.Stems.{Stem}
use Rattle.doc_tree.proofs.Past.{Past, PastState, PastPart, InWide, InReference}
use Rattle.doc_tree.specs.Characters.{is_character_number}
use Rattle.doc_tree.proofs.Tags.{end_closed}
use Rattle.doc_tree.proofs.Reading.{run_read}
use Rattle.doc_tree.proofs.Classes.{named_run, more_digits, number_ends}
use Rattle.doc_tree.proofs.Forward.{key_equals, after_key_equals, equals_quote, value_quote, comment_close, target_end, instruction_close}
use Rattle.doc_tree.proofs.Whole.{byte_of, run_close, close_greater, close_white_greater}

-- what goes on to a document begins one
pub begins_from : (b s : List ℕ) → Begins (b ++ s) → Begins b
begins_from b s (more, t, h) = (s ++ more, t, subst (λ bytes. Spells bytes t) (append_assoc b s more) h)

-- stems: what is open is closed, and where the root hasn't begun, one is added
outer_begins : {b : List ℕ} {r : Option Element} → Stem b [] r → Begins b
unfolding is_name_start
outer_begins {b = b} (Stems.Stem.root prolog) =
    let small = element_at (length b) (97 ∷ []) [] [] [] in (
      60 ∷ 97 ∷ 47 ∷ 62 ∷ [],
      small,
      subst (λ bytes. Spells bytes small) (append-nil (b ++ 60 ∷ 97 ∷ 47 ∷ 62 ∷ [])) (Documents.Spells.document prolog
          (Documents.IsElement.empty (length b) (Documents.IsName.one (Characters.IsCharacter.ascii 97 refl)) Documents.AreAttributes.nothing Documents.IsWhite.nothing)
          Documents.AreExtras.nothing),
    )
outer_begins (Stems.Stem.ended {p} {e} {x} {t} prolog element extras) =
    ([], t, subst (λ bytes. Spells bytes t) (sym (append-nil (p ++ e ++ x))) (Documents.Spells.document prolog element extras))

closes : (n : ℕ) (os : List Open) (r : Option Element) (b : List ℕ) → length os ≡ n → Stem b os r → Begins b
closes n [] r b e whole = outer_begins whole
closes zero (o ∷ os) r b e whole = absurd (omega (arith, e))
closes (suc n) (o ∷ []) r b e whole =
    begins_from b (60 ∷ 47 ∷ o.name ++ [] ++ 62 ∷ []) (outer_begins (end_closed whole Documents.IsWhite.nothing))
closes (suc n) (o ∷ outer ∷ os) r b e whole =
    begins_from b (60 ∷ 47 ∷ o.name ++ [] ++ 62 ∷ [])
    (closes n (with_child outer (element_of o) ∷ os) r _ (omega (arith, e)) (end_closed whole Documents.IsWhite.nothing))

pub stem_begins : (os : List Open) (r : Option Element) (b : List ℕ) → Stem b os r → Begins b
stem_begins os r b whole = closes (length os) os r b refl whole

-- bytes that lead from a state to a place between two tokens
record Leads (st : State) : Type 0 where
  more : List ℕ
  os : List Open
  r : Option Element
  leads : (at : ℕ) → run st at more ≡ state Between Whole os r

by_byte : (st then : State) (c : ℕ) → ((at : ℕ) → next st at c ≡ then) → Leads then → Leads st
by_byte st then c h l = record { more = c ∷ l.more; os = l.os; r = l.r; leads = λ at. ap (λ x. run x (suc at) l.more) (h at) ∙ l.leads (suc at) }

by_bytes : (st then : State) (s : List ℕ) → ((at : ℕ) → run st at s ≡ then) → Leads then → Leads st
by_bytes st then s h l = record { more = s ++ l.more; os = l.os; r = l.r; leads = λ at. then_run st at s l.more (h at) (l.leads (at + length s)) }

between_leads : (os : List Open) (r : Option Element) → Leads (state Between Whole os r)
between_leads os r = record { more = []; os = os; r = r; leads = λ at. refl }

closed_leads : (k : Element) (os : List Open) (r : Option Element) → Leads (chosen (closed k os r))
closed_leads k [] r = between_leads [] (Some k)
closed_leads k (o ∷ os) r = between_leads (with_child o k ∷ os) r

blank_leads : (t : Tag) (os : List Open) (r : Option Element) → Leads (state (Blank t) Whole os r)
blank_leads t os r = by_bytes _ _ (47 ∷ 62 ∷ []) (blank_empty t os r) (closed_leads (empty_element t) os r)

attributed_empty : (t : Tag) (os : List Open) (r : Option Element) (at : ℕ) → run (state (Attributed t) Whole os r) at (47 ∷ 62 ∷ []) ≡ chosen (closed (empty_element t) os r)
unfolding is_lead is_white
attributed_empty t os r at = refl

attributed_leads : (t : Tag) (os : List Open) (r : Option Element) → Leads (state (Attributed t) Whole os r)
attributed_leads t os r = by_bytes _ _ (47 ∷ 62 ∷ []) (attributed_empty t os r) (closed_leads (empty_element t) os r)

slash_leads : (t : Tag) (os : List Open) (r : Option Element) → Leads (state (Slash t) Whole os r)
unfolding is_lead
slash_leads t os r = by_byte _ _ 62 (λ at. refl) (closed_leads (empty_element t) os r)

value_leads : (t : Tag) (k : List ℕ) (q : Quote) (v : List ℕ) (os : List Open) (r : Option Element) → Leads (state (Value t k q v) Whole os r)
value_leads t k q v os r = by_byte _ _ (quote_byte q) (value_quote q t k v os r) (attributed_leads (with_attribute t k v) os r)

equals_leads : (t : Tag) (k : List ℕ) (os : List Open) (r : Option Element) → Leads (state (Equals t k) Whole os r)
equals_leads t k os r = by_byte _ _ 34 (equals_quote Double t k os r) (value_leads t k Double [] os r)

-- a name that may stand already grows by letters until it is longer than all
longest : List Attribute → ℕ
longest [] = 0
longest (a ∷ rest) = length a.name + longest rest

letters : ℕ → List ℕ
letters zero = []
letters (suc n) = 97 ∷ letters n

length_letters : (n : ℕ) → length (letters n) ≡ n
unfolding letters
length_letters zero = refl
length_letters (suc n) = ap suc (length_letters n)

longer_is_other : (k n : List ℕ) → length n < length k → bytes_eq k n ≡ false
longer_is_other k n h = eqb_other (bytes_eq k n) refl
  where
    eqb_other : (t : Bool) → bytes_eq k n ≡ t → t ≡ false
    eqb_other false e = refl
    eqb_other true e = absurd (omega (arith, h, ap length ((bytes_decides k n).0 e)))

longer_is_fresh : (k : List ℕ) (ats : List Attribute) → longest ats < length k → is_fresh k ats ≡ true
unfolding longest
longer_is_fresh k [] h = refl
longer_is_fresh k (a ∷ rest) h = rw (longer_is_other k a.name (omega arith)) (longer_is_fresh k rest (omega arith))

key_letters : (n : ℕ) (t : Tag) (k : List ℕ) (os : List Open) (r : Option Element) (at : ℕ) → run (state (Key t k) Whole os r) at (letters n) ≡ state (Key t (k ++ letters n)) Whole os r
unfolding letters is_lead is_name_byte is_name_start
key_letters zero t k os r at = ap (λ m. state (Key t m) Whole os r) (sym (append-nil k))
key_letters (suc n) t k os r at = key_letters n t (k ++ 97 ∷ []) os r (suc at) ∙ ap (λ m. state (Key t m) Whole os r) (append_assoc k (97 ∷ []) (letters n))

key_leads : (t : Tag) (k : List ℕ) (os : List Open) (r : Option Element) → Leads (state (Key t k) Whole os r)
key_leads t k os r =
    let more = letters (suc (longest t.attributes)) in
    let long : longest t.attributes < length (k ++ more) = omega (arith, length-append k more, length_letters (suc (longest t.attributes))) in
    by_bytes _ _ more (key_letters (suc (longest t.attributes)) t k os r)
    (by_byte _ _ 61 (λ at. key_equals t (k ++ more) os r at (longer_is_fresh (k ++ more) t.attributes long)) (equals_leads t (k ++ more) os r))

after_key_leads : (t : Tag) (k : List ℕ) (os : List Open) (r : Option Element) → Leads (state (AfterKey t k) Whole os r)
after_key_leads t k os r = by_byte _ _ 61 (after_key_equals t k os r) (equals_leads t k os r)

comment_leads : (d : Dashes) (os : List Open) (r : Option Element) → Leads (state (Comment d) Whole os r)
comment_leads d os r = by_bytes _ _ (45 ∷ 45 ∷ 62 ∷ []) (comment_close d os r) (between_leads os r)

bang_leads : (os : List Open) (r : Option Element) → Leads (state Bang Whole os r)
unfolding is_lead
bang_leads os r = by_bytes _ _ (45 ∷ 45 ∷ []) (λ at. refl) (comment_leads Neither os r)

less_leads : (from : ℕ) (os : List Open) (r : Option Element) → Leads (state (Less from) Whole os r)
unfolding is_lead is_name_start
less_leads from os r = by_byte _ _ 33 (λ at. refl) (bang_leads os r)

target_leads : (os : List Open) (r : Option Element) → Leads (state Target Whole os r)
target_leads os r = by_bytes _ _ (63 ∷ 62 ∷ []) (target_end os r) (between_leads os r)

-- the places, at what was read there
abbrev pub is_live : Place → Bool
is_live (Refused at) = false
is_live p = true

place_leads : (p : Place) (os : List Open) (r : Option Element) (b : List ℕ) → Past p os r b → is_live p ≡ true → Leads (state p Whole os r)
unfolding is_lead is_name_start
place_leads Between os r b past live = between_leads os r
place_leads MarkOne os r b past live = by_bytes _ _ (187 ∷ 191 ∷ []) (λ at. refl) (between_leads os r)
place_leads MarkTwo os r b past live = by_byte _ _ 191 (λ at. refl) (between_leads os r)
place_leads (Less from) os r b past live = less_leads from os r
place_leads (TagName from n) os r b past live = by_bytes _ _ (47 ∷ 62 ∷ []) (held_empty from n [] os r) (closed_leads (empty_element (tag from n [])) os r)
place_leads (Blank t) os r b past live = blank_leads t os r
place_leads (Key t k) os r b past live = key_leads t k os r
place_leads (AfterKey t k) os r b past live = after_key_leads t k os r
place_leads (Equals t k) os r b past live = equals_leads t k os r
place_leads (Value t k q v) os r b past live = value_leads t k q v os r
place_leads (Attributed t) os r b past live = attributed_leads t os r
place_leads (Slash t) os r b past live = slash_leads t os r
place_leads (Close k) [] r b past live = absurd past
place_leads (Close k) (o ∷ os) r b (within, past) live =
    let done : length (take k o.name) ≡ k = length-take-le k o.name within in
    by_bytes _ _ (drop k o.name)
    (λ at. ap (λ n. run (state (Close n) Whole (o ∷ os) r) at (drop k o.name)) (sym done) ∙ run_close (drop k o.name) (take k o.name) o os r at (sym (take-append-drop k o.name)))
    (by_byte _ _ 62 (close_greater o os r) (closed_leads (element_of o) os r))
place_leads CloseWhite [] r b past live = absurd past
place_leads CloseWhite (o ∷ os) r b past live = by_byte _ _ 62 (close_white_greater o os r) (closed_leads (element_of o) os r)
place_leads Bang os r b past live = bang_leads os r
place_leads BangDash os r b past live = by_byte _ _ 45 (λ at. refl) (comment_leads Neither os r)
place_leads (Comment d) os r b past live = comment_leads d os r
place_leads Question os r b past live = by_byte _ _ 97 (λ at. refl) (target_leads os r)
place_leads Target os r b past live = target_leads os r
place_leads TargetEnd os r b past live = by_byte _ _ 62 (λ at. refl) (between_leads os r)
place_leads (Instruction ends) os r b past live = by_bytes _ _ (63 ∷ 62 ∷ []) (instruction_close ends os r) (between_leads os r)
place_leads (Refused at) os r b past live = absurd cc

-- a state from which bytes lead to a place between two tokens has read the beginning of a document
leads_begin : (st : State) (b : List ℕ) → PastState st b → Leads st → Begins b
leads_begin st b past l =
    begins_from b l.more (stem_begins l.os l.r (b ++ l.more) (subst (λ x. PastState x (b ++ l.more)) (l.leads (length b)) (run_read l.more st b past)))

place_begins : (p : Place) (os : List Open) (r : Option Element) (b : List ℕ) → Past p os r b → is_live p ≡ true → Begins b
place_begins p os r b past live = leads_begin (state p Whole os r) b past (place_leads p os r b past live)

abbrev is_whole : State → Bool
is_whole (state p Whole os r) = is_live p
is_whole (state p part os r) = false

whole_begins : (st : State) (b : List ℕ) → PastState st b → is_whole st ≡ true → Begins b
whole_begins (state p Whole os r) b past h = place_begins p os r b past h
whole_begins (state p part os r) b past h = absurd cc

taken_whole : (p : Place) (os : List Open) (r : Option Element) (w : List ℕ) → takes p os r ≡ true → is_whole (chosen (taken p os r w)) ≡ true
taken_whole Between [] r w h = absurd cc
taken_whole Between (o ∷ os) r w h = refl
taken_whole (Less from) os r w h = refl
taken_whole (TagName from n) os r w h = refl
taken_whole (Blank t) os r w h = refl
taken_whole (Key t k) os r w h = refl
taken_whole (Value t k q v) os r w h = refl
taken_whole (Comment d) os r w h = refl
taken_whole Question os r w h = refl
taken_whole Target os r w h = refl
taken_whole (Instruction ends) os r w h = refl
taken_whole p os r w h = absurd cc

reference_fits : (p : Place) (os : List Open) (r : Option Element) → takes_reference p os ≡ true → takes p os r ≡ true
reference_fits Between [] r h = absurd cc
reference_fits Between (o ∷ os) r h = refl
reference_fits (Value t k q v) os r h = refl
reference_fits p os r h = absurd cc

-- a part of a character or a reference is completed
completed : (st : State) (p : Place) (os : List Open) (r : Option Element) (w b s : List ℕ) → PastState st b → takes p os r ≡ true → run st (length b) s ≡ chosen (taken p os r w) → Begins b
completed st p os r w b s past fits h =
    begins_from b s (whole_begins (chosen (taken p os r w)) (b ++ s) (subst (λ x. PastState x (b ++ s)) h (run_read s st b past)) (taken_whole p os r w fits))

second_of_three : (a : ℕ) → nat_le 224 a ≡ true → nat_le 240 a ≡ false → (b : ℕ) × (is_front_of_three a b ≡ true)
unfolding is_front_of_three is_tail
second_of_three a low high = pick (nat_eq a 224) refl
  where
    pick : (t : Bool) → nat_eq a 224 ≡ t → (b : ℕ) × (is_front_of_three a b ≡ true)
    pick true e = (160, grind (arith, nat_tests))
    pick false e = (128, grind (arith, nat_tests))

second_of_four : (a : ℕ) → is_lead a ≡ true → nat_le 240 a ≡ true → (b : ℕ) × (is_front_of_four a b ≡ true)
unfolding is_front_of_four is_tail is_lead
second_of_four a lead low = pick (nat_eq a 240) refl
  where
    pick : (t : Bool) → nat_eq a 240 ≡ t → (b : ℕ) × (is_front_of_four a b ≡ true)
    pick true e = (144, grind (arith, nat_tests))
    pick false e = (128, grind (arith, nat_tests))

two_completes : (p : Place) (a : ℕ) (os : List Open) (r : Option Element) (at : ℕ) → is_lead_of_two a ≡ true → run (state p (Lead a) os r) at (128 ∷ []) ≡ chosen (taken p os r (a ∷ 128 ∷ []))
unfolding is_tail
two_completes p a os r at h = rw h refl

three_completes : (p : Place) (a c : ℕ) (os : List Open) (r : Option Element) (at : ℕ) → run (state p (Three a c) os r) at (128 ∷ []) ≡ chosen (taken p os r (a ∷ c ∷ 128 ∷ []))
unfolding is_tail
three_completes p a c os r at = refl

four_completes : (p : Place) (a c : ℕ) (os : List Open) (r : Option Element) (at : ℕ) → run (state p (Four a c) os r) at (128 ∷ 128 ∷ []) ≡ chosen (taken p os r (a ∷ c ∷ 128 ∷ 128 ∷ []))
unfolding is_tail
four_completes p a c os r at = refl

last_completes : (p : Place) (a c d : ℕ) (os : List Open) (r : Option Element) (at : ℕ) → run (state p (Last a c d) os r) at (128 ∷ []) ≡ chosen (taken p os r (a ∷ c ∷ d ∷ 128 ∷ []))
unfolding is_tail
last_completes p a c d os r at = refl

not_two : (a : ℕ) → nat_le 224 a ≡ true → is_lead_of_two a ≡ false
unfolding is_lead_of_two
not_two a h = grind (arith, nat_tests)

is_two : (a : ℕ) → is_lead a ≡ true → nat_le 224 a ≡ false → is_lead_of_two a ≡ true
unfolding is_lead_of_two is_lead
is_two a lead h = grind (arith, nat_tests)

not_three : (a b : ℕ) → nat_le 240 a ≡ true → is_front_of_three a b ≡ false
unfolding is_front_of_three is_tail
not_three a b h = grind (arith, nat_tests)

lower_three : (a : ℕ) → nat_le 240 a ≡ true → nat_le 224 a ≡ true
lower_three a h = grind (arith, nat_tests)

lead_begins : (p : Place) (a : ℕ) (os : List Open) (r : Option Element) (b : List ℕ) → (is_lead a ≡ true) × InWide p os r (a ∷ []) b → Begins b
lead_begins p a os r b (lead, h) = pick (nat_le 224 a) refl (nat_le 240 a) refl
  where
    pick : (s : Bool) → nat_le 224 a ≡ s → (t : Bool) → nat_le 240 a ≡ t → Begins b
    pick false low t high = completed (state p (Lead a) os r) p os r (a ∷ 128 ∷ []) b (128 ∷ []) (lead, h) h.fits (two_completes p a os r (length b) (is_two a lead low))
    pick true low false high =
        let (c, front) = second_of_three a low high in
        completed (state p (Lead a) os r) p os r (a ∷ c ∷ 128 ∷ []) b (c ∷ 128 ∷ []) (lead, h) h.fits (rw (not_two a low, front) (three_completes p a c os r (suc (length b))))
    pick true low true high =
        let (c, front) = second_of_four a lead high in
        completed (state p (Lead a) os r) p os r (a ∷ c ∷ 128 ∷ 128 ∷ []) b (c ∷ 128 ∷ 128 ∷ []) (lead, h) h.fits
        (rw (not_two a low, not_three a c high, front) (four_completes p a c os r (suc (length b))))

-- references
named_more : (rest done : List ℕ) (c : ℕ) (e : Entity) (p : Place) (os : List Open) (r : Option Element) (at : ℕ) → entity_text e ≡ done ++ c ∷ rest
    → run (state p (Named e (length done)) os r) at (c ∷ rest) ≡ chosen (taken p os r (entity_byte e ∷ []))
named_more [] done c e p os r at is =
    let same : nat_eq c (get_or (entity_text e) (length done) 0) ≡ true = eq-eqb c _ (sym (ap (λ n. get_or n (length done) 0) is ∙ byte_of done [] c)) in
    let ended : nat_lt (suc (length done)) (length (entity_text e)) ≡ false =
    (let long : length (entity_text e) ≡ suc (length done) = omega (arith, ap length is, length-append done (c ∷ [])) in grind (arith, nat_tests)) in
    rw (same, ended) refl
named_more (d ∷ rest) done c e p os r at is =
    let same : nat_eq c (get_or (entity_text e) (length done) 0) ≡ true = eq-eqb c _ (sym (ap (λ n. get_or n (length done) 0) is ∙ byte_of done (d ∷ rest) c)) in
    let more : nat_lt (suc (length done)) (length (entity_text e)) ≡ true =
    (let long : suc (length done) < length (entity_text e) = omega (arith, ap length is, length-append done (c ∷ d ∷ rest)) in grind (arith, nat_tests)) in
    let longer : suc (length done) ≡ length (done ++ c ∷ []) = omega (arith, length-append done (c ∷ [])) in
    rw (same, more) (ap (λ n. run (state p (Named e n) os r) (suc at) (d ∷ rest)) longer ∙ named_more rest (done ++ c ∷ []) d e p os r (suc at) (is ∙ sym (append_assoc done (c ∷ []) (d ∷ rest))))

named_begins : (p : Place) (e : Entity) (k : ℕ) (os : List Open) (r : Option Element) (b : List ℕ) → (k < length (entity_text e)) × InReference p os r (38 ∷ take k (entity_text e)) b → Begins b
named_begins p e k os r b (within, h) =
    let text = entity_text e in
    let done : length (take k text) ≡ k = length-take-le k text (omega arith) in
    let parts : text ≡ take k text ++ get_or text k 0 ∷ drop (suc k) text = sym (ap (λ end. take k text ++ end) (sym (drop-cons text k 0 within)) ∙ take-append-drop k text) in
    completed (state p (Named e k) os r) p os r (entity_byte e ∷ []) b (get_or text k 0 ∷ drop (suc k) text) (within, h) (reference_fits p os r h.fits)
    (ap (λ n. run (state p (Named e n) os r) (length b) (get_or text k 0 ∷ drop (suc k) text)) (sym done)
    ∙ named_more (drop (suc k) text) (take k text) (get_or text k 0) e p os r (length b) parts)

zero_digit : (x : Radix) → is_digit x 48 ≡ true
unfolding is_digit
zero_digit Decimal = refl
zero_digit Hexadecimal = refl

nine_digit : (x : Radix) → is_digit x 57 ≡ true
unfolding is_digit
nine_digit Decimal = refl
nine_digit Hexadecimal = refl

digit_zero : digit_value 48 ≡ 0
unfolding digit_value
digit_zero = refl

digit_nine : digit_value 57 ≡ 9
unfolding digit_value
digit_nine = refl

more_digit : (x : Radix) (p : Place) (os : List Open) (r : Option Element) (n m c v : ℕ) → is_digit x c ≡ true → digit_value c ≡ v → base x * n + v ≡ m → m ≤ 1114111 → (at : ℕ)
    → next (state p (Digits x n) os r) at c ≡ state p (Digits x m) os r
more_digit x p os r n m c v digit value is bound at =
    let sum : base x * n + digit_value c ≡ m = ap (λ d. base x * n + d) value ∙ is in
    more_digits x p os r at n c digit (omega arith) ∙ ap (λ d. state p (Digits x d) os r) sum

number_nine : is_character_number 9 ≡ true
unfolding is_character_number
number_nine = refl

hundred : (x : Radix) (n : ℕ) → n < 32 → 0 < n → is_character_number (base x * (base x * n)) ≡ true
unfolding is_character_number
hundred Decimal n low high = grind (arith, nat_tests)
hundred Hexadecimal n low high = grind (arith, nat_tests)

hundred_bound : (x : Radix) (n : ℕ) → n < 32 → (base x * n ≤ 1114111) × (base x * (base x * n) ≤ 1114111)
hundred_bound Decimal n low = (omega arith, omega arith)
hundred_bound Hexadecimal n low = (omega arith, omega arith)

surrogate : (n : ℕ) → is_character_number n ≡ false → n ≤ 1114111 → 32 ≤ n → (55296 ≤ n) × (n < 57344)
unfolding is_character_number
surrogate n h bound low = (grind (arith, nat_tests), grind (arith, nat_tests))

behind_surrogates : (x : Radix) (n : ℕ) → 55296 ≤ n → n < 57344 → is_character_number (base x * n) ≡ true
unfolding is_character_number
behind_surrogates Decimal n low high = grind (arith, nat_tests)
behind_surrogates Hexadecimal n low high = grind (arith, nat_tests)

surrogate_bound : (x : Radix) (n : ℕ) → n < 57344 → base x * n ≤ 1114111
surrogate_bound Decimal n high = omega arith
surrogate_bound Hexadecimal n high = omega arith

record Numbers (x : Radix) (n : ℕ) (p : Place) (os : List Open) (r : Option Element) : Type 0 where
  digits : List ℕ
  last : ℕ
  is : is_character_number last ≡ true
  leads : (at : ℕ) → run (state p (Digits x n) os r) at (digits ++ 59 ∷ []) ≡ chosen (taken p os r (utf8 last))

times_zero : (x : Radix) → base x * 0 + 9 ≡ 9
times_zero Decimal = refl
times_zero Hexadecimal = refl

numbers : (x : Radix) (n : ℕ) (p : Place) (os : List Open) (r : Option Element) → n ≤ 1114111 → Numbers x n p os r
numbers x n p os r bound = pick (is_character_number n) refl
  where
    small : (m : ℕ) → n ≡ m → is_character_number n ≡ false → n < 32 → Numbers x n p os r
    small zero e h low = record {
      digits = 57 ∷ [];
      last = 9;
      is = number_nine;
      leads = λ at.
          ap (λ st. run st (suc at) (59 ∷ [])) (more_digit x p os r n 9 57 9 (nine_digit x) digit_nine (ap (λ m. base x * m + 9) e ∙ times_zero x) (omega arith) at) ∙ number_ends x p os r (suc at) 9 number_nine;
    }
    small (suc m) e h low = record {
      digits = 48 ∷ 48 ∷ [];
      last = base x * (base x * n);
      is = hundred x n low (omega (arith, e));
      leads = λ at.
          ap (λ st. run st (suc at) (48 ∷ 59 ∷ [])) (more_digit x p os r n (base x * n) 48 0 (zero_digit x) digit_zero (omega arith) (hundred_bound x n low).0 at)
          ∙ ap (λ st. run st (suc (suc at)) (59 ∷ [])) (more_digit x p os r (base x * n) (base x * (base x * n)) 48 0 (zero_digit x) digit_zero (omega arith) (hundred_bound x n low).1 (suc at))
          ∙ number_ends x p os r (suc (suc at)) (base x * (base x * n)) (hundred x n low (omega (arith, e)));
    }

    large : is_character_number n ≡ false → 32 ≤ n → Numbers x n p os r
    large h low =
        let (from, to) = surrogate n h bound low in
        record {
          digits = 48 ∷ [];
          last = base x * n;
          is = behind_surrogates x n from to;
          leads = λ at.
              ap (λ st. run st (suc at) (59 ∷ [])) (more_digit x p os r n (base x * n) 48 0 (zero_digit x) digit_zero (omega arith) (surrogate_bound x n to) at)
              ∙ number_ends x p os r (suc at) (base x * n) (behind_surrogates x n from to);
        }

    size : (t : Bool) → nat_lt n 32 ≡ t → is_character_number n ≡ false → Numbers x n p os r
    size true e h = small n refl h (grind (arith, nat_tests))
    size false e h = large h (grind (arith, nat_tests))

    pick : (t : Bool) → is_character_number n ≡ t → Numbers x n p os r
    pick true h = record { digits = []; last = n; is = h; leads = λ at. number_ends x p os r at n h }
    pick false h = size (nat_lt n 32) refl h

hash_nine : (p : Place) (os : List Open) (r : Option Element) (at : ℕ) → run (state p Hash os r) at (57 ∷ 59 ∷ []) ≡ chosen (taken p os r (utf8 9))
unfolding is_digit digit_value is_character_number
hash_nine p os r at = refl

hash_x_nine : (p : Place) (os : List Open) (r : Option Element) (at : ℕ) → run (state p HashX os r) at (57 ∷ 59 ∷ []) ≡ chosen (taken p os r (utf8 9))
unfolding is_digit digit_value is_character_number
hash_x_nine p os r at = refl

-- a state that doesn't refuse has read the beginning of a document
pub part_begins : (p : Place) (part : Part) (os : List Open) (r : Option Element) (b : List ℕ) → PastPart p part os r b → is_live p ≡ true → Begins b
part_begins p Whole os r b past live = place_begins p os r b past live
part_begins p (Lead a) os r b past live = lead_begins p a os r b past
part_begins p (Three a c) os r b (front, h) live =
    completed (state p (Three a c) os r) p os r (a ∷ c ∷ 128 ∷ []) b (128 ∷ []) (front, h) h.fits (three_completes p a c os r (length b))
part_begins p (Four a c) os r b (front, h) live =
    completed (state p (Four a c) os r) p os r (a ∷ c ∷ 128 ∷ 128 ∷ []) b (128 ∷ 128 ∷ []) (front, h) h.fits (four_completes p a c os r (length b))
part_begins p (Last a c d) os r b (front, third, h) live =
    completed (state p (Last a c d) os r) p os r (a ∷ c ∷ d ∷ 128 ∷ []) b (128 ∷ []) (front, third, h) h.fits (last_completes p a c d os r (length b))
part_begins p Reference os r b h live =
    completed (state p Reference os r) p os r (60 ∷ []) b (entity_text entity.Less) h (reference_fits p os r h.fits) (named_run entity.Less p os r (length b))
part_begins p ReferenceA os r b h live =
    completed (state p ReferenceA os r) p os r (38 ∷ []) b (109 ∷ 112 ∷ 59 ∷ []) h (reference_fits p os r h.fits) refl
part_begins p (Named e k) os r b past live = named_begins p e k os r b past
part_begins p Hash os r b h live = completed (state p Hash os r) p os r (utf8 9) b (57 ∷ 59 ∷ []) h (reference_fits p os r h.fits) (hash_nine p os r (length b))
part_begins p HashX os r b h live = completed (state p HashX os r) p os r (utf8 9) b (57 ∷ 59 ∷ []) h (reference_fits p os r h.fits) (hash_x_nine p os r (length b))
part_begins p (Digits x n) os r b (d, numeral, bound, h) live =
    let l = numbers x n p os r bound in
    completed (state p (Digits x n) os r) p os r (utf8 l.last) b (l.digits ++ 59 ∷ []) (d, numeral, bound, h) (reference_fits p os r h.fits) (l.leads (length b))
