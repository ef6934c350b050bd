-- What a document's parts lead to.
use Rattle.std.proofs.Common.{◌≡◌, ℕ, suc, ◌+◌, Bool, true, false, List, [], ◌∷◌, ◌++◌, length, Option, None, refl, ap, ◌∙◌, ◌⊎◌, inl, inr, ⊎_elim}
use Rattle.doc_model.specs.declared.tree.Element.{Element}
use Rattle.doc_tree.specs.declared.places.Quote.{Quote}
use Rattle.doc_tree.specs.declared.places.Quote.TheVariants.{Single, Double}
use Rattle.doc_tree.specs.declared.places.Dashes.{Dashes}
use Rattle.doc_tree.specs.declared.places.Dashes.TheVariants.{Neither, One, Two}
use Rattle.doc_tree.specs.declared.places.Tag.{Tag}
use Rattle.doc_tree.specs.declared.places.Open.{Open}
use Rattle.doc_tree.specs.declared.places.Place.{Place}
use Rattle.doc_tree.specs.declared.places.Place.TheVariants.{Between, Less, TagName, Blank, Key, AfterKey, Equals, Value, Attributed, Comment, Question, Target, Instruction}
use Rattle.doc_tree.specs.declared.places.Part.TheVariants.{Whole}
use Rattle.doc_tree.specs.Characters
use Rattle.doc_tree.specs.Characters.{is_white, is_text, quote_byte, is_value, is_name_start, is_name_byte, is_comment_byte, is_instruction_byte, is_lead, is_lead_of_two, is_front_of_three, is_front_of_four, is_tail, is_digit, digit_value, base, entity_text, entity_byte, number_mark, utf8, is_character_number, IsCharacter, IsReference, IsNumeral}
use Rattle.doc_tree.specs.Documents
use Rattle.doc_tree.specs.Documents.{is_fresh, IsWhite, IsBlank, IsName, IsValue, AreAttributes, IsCommentText, IsInstructionText, IsAside, IsElement, IsContent}
use Rattle.doc_tree.specs.Machine.{State, state, chosen, tag, next, run, comment_greater, instruction_greater}
use Rattle.doc_model.specs.declared.tree.Attribute.{Attribute}
use Rattle.doc_model.specs.Trees.{attribute}
use Rattle.doc_tree.specs.Documents.{AreExtras, IsProlog, Spells, shown}
use Rattle.doc_tree.specs.Machine.{closed, empty_element, more_dashes, with_attribute, opened}
use Rattle.doc_tree.proofs.Classes.{white_not_lead, white_not_name_byte, white_not_name_start, run_character, run_reference, then_run}

-- names
pub run_tag_name : (from : ℕ) (os : List Open) (at : ℕ) {n : List ℕ} → IsName n → run (state (Less from) Whole os None) at n ≡ state (TagName from n) Whole os None
run_tag_name from os at (Documents.IsName.one h) = run_character (Less from) os None at refl h
run_tag_name from os at (Documents.IsName.more {n} {w} name h) =
    then_run _ at n w (run_tag_name from os at name) (run_character (TagName from n) os None (at + length n) refl h)

pub run_key : (t : Tag) (os : List Open) (r : Option Element) (at : ℕ) {n : List ℕ} → IsName n → run (state (Blank t) Whole os r) at n ≡ state (Key t n) Whole os r
run_key t os r at (Documents.IsName.one h) = run_character (Blank t) os r at refl h
run_key t os r at (Documents.IsName.more {n} {w} name h) =
    then_run _ at n w (run_key t os r at name) (run_character (Key t n) os r (at + length n) refl h)

pub run_target : (os : List Open) (r : Option Element) (at : ℕ) {n : List ℕ} → IsName n → run (state Question Whole os r) at n ≡ state Target Whole os r
run_target os r at (Documents.IsName.one h) = run_character Question os r at refl h
run_target os r at (Documents.IsName.more {n} {w} name h) =
    then_run _ at n w (run_target os r at name) (run_character Target os r (at + length n) refl h)

-- values
pub run_value : (t : Tag) (k : List ℕ) (q : Quote) (os : List Open) (r : Option Element) (at : ℕ) {s v : List ℕ} → IsValue q s v
    → run (state (Value t k q []) Whole os r) at s ≡ state (Value t k q v) Whole os r
run_value t k q os r at Documents.IsValue.nothing = refl
run_value t k q os r at (Documents.IsValue.character {b} {v} {w} value h) =
    then_run _ at b w (run_value t k q os r at value) (run_character (Value t k q v) os r (at + length b) refl h)
run_value t k q os r at (Documents.IsValue.reference {b} {v} {r = s} {w} value h) =
    then_run _ at b s (run_value t k q os r at value) (run_reference (Value t k q v) os r (at + length b) refl h)

-- white
abbrev pub AtWhite : State → State → Type 0
AtWhite st mid = (at c : ℕ) → is_white c ≡ true → next st at c ≡ mid

blank_run : (st mid : State) → AtWhite st mid → AtWhite mid mid → {w : List ℕ} → IsBlank w → (at : ℕ) → run st at w ≡ mid
blank_run st mid first more (Documents.IsBlank.one c h) at = first at c h
blank_run st mid first more (Documents.IsBlank.more c {w} blank h) at = then_run st at w (c ∷ []) (blank_run st mid first more blank at) (more (at + length w) c h)

white_run : (st mid : State) → AtWhite st mid → AtWhite mid mid → {w : List ℕ} → IsWhite w → (at : ℕ) → (run st at w ≡ st) ⊎ (run st at w ≡ mid)
white_run st mid first more Documents.IsWhite.nothing at = inl refl
white_run st mid first more (Documents.IsWhite.more c {w} white h) at =
    inr (⊎_elim (λ same. then_run st at w (c ∷ []) same (first (at + length w) c h)) (λ moved. then_run st at w (c ∷ []) moved (more (at + length w) c h)) (white_run st mid first more white at))

-- white that may stand, between what leads to a state and what both it and the state behind white go on from
pub over_white : (begin st mid : State) {out : State} (at : ℕ) (a w z : List ℕ) → run begin at a ≡ st → AtWhite st mid → AtWhite mid mid → IsWhite w
    → run st (at + length (a ++ w)) z ≡ out → run mid (at + length (a ++ w)) z ≡ out → run begin at (a ++ w ++ z) ≡ out
over_white begin st mid at a w z here first more white same moved =
    ⊎_elim (λ is. then_run begin at (a ++ w) z (then_run begin at a w here is) same) (λ is. then_run begin at (a ++ w) z (then_run begin at a w here is) moved)
    (white_run st mid first more white (at + length a))

-- start tags
abbrev pub held : ℕ → List ℕ → List Attribute → Place
held from n [] = TagName from n
held from n (a ∷ rest) = Attributed (tag from n (a ∷ rest))

held_more : (from : ℕ) (n : List ℕ) (ats : List Attribute) (a : Attribute) → Attributed (tag from n (ats ++ a ∷ [])) ≡ held from n (ats ++ a ∷ [])
held_more from n [] a = refl
held_more from n (b ∷ ats) a = refl

pub held_white : (from : ℕ) (n : List ℕ) (ats : List Attribute) (os : List Open) (r : Option Element) → AtWhite (state (held from n ats) Whole os r) (state (Blank (tag from n ats)) Whole os r)
held_white from n [] os r at c h = rw (white_not_lead c h, white_not_name_byte c h, h) refl
held_white from n (a ∷ rest) os r at c h = rw (white_not_lead c h, h) refl

pub blank_white : (t : Tag) (os : List Open) (r : Option Element) → AtWhite (state (Blank t) Whole os r) (state (Blank t) Whole os r)
blank_white t os r at c h = rw (white_not_lead c h, white_not_name_start c h, h) refl

pub held_greater : (from : ℕ) (n : List ℕ) (ats : List Attribute) (os : List Open) (r : Option Element) (at : ℕ) → next (state (held from n ats) Whole os r) at 62 ≡ chosen (opened (tag from n ats) os r)
unfolding is_lead is_name_byte is_name_start is_white
held_greater from n [] os r at = refl
held_greater from n (a ∷ rest) os r at = refl

pub blank_greater : (t : Tag) (os : List Open) (r : Option Element) (at : ℕ) → next (state (Blank t) Whole os r) at 62 ≡ chosen (opened t os r)
unfolding is_lead is_name_start is_white
blank_greater t os r at = refl

pub held_empty : (from : ℕ) (n : List ℕ) (ats : List Attribute) (os : List Open) (r : Option Element) (at : ℕ) → run (state (held from n ats) Whole os r) at (47 ∷ 62 ∷ []) ≡ chosen (closed (empty_element (tag from n ats)) os r)
unfolding is_lead is_name_byte is_name_start is_white
held_empty from n [] os r at = refl
held_empty from n (a ∷ rest) os r at = refl

pub blank_empty : (t : Tag) (os : List Open) (r : Option Element) (at : ℕ) → run (state (Blank t) Whole os r) at (47 ∷ 62 ∷ []) ≡ chosen (closed (empty_element t) os r)
unfolding is_lead is_name_start is_white
blank_empty t os r at = refl

key_white : (t : Tag) (k : List ℕ) (os : List Open) (r : Option Element) → is_fresh k t.attributes ≡ true → AtWhite (state (Key t k) Whole os r) (state (AfterKey t k) Whole os r)
key_white t k os r fresh at c h = rw (white_not_lead c h, white_not_name_byte c h, fresh, h) refl

pub after_key_white : (t : Tag) (k : List ℕ) (os : List Open) (r : Option Element) → AtWhite (state (AfterKey t k) Whole os r) (state (AfterKey t k) Whole os r)
after_key_white t k os r at c h = rw (white_not_lead c h, h) refl

pub equals_white : (t : Tag) (k : List ℕ) (os : List Open) (r : Option Element) → AtWhite (state (Equals t k) Whole os r) (state (Equals t k) Whole os r)
equals_white t k os r at c h = rw (white_not_lead c h, h) refl

pub key_equals : (t : Tag) (k : List ℕ) (os : List Open) (r : Option Element) (at : ℕ) → is_fresh k t.attributes ≡ true → next (state (Key t k) Whole os r) at 61 ≡ state (Equals t k) Whole os r
unfolding is_lead is_name_byte is_name_start is_white
key_equals t k os r at fresh = rw fresh refl

pub after_key_equals : (t : Tag) (k : List ℕ) (os : List Open) (r : Option Element) (at : ℕ) → next (state (AfterKey t k) Whole os r) at 61 ≡ state (Equals t k) Whole os r
unfolding is_lead is_white
after_key_equals t k os r at = refl

pub equals_quote : (q : Quote) (t : Tag) (k : List ℕ) (os : List Open) (r : Option Element) (at : ℕ) → next (state (Equals t k) Whole os r) at (quote_byte q) ≡ state (Value t k q []) Whole os r
unfolding is_lead is_white
equals_quote Single t k os r at = refl
equals_quote Double t k os r at = refl

pub value_quote : (q : Quote) (t : Tag) (k v : List ℕ) (os : List Open) (r : Option Element) (at : ℕ) → next (state (Value t k q v) Whole os r) at (quote_byte q) ≡ state (Attributed (with_attribute t k v)) Whole os r
unfolding is_lead is_value is_text Characters.is_ascii is_white
value_quote Single t k v os r at = refl
value_quote Double t k v os r at = refl

equals_same : (t : Tag) (k : List ℕ) (os : List Open) (r : Option Element) {x : List ℕ} → IsWhite x → (at : ℕ) → run (state (Equals t k) Whole os r) at x ≡ state (Equals t k) Whole os r
equals_same t k os r white at = ⊎_elim (λ is. is) (λ is. is) (white_run (state (Equals t k) Whole os r) (state (Equals t k) Whole os r) (equals_white t k os r) (equals_white t k os r) white at)

pub run_attributes : (from : ℕ) (n : List ℕ) (os : List Open) (r : Option Element) (at : ℕ) {a : List ℕ} {ats : List Attribute} → AreAttributes a ats
    → run (state (TagName from n) Whole os r) at a ≡ state (held from n ats) Whole os r
run_attributes from n os r at Documents.AreAttributes.nothing = refl
run_attributes from n os r at (Documents.AreAttributes.more q {a} {w} {n = k} {u} {x} {s} {v} {ats} before blank name fresh white_before white_behind value) =
    let t = tag from n ats in
    let named : run (state (TagName from n) Whole os r) at (a ++ w ++ k) ≡ state (Key t k) Whole os r =
    then_run _ at (a ++ w) k
    (then_run _ at a w (run_attributes from n os r at before) (blank_run _ _ (held_white from n ats os r) (blank_white t os r) blank (at + length a)))
    (run_key t os r (at + length (a ++ w)) name) in
    let assigned : run (state (TagName from n) Whole os r) at (a ++ w ++ k ++ u ++ 61 ∷ x) ≡ state (Equals t k) Whole os r =
    over_white _ (state (Key t k) Whole os r) (state (AfterKey t k) Whole os r) at (a ++ w ++ k) u (61 ∷ x) named (key_white t k os r fresh) (after_key_white t k os r) white_before
    (ap (λ st. run st (suc (at + length (a ++ w ++ k ++ u))) x) (key_equals t k os r (at + length (a ++ w ++ k ++ u)) fresh) ∙ equals_same t k os r white_behind _)
    (ap (λ st. run st (suc (at + length (a ++ w ++ k ++ u))) x) (after_key_equals t k os r (at + length (a ++ w ++ k ++ u))) ∙ equals_same t k os r white_behind _) in
    let valued : run (state (TagName from n) Whole os r) at (a ++ w ++ k ++ u ++ 61 ∷ x ++ quote_byte q ∷ s) ≡ state (Value t k q v) Whole os r =
    then_run _ at (a ++ w ++ k ++ u ++ 61 ∷ x) (quote_byte q ∷ s) assigned
    (ap (λ st. run st (suc (at + length (a ++ w ++ k ++ u ++ 61 ∷ x))) s) (equals_quote q t k os r (at + length (a ++ w ++ k ++ u ++ 61 ∷ x))) ∙ run_value t k q os r _ value) in
    then_run _ at (a ++ w ++ k ++ u ++ 61 ∷ x ++ quote_byte q ∷ s) (quote_byte q ∷ []) valued (value_quote q t k v os r (at + length (a ++ w ++ k ++ u ++ 61 ∷ x ++ quote_byte q ∷ s)))
    ∙ ap (λ p. state p Whole os r) (held_more from n ats (attribute k v))

-- comments and instructions
pub less_step : (os : List Open) (r : Option Element) (at : ℕ) → next (state Between Whole os r) at 60 ≡ state (Less at) Whole os r
unfolding is_lead is_white is_text Characters.is_ascii
less_step [] r at = refl
less_step (o ∷ os) r at = refl

comment_byte : (d : Dashes) (os : List Open) (r : Option Element) (at : ℕ) → next (state (Comment d) Whole os r) at 45 ≡ state (Comment (more_dashes d)) Whole os r
unfolding is_lead is_comment_byte Characters.is_ascii is_white
comment_byte d os r at = refl

comment_greater_step : (d : Dashes) (os : List Open) (r : Option Element) (at : ℕ) → next (state (Comment d) Whole os r) at 62 ≡ state (comment_greater d) Whole os r
unfolding is_lead is_comment_byte Characters.is_ascii is_white
comment_greater_step d os r at = refl

run_comment : (os : List Open) (r : Option Element) (at : ℕ) {d : Dashes} {b : List ℕ} → IsCommentText d b → run (state (Comment Neither) Whole os r) at b ≡ state (Comment d) Whole os r
run_comment os r at Documents.IsCommentText.nothing = refl
run_comment os r at (Documents.IsCommentText.one_dash {b} h) = then_run _ at b (45 ∷ []) (run_comment os r at h) (comment_byte Neither os r (at + length b))
run_comment os r at (Documents.IsCommentText.two_dashes {b} h) = then_run _ at b (45 ∷ []) (run_comment os r at h) (comment_byte One os r (at + length b))
run_comment os r at (Documents.IsCommentText.more_dashes {b} h) = then_run _ at b (45 ∷ []) (run_comment os r at h) (comment_byte Two os r (at + length b))
run_comment os r at (Documents.IsCommentText.greater {b} h) = then_run _ at b (62 ∷ []) (run_comment os r at h) (comment_greater_step Neither os r (at + length b))
run_comment os r at (Documents.IsCommentText.dash_greater {b} h) = then_run _ at b (62 ∷ []) (run_comment os r at h) (comment_greater_step One os r (at + length b))
run_comment os r at (Documents.IsCommentText.other d {b} {w} h character) = then_run _ at b w (run_comment os r at h) (run_character (Comment d) os r (at + length b) refl character)

pub comment_close : (d : Dashes) (os : List Open) (r : Option Element) (at : ℕ) → run (state (Comment d) Whole os r) at (45 ∷ 45 ∷ 62 ∷ []) ≡ state Between Whole os r
unfolding is_lead is_comment_byte Characters.is_ascii is_white
comment_close Neither os r at = refl
comment_close One os r at = refl
comment_close Two os r at = refl

comment_open : (os : List Open) (r : Option Element) (at : ℕ) → run (state Between Whole os r) at (60 ∷ 33 ∷ 45 ∷ 45 ∷ []) ≡ state (Comment Neither) Whole os r
unfolding is_lead is_name_start
comment_open os r at = ap (λ st. run st (suc at) (33 ∷ 45 ∷ 45 ∷ [])) (less_step os r at)

instruction_open : (os : List Open) (r : Option Element) (at : ℕ) → run (state Between Whole os r) at (60 ∷ 63 ∷ []) ≡ state Question Whole os r
unfolding is_lead is_name_start
instruction_open os r at = ap (λ st. run st (suc at) (63 ∷ [])) (less_step os r at)

instruction_question : (ends : Bool) (os : List Open) (r : Option Element) (at : ℕ) → next (state (Instruction ends) Whole os r) at 63 ≡ state (Instruction true) Whole os r
unfolding is_lead is_instruction_byte Characters.is_ascii is_white
instruction_question ends os r at = refl

instruction_greater_step : (ends : Bool) (os : List Open) (r : Option Element) (at : ℕ) → next (state (Instruction ends) Whole os r) at 62 ≡ state (instruction_greater ends) Whole os r
unfolding is_lead is_instruction_byte Characters.is_ascii is_white
instruction_greater_step ends os r at = refl

run_instruction : (os : List Open) (r : Option Element) (at : ℕ) {ends : Bool} {b : List ℕ} → IsInstructionText ends b → run (state (Instruction false) Whole os r) at b ≡ state (Instruction ends) Whole os r
run_instruction os r at Documents.IsInstructionText.nothing = refl
run_instruction os r at (Documents.IsInstructionText.question ends {b} h) = then_run _ at b (63 ∷ []) (run_instruction os r at h) (instruction_question ends os r (at + length b))
run_instruction os r at (Documents.IsInstructionText.greater {b} h) = then_run _ at b (62 ∷ []) (run_instruction os r at h) (instruction_greater_step false os r (at + length b))
run_instruction os r at (Documents.IsInstructionText.other ends {b} {w} h character) = then_run _ at b w (run_instruction os r at h) (run_character (Instruction ends) os r (at + length b) refl character)

pub target_end : (os : List Open) (r : Option Element) (at : ℕ) → run (state Target Whole os r) at (63 ∷ 62 ∷ []) ≡ state Between Whole os r
unfolding is_lead is_name_byte is_name_start is_white
target_end os r at = refl

target_white : (os : List Open) (r : Option Element) (at c : ℕ) → is_white c ≡ true → next (state Target Whole os r) at c ≡ state (Instruction false) Whole os r
target_white os r at c h = rw (white_not_lead c h, white_not_name_byte c h, h) refl

pub instruction_close : (ends : Bool) (os : List Open) (r : Option Element) (at : ℕ) → run (state (Instruction ends) Whole os r) at (63 ∷ 62 ∷ []) ≡ state Between Whole os r
unfolding is_lead is_instruction_byte Characters.is_ascii is_white
instruction_close ends os r at = refl

pub run_aside : (os : List Open) (r : Option Element) (at : ℕ) {k : List ℕ} → IsAside k → run (state Between Whole os r) at k ≡ state Between Whole os r
run_aside os r at (Documents.IsAside.comment d {b} h) =
    then_run (state Between Whole os r) at (60 ∷ 33 ∷ 45 ∷ 45 ∷ b) (45 ∷ 45 ∷ 62 ∷ []) (then_run (state Between Whole os r) at (60 ∷ 33 ∷ 45 ∷ 45 ∷ []) b (comment_open os r at) (run_comment os r (at + 4) h)) (comment_close d os r (at + length (60 ∷ 33 ∷ 45 ∷ 45 ∷ b)))
run_aside os r at (Documents.IsAside.bare {n} name) =
    then_run (state Between Whole os r) at (60 ∷ 63 ∷ n) (63 ∷ 62 ∷ []) (then_run (state Between Whole os r) at (60 ∷ 63 ∷ []) n (instruction_open os r at) (run_target os r (at + 2) name)) (target_end os r (at + length (60 ∷ 63 ∷ n)))
run_aside os r at (Documents.IsAside.instruction c ends {n} {b} name white h) =
    then_run (state Between Whole os r) at (60 ∷ 63 ∷ n ++ c ∷ b) (63 ∷ 62 ∷ [])
    (then_run (state Between Whole os r) at (60 ∷ 63 ∷ n) (c ∷ b) (then_run (state Between Whole os r) at (60 ∷ 63 ∷ []) n (instruction_open os r at) (run_target os r (at + 2) name))
    (ap (λ st. run st (suc (at + length (60 ∷ 63 ∷ n))) b) (target_white os r (at + length (60 ∷ 63 ∷ n)) c white) ∙ run_instruction os r (suc (at + length (60 ∷ 63 ∷ n))) h))
    (instruction_close ends os r (at + length (60 ∷ 63 ∷ n ++ c ∷ b)))
