-- What the reader does at each byte: a state, and the state after the next byte, as a tree of tests.
use Rattle.std.specs.Prelude.{ℕ, suc, ◌+◌, ◌*◌, Bool, true, false, cond, List, [], ◌∷◌, ◌++◌, length, get_or, nat_eq, nat_lt, nat_le, Option, Some, None}
use Rattle.doc_model.specs.declared.tree.Attribute.{Attribute}
use Rattle.doc_model.specs.declared.tree.Element.{Element}
use Rattle.doc_model.specs.Trees.{attribute, element_at}
use Rattle.doc_tree.specs.declared.places.Quote.TheVariants.{Single, Double}
use Rattle.doc_tree.specs.declared.places.Dashes.{Dashes}
use Rattle.doc_tree.specs.declared.places.Dashes.TheVariants.{Neither, One, Two}
use Rattle.doc_tree.specs.declared.places.Entity.{Entity}
use Rattle.doc_tree.specs.declared.places.Entity.TheVariants as entity
use Rattle.doc_tree.specs.declared.places.Radix.TheVariants.{Decimal, Hexadecimal}
use Rattle.doc_tree.specs.declared.places.Tag.{Tag}
use Rattle.doc_tree.specs.declared.places.Open.{Open}
use Rattle.doc_tree.specs.declared.places.Place.{Place}
use Rattle.doc_tree.specs.declared.places.Place.TheVariants.{Between, MarkOne, MarkTwo, Less, TagName, Blank, Key, AfterKey, Equals, Value, Attributed, Slash, Close, CloseWhite, Bang, BangDash, Comment, Question, Target, TargetEnd, Instruction, Refused}
use Rattle.doc_tree.specs.declared.places.Part.{Part}
use Rattle.doc_tree.specs.declared.places.Part.TheVariants.{Whole, Lead, Three, Four, Last, Reference, ReferenceA, Named, Hash, HashX, Digits}
use Rattle.doc_tree.specs.Characters.{is_white, is_text, quote_byte, is_value, is_name_start, is_name_byte, is_comment_byte, is_instruction_byte, is_lead, is_lead_of_two, is_tail, is_front_of_three, is_front_of_four, is_character_number, utf8, entity_text, entity_byte, is_digit, digit_value, base}
use Rattle.doc_tree.specs.Documents.{is_fresh, shown}

-- where the reader stands, the part of a character or a reference that was read, the open elements, the innermost first, and the
-- root once it is ended
pub data State : Type 0 where
  state : Place → Part → List Open → Option Element → State

pub data Choice : Type 0 where
  now : Place → Part → List Open → Option Element → Choice
  test : Bool → Choice → Choice → Choice

abbrev pub chosen : Choice → State
chosen (now p part os r) = state p part os r
chosen (test t x y) = cond t (chosen x) (chosen y)

-- parts of trees
abbrev pub tag : ℕ → List ℕ → List Attribute → Tag
tag at name attributes = record { at = at; name = name; attributes = attributes }

abbrev pub with_attribute : Tag → List ℕ → List ℕ → Tag
with_attribute t k v = tag t.at t.name (t.attributes ++ attribute k v ∷ [])

abbrev pub open_at : ℕ → List ℕ → List Attribute → List Element → List ℕ → Open
open_at at name attributes children text =
    record { at = at; name = name; attributes = attributes; children = children; text = text }

abbrev pub open_of : Tag → Open
open_of t = open_at t.at t.name t.attributes [] []

abbrev pub with_text : Open → List ℕ → Open
with_text o w = open_at o.at o.name o.attributes o.children (o.text ++ w)

abbrev pub with_child : Open → Element → Open
with_child o k = open_at o.at o.name o.attributes (o.children ++ k ∷ []) o.text

abbrev pub element_of : Open → Element
element_of o = element_at o.at o.name o.attributes o.children (shown o.text)

abbrev pub empty_element : Tag → Element
empty_element t = element_at t.at t.name t.attributes [] []

abbrev pub stay : Place → List Open → Option Element → Choice
stay p os r = now p Whole os r

abbrev pub refused : List Open → Option Element → ℕ → Choice
refused os r at = now (Refused at) Whole os r

-- a start tag has ended, an element has ended
abbrev pub opened : Tag → List Open → Option Element → Choice
opened t os r = stay Between (open_of t ∷ os) r

abbrev pub closed : Element → List Open → Option Element → Choice
closed k [] r = stay Between [] (Some k)
closed k (o ∷ os) r = stay Between (with_child o k ∷ os) r

-- where a character past ASCII may stand, and what follows a whole character of these bytes, or a reference to it
abbrev pub takes : Place → List Open → Option Element → Bool
takes Between [] r = false
takes Between (o ∷ os) r = true
takes (Less at) os None = true
takes (Less at) os (Some root) = false
takes (TagName at n) os r = true
takes (Blank t) os r = true
takes (Key t k) os r = true
takes (Value t k q v) os r = true
takes (Comment d) os r = true
takes Question os r = true
takes Target os r = true
takes (Instruction ends) os r = true
takes p os r = false

abbrev pub taken : Place → List Open → Option Element → List ℕ → Choice
taken Between (o ∷ os) r w = stay Between (with_text o w ∷ os) r
taken (Less at) os r w = stay (TagName at w) os r
taken (TagName at n) os r w = stay (TagName at (n ++ w)) os r
taken (Blank t) os r w = stay (Key t w) os r
taken (Key t k) os r w = stay (Key t (k ++ w)) os r
taken (Value t k q v) os r w = stay (Value t k q (v ++ w)) os r
taken (Comment d) os r w = stay (Comment Neither) os r
taken Question os r w = stay Target os r
taken Target os r w = stay Target os r
taken (Instruction ends) os r w = stay (Instruction false) os r
taken p os r w = stay p os r

-- the steps of the places at a byte that begins no character past ASCII
abbrev pub begin_name : ℕ → List Open → Option Element → ℕ → ℕ → Choice
begin_name from os None at c = taken (Less from) os None (c ∷ [])
begin_name from os (Some root) at c = refused os (Some root) at

abbrev pub begin_end : List Open → Option Element → ℕ → Choice
begin_end [] r at = refused [] r at
begin_end (o ∷ os) r at = stay (Close 0) (o ∷ os) r

abbrev pub after_tag : Tag → List Open → Option Element → ℕ → ℕ → Choice
after_tag t os r at c =
    test (is_white c) (stay (Blank t) os r)
    (test (nat_eq c 62) (opened t os r)
    (test (nat_eq c 47) (stay (Slash t) os r) (refused os r at)))

abbrev pub after_key : Tag → List ℕ → List Open → Option Element → ℕ → ℕ → Choice
after_key t k os r at c =
    test (is_white c) (stay (AfterKey t k) os r)
    (test (nat_eq c 61) (stay (Equals t k) os r) (refused os r at))

abbrev pub after_end : Open → List Open → Option Element → ℕ → ℕ → Choice
after_end o os r at c =
    test (is_white c) (stay CloseWhite (o ∷ os) r)
    (test (nat_eq c 62) (closed (element_of o) os r) (refused (o ∷ os) r at))

abbrev pub more_dashes : Dashes → Dashes
more_dashes Neither = One
more_dashes One = Two
more_dashes Two = Two

abbrev pub comment_greater : Dashes → Place
comment_greater Neither = Comment Neither
comment_greater One = Comment Neither
comment_greater Two = Between

abbrev pub instruction_greater : Bool → Place
instruction_greater false = Instruction false
instruction_greater true = Between

abbrev pub step_at : Place → List Open → Option Element → ℕ → ℕ → Choice
step_at Between [] r at c =
    test (is_white c) (stay Between [] r)
    (test (nat_eq c 60) (stay (Less at) [] r) (refused [] r at))
step_at Between (o ∷ os) r at c =
    test (is_text c) (taken Between (o ∷ os) r (c ∷ []))
    (test (nat_eq c 60) (stay (Less at) (o ∷ os) r)
    (test (nat_eq c 38) (now Between Reference (o ∷ os) r) (refused (o ∷ os) r at)))
step_at MarkOne os r at c = test (nat_eq c 187) (stay MarkTwo os r) (refused os r at)
step_at MarkTwo os r at c = test (nat_eq c 191) (stay Between os r) (refused os r at)
step_at (Less from) os r at c =
    test (is_name_start c) (begin_name from os r at c)
    (test (nat_eq c 33) (stay Bang os r)
    (test (nat_eq c 63) (stay Question os r)
    (test (nat_eq c 47) (begin_end os r at) (refused os r at))))
step_at (TagName from n) os r at c =
    test (is_name_byte c) (taken (TagName from n) os r (c ∷ [])) (after_tag (tag from n []) os r at c)
step_at (Blank t) os r at c =
    test (is_name_start c) (taken (Blank t) os r (c ∷ [])) (after_tag t os r at c)
step_at (Key t k) os r at c =
    test (is_name_byte c) (taken (Key t k) os r (c ∷ []))
    (test (is_fresh k t.attributes) (after_key t k os r at c) (refused os r at))
step_at (AfterKey t k) os r at c = after_key t k os r at c
step_at (Equals t k) os r at c =
    test (is_white c) (stay (Equals t k) os r)
    (test (nat_eq c 34) (stay (Value t k Double []) os r)
    (test (nat_eq c 39) (stay (Value t k Single []) os r) (refused os r at)))
step_at (Value t k q v) os r at c =
    test (is_value q c) (taken (Value t k q v) os r (c ∷ []))
    (test (nat_eq c (quote_byte q)) (stay (Attributed (with_attribute t k v)) os r)
    (test (nat_eq c 38) (now (Value t k q v) Reference os r) (refused os r at)))
step_at (Attributed t) os r at c = after_tag t os r at c
step_at (Slash t) os r at c = test (nat_eq c 62) (closed (empty_element t) os r) (refused os r at)
step_at (Close k) [] r at c = refused [] r at
step_at (Close k) (o ∷ os) r at c =
    test (nat_lt k (length o.name))
    (test (nat_eq c (get_or o.name k 0)) (stay (Close (suc k)) (o ∷ os) r) (refused (o ∷ os) r at))
    (after_end o os r at c)
step_at CloseWhite [] r at c = refused [] r at
step_at CloseWhite (o ∷ os) r at c = after_end o os r at c
step_at Bang os r at c = test (nat_eq c 45) (stay BangDash os r) (refused os r at)
step_at BangDash os r at c = test (nat_eq c 45) (stay (Comment Neither) os r) (refused os r at)
step_at (Comment d) os r at c =
    test (is_comment_byte c) (taken (Comment d) os r (c ∷ []))
    (test (nat_eq c 45) (stay (Comment (more_dashes d)) os r)
    (test (nat_eq c 62) (stay (comment_greater d) os r) (refused os r at)))
step_at Question os r at c = test (is_name_start c) (taken Question os r (c ∷ [])) (refused os r at)
step_at Target os r at c =
    test (is_name_byte c) (taken Target os r (c ∷ []))
    (test (is_white c) (stay (Instruction false) os r)
    (test (nat_eq c 63) (stay TargetEnd os r) (refused os r at)))
step_at TargetEnd os r at c = test (nat_eq c 62) (stay Between os r) (refused os r at)
step_at (Instruction ends) os r at c =
    test (is_instruction_byte c) (taken (Instruction ends) os r (c ∷ []))
    (test (nat_eq c 63) (stay (Instruction true) os r)
    (test (nat_eq c 62) (stay (instruction_greater ends) os r) (refused os r at)))
step_at (Refused first) os r at c = stay (Refused first) os r

-- the steps at a byte that may begin a character past ASCII: a byte order mark stands at the very beginning, an end tag's name is
-- compared byte by byte
abbrev pub lead_at : Place → List Open → Option Element → ℕ → ℕ → Choice
lead_at Between [] None at c =
    test (nat_eq at 0) (test (nat_eq c 239) (stay MarkOne [] None) (refused [] None at)) (refused [] None at)
lead_at (Close k) os r at c = step_at (Close k) os r at c
lead_at (Refused first) os r at c = stay (Refused first) os r
lead_at p os r at c = test (takes p os r) (now p (Lead c) os r) (refused os r at)

-- the steps within a character past ASCII or a reference
abbrev pub named : Place → Entity → ℕ → List Open → Option Element → ℕ → ℕ → Choice
named p e k os r at c =
    test (nat_eq c (get_or (entity_text e) k 0))
    (test (nat_lt (suc k) (length (entity_text e))) (now p (Named e (suc k)) os r) (taken p os r (entity_byte e ∷ [])))
    (refused os r at)

abbrev pub step : Place → Part → List Open → Option Element → ℕ → ℕ → Choice
step p Whole os r at c = test (is_lead c) (lead_at p os r at c) (step_at p os r at c)
step p (Lead a) os r at c =
    test (is_lead_of_two a) (test (is_tail c) (taken p os r (a ∷ c ∷ [])) (refused os r at))
    (test (is_front_of_three a c) (now p (Three a c) os r)
    (test (is_front_of_four a c) (now p (Four a c) os r) (refused os r at)))
step p (Three a b) os r at c = test (is_tail c) (taken p os r (a ∷ b ∷ c ∷ [])) (refused os r at)
step p (Four a b) os r at c = test (is_tail c) (now p (Last a b c) os r) (refused os r at)
step p (Last a b c) os r at d = test (is_tail d) (taken p os r (a ∷ b ∷ c ∷ d ∷ [])) (refused os r at)
step p Reference os r at c =
    test (nat_eq c 35) (now p Hash os r)
    (test (nat_eq c 97) (now p ReferenceA os r)
    (test (nat_eq c 108) (now p (Named entity.Less 1) os r)
    (test (nat_eq c 103) (now p (Named entity.Greater 1) os r)
    (test (nat_eq c 113) (now p (Named entity.Quotation 1) os r) (refused os r at)))))
step p ReferenceA os r at c =
    test (nat_eq c 109) (now p (Named entity.Ampersand 2) os r)
    (test (nat_eq c 112) (now p (Named entity.Apostrophe 2) os r) (refused os r at))
step p (Named e k) os r at c = named p e k os r at c
step p Hash os r at c =
    test (is_digit Decimal c) (now p (Digits Decimal (digit_value c)) os r)
    (test (nat_eq c 120) (now p HashX os r) (refused os r at))
step p HashX os r at c = test (is_digit Hexadecimal c) (now p (Digits Hexadecimal (digit_value c)) os r) (refused os r at)
step p (Digits x n) os r at c =
    test (is_digit x c)
    (test (nat_le (base x * n + digit_value c) 1114111) (now p (Digits x (base x * n + digit_value c)) os r) (refused os r at))
    (test (nat_eq c 59) (test (is_character_number n) (taken p os r (utf8 n)) (refused os r at)) (refused os r at))

abbrev pub next : State → ℕ → ℕ → State
next (state p part os r) at c = chosen (step p part os r at c)

-- the state after bytes, the first of which stands at an offset
abbrev pub run : State → ℕ → List ℕ → State
run st at [] = st
run st at (c ∷ s) = run (next st at c) (suc at) s

abbrev pub start : State
start = state Between Whole [] None
