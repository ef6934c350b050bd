-- What was read, said in the rows of the grammar, at each state.
use Rattle.std.proofs.Common.{◌≡◌, ℕ, ◌<◌, ◌≤◌, Bool, true, false, List, [], ◌∷◌, ◌++◌, length, take, Option, None, refl}
use Rattle.doc_model.specs.declared.tree.Element.{Element}
use Rattle.doc_tree.specs.declared.places.Tag.{Tag}
use Rattle.doc_tree.specs.declared.places.Open.{Open}
use Rattle.doc_tree.specs.declared.places.Place.{Place}
use Rattle.doc_tree.specs.declared.places.Place.TheVariants.{Between, MarkOne, MarkTwo, Less, TagName, Blank, Key, AfterKey, Equals, Value, Attributed, Slash, Close, CloseWhite, Bang, BangDash, Comment, Question, Target, TargetEnd, Instruction, Refused}
use Rattle.doc_tree.specs.declared.places.Part.{Part}
use Rattle.doc_tree.specs.declared.places.Part.TheVariants.{Whole, Lead, Three, Four, Last, Reference, ReferenceA, Named, Hash, HashX, Digits}
use Rattle.doc_tree.specs.Characters.{is_white, quote_byte, is_lead, is_front_of_three, is_front_of_four, is_tail, entity_text, number_mark, IsNumeral}
use Rattle.doc_tree.specs.Documents.{is_fresh, IsWhite, IsBlank, IsName, IsValue, AreAttributes, IsCommentText, IsInstructionText}
use Rattle.doc_tree.specs.Machine.{State, state, Choice, now, test, chosen, takes}
use Rattle.doc_tree.proofs.Stems.{Stem}

-- a stem and then these bytes
pub record Behind (y : List ℕ) (os : List Open) (r : Option Element) (b : List ℕ) : Type 0 where
  pub stem : List ℕ
  pub whole : Stem stem os r
  pub is : b ≡ stem ++ y

-- a stem and then `<`
pub record BehindLess (at : ℕ) (os : List Open) (r : Option Element) (b : List ℕ) : Type 0 where
  pub stem : List ℕ
  pub whole : Stem stem os r
  pub place : at ≡ length stem
  pub is : b ≡ stem ++ 60 ∷ []

-- a stem, `<` and a name
pub record BehindName (at : ℕ) (n : List ℕ) (os : List Open) (r : Option Element) (b : List ℕ) : Type 0 where
  pub stem : List ℕ
  pub whole : Stem stem os None
  pub begun : r ≡ None
  pub name : IsName n
  pub place : at ≡ length stem
  pub is : b ≡ stem ++ 60 ∷ n

-- a stem, the start tag so far and then these bytes
pub record BehindTag (t : Tag) (y : List ℕ) (os : List Open) (r : Option Element) (b : List ℕ) : Type 0 where
  pub stem : List ℕ
  pub attributes : List ℕ
  pub whole : Stem stem os None
  pub begun : r ≡ None
  pub name : IsName t.name
  pub spelled : AreAttributes attributes t.attributes
  pub place : t.at ≡ length stem
  pub is : b ≡ stem ++ (60 ∷ t.name ++ attributes ++ y)

-- what was read, where no part of a character or a reference was
abbrev pub Past : Place → List Open → Option Element → List ℕ → Type 0
Past Between os r b = Stem b os r
Past MarkOne os r b = (os ≡ []) × (r ≡ None) × (b ≡ 239 ∷ [])
Past MarkTwo os r b = (os ≡ []) × (r ≡ None) × (b ≡ 239 ∷ 187 ∷ [])
Past (Less at) os r b = BehindLess at os r b
Past (TagName at n) os r b = BehindName at n os r b
Past (Blank t) os r b = (w : List ℕ) × IsBlank w × BehindTag t w os r b
Past (Key t k) os r b = (w : List ℕ) × IsBlank w × IsName k × BehindTag t (w ++ k) os r b
Past (AfterKey t k) os r b = (w u : List ℕ) × IsBlank w × IsName k × (is_fresh k t.attributes ≡ true) × IsWhite u × BehindTag t (w ++ k ++ u) os r b
Past (Equals t k) os r b = (w u x : List ℕ) × IsBlank w × IsName k × (is_fresh k t.attributes ≡ true) × IsWhite u × IsWhite x × BehindTag t (w ++ k ++ u ++ 61 ∷ x) os r b
Past (Value t k q v) os r b = (w u x s : List ℕ) × IsBlank w × IsName k × (is_fresh k t.attributes ≡ true) × IsWhite u × IsWhite x × IsValue q s v
    × BehindTag t (w ++ k ++ u ++ 61 ∷ x ++ quote_byte q ∷ s) os r b
Past (Attributed t) os r b = BehindTag t [] os r b
Past (Slash t) os r b = (w : List ℕ) × IsWhite w × BehindTag t (w ++ 47 ∷ []) os r b
Past (Close k) [] r b = ⊥
Past (Close k) (o ∷ os) r b = (k ≤ length o.name) × Behind (60 ∷ 47 ∷ take k o.name) (o ∷ os) r b
Past CloseWhite [] r b = ⊥
Past CloseWhite (o ∷ os) r b = (u : List ℕ) × IsWhite u × Behind (60 ∷ 47 ∷ o.name ++ u) (o ∷ os) r b
Past Bang os r b = Behind (60 ∷ 33 ∷ []) os r b
Past BangDash os r b = Behind (60 ∷ 33 ∷ 45 ∷ []) os r b
Past (Comment d) os r b = (t : List ℕ) × IsCommentText d t × Behind (60 ∷ 33 ∷ 45 ∷ 45 ∷ t) os r b
Past Question os r b = Behind (60 ∷ 63 ∷ []) os r b
Past Target os r b = (n : List ℕ) × IsName n × Behind (60 ∷ 63 ∷ n) os r b
Past TargetEnd os r b = (n : List ℕ) × IsName n × Behind (60 ∷ 63 ∷ n ++ 63 ∷ []) os r b
Past (Instruction ends) os r b = (n t : List ℕ) × (c : ℕ) × IsName n × (is_white c ≡ true) × IsInstructionText ends t × Behind (60 ∷ 63 ∷ n ++ c ∷ t) os r b
Past (Refused at) os r b = Unit {0}

-- where a reference may stand
abbrev pub takes_reference : Place → List Open → Bool
takes_reference Between (o ∷ os) = true
takes_reference (Value t k q v) os = true
takes_reference p os = false

-- at a place where a character past ASCII may stand, then these bytes; and likewise for a reference
pub record InWide (p : Place) (os : List Open) (r : Option Element) (s b : List ℕ) : Type 0 where
  pub front : List ℕ
  pub past : Past p os r front
  pub fits : takes p os r ≡ true
  pub is : b ≡ front ++ s

pub record InReference (p : Place) (os : List Open) (r : Option Element) (s b : List ℕ) : Type 0 where
  pub front : List ℕ
  pub past : Past p os r front
  pub fits : takes_reference p os ≡ true
  pub is : b ≡ front ++ s

abbrev pub PastPart : Place → Part → List Open → Option Element → List ℕ → Type 0
PastPart p Whole os r b = Past p os r b
PastPart p (Lead a) os r b = (is_lead a ≡ true) × InWide p os r (a ∷ []) b
PastPart p (Three a c) os r b = (is_front_of_three a c ≡ true) × InWide p os r (a ∷ c ∷ []) b
PastPart p (Four a c) os r b = (is_front_of_four a c ≡ true) × InWide p os r (a ∷ c ∷ []) b
PastPart p (Last a c d) os r b = (is_front_of_four a c ≡ true) × (is_tail d ≡ true) × InWide p os r (a ∷ c ∷ d ∷ []) b
PastPart p Reference os r b = InReference p os r (38 ∷ []) b
PastPart p ReferenceA os r b = InReference p os r (38 ∷ 97 ∷ []) b
PastPart p (Named e k) os r b = (k < length (entity_text e)) × InReference p os r (38 ∷ take k (entity_text e)) b
PastPart p Hash os r b = InReference p os r (38 ∷ 35 ∷ []) b
PastPart p HashX os r b = InReference p os r (38 ∷ 35 ∷ 120 ∷ []) b
PastPart p (Digits x n) os r b = (d : List ℕ) × IsNumeral x d n × (n ≤ 1114111) × InReference p os r (number_mark x ++ d) b

abbrev pub PastState : State → List ℕ → Type 0
PastState (state p part os r) b = PastPart p part os r b

-- each state that a choice can lead to has read these bytes
abbrev pub Reads : Choice → List ℕ → Type 0
Reads (now p part os r) b = PastPart p part os r b
Reads (test t x y) b = (t ≡ true → Reads x b) × (t ≡ false → Reads y b)

pub chosen_reads : (x : Choice) (b : List ℕ) → Reads x b → PastState (chosen x) b
chosen_reads (now p part os r) b h = h
chosen_reads (test true x y) b h = chosen_reads x b (h.0 refl)
chosen_reads (test false x y) b h = chosen_reads y b (h.1 refl)
