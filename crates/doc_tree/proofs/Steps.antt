-- What was read, from one byte to the next.
use Rattle.std.proofs.Common.{◌≡◌, ℕ, Bool, true, List, [], ◌∷◌, ◌++◌, Option, Some, None, refl, ap, ◌∙◌, append_assoc}
use Rattle.doc_model.specs.declared.tree.Element.{Element}
use Rattle.doc_tree.specs.declared.places.Dashes.{Dashes}
use Rattle.doc_tree.specs.declared.places.Dashes.TheVariants.{Neither, One, Two}
use Rattle.doc_tree.specs.declared.places.Open.{Open}
use Rattle.doc_tree.specs.declared.places.Place.{Place}
use Rattle.doc_tree.specs.declared.places.Place.TheVariants.{Between, MarkOne, MarkTwo, Less, TagName, Blank, Key, AfterKey, Equals, Value, Attributed, Slash, Close, CloseWhite, Bang, BangDash, Comment, Question, Target, TargetEnd, Instruction, Refused}
use Rattle.doc_tree.specs.Characters.{is_white, is_text, quote_byte, is_value, is_name_start, is_name_byte, is_comment_byte, is_instruction_byte, IsCharacter, IsReference}
use Rattle.doc_tree.specs.Documents
use Rattle.doc_tree.specs.Documents.{is_fresh, IsWhite, IsBlank, IsName, IsValue, AreAttributes, IsCommentText, IsInstructionText, IsAside, IsElement, IsContent}
use Rattle.doc_tree.specs.Machine.{takes, taken}
use Rattle.doc_tree.proofs.Stems.{stem_text, stem_reference}
use Rattle.doc_tree.proofs.Past.{Past, Reads, takes_reference}
use Rattle.doc_tree.proofs.Tags.{lengthen_to, lengthen_tag}

-- the characters of ASCII that a place takes
abbrev pub taking : Place → ℕ → Bool
taking Between = is_text
taking (Less at) = is_name_start
taking (TagName at n) = is_name_byte
taking (Blank t) = is_name_start
taking (Key t k) = is_name_byte
taking (Value t k q v) = is_value q
taking (Comment d) = is_comment_byte
taking Question = is_name_start
taking Target = is_name_byte
taking (Instruction ends) = is_instruction_byte
taking p = is_white

-- a whole character
pub took : (p : Place) (os : List Open) (r : Option Element) (b : List ℕ) {w : List ℕ} → Past p os r b → takes p os r ≡ true → IsCharacter (taking p) w → Reads (taken p os r w) (b ++ w)
took Between [] r b past fits h = absurd cc
took Between (o ∷ os) r b past fits h = stem_text past h
took (Less at) os None b {w} past fits h = record {
  stem = past.stem;
  whole = past.whole;
  begun = refl;
  name = Documents.IsName.one h;
  place = past.place;
  is = ap (λ x. x ++ w) past.is ∙ append_assoc past.stem (60 ∷ []) w;
}
took (Less at) os (Some root) b past fits h = absurd cc
took (TagName at n) os r b {w} past fits h = record {
  stem = past.stem;
  whole = past.whole;
  begun = past.begun;
  name = Documents.IsName.more past.name h;
  place = past.place;
  is = ap (λ x. x ++ w) past.is ∙ append_assoc past.stem (60 ∷ n) w;
}
took (Blank t) os r b {w} (x, blank, past) fits h = (x, blank, Documents.IsName.one h, lengthen_tag past w (x ++ w) refl)
took (Key t k) os r b {w} (x, blank, name, past) fits h = (x, blank, Documents.IsName.more name h, lengthen_tag past w (x ++ (k ++ w)) (append_assoc x k w))
took (Value t k q v) os r b {w} (x, u, y, s, blank, name, fresh, before, behind, value, past) fits h = (
  x,
  u,
  y,
  s ++ w,
  blank,
  name,
  fresh,
  before,
  behind,
  Documents.IsValue.character value h,
  lengthen_tag past w (x ++ k ++ u ++ 61 ∷ y ++ quote_byte q ∷ (s ++ w)) (append_assoc (x ++ k ++ u ++ 61 ∷ y) (quote_byte q ∷ s) w),
)
took (Comment d) os r b {w} (t, text, past) fits h = (t ++ w, Documents.IsCommentText.other d text h, lengthen_to past w (60 ∷ 33 ∷ 45 ∷ 45 ∷ (t ++ w)) refl)
took Question os r b {w} past fits h = (w, Documents.IsName.one h, lengthen_to past w (60 ∷ 63 ∷ w) refl)
took Target os r b {w} (n, name, past) fits h = (n ++ w, Documents.IsName.more name h, lengthen_to past w (60 ∷ 63 ∷ (n ++ w)) refl)
took (Instruction ends) os r b {w} (n, t, c, name, white, text, past) fits h =
    (n, t ++ w, c, name, white, Documents.IsInstructionText.other ends text h, lengthen_to past w (60 ∷ 63 ∷ n ++ c ∷ (t ++ w)) (append_assoc (60 ∷ 63 ∷ n) (c ∷ t) w))
took MarkOne os r b past fits h = absurd cc
took MarkTwo os r b past fits h = absurd cc
took (AfterKey t k) os r b past fits h = absurd cc
took (Equals t k) os r b past fits h = absurd cc
took (Attributed t) os r b past fits h = absurd cc
took (Slash t) os r b past fits h = absurd cc
took (Close k) os r b past fits h = absurd cc
took CloseWhite os r b past fits h = absurd cc
took Bang os r b past fits h = absurd cc
took BangDash os r b past fits h = absurd cc
took TargetEnd os r b past fits h = absurd cc
took (Refused at) os r b past fits h = absurd cc

-- a whole reference
pub took_reference : (p : Place) (os : List Open) (r : Option Element) (b : List ℕ) {s w : List ℕ} → Past p os r b → takes_reference p os ≡ true → IsReference s w → Reads (taken p os r w) (b ++ s)
took_reference Between [] r b past fits h = absurd cc
took_reference Between (o ∷ os) r b past fits h = stem_reference past h
took_reference (Value t k q v) os r b {s} (x, u, y, v0, blank, name, fresh, before, behind, value, past) fits h = (
  x,
  u,
  y,
  v0 ++ s,
  blank,
  name,
  fresh,
  before,
  behind,
  Documents.IsValue.reference value h,
  lengthen_tag past s (x ++ k ++ u ++ 61 ∷ y ++ quote_byte q ∷ (v0 ++ s)) (append_assoc (x ++ k ++ u ++ 61 ∷ y) (quote_byte q ∷ v0) s),
)
took_reference (Less at) os r b past fits h = absurd cc
took_reference (TagName at n) os r b past fits h = absurd cc
took_reference (Blank t) os r b past fits h = absurd cc
took_reference (Key t k) os r b past fits h = absurd cc
took_reference (Comment d) os r b past fits h = absurd cc
took_reference Question os r b past fits h = absurd cc
took_reference Target os r b past fits h = absurd cc
took_reference (Instruction ends) os r b past fits h = absurd cc
took_reference MarkOne os r b past fits h = absurd cc
took_reference MarkTwo os r b past fits h = absurd cc
took_reference (AfterKey t k) os r b past fits h = absurd cc
took_reference (Equals t k) os r b past fits h = absurd cc
took_reference (Attributed t) os r b past fits h = absurd cc
took_reference (Slash t) os r b past fits h = absurd cc
took_reference (Close k) os r b past fits h = absurd cc
took_reference CloseWhite os r b past fits h = absurd cc
took_reference Bang os r b past fits h = absurd cc
took_reference BangDash os r b past fits h = absurd cc
took_reference TargetEnd os r b past fits h = absurd cc
took_reference (Refused at) os r b past fits h = absurd cc

-- the last two dashes of a comment, and the last `?` of an instruction
pub two_dashes : {b : List ℕ} → IsCommentText Two b → (d : Dashes) × (t : List ℕ) × IsCommentText d t × (b ≡ t ++ 45 ∷ 45 ∷ [])
two_dashes (Documents.IsCommentText.two_dashes (Documents.IsCommentText.one_dash {b = t} h)) = (Neither, t, h, append_assoc t (45 ∷ []) (45 ∷ []))
two_dashes (Documents.IsCommentText.more_dashes (Documents.IsCommentText.two_dashes {b = t} h)) = (One, t, h, append_assoc t (45 ∷ []) (45 ∷ []))
two_dashes (Documents.IsCommentText.more_dashes (Documents.IsCommentText.more_dashes {b = t} h)) = (Two, t, h, append_assoc t (45 ∷ []) (45 ∷ []))

pub last_question : {b : List ℕ} → IsInstructionText true b → (ends : Bool) × (t : List ℕ) × IsInstructionText ends t × (b ≡ t ++ 63 ∷ [])
last_question (Documents.IsInstructionText.question ends {b = t} h) = (ends, t, h, refl)
