-- What was read is said by the state, byte by byte.
use Rattle.std.proofs.Common.{◌≡◌, ℕ, suc, ◌<◌, Bool, true, false, List, [], ◌∷◌, ◌++◌, length, take, get_or, Option, Some, None, refl, sym, ap, ◌∙◌, subst, append_assoc, append-nil, arith, nat_eq, add-one}
use Rattle.std.proofs.lemmas.Bool.{eqb-true}
use Rattle.std.proofs.lemmas.Bool.Decides.{nat_tests}
use Rattle.std.proofs.lemmas.List.{take_more}
use Rattle.doc_model.specs.declared.tree.Element.{Element}
use Rattle.doc_tree.specs.declared.places.Dashes.{Dashes}
use Rattle.doc_tree.specs.declared.places.Dashes.TheVariants.{Neither, One, Two}
use Rattle.doc_tree.specs.declared.places.Tag.{Tag}
use Rattle.doc_tree.specs.declared.places.Open.{Open}
use Rattle.doc_tree.specs.declared.places.Place.{Place}
use Rattle.doc_tree.specs.declared.places.Place.TheVariants.{Between, MarkOne, MarkTwo, Less, TagName, Blank, Key, AfterKey, Equals, Value, Attributed, Slash, Close, CloseWhite, Bang, BangDash, Comment, Question, Target, TargetEnd, Instruction, Refused}
use Rattle.doc_tree.specs.Characters
use Rattle.doc_tree.specs.Characters.{is_white, is_text, quote_byte, is_value, is_name_start, is_name_byte, is_comment_byte, is_instruction_byte, is_lead, is_lead_of_two, is_front_of_three, is_front_of_four, is_tail, is_digit, digit_value, base, entity_text, entity_byte, number_mark, utf8, is_character_number, IsCharacter, IsReference, IsNumeral}
use Rattle.doc_tree.specs.Documents
use Rattle.doc_tree.specs.Documents.{is_fresh, IsWhite, IsBlank, IsName, IsValue, AreAttributes, IsCommentText, IsInstructionText, IsAside, IsElement, IsContent}
use Rattle.doc_tree.specs.Machine
use Rattle.doc_tree.specs.Machine.{State, state, Choice, now, test, chosen, stay, refused, takes, taken, tag, step_at, lead_at, step, next, run, after_tag, after_end, begin_name, begin_end, comment_greater, instruction_greater}
use Rattle.doc_tree.proofs.Stems
use Rattle.doc_tree.proofs.Stems.{Stem, stem_text, stem_reference, stem_aside, stem_white}
use Rattle.doc_tree.proofs.Past.{Behind, BehindLess, BehindName, BehindTag, Past, Reads, InWide, InReference, takes_reference}
use Rattle.doc_tree.proofs.Tags.{blank_white, lengthen, lengthen_to, lengthen_tag, end_attribute, tag_closed, tag_next, end_next}
use Rattle.doc_tree.specs.Machine.{after_key, more_dashes, closed, element_of, empty_element}
use Rattle.doc_tree.proofs.Steps.{took, took_reference, two_dashes, last_question}
use Rattle.std.proofs.Math.Seq.{take-length}

pub follow : {y b : List ℕ} {os : List Open} {r : Option Element} → Behind y os r b → (c k : ℕ) → nat_eq c k ≡ true → Behind (y ++ k ∷ []) os r (b ++ c ∷ [])
follow {y} {b} {os} {r} h c k is = subst (λ d. Behind (y ++ k ∷ []) os r (b ++ d ∷ [])) (sym (eqb-true c k is)) (lengthen h (k ∷ []))

follow_tag : {y b : List ℕ} {t : Tag} {os : List Open} {r : Option Element} → BehindTag t y os r b → (c k : ℕ) → nat_eq c k ≡ true → BehindTag t (y ++ k ∷ []) os r (b ++ c ∷ [])
follow_tag {y} {b} {t} {os} {r} h c k is = subst (λ d. BehindTag t (y ++ k ∷ []) os r (b ++ d ∷ [])) (sym (eqb-true c k is)) (lengthen_tag h (k ∷ []) (y ++ k ∷ []) refl)

pub grow_wide : {p : Place} {os : List Open} {r : Option Element} {s b : List ℕ} → InWide p os r s b → (z x : List ℕ) → s ++ z ≡ x → InWide p os r x (b ++ z)
grow_wide {s = s} h z x e = record { front = h.front; past = h.past; fits = h.fits; is = ap (λ y. y ++ z) h.is ∙ append_assoc h.front s z ∙ ap (λ end. h.front ++ end) e }

pub grow_reference : {p : Place} {os : List Open} {r : Option Element} {s b : List ℕ} → InReference p os r s b → (z x : List ℕ) → s ++ z ≡ x → InReference p os r x (b ++ z)
grow_reference {s = s} h z x e = record { front = h.front; past = h.past; fits = h.fits; is = ap (λ y. y ++ z) h.is ∙ append_assoc h.front s z ∙ ap (λ end. h.front ++ end) e }

pub follow_reference : {p : Place} {os : List Open} {r : Option Element} {s b : List ℕ} → InReference p os r s b → (c k : ℕ) → nat_eq c k ≡ true → InReference p os r (s ++ k ∷ []) (b ++ c ∷ [])
follow_reference {p} {os} {r} {s} {b} h c k is = subst (λ d. InReference p os r (s ++ k ∷ []) (b ++ d ∷ [])) (sym (eqb-true c k is)) (grow_reference h (k ∷ []) (s ++ k ∷ []) refl)

pub whole_wide : {p : Place} {os : List Open} {r : Option Element} {w b : List ℕ} → InWide p os r w b → Characters.IsWide w → Reads (taken p os r w) b
whole_wide {p} {os} {r} {w} h wide = subst (λ bytes. Reads (taken p os r w) bytes) (sym h.is) (took p os r h.front h.past h.fits (Characters.IsCharacter.wide wide))

pub whole_reference : {p : Place} {os : List Open} {r : Option Element} {s w b : List ℕ} → InReference p os r s b → IsReference s w → Reads (taken p os r w) b
whole_reference {p} {os} {r} {s} {w} h is = subst (λ bytes. Reads (taken p os r w) bytes) (sym h.is) (took_reference p os r h.front h.past h.fits is)

less : {at : ℕ} {b : List ℕ} {os : List Open} {r : Option Element} → BehindLess at os r b → Behind (60 ∷ []) os r b
less h = record { stem = h.stem; whole = h.whole; is = h.is }

less_read : (os : List Open) (r : Option Element) (b : List ℕ) (c : ℕ) → Stem b os r → nat_eq c 60 ≡ true → BehindLess (length b) os r (b ++ c ∷ [])
less_read os r b c whole is = record { stem = b; whole = whole; place = refl; is = ap (λ (d : ℕ). b ++ d ∷ []) (eqb-true c 60 is) }

reference_read : (p : Place) (os : List Open) (r : Option Element) (b : List ℕ) (c : ℕ) → Past p os r b → takes_reference p os ≡ true → nat_eq c 38 ≡ true → InReference p os r (38 ∷ []) (b ++ c ∷ [])
reference_read p os r b c past fits is = record { front = b; past = past; fits = fits; is = ap (λ (d : ℕ). b ++ d ∷ []) (eqb-true c 38 is) }

marked_stem : (os : List Open) (r : Option Element) (b : List ℕ) → os ≡ [] → r ≡ None → b ≡ 239 ∷ 187 ∷ 191 ∷ [] → Stem b os r
marked_stem os r b e1 e2 e3 = rw (e1, e2, e3) (Stems.Stem.root (Documents.IsProlog.marked Documents.AreExtras.nothing))

aside_ended : {y k b : List ℕ} {os : List Open} {r : Option Element} → Behind y os r b → y ≡ k → IsAside k → Stem b os r
aside_ended {y} {k} {b} {os} {r} h e aside = subst (λ bytes. Stem bytes os r) (sym (h.is ∙ ap (λ end. h.stem ++ end) e)) (stem_aside h.whole aside)

named_tag : {at : ℕ} {n b : List ℕ} {os : List Open} {r : Option Element} → BehindName at n os r b → BehindTag (tag at n []) [] os r b
named_tag {n = n} h = record {
  stem = h.stem;
  attributes = [];
  whole = h.whole;
  begun = h.begun;
  name = h.name;
  spelled = Documents.AreAttributes.nothing;
  place = h.place;
  is = h.is ∙ ap (λ end. h.stem ++ end) (sym (append-nil (60 ∷ n ++ []) ∙ append-nil (60 ∷ n)));
}

key_next : {w k u b : List ℕ} {t : Tag} {os : List Open} {r : Option Element} (c : ℕ) → IsBlank w → IsName k → is_fresh k t.attributes ≡ true → IsWhite u → BehindTag t (w ++ k ++ u) os r b
    → Reads (after_key t k os r (length b) c) (b ++ c ∷ [])
key_next {w} {k} {u} c blank name fresh white h = (
  λ is. (w, u ++ c ∷ [], blank, name, fresh, Documents.IsWhite.more c white is, lengthen_tag h (c ∷ []) (w ++ k ++ (u ++ c ∷ [])) (append_assoc (w ++ k) u (c ∷ []))),
  λ _. (
    λ is. (w, u, [], blank, name, fresh, white, Documents.IsWhite.nothing, follow_tag h c 61 is),
    λ _. tt,
  ),
)

name_begun : (from : ℕ) (os : List Open) (r : Option Element) (b : List ℕ) (c : ℕ) → BehindLess from os r b → is_name_start c ≡ true → Reads (begin_name from os r (length b) c) (b ++ c ∷ [])
name_begun from os None b c past is = took (Less from) os None b past refl (Characters.IsCharacter.ascii c is)
name_begun from os (Some root) b c past is = tt

end_begun : (os : List Open) (r : Option Element) (b : List ℕ) (c : ℕ) → Behind (60 ∷ []) os r b → nat_eq c 47 ≡ true → Reads (begin_end os r (length b)) (b ++ c ∷ [])
end_begun [] r b c past is = tt
end_begun (o ∷ os) r b c past is = (omega arith, follow past c 47 is)

comment_dash : (d : Dashes) {t : List ℕ} → IsCommentText d t → IsCommentText (more_dashes d) (t ++ 45 ∷ [])
comment_dash Neither h = Documents.IsCommentText.one_dash h
comment_dash One h = Documents.IsCommentText.two_dashes h
comment_dash Two h = Documents.IsCommentText.more_dashes h

comment_end : (d : Dashes) (t : List ℕ) (os : List Open) (r : Option Element) (b : List ℕ) (c : ℕ) → IsCommentText d t → Behind (60 ∷ 33 ∷ 45 ∷ 45 ∷ t) os r b → nat_eq c 62 ≡ true
    → Reads (stay (comment_greater d) os r) (b ++ c ∷ [])
comment_end Neither t os r b c text h is = (t ++ 62 ∷ [], Documents.IsCommentText.greater text, follow h c 62 is)
comment_end One t os r b c text h is = (t ++ 62 ∷ [], Documents.IsCommentText.dash_greater text, follow h c 62 is)
comment_end Two t os r b c text h is =
    let (d, front, inner, e) = two_dashes text in
    aside_ended (follow h c 62 is)
    (ap (λ (y : List ℕ). 60 ∷ 33 ∷ 45 ∷ 45 ∷ (y ++ 62 ∷ [])) e ∙ ap (λ (y : List ℕ). 60 ∷ 33 ∷ 45 ∷ 45 ∷ y) (append_assoc front (45 ∷ 45 ∷ []) (62 ∷ [])))
    (Documents.IsAside.comment d inner)

instruction_end : (ends : Bool) (n t : List ℕ) (d : ℕ) (os : List Open) (r : Option Element) (b : List ℕ) (c : ℕ) → IsName n → is_white d ≡ true → IsInstructionText ends t
    → Behind (60 ∷ 63 ∷ n ++ d ∷ t) os r b → nat_eq c 62 ≡ true → Reads (stay (instruction_greater ends) os r) (b ++ c ∷ [])
instruction_end false n t d os r b c name white text h is = (
  n,
  t ++ 62 ∷ [],
  d,
  name,
  white,
  Documents.IsInstructionText.greater text,
  subst (λ y. Behind y os r (b ++ c ∷ [])) (append_assoc (60 ∷ 63 ∷ n) (d ∷ t) (62 ∷ [])) (follow h c 62 is),
)
instruction_end true n t d os r b c name white text h is =
    let (ends, front, inner, e) = last_question text in
    aside_ended (follow h c 62 is)
    (ap (λ (y : List ℕ). (60 ∷ 63 ∷ n ++ d ∷ y) ++ 62 ∷ []) e ∙ ap (λ (y : List ℕ). y ++ 62 ∷ []) (sym (append_assoc (60 ∷ 63 ∷ n) (d ∷ front) (63 ∷ []))) ∙ append_assoc (60 ∷ 63 ∷ n ++ d ∷ front) (63 ∷ []) (62 ∷ []))
    (Documents.IsAside.instruction d ends name white inner)

-- a byte that begins no character past ASCII, where no part was read
pub byte_read : (p : Place) (os : List Open) (r : Option Element) (b : List ℕ) (c : ℕ) → Past p os r b → Reads (step_at p os r (length b) c) (b ++ c ∷ [])
byte_read Between [] r b c past = (λ is. stem_white c past is, λ _. (λ is. less_read [] r b c past is, λ _. tt))
byte_read Between (o ∷ os) r b c past = (
  λ is. took Between (o ∷ os) r b past refl (Characters.IsCharacter.ascii c is),
  λ _. (λ is. less_read (o ∷ os) r b c past is, λ _. (λ is. reference_read Between (o ∷ os) r b c past refl is, λ _. tt)),
)
byte_read MarkOne os r b c (e1, e2, e3) = (λ is. (e1, e2, ap (λ x. x ++ c ∷ []) e3 ∙ ap (λ (d : ℕ). 239 ∷ d ∷ []) (eqb-true c 187 is)), λ _. tt)
byte_read MarkTwo os r b c (e1, e2, e3) =
    (λ is. marked_stem os r (b ++ c ∷ []) e1 e2 (ap (λ x. x ++ c ∷ []) e3 ∙ ap (λ (d : ℕ). 239 ∷ 187 ∷ d ∷ []) (eqb-true c 191 is)), λ _. tt)
byte_read (Less from) os r b c past = (
  λ is. name_begun from os r b c past is,
  λ _. (λ is. follow (less past) c 33 is, λ _. (λ is. follow (less past) c 63 is, λ _. (λ is. end_begun os r b c (less past) is, λ _. tt))),
)
byte_read (TagName from n) os r b c past = (
  λ is. took (TagName from n) os r b past refl (Characters.IsCharacter.ascii c is),
  λ _. tag_next (tag from n []) c (named_tag past) Documents.IsWhite.nothing,
)
byte_read (Blank t) os r b c (w, blank, past) = (
  λ is. took (Blank t) os r b (w, blank, past) refl (Characters.IsCharacter.ascii c is),
  λ _. tag_next t c past (blank_white blank),
)
byte_read (Key t k) os r b c (w, blank, name, past) = (
  λ is. took (Key t k) os r b (w, blank, name, past) refl (Characters.IsCharacter.ascii c is),
  λ _. (λ fresh. key_next c blank name fresh Documents.IsWhite.nothing (subst (λ y. BehindTag t y os r b) (sym (append-nil (w ++ k))) past), λ _. tt),
)
byte_read (AfterKey t k) os r b c (w, u, blank, name, fresh, white, past) = key_next c blank name fresh white past
byte_read (Equals t k) os r b c (w, u, x, blank, name, fresh, before, behind, past) = (
  λ is. (
    w,
    u,
    x ++ c ∷ [],
    blank,
    name,
    fresh,
    before,
    Documents.IsWhite.more c behind is,
    lengthen_tag past (c ∷ []) (w ++ k ++ u ++ 61 ∷ (x ++ c ∷ [])) (append_assoc (w ++ k ++ u) (61 ∷ x) (c ∷ [])),
  ),
  λ _. (
    λ is. (w, u, x, [], blank, name, fresh, before, behind, Documents.IsValue.nothing, follow_tag past c 34 is),
    λ _. (λ is. (w, u, x, [], blank, name, fresh, before, behind, Documents.IsValue.nothing, follow_tag past c 39 is), λ _. tt),
  ),
)
byte_read (Value t k q v) os r b c (w, u, x, s, blank, name, fresh, before, behind, value, past) = (
  λ is. took (Value t k q v) os r b (w, u, x, s, blank, name, fresh, before, behind, value, past) refl (Characters.IsCharacter.ascii c is),
  λ _. (
    λ is. subst (λ d. BehindTag (Machine.with_attribute t k v) [] os r (b ++ d ∷ [])) (sym (eqb-true c (quote_byte q) is)) (end_attribute q blank name fresh before behind value past),
    λ _. (λ is. reference_read (Value t k q v) os r b c (w, u, x, s, blank, name, fresh, before, behind, value, past) refl is, λ _. tt),
  ),
)
byte_read (Attributed t) os r b c past = tag_next t c past Documents.IsWhite.nothing
byte_read (Slash t) os r b c (w, white, past) =
    (λ is. subst (λ d. Reads (closed (empty_element t) os r) (b ++ d ∷ [])) (sym (eqb-true c 62 is)) (tag_closed t past white), λ _. tt)
byte_read (Close k) [] r b c past = tt
byte_read (Close k) (o ∷ os) r b c (within, past) = (
  λ lower. (
    λ is.
        let room : k < length o.name = grind (arith, nat_tests) in (
          room,
          lengthen_to past (c ∷ []) (60 ∷ 47 ∷ take (suc k) o.name)
              (ap (λ (d : ℕ). 60 ∷ 47 ∷ (take k o.name ++ d ∷ [])) (eqb-true c (get_or o.name k 0) is)
              ∙ ap (λ (y : List ℕ). 60 ∷ 47 ∷ y) (sym (take_more o.name k 0 room) ∙ ap (λ n. take n o.name) (add-one k))),
        ),
    λ _. tt,
  ),
  λ upper. end_next c (subst (λ y. Behind y (o ∷ os) r b)
      (ap (λ (y : List ℕ). 60 ∷ 47 ∷ y) (ap (λ n. take n o.name) (grind (arith, nat_tests)) ∙ take-length o.name ∙ sym (append-nil o.name))) past) Documents.IsWhite.nothing,
)
byte_read CloseWhite [] r b c past = tt
byte_read CloseWhite (o ∷ os) r b c (u, white, past) = end_next c past white
byte_read Bang os r b c past = (λ is. follow past c 45 is, λ _. tt)
byte_read BangDash os r b c past = (λ is. ([], Documents.IsCommentText.nothing, follow past c 45 is), λ _. tt)
byte_read (Comment d) os r b c (t, text, past) = (
  λ is. took (Comment d) os r b (t, text, past) refl (Characters.IsCharacter.ascii c is),
  λ _. (λ is. (t ++ 45 ∷ [], comment_dash d text, follow past c 45 is), λ _. (λ is. comment_end d t os r b c text past is, λ _. tt)),
)
byte_read Question os r b c past = (λ is. took Question os r b past refl (Characters.IsCharacter.ascii c is), λ _. tt)
byte_read Target os r b c (n, name, past) = (
  λ is. took Target os r b (n, name, past) refl (Characters.IsCharacter.ascii c is),
  λ _. (λ is. (n, [], c, name, is, Documents.IsInstructionText.nothing, lengthen past (c ∷ [])), λ _. (λ is. (n, name, follow past c 63 is), λ _. tt)),
)
byte_read TargetEnd os r b c (n, name, past) =
    (λ is. aside_ended (follow past c 62 is) (append_assoc (60 ∷ 63 ∷ n) (63 ∷ []) (62 ∷ [])) (Documents.IsAside.bare name), λ _. tt)
byte_read (Instruction ends) os r b c (n, t, d, name, white, text, past) = (
  λ is. took (Instruction ends) os r b (n, t, d, name, white, text, past) refl (Characters.IsCharacter.ascii c is),
  λ _. (
    λ is. (
      n,
      t ++ 63 ∷ [],
      d,
      name,
      white,
      Documents.IsInstructionText.question ends text,
      subst (λ y. Behind y os r (b ++ c ∷ [])) (append_assoc (60 ∷ 63 ∷ n) (d ∷ t) (63 ∷ [])) (follow past c 63 is),
    ),
    λ _. (λ is. instruction_end ends n t d os r b c name white text past is, λ _. tt),
  ),
)
byte_read (Refused at) os r b c past = tt
