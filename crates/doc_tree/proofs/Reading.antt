-- What was read is said by the state, after any bytes.
use Rattle.std.proofs.Common.{◌≡◌, ℕ, suc, ◌<◌, ◌≤◌, true, List, [], ◌∷◌, ◌++◌, length, length-append, take, get_or, Option, None, refl, sym, ap, ◌∙◌, subst, append_assoc, append-nil, arith, nat_eq, add-one}
use Rattle.std.proofs.lemmas.Bool.{eqb-true}
use Rattle.std.proofs.lemmas.Bool.Decides.{nat_tests}
use Rattle.std.proofs.lemmas.List.{take_more}
use Rattle.doc_model.specs.declared.tree.Element.{Element}
use Rattle.doc_tree.specs.declared.places.Entity.{Entity}
use Rattle.doc_tree.specs.declared.places.Radix.{Radix}
use Rattle.doc_tree.specs.declared.places.Radix.TheVariants.{Decimal, Hexadecimal}
use Rattle.doc_tree.specs.declared.places.Open.{Open}
use Rattle.doc_tree.specs.declared.places.Place.{Place}
use Rattle.doc_tree.specs.declared.places.Place.TheVariants.{Between, Close, Refused}
use Rattle.doc_tree.specs.declared.places.Part.{Part}
use Rattle.doc_tree.specs.declared.places.Part.TheVariants.{Whole, Lead, Three, Four, Last, Reference, ReferenceA, Named, Hash, HashX, Digits}
use Rattle.doc_tree.specs.Characters
use Rattle.doc_tree.specs.Characters.{is_white, is_text, quote_byte, is_value, is_name_start, is_name_byte, is_comment_byte, is_instruction_byte, is_lead, is_lead_of_two, is_front_of_three, is_front_of_four, is_tail, is_digit, digit_value, base, entity_text, entity_byte, number_mark, utf8, is_character_number, IsCharacter, IsReference, IsNumeral}
use Rattle.doc_tree.specs.Documents
use Rattle.doc_tree.specs.Documents.{is_fresh, IsWhite, IsBlank, IsName, IsValue, AreAttributes, IsCommentText, IsInstructionText, IsAside, IsElement, IsContent}
use Rattle.doc_tree.specs.Machine
use Rattle.doc_tree.specs.Machine.{State, state, Choice, now, test, chosen, stay, refused, takes, taken, tag, step_at, lead_at, step, next, run, after_tag, after_end, begin_name, begin_end, comment_greater, instruction_greater}
use Rattle.doc_tree.proofs.Stems
use Rattle.doc_tree.proofs.Stems.{Stem, stem_text, stem_reference, stem_aside, stem_white}
use Rattle.doc_tree.proofs.Past.{Past, PastPart, PastState, Reads, InReference, chosen_reads}
use Rattle.doc_tree.specs.Machine.{after_key, more_dashes, closed, element_of, empty_element}
use Rattle.std.proofs.Math.Seq.{take-length}
use Rattle.doc_tree.proofs.Bytes.{byte_read, grow_wide, grow_reference, follow_reference, whole_wide, whole_reference}

-- a byte that may begin a character past ASCII
wide_begun : (p : Place) (os : List Open) (r : Option Element) (b : List ℕ) (c : ℕ) → Past p os r b → is_lead c ≡ true
    → Reads (test (takes p os r) (now p (Lead c) os r) (refused os r (length b))) (b ++ c ∷ [])
wide_begun p os r b c past lead = (λ fits. (lead, record { front = b; past = past; fits = fits; is = refl }), λ _. tt)

nothing_read : (b : List ℕ) → nat_eq (length b) 0 ≡ true → b ≡ []
nothing_read [] h = refl
nothing_read (c ∷ b) h = absurd (omega (arith, eqb-true (length (c ∷ b)) 0 h))

lead_read : (p : Place) (os : List Open) (r : Option Element) (b : List ℕ) (c : ℕ) → Past p os r b → is_lead c ≡ true → Reads (lead_at p os r (length b) c) (b ++ c ∷ [])
lead_read Between [] None b c past lead =
    (λ first. (λ is. (refl, refl, ap (λ (s : List ℕ). s ++ c ∷ []) (nothing_read b first) ∙ ap (λ (d : ℕ). d ∷ []) (eqb-true c 239 is)), λ _. tt), λ _. tt)
lead_read (Close k) os r b c past lead = byte_read (Close k) os r b c past
lead_read (Refused at) os r b c past lead = tt
lead_read p os r b c past lead = wide_begun p os r b c past lead

-- digits
digit_bound : (x : Radix) (c : ℕ) → is_digit x c ≡ true → digit_value c ≤ 15
unfolding is_digit digit_value
digit_bound Decimal c h = grind (arith, nat_tests)
digit_bound Hexadecimal c h = grind (arith, nat_tests)

digit_begun : (x : Radix) {p : Place} {os : List Open} {r : Option Element} {b : List ℕ} (c : ℕ) → is_digit x c ≡ true → InReference p os r (number_mark x) b
    → PastPart p (Digits x (digit_value c)) os r (b ++ c ∷ [])
digit_begun x c is h = (c ∷ [], Characters.IsNumeral.first c is, omega (arith, digit_bound x c is), grow_reference h (c ∷ []) (number_mark x ++ c ∷ []) refl)

named_read : (p : Place) (e : Entity) (k : ℕ) (os : List Open) (r : Option Element) (b : List ℕ) (c : ℕ) → k < length (entity_text e) → InReference p os r (38 ∷ take k (entity_text e)) b
    → Reads (Machine.named p e k os r (length b) c) (b ++ c ∷ [])
named_read p e k os r b c within h = (
  λ is.
      let text = entity_text e in
      let longer : InReference p os r (38 ∷ take (suc k) text) (b ++ c ∷ []) = grow_reference h (c ∷ []) (38 ∷ take (suc k) text)
      (ap (λ (d : ℕ). 38 ∷ (take k text ++ d ∷ [])) (eqb-true c (get_or text k 0) is)
      ∙ ap (λ (y : List ℕ). 38 ∷ y) (sym (take_more text k 0 within) ∙ ap (λ n. take n text) (add-one k))) in (
        λ more. (grind (arith, nat_tests), longer),
        λ done.
            let all : suc k ≡ length text = grind (arith, nat_tests) in
            whole_reference (subst (λ n. InReference p os r (38 ∷ n) (b ++ c ∷ [])) (ap (λ n. take n text) all ∙ take-length text) longer) (Characters.IsReference.named e),
      ),
  λ _. tt,
)

-- a byte
pub next_read : (p : Place) (part : Part) (os : List Open) (r : Option Element) (b : List ℕ) (c : ℕ) → PastPart p part os r b → Reads (step p part os r (length b) c) (b ++ c ∷ [])
next_read p Whole os r b c past = (λ lead. lead_read p os r b c past lead, λ _. byte_read p os r b c past)
next_read p (Lead a) os r b c (lead, h) = (
  λ two. (λ tail. whole_wide (grow_wide h (c ∷ []) (a ∷ c ∷ []) refl) (Characters.IsWide.two a c two tail), λ _. tt),
  λ _. (
    λ three. (three, grow_wide h (c ∷ []) (a ∷ c ∷ []) refl),
    λ _. (λ four. (four, grow_wide h (c ∷ []) (a ∷ c ∷ []) refl), λ _. tt),
  ),
)
next_read p (Three a d) os r b c (front, h) = (λ tail. whole_wide (grow_wide h (c ∷ []) (a ∷ d ∷ c ∷ []) refl) (Characters.IsWide.three a d c front tail), λ _. tt)
next_read p (Four a d) os r b c (front, h) = (λ tail. (front, tail, grow_wide h (c ∷ []) (a ∷ d ∷ c ∷ []) refl), λ _. tt)
next_read p (Last a d e) os r b c (front, third, h) =
    (λ tail. whole_wide (grow_wide h (c ∷ []) (a ∷ d ∷ e ∷ c ∷ []) refl) (Characters.IsWide.four a d e c front third tail), λ _. tt)
next_read p Reference os r b c h = (
  λ is. follow_reference h c 35 is,
  λ _. (
    λ is. follow_reference h c 97 is,
    λ _. (
      λ is. (omega arith, follow_reference h c 108 is),
      λ _. (
        λ is. (omega arith, follow_reference h c 103 is),
        λ _. (λ is. (omega arith, follow_reference h c 113 is), λ _. tt),
      ),
    ),
  ),
)
next_read p ReferenceA os r b c h = (
  λ is. (omega arith, follow_reference h c 109 is),
  λ _. (λ is. (omega arith, follow_reference h c 112 is), λ _. tt),
)
next_read p (Named e k) os r b c (within, h) = named_read p e k os r b c within h
next_read p Hash os r b c h = (λ is. digit_begun Decimal c is h, λ _. (λ is. follow_reference h c 120 is, λ _. tt))
next_read p HashX os r b c h = (λ is. digit_begun Hexadecimal c is h, λ _. tt)
next_read p (Digits x n) os r b c (d, numeral, bound, h) = (
  λ is. (
    λ small. (d ++ c ∷ [], Characters.IsNumeral.more c numeral is, grind (arith, nat_tests), grow_reference h (c ∷ []) (number_mark x ++ (d ++ c ∷ [])) (append_assoc (number_mark x) d (c ∷ []))),
    λ _. tt,
  ),
  λ _. (λ is. (λ known. whole_reference (follow_reference h c 59 is) (Characters.IsReference.number x n numeral known), λ _. tt), λ _. tt),
)

pub state_read : (st : State) (b : List ℕ) (c : ℕ) → PastState st b → PastState (next st (length b) c) (b ++ c ∷ [])
state_read (state p part os r) b c past = chosen_reads (step p part os r (length b) c) (b ++ c ∷ []) (next_read p part os r b c past)

-- any bytes
pub run_read : (s : List ℕ) (st : State) (b : List ℕ) → PastState st b → PastState (run st (length b) s) (b ++ s)
run_read [] st b past = subst (λ bytes. PastState st bytes) (sym (append-nil b)) past
run_read (c ∷ s) st b past =
    let longer : length (b ++ c ∷ []) ≡ suc (length b) = omega (arith, length-append b (c ∷ [])) in
    subst (λ bytes. PastState (run (next st (length b) c) (suc (length b)) s) bytes) (append_assoc b (c ∷ []) s)
    (subst (λ at. PastState (run (next st (length b) c) at s) ((b ++ c ∷ []) ++ s)) longer
    (run_read s (next st (length b) c) (b ++ c ∷ []) (state_read st b c past)))

pub document_read : (b : List ℕ) → PastState (run Machine.start 0 b) b
document_read b = run_read b Machine.start [] (Stems.Stem.root (Documents.IsProlog.plain Documents.AreExtras.nothing))
