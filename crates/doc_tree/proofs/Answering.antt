-- The answers of a reader are right.
use Rattle.std.proofs.Common.{drop, take-append-drop, ◌≡◌, ℕ, suc, ◌+◌, ◌≤◌, Bool, true, false, cond, List, [], ◌∷◌, ◌++◌, length, length-append, take, Option, Some, None, refl, sym, ap, ◌∙◌, subst, append_assoc, append-nil, arith, nat_eq, ◌⊎◌, inl, inr, ⊎_elim}
use Rattle.std.proofs.lemmas.Bool.{eqb-true}
use Rattle.std.proofs.lemmas.Bool.Decides.{nat_tests}
use Rattle.doc_model.specs.declared.tree.Element.{Element}
use Rattle.doc_tree.specs.declared.places.Open.{Open}
use Rattle.doc_tree.specs.declared.places.Place.{Place}
use Rattle.doc_tree.specs.declared.places.Place.TheVariants.{Between, TagName, Blank, Refused}
use Rattle.doc_tree.specs.declared.places.Part.{Part}
use Rattle.doc_tree.specs.declared.places.Part.TheVariants.{Whole, Lead, Three, Four, Last, Reference, ReferenceA, Named, Hash, HashX, Digits}
use Rattle.doc_tree.specs.Characters
use Rattle.doc_tree.specs.Characters.{is_white, is_text, quote_byte, is_value, is_name_start, is_name_byte, is_comment_byte, is_instruction_byte, is_lead, is_lead_of_two, is_front_of_three, is_front_of_four, is_tail, is_digit, digit_value, base, entity_text, entity_byte, number_mark, utf8, is_character_number, IsCharacter, IsReference, IsNumeral}
use Rattle.doc_tree.specs.Documents
use Rattle.doc_tree.specs.Documents.{is_fresh, IsWhite, IsBlank, IsName, IsValue, AreAttributes, IsCommentText, IsInstructionText, IsAside, IsElement, IsContent}
use Rattle.doc_tree.specs.Machine.{State, state, tag, next, run}
use Rattle.doc_tree.specs.Documents.{AreExtras, IsProlog, Spells, shown}
use Rattle.doc_tree.specs.Machine.{start, open_at}
use Rattle.doc_tree.proofs.Classes.{run_append, then_run}
use Rattle.doc_tree.proofs.Forward.{held, over_white, held_white, blank_white, held_greater, blank_greater, run_tag_name, less_step}
use Rattle.std.proofs.lemmas.Bool.{eq-eqb}
use Rattle.doc_tree.specs.Reading.{Begins}
use Rattle.doc_tree.proofs.Stems
use Rattle.doc_tree.proofs.Stems.{Stem}
use Rattle.doc_tree.proofs.Past.{PastState, PastPart}
use Rattle.doc_tree.specs.Characters.{is_character_number}
use Rattle.std.proofs.Common.{Ok, Err, le_of_eq, ◌||◌, is_some}
use Rattle.std.proofs.lemmas.List.{take-append-le}
use Rattle.std.proofs.Math.Seq.{take-length}
use Rattle.doc_tree.proofs.Past.{BehindName}
use Rattle.doc_tree.specs.declared.faults.DocFault.{DocFault}
use Rattle.doc_tree.specs.declared.faults.DocFault.TheVariants as fault
use Rattle.doc_tree.specs.Reading
use Rattle.doc_tree.specs.Reading.{IsFront, IsStem, BeginsDeep, DeepAt, IsShallow, FeedAnswer, FinishAnswer}
use Rattle.doc_tree.specs.Fed.{fault_of, ended_of, HasReadBy}
use Rattle.doc_tree.proofs.Reading.{document_read}
use Rattle.doc_tree.proofs.Classes.{run_append}
use Rattle.doc_tree.proofs.Whole.{cond_same, run_prolog, run_content, run_document, start_tag}
use Rattle.doc_tree.proofs.Ends.{begins_from, part_begins, is_live}

false_true : false ≡ true → ⊥
false_true e = cc

-- a refusal stays
run_refused : (s : List ℕ) (o : ℕ) (os : List Open) (r : Option Element) (at : ℕ) → run (state (Refused o) Whole os r) at s ≡ state (Refused o) Whole os r
run_refused [] o os r at = refl
run_refused (c ∷ s) o os r at = ap (λ st. run st (suc at) s) (cond_same (is_lead c) (state (Refused o) Whole os r)) ∙ run_refused s o os r (suc at)

refused_begins_none : (b : List ℕ) (o : ℕ) (os : List Open) (r : Option Element) → run start 0 b ≡ state (Refused o) Whole os r → Begins b → ⊥
refused_begins_none b o os r h (s, t, whole) =
    let stays : run start 0 (b ++ s) ≡ state (Refused o) Whole os r = then_run start 0 b s h (run_refused s o os r (0 + length b)) in
    let ends : run start 0 (b ++ s) ≡ state Between Whole [] (Some t) = run_document whole in
    cc

refused_whole : (o : ℕ) (part : Part) (os : List Open) (r : Option Element) (b : List ℕ) → PastPart (Refused o) part os r b → part ≡ Whole
refused_whole o Whole os r b past = refl
refused_whole o (Lead a) os r b (lead, h) = absurd (false_true h.fits)
refused_whole o (Three a c) os r b (front, h) = absurd (false_true h.fits)
refused_whole o (Four a c) os r b (front, h) = absurd (false_true h.fits)
refused_whole o (Last a c d) os r b (front, third, h) = absurd (false_true h.fits)
refused_whole o Reference os r b h = absurd (false_true h.fits)
refused_whole o ReferenceA os r b h = absurd (false_true h.fits)
refused_whole o (Named e k) os r b (within, h) = absurd (false_true h.fits)
refused_whole o Hash os r b h = absurd (false_true h.fits)
refused_whole o HashX os r b h = absurd (false_true h.fits)
refused_whole o (Digits x n) os r b (d, numeral, bound, h) = absurd (false_true h.fits)

-- stems and depth
stem_depth : {b : List ℕ} {os : List Open} {r : Option Element} → Stem b os r → r ≡ None → IsStem (length os) b
stem_depth (Stems.Stem.root prolog) e = Reading.IsStem.root prolog
stem_depth (Stems.Stem.group whole name spelled white content) e = Reading.IsStem.group (stem_depth whole refl) name spelled white content
stem_depth (Stems.Stem.ended prolog element extras) e = absurd cc

record Stands (d : ℕ) (p : List ℕ) : Type 0 where
  os : List Open
  deep : length os ≡ d
  runs : run start 0 p ≡ state Between Whole os None

run_stem : {d : ℕ} {p : List ℕ} → IsStem d p → Stands d p
run_stem (Reading.IsStem.root prolog) = record { os = []; deep = refl; runs = run_prolog prolog }
run_stem (Reading.IsStem.group {p} {n} {a} {w} {c} {cs} {ats} {ks} whole name spelled white content) =
    let outer = run_stem whole in
    let at = length p in
    let zero_at : 0 + at ≡ at = omega arith in
    let from = at + length (60 ∷ n ++ a ++ w) in
    let inside = run_content outer.os at n ats content in
    record {
      os = open_at at n ats ks cs ∷ outer.os;
      deep = ap suc outer.deep;
      runs = then_run start 0 p (60 ∷ n ++ a ++ w ++ 62 ∷ c) outer.runs (subst (λ m. run (state Between Whole outer.os None) m (60 ∷ n ++ a ++ w ++ 62 ∷ c) ≡ state Between Whole (open_at at n ats ks cs ∷ outer.os) None) (sym zero_at)
          (over_white (state Between Whole outer.os None) (state (held at n ats) Whole outer.os None) (state (Blank (tag at n ats)) Whole outer.os None) at (60 ∷ n ++ a) w (62 ∷ c)
          (start_tag outer.os at name spelled) (held_white at n ats outer.os None) (blank_white (tag at n ats) outer.os None) white
          (ap (λ st. run st (suc from) c) (held_greater at n ats outer.os None from) ∙ inside)
          (ap (λ st. run st (suc from) c) (blank_greater (tag at n ats) outer.os None from) ∙ inside)));
    }

record Within (b : List ℕ) (o : ℕ) : Type 0 where
  name : List ℕ
  os : List Open
  deep : length os ≡ 256
  runs : run start 0 b ≡ state (TagName o name) Whole os None

run_deep : (p f : List ℕ) → IsStem 256 p → IsCharacter is_name_start f → Within (p ++ 60 ∷ f) (length p)
run_deep p f whole h =
    let s = run_stem whole in
    let zero_at : 0 + length p ≡ length p = omega arith in
    record {
      name = f;
      os = s.os;
      deep = s.deep;
      runs = then_run start 0 p (60 ∷ f) s.runs
          (ap (λ st. run st (suc (0 + length p)) f) (less_step s.os None (0 + length p)) ∙ run_tag_name (0 + length p) s.os (suc (0 + length p)) (Documents.IsName.one h)
          ∙ ap (λ m. state (TagName m f) Whole s.os None) zero_at);
    }

-- lists from their ends
snoc_same : (x y : List ℕ) (c d : ℕ) → x ++ c ∷ [] ≡ y ++ d ∷ [] → x ≡ y
snoc_same [] [] c d e = refl
snoc_same [] (b ∷ y) c d e = absurd (omega (arith, ap length e, length-append y (d ∷ [])))
snoc_same (a ∷ x) [] c d e = absurd (omega (arith, ap length e, length-append x (c ∷ [])))
snoc_same (a ∷ x) (b ∷ y) c d e =
    let heads : a ≡ b = cc in
    let tails : x ++ c ∷ [] ≡ y ++ d ∷ [] = cc in
    ap (λ h. h ∷ x) heads ∙ ap (λ (t : List ℕ). b ∷ t) (snoc_same x y c d tails)

snoc_view : (s : List ℕ) → (s ≡ []) ⊎ ((front : List ℕ) × (l : ℕ) × (s ≡ front ++ l ∷ []))
snoc_view [] = inl refl
snoc_view (c ∷ s) = inr (⊎_elim (λ e. ([], c, ap (λ (t : List ℕ). c ∷ t) e)) (λ h. (c ∷ h.0, h.1, ap (λ (t : List ℕ). c ∷ t) h.2)) (snoc_view s))

-- one list goes on from the other
split : (b s x y : List ℕ) → b ++ s ≡ x ++ y → ((z : List ℕ) × (b ≡ x ++ z)) ⊎ ((z : List ℕ) × (x ≡ b ++ z) × (s ≡ z ++ y))
split [] s x y e = inr (x, refl, e)
split (c ∷ b) s [] y e = inl (c ∷ b, refl)
split (c ∷ b) s (d ∷ x) y e =
    let heads : c ≡ d = cc in
    let tails : b ++ s ≡ x ++ y = cc in
    ⊎_elim (λ h. inl (h.0, ap (λ (t : List ℕ). c ∷ t) h.1 ∙ ap (λ a. a ∷ (x ++ h.0)) heads)) (λ h. inr (h.0, ap (λ a. a ∷ x) (sym heads) ∙ ap (λ (t : List ℕ). c ∷ t) h.1, h.2)) (split b s x y tails)

-- a deep place behind the last byte is new
last_deep : (b : List ℕ) (c m : ℕ) → IsShallow b → BeginsDeep (b ++ c ∷ []) m → Within (b ++ c ∷ []) m
last_deep b c m shallow d = ⊎_elim at_end before (snoc_view d.rest)
  where
    at_end : d.rest ≡ [] → Within (b ++ c ∷ []) m
    at_end e =
        subst (λ o. Within (b ++ c ∷ []) o) (sym d.place)
        (subst (λ bytes. Within bytes (length d.stem)) (sym (d.is ∙ ap (λ end. d.stem ++ (60 ∷ d.first ++ end)) e ∙ ap (λ end. d.stem ++ end) (append-nil (60 ∷ d.first)))) (run_deep d.stem d.first d.whole d.character))

    before : ((front : List ℕ) × (l : ℕ) × (d.rest ≡ front ++ l ∷ [])) → Within (b ++ c ∷ []) m
    before (front, l, e) =
        let same : b ++ c ∷ [] ≡ (d.stem ++ (60 ∷ d.first ++ front)) ++ l ∷ [] =
        d.is ∙ ap (λ end. d.stem ++ (60 ∷ d.first ++ end)) e ∙ ap (λ end. d.stem ++ end) (sym (append_assoc (60 ∷ d.first) front (l ∷ []))) ∙ sym (append_assoc d.stem (60 ∷ d.first ++ front) (l ∷ [])) in
        absurd (shallow m (record { stem = d.stem; first = d.first; rest = front; whole = d.whole; character = d.character; is = snoc_same b _ c l same; place = d.place }))

name_split : {n : List ℕ} → IsName n → (f : List ℕ) × (rest : List ℕ) × IsCharacter is_name_start f × (n ≡ f ++ rest)
name_split (Documents.IsName.one {w} h) = (w, [], h, sym (append-nil w))
name_split (Documents.IsName.more {n} {w} name h) =
    let (f, rest, first, e) = name_split name in
    (f, rest ++ w, first, ap (λ m. m ++ w) e ∙ append_assoc f rest w)

new_deep : (b : List ℕ) (from : ℕ) (n : List ℕ) (os : List Open) (r : Option Element) → BehindName from n os r b → length os ≡ 256 → BeginsDeep b from
new_deep b from n os r past deep =
    let (f, rest, first, e) = name_split past.name in
    record {
      stem = past.stem;
      first = f;
      rest = rest;
      whole = subst (λ d. IsStem d past.stem) deep (stem_depth past.whole refl);
      character = first;
      is = past.is ∙ ap (λ (end : List ℕ). past.stem ++ 60 ∷ end) e;
      place = past.place;
    }

-- the fault behind a byte is that of the bytes
state_at : (b : List ℕ) (c : ℕ) → run start 0 (b ++ c ∷ []) ≡ next (run start 0 b) (length b) c
state_at b c = run_append b (c ∷ []) start 0 ∙ ap (λ at. next (run start 0 b) at c) (omega arith)

same_name : {from o : ℕ} {n m : List ℕ} {os ps : List Open} {r q : Option Element} → state (TagName from n) Whole os r ≡ state (TagName o m) Whole ps q → from ≡ o
same_name e = cc

still_shallow : (b : List ℕ) (c : ℕ) (p : Place) (part : Part) (os : List Open) (r : Option Element) → IsShallow b → run start 0 (b ++ c ∷ []) ≡ state p part os r
    → fault_of p part os (length b) ≡ None → IsShallow (b ++ c ∷ [])
still_shallow b c p part os r shallow is live m d =
    let h = last_deep b c m shallow d in
    let same : state p part os r ≡ state (TagName m h.name) Whole h.os None = sym is ∙ h.runs in
    let e1 : p ≡ TagName m h.name = cc in
    let e2 : part ≡ Whole = cc in
    let e3 : os ≡ h.os = cc in
    let deep : fault_of (TagName m h.name) Whole h.os (length b) ≡ Some (fault.Deep m) = rw (eq-eqb (length h.os) 256 h.deep) refl in
    let found : fault_of p part os (length b) ≡ Some (fault.Deep m) = rw (e1, e2, e3) deep in
    cc

refused_shallow : (b : List ℕ) (c o : ℕ) (os : List Open) (r : Option Element) → IsShallow b → run start 0 (b ++ c ∷ []) ≡ state (Refused o) Whole os r → IsShallow (b ++ c ∷ [])
refused_shallow b c o os r shallow is m d =
    let h = last_deep b c m shallow d in
    let same : state (Refused o) Whole os r ≡ state (TagName m h.name) Whole h.os None = sym is ∙ h.runs in
    cc

take_front : (b s : List ℕ) → take (length b) (b ++ s) ≡ b
take_front b s = take-append-le (length b) b s (omega arith) ∙ take-length b

refused_answer : (b : List ℕ) (c o : ℕ) (os : List Open) (r : Option Element) → FeedAnswer b (Ok tt) → run start 0 (b ++ c ∷ []) ≡ state (Refused o) Whole os r
    → FeedAnswer (b ++ c ∷ []) (Err (fault.Malformed (length b)))
refused_answer b c o os r (shallow, begins) is =
    let long : length (b ++ c ∷ []) ≡ suc (length b) = omega (arith, length-append b (c ∷ [])) in
    let whole : take (suc (length b)) (b ++ c ∷ []) ≡ b ++ c ∷ [] = ap (λ n. take n (b ++ c ∷ [])) (sym long) ∙ take-length (b ++ c ∷ []) in (
      refused_shallow b c o os r shallow is,
      record {
        within = omega arith;
        begins = subst (λ bytes. Begins bytes) (sym (take_front b (c ∷ []))) begins;
        longest = λ more h. refused_begins_none (b ++ c ∷ []) o os r is (subst (λ bytes. Begins bytes) whole h);
      },
      omega arith,
    )

deep_answer : (b : List ℕ) (c from : ℕ) (n : List ℕ) (os : List Open) (r : Option Element) → IsShallow b → run start 0 (b ++ c ∷ []) ≡ state (TagName from n) Whole os r
    → BehindName from n os r (b ++ c ∷ []) → length os ≡ 256 → DeepAt (b ++ c ∷ []) from
deep_answer b c from n os r shallow is past deep = record {
  deep = new_deep (b ++ c ∷ []) from n os r past deep;
  least = λ m d. le_of_eq (same_name (sym is ∙ (last_deep b c m shallow d).runs));
}

live_answer : (b : List ℕ) (c : ℕ) (p : Place) (part : Part) (os : List Open) (r : Option Element) → FeedAnswer b (Ok tt) → run start 0 (b ++ c ∷ []) ≡ state p part os r
    → PastPart p part os r (b ++ c ∷ []) → fault_of p part os (length b) ≡ None → is_live p ≡ true → HasReadBy None (state p part os r) (suc (length b)) (b ++ c ∷ [])
live_answer b c p part os r (shallow, begins) is past none live =
    (sym is, omega (arith, length-append b (c ∷ [])), (still_shallow b c p part os r shallow is none, part_begins p part os r (b ++ c ∷ []) past live))

answered : (b : List ℕ) (c : ℕ) (p : Place) (part : Part) (os : List Open) (r : Option Element) → FeedAnswer b (Ok tt) → run start 0 (b ++ c ∷ []) ≡ state p part os r
    → PastPart p part os r (b ++ c ∷ []) → HasReadBy (fault_of p part os (length b)) (state p part os r) (suc (length b)) (b ++ c ∷ [])
answered b c (Refused o) part os r before is past =
    refused_answer b c o os r before (is ∙ ap (λ q. state (Refused o) q os r) (refused_whole o part os r (b ++ c ∷ []) past))
answered b c (TagName from n) Whole os r before is past = pick (nat_eq (length os) 256) refl
  where
    pick : (t : Bool) → nat_eq (length os) 256 ≡ t → HasReadBy (cond (nat_eq (length os) 256) (Some (fault.Deep from)) None) (state (TagName from n) Whole os r) (suc (length b)) (b ++ c ∷ [])
    pick true e = rw e (deep_answer b c from n os r before.0 is past (eqb-true (length os) 256 e))
    pick false e = rw e (live_answer b c (TagName from n) Whole os r before is past (rw e refl) refl)
answered b c p part os r before is past = live_answer b c p part os r before is past refl refl

-- a byte behind bytes that were read
pub byte_answer : (b : List ℕ) (c count : ℕ) (st : State) (p : Place) (part : Part) (os : List Open) (r : Option Element) → HasReadBy None st count b → state p part os r ≡ next st count c
    → HasReadBy (fault_of p part os count) (state p part os r) (suc count) (b ++ c ∷ [])
byte_answer b c count st p part os r (is, long, before) to =
    let reached : run start 0 (b ++ c ∷ []) ≡ state p part os r = state_at b c ∙ ap (λ x. next x (length b) c) (sym is) ∙ ap (λ n. next st n c) (sym long) ∙ sym to in
    subst (λ n. HasReadBy (fault_of p part os n) (state p part os r) (suc n) (b ++ c ∷ [])) (sym long)
    (answered b c p part os r before reached (subst (λ x. PastState x (b ++ c ∷ [])) reached (document_read (b ++ c ∷ []))))

-- without a fault, no name begins within 256 open elements
pub within_limit : (b : List ℕ) (count from : ℕ) (n : List ℕ) (os : List Open) (r : Option Element) → HasReadBy None (state (TagName from n) Whole os r) count b → nat_eq (length os) 256 ≡ false
within_limit b count from n os r (is, long, (shallow, begins)) = pick (nat_eq (length os) 256) refl
  where
    past : BehindName from n os r b
    past = subst (λ x. PastState x b) (sym is) (document_read b)

    pick : (t : Bool) → nat_eq (length os) 256 ≡ t → nat_eq (length os) 256 ≡ false
    pick true e = absurd (shallow from (new_deep b from n os r past (eqb-true (length os) 256 e)))
    pick false e = e

-- a fault stays, whatever follows
has_less : List ℕ → Bool
has_less [] = false
has_less (c ∷ s) = nat_eq c 60 || has_less s

or_right : (t : Bool) → t || true ≡ true
or_right true = refl
or_right false = refl

finds_less : (u y : List ℕ) → has_less (u ++ 60 ∷ y) ≡ true
unfolding has_less
finds_less [] y = refl
finds_less (c ∷ u) y = ap (λ t. nat_eq c 60 || t) (finds_less u y) ∙ or_right (nat_eq c 60)

name_has_none : {f : List ℕ} → IsCharacter is_name_start f → has_less f ≡ false
unfolding has_less is_name_start is_lead_of_two is_tail is_front_of_three is_front_of_four
name_has_none (Characters.IsCharacter.ascii c h) = grind (arith, nat_tests)
name_has_none (Characters.IsCharacter.wide (Characters.IsWide.two a b two tail)) = grind (arith, nat_tests)
name_has_none (Characters.IsCharacter.wide (Characters.IsWide.three a b c front tail)) = grind (arith, nat_tests)
name_has_none (Characters.IsCharacter.wide (Characters.IsWide.four a b c d front third tail)) = grind (arith, nat_tests)

abbrev longer_deep : (b s : List ℕ) (o : ℕ) → BeginsDeep b o → BeginsDeep (b ++ s) o
longer_deep b s o d = record {
  stem = d.stem;
  first = d.first;
  rest = d.rest ++ s;
  whole = d.whole;
  character = d.character;
  place = d.place;
  is = ap (λ x. x ++ s) d.is ∙ append_assoc d.stem (60 ∷ d.first ++ d.rest) s ∙ ap (λ end. d.stem ++ end) (append_assoc (60 ∷ d.first) d.rest s);
}

-- where a deep place of more bytes lies within these, it is one of these; else these go on to it
shorter_deep : (b s : List ℕ) (m : ℕ) → (d : BeginsDeep (b ++ s) m) → BeginsDeep b m ⊎ ((z : List ℕ) × (d.stem ++ 60 ∷ d.first ≡ b ++ z))
shorter_deep b s m d =
    ⊎_elim (λ h. inl (record { stem = d.stem; first = d.first; rest = h.0; whole = d.whole; character = d.character; is = h.1 ∙ append_assoc d.stem (60 ∷ d.first) h.0; place = d.place }))
    (λ h. inr (h.0, h.1))
    (split b s (d.stem ++ 60 ∷ d.first) d.rest (d.is ∙ sym (append_assoc d.stem (60 ∷ d.first) d.rest)))

-- two stems, each with `<` and a character behind it: the one that ends first begins first
earlier : (p f q g rest : List ℕ) → IsCharacter is_name_start f → p ++ 60 ∷ f ≡ q ++ (60 ∷ g ++ rest) → length q ≤ length p
earlier p f q g rest h e = ⊎_elim longer shorter (split p (60 ∷ f) q (60 ∷ g ++ rest) e)
  where
    longer : ((z : List ℕ) × (p ≡ q ++ z)) → length q ≤ length p
    longer (z, is) = omega (arith, ap length is, length-append q z)

    shorter : ((z : List ℕ) × (q ≡ p ++ z) × (60 ∷ f ≡ z ++ (60 ∷ g ++ rest))) → length q ≤ length p
    shorter ([], is, ends) = omega (arith, ap length is, length-append p [])
    shorter (c ∷ z, is, ends) =
        let tails : f ≡ z ++ 60 ∷ (g ++ rest) = cc in
        let found : has_less f ≡ true = ap has_less tails ∙ finds_less z (g ++ rest) in
        let none_there : has_less f ≡ false = name_has_none h in
        absurd cc

deep_begins : (p f : List ℕ) → IsStem 256 p → IsCharacter is_name_start f → Begins (p ++ 60 ∷ f)
deep_begins p f whole h =
    let d = run_deep p f whole h in
    part_begins (TagName (length p) d.name) Whole d.os None (p ++ 60 ∷ f) (subst (λ st. PastState st (p ++ 60 ∷ f)) d.runs (document_read (p ++ 60 ∷ f))) refl

stays_deep : (b s : List ℕ) (o : ℕ) → DeepAt b o → DeepAt (b ++ s) o
stays_deep b s o h = record { deep = longer_deep b s o h.deep; least = least }
  where
    least : (m : ℕ) → BeginsDeep (b ++ s) m → o ≤ m
    least m d =
        let d0 = h.deep in
        ⊎_elim (λ inner. h.least m inner)
        (λ further.
        let same : d.stem ++ 60 ∷ d.first ≡ d0.stem ++ (60 ∷ d0.first ++ (d0.rest ++ further.0)) =
        further.1 ∙ (longer_deep b further.0 o d0).is in
        let before : length d0.stem ≤ length d.stem = earlier d.stem d.first d0.stem d0.first (d0.rest ++ further.0) d.character same in
        omega (arith, before, d.place, d0.place))
        (shorter_deep b s m d)

take_more_front : (n : ℕ) (b s : List ℕ) → n ≤ length b → take n (b ++ s) ≡ take n b
take_more_front n b s h = take-append-le n b s h

stays_malformed : (b s : List ℕ) (o : ℕ) → FeedAnswer b (Err (fault.Malformed o)) → FeedAnswer (b ++ s) (Err (fault.Malformed o))
stays_malformed b s o (shallow, front, within) =
    let long : length (b ++ s) ≡ length b + length s = length-append b s in (
      still,
      record {
        within = omega arith;
        begins = subst (λ bytes. Begins bytes) (sym (take_more_front o b s (omega arith))) front.begins;
        longest = λ more h. front.longest within (subst (λ bytes. Begins bytes) (take_more_front (suc o) b s (omega arith)) h);
      },
      omega arith,
    )
  where
    still : IsShallow (b ++ s)
    still m d =
        ⊎_elim (λ inner. shallow m inner)
        (λ further.
        let begins : Begins b = begins_from b further.0 (subst (λ bytes. Begins bytes) further.1 (deep_begins d.stem d.first d.whole d.character)) in
        front.longest within (begins_from (take (suc o) b) (drop (suc o) b) (subst (λ bytes. Begins bytes) (sym (take-append-drop (suc o) b)) begins)))
        (shorter_deep b s m d)

pub fault_stays : (f : DocFault) (b s : List ℕ) → FeedAnswer b (Err f) → FeedAnswer (b ++ s) (Err f)
fault_stays (fault.Malformed o) b s h = stays_malformed b s o h
fault_stays (fault.Deep o) b s h = stays_deep b s o h
fault_stays fault.Memory b s h = tt

pub read_stays : (f : Option DocFault) (st : State) (count : ℕ) (b s : List ℕ) → is_some f ≡ true → HasReadBy f st count b → HasReadBy f st count (b ++ s)
read_stays None st count b s e h = absurd cc
read_stays (Some f) st count b s e h = fault_stays f b s h

-- the answers at the end
whole_document : (b : List ℕ) (t : Element) → Stem b [] (Some t) → Spells b t
whole_document b t (Stems.Stem.ended prolog element extras) = Documents.Spells.document prolog element extras

none_in_nothing : {o : ℕ} → BeginsDeep [] o → ⊥
none_in_nothing d = omega (arith, ap length d.is, length-append d.stem (60 ∷ d.first ++ d.rest))

pub nothing_read_yet : HasReadBy None start 0 []
nothing_read_yet = (refl, refl, (λ o d. none_in_nothing d, part_begins Between Whole [] None [] (document_read []) refl))

pub ended_read : (st : State) (b : List ℕ) (t : Element) → PastState st b → ended_of st ≡ Some t → Spells b t
ended_read (state Between Whole [] (Some root)) b t past h =
    let same : root ≡ t = cc in
    subst (λ x. Spells b x) same (whole_document b root past)
ended_read (state p part os r) b t past h = absurd cc

pub finish_tree : (st : State) (count : ℕ) (b : List ℕ) (t : Element) → HasReadBy None st count b → ended_of st ≡ Some t → FinishAnswer b (Ok t)
finish_tree st count b t (is, long, (shallow, begins)) h =
    (shallow, ended_read (run start 0 b) b t (document_read b) (ap ended_of (sym is) ∙ h))

pub finish_short : (st : State) (count : ℕ) (b : List ℕ) → HasReadBy None st count b → ended_of st ≡ None → FinishAnswer b (Err (fault.Malformed count))
finish_short st count b (is, long, (shallow, begins)) h = (
  shallow,
  no_tree,
  record {
    within = omega arith;
    begins = subst (λ n. Begins (take n b)) (sym long) (subst (λ bytes. Begins bytes) (sym (take-length b)) begins);
    longest = λ more. absurd (omega arith);
  },
)
  where
    no_tree : (t : Element) → Spells b t → ⊥
    no_tree t spelled =
        let found : ended_of st ≡ Some t = ap ended_of (is ∙ run_document spelled) in
        cc

pub finish_fault : (f : DocFault) (b : List ℕ) → FeedAnswer b (Err f) → FinishAnswer b (Err f)
finish_fault (fault.Malformed o) b (shallow, front, within) = (
  shallow,
  (λ t spelled. front.longest within (begins_from (take (suc o) b) (drop (suc o) b)
      ([], t, subst (λ bytes. Spells bytes t) (sym (append-nil (take (suc o) b ++ drop (suc o) b) ∙ take-append-drop (suc o) b)) spelled))),
  front,
)
finish_fault (fault.Deep o) b h = h
finish_fault fault.Memory b h = tt

-- a byte list spells at most one tree
pub one_tree : (b : List ℕ) (t u : Element) → Spells b t → Spells b u → t ≡ u
one_tree b t u first second =
    let same : state Between Whole [] (Some t) ≡ state Between Whole [] (Some u) = sym (run_document first) ∙ run_document second in
    cc
