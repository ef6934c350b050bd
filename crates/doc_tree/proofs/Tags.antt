-- How what was read of a tag, a name or a comment grows.
use Rattle.std.proofs.Common.{◌≡◌, ℕ, true, List, [], ◌∷◌, ◌++◌, length, Option, None, refl, sym, ap, ◌∙◌, subst, append_assoc, append-nil}
use Rattle.std.proofs.lemmas.Bool.{eqb-true}
use Rattle.doc_model.specs.declared.tree.Element.{Element}
use Rattle.doc_model.specs.declared.tree.Attribute.{Attribute}
use Rattle.doc_model.specs.Trees.{element_at}
use Rattle.doc_tree.specs.declared.places.Quote.{Quote}
use Rattle.doc_tree.specs.declared.places.Tag.{Tag}
use Rattle.doc_tree.specs.declared.places.Open.{Open}
use Rattle.doc_tree.specs.Characters.{is_white, quote_byte}
use Rattle.doc_tree.specs.Documents
use Rattle.doc_tree.specs.Documents.{is_fresh, IsWhite, IsBlank, IsName, IsValue, AreAttributes, IsCommentText, IsInstructionText, IsAside, IsElement, IsContent}
use Rattle.doc_tree.specs.Machine.{opened, closed, element_of, empty_element, with_attribute, after_tag, after_end, open_at}
use Rattle.doc_tree.proofs.Stems.{Stem, group, stem_child, stem_root}
use Rattle.doc_tree.proofs.Past.{Behind, BehindTag, Reads}

pub blank_more : {w : List ℕ} (c : ℕ) → IsWhite w → is_white c ≡ true → IsBlank (w ++ c ∷ [])
blank_more c Documents.IsWhite.nothing h = Documents.IsBlank.one c h
blank_more c (Documents.IsWhite.more d w before) h = Documents.IsBlank.more c (blank_more d w before) h

pub blank_white : {w : List ℕ} → IsBlank w → IsWhite w
blank_white (Documents.IsBlank.one c h) = Documents.IsWhite.more c Documents.IsWhite.nothing h
blank_white (Documents.IsBlank.more c w h) = Documents.IsWhite.more c (blank_white w) h

abbrev pub lengthen : {y b : List ℕ} {os : List Open} {r : Option Element} → Behind y os r b → (z : List ℕ) → Behind (y ++ z) os r (b ++ z)
lengthen {y = y} h z = record { stem = h.stem; whole = h.whole; is = ap (λ x. x ++ z) h.is ∙ append_assoc h.stem y z }

abbrev pub lengthen_to : {y b : List ℕ} {os : List Open} {r : Option Element} → Behind y os r b → (z x : List ℕ) → y ++ z ≡ x → Behind x os r (b ++ z)
lengthen_to {y = y} h z x e = record { stem = h.stem; whole = h.whole; is = ap (λ x. x ++ z) h.is ∙ append_assoc h.stem y z ∙ ap (λ end. h.stem ++ end) e }

pub regroup_tag : (p n a y z : List ℕ) → (p ++ (60 ∷ n ++ a ++ y)) ++ z ≡ p ++ (60 ∷ n ++ a ++ (y ++ z))
regroup_tag p n a y z = simp append_assoc

abbrev pub lengthen_tag : {y b : List ℕ} {t : Tag} {os : List Open} {r : Option Element} → BehindTag t y os r b → (z x : List ℕ) → y ++ z ≡ x → BehindTag t x os r (b ++ z)
lengthen_tag {y = y} {t = t} h z x e = record {
  stem = h.stem;
  attributes = h.attributes;
  whole = h.whole;
  begun = h.begun;
  name = h.name;
  spelled = h.spelled;
  place = h.place;
  is = ap (λ x. x ++ z) h.is ∙ regroup_tag h.stem t.name h.attributes y z ∙ ap (λ end. h.stem ++ (60 ∷ t.name ++ h.attributes ++ end)) e;
}

-- an attribute has ended
pub regroup_attribute : (n a w k u x s : List ℕ) (c : ℕ) → 60 ∷ n ++ a ++ (w ++ k ++ u ++ 61 ∷ x ++ c ∷ s ++ c ∷ []) ≡ 60 ∷ n ++ (a ++ w ++ k ++ u ++ 61 ∷ x ++ c ∷ s ++ c ∷ []) ++ []
regroup_attribute n a w k u x s c =
    let inner : n ++ a ++ (w ++ k ++ u ++ 61 ∷ x ++ c ∷ s ++ c ∷ []) ≡ n ++ (a ++ w ++ k ++ u ++ 61 ∷ x ++ c ∷ s ++ c ∷ []) = simp append_assoc in
    ap (λ (y : List ℕ). 60 ∷ y) inner ∙ sym (append-nil (60 ∷ n ++ (a ++ w ++ k ++ u ++ 61 ∷ x ++ c ∷ s ++ c ∷ [])))

pub end_attribute : (q : Quote) {b w k u x s v : List ℕ} {t : Tag} {os : List Open} {r : Option Element} → IsBlank w → IsName k → is_fresh k t.attributes ≡ true → IsWhite u → IsWhite x → IsValue q s v
    → BehindTag t (w ++ k ++ u ++ 61 ∷ x ++ quote_byte q ∷ s) os r b → BehindTag (with_attribute t k v) [] os r (b ++ quote_byte q ∷ [])
end_attribute q {b} {w} {k} {u} {x} {s} {v} {t} blank name fresh white_before white_behind value h =
    let longer = lengthen_tag h (quote_byte q ∷ []) (w ++ k ++ u ++ 61 ∷ x ++ quote_byte q ∷ s ++ quote_byte q ∷ []) refl in
    record {
      stem = h.stem;
      attributes = h.attributes ++ w ++ k ++ u ++ 61 ∷ x ++ quote_byte q ∷ s ++ quote_byte q ∷ [];
      whole = h.whole;
      begun = h.begun;
      name = h.name;
      spelled = Documents.AreAttributes.more q h.spelled blank name fresh white_before white_behind value;
      place = h.place;
      is = longer.is ∙ ap (λ end. h.stem ++ end) (regroup_attribute t.name h.attributes w k u x s (quote_byte q));
    }

-- a start tag has ended, with content to follow or without
stem_at : {b c : List ℕ} {os : List Open} {r : Option Element} → b ≡ c → r ≡ None → Stem c os None → Stem b os r
stem_at {c = c} {os = os} {r = r} is begun whole = subst (λ bytes. Stem bytes os r) (sym is) (subst (λ root. Stem c os root) (sym begun) whole)

reads_at : {b c : List ℕ} {r : Option Element} (k : Element) (os : List Open) → b ≡ c → r ≡ None → Reads (closed k os None) c → Reads (closed k os r) b
reads_at {c = c} {r = r} k os is begun whole = subst (λ bytes. Reads (closed k os r) bytes) (sym is) (subst (λ root. Reads (closed k os root) c) (sym begun) whole)

opened_at : (at : ℕ) {p n a w : List ℕ} {os : List Open} {ats : List Attribute} → at ≡ length p → Stem p os None → IsName n → AreAttributes a ats → IsWhite w
    → Stem (p ++ (60 ∷ n ++ a ++ (w ++ 62 ∷ []))) (open_at at n ats [] [] ∷ os) None
opened_at at {p} {n} {a} {w} {os} {ats} place whole name spelled white =
    subst (λ bytes. Stem (p ++ bytes) (open_at at n ats [] [] ∷ os) None) (append_assoc (60 ∷ n ++ a) w (62 ∷ []))
    (subst (λ from. Stem (p ++ (60 ∷ n ++ a ++ w ++ 62 ∷ [])) (open_at from n ats [] [] ∷ os) None) (sym place) (group whole name spelled white (Documents.IsContent.nothing _)))

empty_at : (at : ℕ) (p : List ℕ) {n a w : List ℕ} {ats : List Attribute} → at ≡ length p → IsName n → AreAttributes a ats → IsWhite w
    → IsElement (length p) (60 ∷ n ++ a ++ (w ++ 47 ∷ 62 ∷ [])) (element_at at n ats [] [])
empty_at at p {n} {a} {w} {ats} place name spelled white =
    subst (λ bytes. IsElement (length p) bytes (element_at at n ats [] [])) (append_assoc (60 ∷ n ++ a) w (47 ∷ 62 ∷ []))
    (subst (λ from. IsElement (length p) (60 ∷ n ++ a ++ w ++ 47 ∷ 62 ∷ []) (element_at from n ats [] [])) (sym place) (Documents.IsElement.empty (length p) name spelled white))

pub child_closed : {b e : List ℕ} {k : Element} (os : List Open) → Stem b os None → IsElement (length b) e k → Reads (closed k os None) (b ++ e)
child_closed [] whole h = stem_root whole h
child_closed (o ∷ os) whole h = stem_child whole h

pub tag_opened : {w b : List ℕ} (t : Tag) {os : List Open} {r : Option Element} → BehindTag t w os r b → IsWhite w → Reads (opened t os r) (b ++ 62 ∷ [])
tag_opened {w = w} t h white =
    stem_at (lengthen_tag h (62 ∷ []) (w ++ 62 ∷ []) refl).is h.begun (opened_at t.at h.place h.whole h.name h.spelled white)

pub tag_closed : {w b : List ℕ} (t : Tag) {os : List Open} {r : Option Element} → BehindTag t (w ++ 47 ∷ []) os r b → IsWhite w → Reads (closed (empty_element t) os r) (b ++ 62 ∷ [])
tag_closed {w = w} t {os = os} h white =
    reads_at (empty_element t) os (lengthen_tag h (62 ∷ []) (w ++ 47 ∷ 62 ∷ []) (append_assoc w (47 ∷ []) (62 ∷ []))).is h.begun
    (child_closed os h.whole (empty_at t.at h.stem h.place h.name h.spelled white))

-- an end tag has ended
regroup_end : (p n a w c u : List ℕ) → (p ++ (60 ∷ n ++ a ++ w ++ 62 ∷ c)) ++ (60 ∷ 47 ∷ n ++ u ++ 62 ∷ []) ≡ p ++ (60 ∷ n ++ a ++ w ++ 62 ∷ c ++ 60 ∷ 47 ∷ n ++ u ++ 62 ∷ [])
regroup_end p n a w c u = simp append_assoc

pub end_closed : {b u : List ℕ} {o : Open} {os : List Open} {r : Option Element} → Stem b (o ∷ os) r → IsWhite u → Reads (closed (element_of o) os r) (b ++ (60 ∷ 47 ∷ o.name ++ u ++ 62 ∷ []))
end_closed {u = u} {os = below} (group {p} {n} {a} {w} {c} whole name spelled white content) behind =
    reads_at _ below (regroup_end p n a w c u) refl (child_closed below whole (Documents.IsElement.full (length p) name spelled white content behind))

-- bytes behind a tag or an end tag's name
pub tag_next : {w b : List ℕ} (t : Tag) {os : List Open} {r : Option Element} (c : ℕ) → BehindTag t w os r b → IsWhite w → Reads (after_tag t os r (length b) c) (b ++ c ∷ [])
tag_next {w = w} {b = b} t {os = os} {r = r} c h white = (
  λ is. (w ++ c ∷ [], blank_more c white is, lengthen_tag h (c ∷ []) (w ++ c ∷ []) refl),
  λ _. (
    λ is. subst (λ d. Reads (opened t os r) (b ++ d ∷ [])) (sym (eqb-true c 62 is)) (tag_opened t h white),
    λ _. (
      λ is. (w, white, subst (λ d. BehindTag t (w ++ 47 ∷ []) os r (b ++ d ∷ [])) (sym (eqb-true c 47 is)) (lengthen_tag h (47 ∷ []) (w ++ 47 ∷ []) refl)),
      λ is. tt,
    ),
  ),
)

pub end_next : {u b : List ℕ} {o : Open} {os : List Open} {r : Option Element} (c : ℕ) → Behind (60 ∷ 47 ∷ o.name ++ u) (o ∷ os) r b → IsWhite u → Reads (after_end o os r (length b) c) (b ++ c ∷ [])
end_next {u = u} {b = b} {o = o} {os = os} {r = r} c h white = (
  λ is. (u ++ c ∷ [], Documents.IsWhite.more c white is, lengthen_to h (c ∷ []) (60 ∷ 47 ∷ o.name ++ (u ++ c ∷ [])) (append_assoc (60 ∷ 47 ∷ o.name) u (c ∷ []))),
  λ _. (
    λ is. subst (λ d. Reads (closed (element_of o) os r) (b ++ d ∷ [])) (sym (eqb-true c 62 is))
        (subst (λ bytes. Reads (closed (element_of o) os r) bytes) (sym (lengthen_to h (62 ∷ []) (60 ∷ 47 ∷ o.name ++ u ++ 62 ∷ []) refl).is) (end_closed h.whole white)),
    λ is. tt,
  ),
)
