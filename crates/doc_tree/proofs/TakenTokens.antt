-- Tags and attributes that lie whole in the bytes at hand are that many steps.
use Rattle.std.proofs.Common.{◌≡◌, ℕ, suc, ◌+◌, ◌-◌, ◌<◌, true, false, List, [], ◌∷◌, ◌++◌, length, take, drop, get_or, IfOk, Result, Ok, Err, Option, None, refl, sym, ap, ◌∙◌, subst, append_assoc, arith, length-take-le, length-drop, take-add, nat_eq}
use Rattle.std.proofs.lemmas.List.{take_more}
use Rattle.std.proofs.Math.Seq.{take-length}
use Rattle.doc_model.specs.declared.tree.Element.{Element}
use Rattle.doc_tree.specs.declared.places.Quote.TheVariants.{Double}
use Rattle.doc_tree.specs.declared.places.Tag.{Tag}
use Rattle.doc_tree.specs.declared.places.Open.{Open}
use Rattle.doc_tree.specs.declared.places.Place.{Place}
use Rattle.doc_tree.specs.declared.places.Place.TheVariants.{Between, Less, TagName, Blank, Key, Equals, Value, Attributed, Close}
use Rattle.doc_tree.specs.declared.places.Part.TheVariants.{Whole}
use Rattle.doc_tree.specs.Characters.{all_bytes, is_lead, is_white, is_name_start, is_name_byte}
use Rattle.doc_tree.specs.Documents.{is_fresh}
use Rattle.doc_tree.specs.Machine.{State, state, chosen, next, tag, open_at, with_attribute, closed, element_of}
use Rattle.doc_tree.specs.Fed.{HasReadBy, fault_of}
use Rattle.doc_tree.specs.Tokens.{IsStart, IsEnd, IsPair}
use Rattle.doc_tree.proofs.Answering.{byte_answer}
use Rattle.doc_tree.proofs.Classes.{ascii_step}
use Rattle.doc_tree.proofs.Forward.{less_step, held_greater, held_white, key_equals, equals_quote, value_quote}
use Rattle.doc_tree.proofs.TakenRuns.{tag_name_run, key_run, value_run, close_run}
use Rattle.doc_tree.proofs.Whole.{close_greater}

-- what is said of an answer that is no error
pub if_ok : {A E : Type 0} (r : Result A E) (P Q : A → Type 0) → ((x : A) → P x → Q x) → IfOk r P → IfOk r Q
if_ok (Ok x) P Q f h = f x h
if_ok (Err e) P Q f h = h

-- parts of lists
pub slice_end : (n : ℕ) (bytes : List ℕ) → take (length bytes - n) (drop n bytes) ≡ drop n bytes
slice_end n bytes = ap (λ (k : ℕ). take k (drop n bytes)) (sym (length-drop n bytes)) ∙ take-length (drop n bytes)

front : (n : ℕ) (bytes : List ℕ) → n + 2 < length bytes → take (suc (suc (suc n))) bytes ≡ get_or bytes 0 0 ∷ get_or bytes 1 0 ∷ take n (drop 2 bytes) ++ get_or bytes (n + 2) 0 ∷ []
front n [] h = absurd (omega (arith, h))
front n (x ∷ []) h = absurd (omega (arith, h))
front n (x ∷ c ∷ rest) h =
    let within : n < length rest = omega (arith, h) in
    let longer : suc n ≡ n + 1 = omega arith in
    let place : n + 2 ≡ suc (suc n) = omega arith in
    ap (λ s. x ∷ c ∷ s) (ap (λ k. take k rest) longer ∙ take_more rest n 0 within)
    ∙ ap (λ k. x ∷ c ∷ take n rest ++ get_or (x ∷ c ∷ rest) k 0 ∷ []) (sym place)

pub front_name : (n : ℕ) (bytes : List ℕ) → n + 2 < length bytes → take (n + 2 - 1) (drop 1 bytes) ≡ get_or bytes 1 0 ∷ take n (drop 2 bytes)
front_name n [] h = absurd (omega (arith, h))
front_name n (x ∷ []) h = absurd (omega (arith, h))
front_name n (x ∷ c ∷ rest) h =
    let longer : n + 2 - 1 ≡ suc n = omega arith in
    ap (λ k. take k (c ∷ rest)) longer

regroup : (b s : List ℕ) (x c d : ℕ) → (((b ++ x ∷ []) ++ c ∷ []) ++ s) ++ d ∷ [] ≡ b ++ (x ∷ c ∷ s ++ d ∷ [])
regroup b s x c d =
    ap (λ z. (z ++ s) ++ d ∷ []) (append_assoc b (x ∷ []) (c ∷ [])) ∙ ap (λ z. z ++ d ∷ []) (append_assoc b (x ∷ c ∷ []) s) ∙ append_assoc b (x ∷ c ∷ s) (d ∷ [])

-- what was read one by one is the front of the bytes
fronted : (p : Place) (os : List Open) (r : Option Element) (n at : ℕ) (b bytes : List ℕ) (x c d : ℕ) → n + 2 < length bytes → get_or bytes 0 0 ≡ x → get_or bytes 1 0 ≡ c → get_or bytes (n + 2) 0 ≡ d
    → HasReadBy None (state p Whole os r) (suc (suc (suc at) + length (take n (drop 2 bytes)))) ((((b ++ x ∷ []) ++ c ∷ []) ++ take n (drop 2 bytes)) ++ d ∷ [])
    → HasReadBy None (state p Whole os r) (at + (n + 3)) (b ++ take (n + 3) bytes)
fronted p os r n at b bytes x c d within ex ec ed h =
    let long : length (take n (drop 2 bytes)) ≡ n = length-take-le n (drop 2 bytes) (omega (arith, length-drop 2 bytes, within)) in
    let count : suc (suc (suc at) + length (take n (drop 2 bytes))) ≡ at + (n + 3) = omega (arith, long) in
    let three : suc (suc (suc n)) ≡ n + 3 = omega arith in
    let same : ((((b ++ x ∷ []) ++ c ∷ []) ++ take n (drop 2 bytes)) ++ d ∷ []) ≡ b ++ take (n + 3) bytes =
    regroup b (take n (drop 2 bytes)) x c d
    ∙ ap (λ y. b ++ (y ∷ c ∷ take n (drop 2 bytes) ++ d ∷ [])) (sym ex)
    ∙ ap (λ y. b ++ (get_or bytes 0 0 ∷ y ∷ take n (drop 2 bytes) ++ d ∷ [])) (sym ec)
    ∙ ap (λ y. b ++ (get_or bytes 0 0 ∷ get_or bytes 1 0 ∷ take n (drop 2 bytes) ++ y ∷ [])) (sym ed)
    ∙ ap (λ s. b ++ s) (sym (front n bytes within)) ∙ ap (λ k. b ++ take k bytes) three in
    subst (λ s. HasReadBy None (state p Whole os r) (at + (n + 3)) s) same
    (subst (λ k. HasReadBy None (state p Whole os r) k ((((b ++ x ∷ []) ++ c ∷ []) ++ take n (drop 2 bytes)) ++ d ∷ [])) count h)

-- start tags
named : (s : List ℕ) (c at : ℕ) (os : List Open) (b : List ℕ) → is_name_start c ≡ true → all_bytes is_name_byte s ≡ true → nat_eq (length os) 256 ≡ false → HasReadBy None (state Between Whole os None) at b
    → HasReadBy None (state (TagName at (c ∷ s)) Whole os None) (suc (suc at) + length s) (((b ++ 60 ∷ []) ++ c ∷ []) ++ s)
named s c at os b first all shallow h =
    let less = byte_answer b 60 at (state Between Whole os None) (Less at) Whole os None h (sym (less_step os None at)) in
    let begun = byte_answer (b ++ 60 ∷ []) c (suc at) (state (Less at) Whole os None) (TagName at (c ∷ [])) Whole os None less (sym (ascii_step (Less at) os None (suc at) c refl first)) in
    let fault : fault_of (TagName at (c ∷ [])) Whole os (suc at) ≡ None = rw shallow refl in
    tag_name_run s at (c ∷ []) os None (suc (suc at)) ((b ++ 60 ∷ []) ++ c ∷ []) all
    (subst (λ f. HasReadBy f (state (TagName at (c ∷ [])) Whole os None) (suc (suc at)) ((b ++ 60 ∷ []) ++ c ∷ [])) fault begun)

pub start_greater : (n at : ℕ) (os : List Open) (b bytes : List ℕ) → IsStart n bytes → get_or bytes (n + 2) 0 ≡ 62 → nat_eq (length os) 256 ≡ false → HasReadBy None (state Between Whole os None) at b
    → HasReadBy None (state Between Whole (open_at at (get_or bytes 1 0 ∷ take n (drop 2 bytes)) [] [] [] ∷ os) None) (at + (n + 3)) (b ++ take (n + 3) bytes)
start_greater n at os b bytes is greater shallow h =
    let c = get_or bytes 1 0 in
    let s = take n (drop 2 bytes) in
    let name = named s c at os b is.first is.more shallow h in
    let os_new = open_at at (c ∷ s) [] [] [] ∷ os in
    fronted Between os_new None n at b bytes 60 c 62 is.within is.less refl greater
    (byte_answer (((b ++ 60 ∷ []) ++ c ∷ []) ++ s) 62 (suc (suc at) + length s) (state (TagName at (c ∷ s)) Whole os None) Between Whole os_new None name (sym (held_greater at (c ∷ s) [] os None (suc (suc at) + length s))))

pub start_white : (n at d : ℕ) (os : List Open) (b bytes : List ℕ) → IsStart n bytes → get_or bytes (n + 2) 0 ≡ d → is_white d ≡ true → nat_eq (length os) 256 ≡ false → HasReadBy None (state Between Whole os None) at b
    → HasReadBy None (state (Blank (tag at (get_or bytes 1 0 ∷ take n (drop 2 bytes)) [])) Whole os None) (at + (n + 3)) (b ++ take (n + 3) bytes)
start_white n at d os b bytes is behind white shallow h =
    let c = get_or bytes 1 0 in
    let s = take n (drop 2 bytes) in
    let name = named s c at os b is.first is.more shallow h in
    fronted (Blank (tag at (c ∷ s) [])) os None n at b bytes 60 c d is.within is.less refl behind
    (byte_answer (((b ++ 60 ∷ []) ++ c ∷ []) ++ s) d (suc (suc at) + length s) (state (TagName at (c ∷ s)) Whole os None) (Blank (tag at (c ∷ s) [])) Whole os None name (sym (held_white at (c ∷ s) [] os None (suc (suc at) + length s) d white)))

-- end tags
slash_step : (from at : ℕ) (o : Open) (os : List Open) (r : Option Element) → next (state (Less from) Whole (o ∷ os) r) at 47 ≡ state (Close 0) Whole (o ∷ os) r
unfolding is_lead is_name_start
slash_step from at o os r = refl

pub end_taken : (n at : ℕ) (o : Open) (os new : List Open) (r back : Option Element) (b bytes : List ℕ) → n + 2 < length bytes → get_or bytes 0 0 ≡ 60 → get_or bytes 1 0 ≡ 47 → n ≡ length o.name → take n (drop 2 bytes) ≡ o.name
    → get_or bytes (n + 2) 0 ≡ 62 → state Between Whole new back ≡ chosen (closed (element_of o) os r) → HasReadBy None (state Between Whole (o ∷ os) r) at b
    → HasReadBy None (state Between Whole new back) (at + (n + 3)) (b ++ take (n + 3) bytes)
end_taken n at o os new r back b bytes within ex ec long name ed to h =
    let s = take n (drop 2 bytes) in
    let less = byte_answer b 60 at (state Between Whole (o ∷ os) r) (Less at) Whole (o ∷ os) r h (sym (less_step (o ∷ os) r at)) in
    let slash = byte_answer (b ++ 60 ∷ []) 47 (suc at) (state (Less at) Whole (o ∷ os) r) (Close 0) Whole (o ∷ os) r less (sym (slash_step at (suc at) o os r)) in
    let run = close_run n (drop 2 bytes) (o ∷ os) r (suc (suc at)) ((b ++ 60 ∷ []) ++ 47 ∷ []) (o, os, refl, long, name) slash in
    let taken : length s ≡ n = length-take-le n (drop 2 bytes) (omega (arith, length-drop 2 bytes, within)) in
    let counted : HasReadBy None (state (Close n) Whole (o ∷ os) r) (suc (suc at) + length s) (((b ++ 60 ∷ []) ++ 47 ∷ []) ++ s) =
    subst (λ m. HasReadBy None (state (Close n) Whole (o ∷ os) r) (suc (suc at) + m) (((b ++ 60 ∷ []) ++ 47 ∷ []) ++ s)) (sym taken) run in
    let step : state Between Whole new back ≡ next (state (Close n) Whole (o ∷ os) r) (suc (suc at) + length s) 62 =
    to ∙ sym (ap (λ m. next (state (Close m) Whole (o ∷ os) r) (suc (suc at) + length s) 62) long ∙ close_greater o os r (suc (suc at) + length s)) in
    fronted Between new back n at b bytes 60 47 62 within ex ec ed
    (byte_answer (((b ++ 60 ∷ []) ++ 47 ∷ []) ++ s) 62 (suc (suc at) + length s) (state (Close n) Whole (o ∷ os) r) Between Whole new back counted step)

-- attributes
key_front : (n : ℕ) (bytes : List ℕ) → n < length bytes → take (n + 1) bytes ≡ get_or bytes 0 0 ∷ take n (drop 1 bytes)
key_front n [] h = absurd (omega (arith, h))
key_front n (x ∷ rest) h =
    let longer : n + 1 ≡ suc n = omega arith in
    ap (λ k. take k (x ∷ rest)) longer

next_byte : (i j at : ℕ) (st : State) (p : Place) (os : List Open) (r : Option Element) (d : ℕ) (b bytes : List ℕ) → i < length bytes → j ≡ i + 1 → get_or bytes i 0 ≡ d → state p Whole os r ≡ next st (at + i) d
    → fault_of p Whole os (at + i) ≡ None → HasReadBy None st (at + i) (b ++ take i bytes) → HasReadBy None (state p Whole os r) (at + j) (b ++ take j bytes)
next_byte i j at st p os r d b bytes within one is to fault h =
    let same : (b ++ take i bytes) ++ d ∷ [] ≡ b ++ take j bytes =
    ap (λ x. (b ++ take i bytes) ++ x ∷ []) (sym is) ∙ append_assoc b (take i bytes) (get_or bytes i 0 ∷ []) ∙ ap (λ s. b ++ s) (sym (take_more bytes i 0 within)) ∙ ap (λ k. b ++ take k bytes) (sym one) in
    subst (λ s. HasReadBy None (state p Whole os r) (at + j) s) same
    (subst (λ k. HasReadBy None (state p Whole os r) k ((b ++ take i bytes) ++ d ∷ [])) (omega (arith, one))
    (subst (λ f. HasReadBy f (state p Whole os r) (suc (at + i)) ((b ++ take i bytes) ++ d ∷ [])) fault
    (byte_answer (b ++ take i bytes) d (at + i) st p Whole os r h to)))

pub attribute_taken : (n m at : ℕ) (t : Tag) (os : List Open) (r : Option Element) (b bytes : List ℕ) → IsPair n m bytes → is_fresh (take (n + 1) bytes) t.attributes ≡ true → HasReadBy None (state (Blank t) Whole os r) at b
    → HasReadBy None (state (Attributed (with_attribute t (take (n + 1) bytes) (take m (drop (n + 3) bytes)))) Whole os r) (at + (n + 4 + m)) (b ++ take (n + 4 + m) bytes)
attribute_taken n m at t os r b bytes is fresh h =
    let c = get_or bytes 0 0 in
    let s = take n (drop 1 bytes) in
    let k = take (n + 1) bytes in
    let v = take m (drop (n + 3) bytes) in
    let within = is.within in
    let named : k ≡ c ∷ s = key_front n bytes (omega (arith, within)) in
    let long_s : length s ≡ n = length-take-le n (drop 1 bytes) (omega (arith, length-drop 1 bytes, within)) in
    let long_v : length v ≡ m = length-take-le m (drop (n + 3) bytes) (omega (arith, length-drop (n + 3) bytes, within)) in
    let begun = byte_answer b c at (state (Blank t) Whole os r) (Key t (c ∷ [])) Whole os r h (sym (ascii_step (Blank t) os r at c refl is.first)) in
    let run = key_run s t (c ∷ []) os r (suc at) (b ++ c ∷ []) is.more begun in
    let key : HasReadBy None (state (Key t k) Whole os r) (at + (n + 1)) (b ++ k) =
    subst (λ x. HasReadBy None (state (Key t x) Whole os r) (at + (n + 1)) (b ++ x)) (sym named)
    (subst (λ x. HasReadBy None (state (Key t (c ∷ s)) Whole os r) (at + (n + 1)) x) (append_assoc b (c ∷ []) s)
    (subst (λ i. HasReadBy None (state (Key t (c ∷ s)) Whole os r) i ((b ++ c ∷ []) ++ s)) (omega (arith, long_s)) run)) in
    let equals = next_byte (n + 1) (n + 2) at (state (Key t k) Whole os r) (Equals t k) os r 61 b bytes (omega (arith, within)) (omega arith) is.equals (sym (key_equals t k os r (at + (n + 1)) fresh)) refl key in
    let quoted = next_byte (n + 2) (n + 3) at (state (Equals t k) Whole os r) (Value t k Double []) os r 34 b bytes (omega (arith, within)) (omega arith) is.opening (sym (equals_quote Double t k os r (at + (n + 2)))) refl equals in
    let value = value_run v t k Double [] os r (at + (n + 3)) (b ++ take (n + 3) bytes) is.value quoted in
    let valued : HasReadBy None (state (Value t k Double v) Whole os r) (at + (n + 3 + m)) (b ++ take (n + 3 + m) bytes) =
    subst (λ x. HasReadBy None (state (Value t k Double v) Whole os r) (at + (n + 3 + m)) x) (append_assoc b (take (n + 3) bytes) v ∙ ap (λ x. b ++ x) (sym (take-add (n + 3) m bytes)))
    (subst (λ i. HasReadBy None (state (Value t k Double v) Whole os r) i ((b ++ take (n + 3) bytes) ++ v)) (omega (arith, long_v)) value) in
    next_byte (n + 3 + m) (n + 4 + m) at (state (Value t k Double v) Whole os r) (Attributed (with_attribute t k v)) os r 34 b bytes within (omega arith) is.closing (sym (value_quote Double t k v os r (at + (n + 3 + m)))) refl valued

pub end_token : (n at : ℕ) (opens : List Open) (inner : Open) (os new : List Open) (r back : Option Element) (b bytes : List ℕ) → IsEnd n opens bytes → opens ≡ inner ∷ os
    → state Between Whole new back ≡ chosen (closed (element_of inner) os r) → HasReadBy None (state Between Whole opens r) at b → HasReadBy None (state Between Whole new back) (at + (n + 3)) (b ++ take (n + 3) bytes)
end_token n at opens inner os new r back b bytes is e to h = innermost is.name
  where
    innermost : ((o : Open) × (rest : List Open) × (opens ≡ o ∷ rest) × (n ≡ length o.name) × (take n (drop 2 bytes) ≡ o.name)) → HasReadBy None (state Between Whole new back) (at + (n + 3)) (b ++ take (n + 3) bytes)
    innermost (o, rest, first, long, name) =
        let joined : o ∷ rest ≡ inner ∷ os = sym first ∙ e in
        let same : o ≡ inner = cc in
        end_taken n at inner os new r back b bytes is.within is.less is.slash (long ∙ ap (λ (x : Open). length x.name) same) (name ∙ ap (λ (x : Open). x.name) same) is.greater to
        (subst (λ x. HasReadBy None (state Between Whole x r) at b) e h)
