-- Runs of plain bytes are that many steps.
use Rattle.std.proofs.Common.{true≢false, MatchBool, length-take-le, length-append, get_or, ◌≡◌, ℕ, suc, ◌+◌, ◌<◌, ◌≤◌, Bool, true, false, cond, List, [], ◌∷◌, ◌++◌, length, take, Option, None, refl, sym, ap, ◌∙◌, subst, append_assoc, append-nil, arith}
use Rattle.doc_model.specs.declared.tree.Element.{Element}
use Rattle.doc_tree.specs.declared.places.Quote.{Quote}
use Rattle.doc_tree.specs.declared.places.Dashes.{Dashes}
use Rattle.doc_tree.specs.declared.places.Dashes.TheVariants.{Neither}
use Rattle.doc_tree.specs.declared.places.Tag.{Tag}
use Rattle.doc_tree.specs.declared.places.Open.{Open}
use Rattle.doc_tree.specs.declared.places.Place.{Place}
use Rattle.doc_tree.specs.declared.places.Place.TheVariants.{Between, TagName, Key, Value, Close, CloseWhite, Target, Comment, Instruction}
use Rattle.doc_tree.specs.declared.places.Part.TheVariants.{Whole}
use Rattle.doc_tree.specs.Characters.{is_white, is_text, is_value, is_name_byte, is_comment_byte, is_instruction_byte}
use Rattle.doc_tree.specs.Machine.{state}
use Rattle.doc_tree.specs.Machine.{open_at, with_text}
use Rattle.doc_tree.specs.Fed.{HasReadBy, fault_of}
use Rattle.doc_tree.proofs.Classes.{ascii_step}
use Rattle.doc_tree.proofs.Answering.{byte_answer, within_limit}
use Rattle.doc_tree.proofs.Forward.{AtWhite}
use Rattle.doc_tree.proofs.Whole.{byte_of, close_step, close_white_more, outer_white}
use Rattle.doc_tree.specs.Characters.{all_bytes}

pub all_more : (ok : ℕ → Bool) (s : List ℕ) (c : ℕ) → all_bytes ok s ≡ true → ok c ≡ true → all_bytes ok (s ++ c ∷ []) ≡ true
all_more ok [] c h e = rw e refl
all_more ok (d ∷ s) c h e = pick (ok d) refl (all_more ok s c)
  where
    pick : (t : Bool) → ok d ≡ t → (all_bytes ok s ≡ true → ok c ≡ true → all_bytes ok (s ++ c ∷ []) ≡ true) → cond (ok d) (all_bytes ok (s ++ c ∷ [])) false ≡ true
    pick true is more =
        let rest : all_bytes ok s ≡ true = sym (ap (λ t. cond t (all_bytes ok s) false) is) ∙ h in
        rw is (more rest e)
    pick false is more = absurd (true≢false (sym h ∙ ap (λ t. cond t (all_bytes ok s) false) is))

all_first : (ok : ℕ → Bool) (c : ℕ) (s : List ℕ) → all_bytes ok (c ∷ s) ≡ true → (ok c ≡ true) × (all_bytes ok s ≡ true)
all_first ok c s h = pick (ok c) refl
  where
    pick : (t : Bool) → ok c ≡ t → (ok c ≡ true) × (all_bytes ok s ≡ true)
    pick true is = (is, sym (ap (λ t. cond t (all_bytes ok s) false) is) ∙ h)
    pick false is = absurd (true≢false (sym h ∙ ap (λ t. cond t (all_bytes ok s) false) is))

-- more bytes behind one
further : {p : Place} {os : List Open} {r : Option Element} (b s : List ℕ) (c count : ℕ) → HasReadBy None (state p Whole os r) (suc count + length s) ((b ++ c ∷ []) ++ s)
    → HasReadBy None (state p Whole os r) (count + length (c ∷ s)) (b ++ c ∷ s)
further {p} {os} {r} b s c count h =
    subst (λ bytes. HasReadBy None (state p Whole os r) (count + length (c ∷ s)) bytes) (append_assoc b (c ∷ []) s)
    (subst (λ n. HasReadBy None (state p Whole os r) n ((b ++ c ∷ []) ++ s)) (omega arith) h)

none_more : {p : Place} {os : List Open} {r : Option Element} (b : List ℕ) (count : ℕ) → HasReadBy None (state p Whole os r) count b → HasReadBy None (state p Whole os r) (count + 0) (b ++ [])
none_more {p} {os} {r} b count h =
    subst (λ bytes. HasReadBy None (state p Whole os r) (count + 0) bytes) (sym (append-nil b)) (subst (λ n. HasReadBy None (state p Whole os r) n b) (omega arith) h)

pub text_run : (s : List ℕ) (o : Open) (os : List Open) (r : Option Element) (count : ℕ) (b : List ℕ) → all_bytes is_text s ≡ true → HasReadBy None (state Between Whole (o ∷ os) r) count b
    → HasReadBy None (state Between Whole (with_text o s ∷ os) r) (count + length s) (b ++ s)
text_run [] o os r count b all h =
    subst (λ t. HasReadBy None (state Between Whole (open_at o.at o.name o.attributes o.children t ∷ os) r) (count + 0) (b ++ [])) (sym (append-nil o.text)) (none_more b count h)
text_run (c ∷ s) o os r count b all h =
    let (is, rest) = all_first is_text c s all in
    further b s c count
    (subst (λ t. HasReadBy None (state Between Whole (open_at o.at o.name o.attributes o.children t ∷ os) r) (suc count + length s) ((b ++ c ∷ []) ++ s)) (append_assoc o.text (c ∷ []) s)
    (text_run s (with_text o (c ∷ [])) os r (suc count) (b ++ c ∷ []) rest
    (byte_answer b c count (state Between Whole (o ∷ os) r) Between Whole (with_text o (c ∷ []) ∷ os) r h (sym (ascii_step Between (o ∷ os) r count c refl is)))))

pub value_run : (s : List ℕ) (t : Tag) (k : List ℕ) (q : Quote) (v : List ℕ) (os : List Open) (r : Option Element) (count : ℕ) (b : List ℕ) → all_bytes (is_value q) s ≡ true
    → HasReadBy None (state (Value t k q v) Whole os r) count b → HasReadBy None (state (Value t k q (v ++ s)) Whole os r) (count + length s) (b ++ s)
value_run [] t k q v os r count b all h =
    subst (λ w. HasReadBy None (state (Value t k q w) Whole os r) (count + 0) (b ++ [])) (sym (append-nil v)) (none_more b count h)
value_run (c ∷ s) t k q v os r count b all h =
    let (is, rest) = all_first (is_value q) c s all in
    further b s c count
    (subst (λ w. HasReadBy None (state (Value t k q w) Whole os r) (suc count + length s) ((b ++ c ∷ []) ++ s)) (append_assoc v (c ∷ []) s)
    (value_run s t k q (v ++ c ∷ []) os r (suc count) (b ++ c ∷ []) rest
    (byte_answer b c count (state (Value t k q v) Whole os r) (Value t k q (v ++ c ∷ [])) Whole os r h (sym (ascii_step (Value t k q v) os r count c refl is)))))

pub tag_name_run : (s : List ℕ) (from : ℕ) (n : List ℕ) (os : List Open) (r : Option Element) (count : ℕ) (b : List ℕ) → all_bytes is_name_byte s ≡ true
    → HasReadBy None (state (TagName from n) Whole os r) count b → HasReadBy None (state (TagName from (n ++ s)) Whole os r) (count + length s) (b ++ s)
tag_name_run [] from n os r count b all h =
    subst (λ m. HasReadBy None (state (TagName from m) Whole os r) (count + 0) (b ++ [])) (sym (append-nil n)) (none_more b count h)
tag_name_run (c ∷ s) from n os r count b all h =
    let (is, rest) = all_first is_name_byte c s all in
    let m = n ++ c ∷ [] in
    let fault : fault_of (TagName from m) Whole os count ≡ None = rw (within_limit b count from n os r h) refl in
    let behind = byte_answer b c count (state (TagName from n) Whole os r) (TagName from m) Whole os r h (sym (ascii_step (TagName from n) os r count c refl is)) in
    further b s c count
    (subst (λ w. HasReadBy None (state (TagName from w) Whole os r) (suc count + length s) ((b ++ c ∷ []) ++ s)) (append_assoc n (c ∷ []) s)
    (tag_name_run s from m os r (suc count) (b ++ c ∷ []) rest (subst (λ f. HasReadBy f (state (TagName from m) Whole os r) (suc count) (b ++ c ∷ [])) fault behind)))

pub key_run : (s : List ℕ) (t : Tag) (k : List ℕ) (os : List Open) (r : Option Element) (count : ℕ) (b : List ℕ) → all_bytes is_name_byte s ≡ true
    → HasReadBy None (state (Key t k) Whole os r) count b → HasReadBy None (state (Key t (k ++ s)) Whole os r) (count + length s) (b ++ s)
key_run [] t k os r count b all h =
    subst (λ m. HasReadBy None (state (Key t m) Whole os r) (count + 0) (b ++ [])) (sym (append-nil k)) (none_more b count h)
key_run (c ∷ s) t k os r count b all h =
    let (is, rest) = all_first is_name_byte c s all in
    further b s c count
    (subst (λ m. HasReadBy None (state (Key t m) Whole os r) (suc count + length s) ((b ++ c ∷ []) ++ s)) (append_assoc k (c ∷ []) s)
    (key_run s t (k ++ c ∷ []) os r (suc count) (b ++ c ∷ []) rest
    (byte_answer b c count (state (Key t k) Whole os r) (Key t (k ++ c ∷ [])) Whole os r h (sym (ascii_step (Key t k) os r count c refl is)))))

pub target_run : (s : List ℕ) (os : List Open) (r : Option Element) (count : ℕ) (b : List ℕ) → all_bytes is_name_byte s ≡ true → HasReadBy None (state Target Whole os r) count b
    → HasReadBy None (state Target Whole os r) (count + length s) (b ++ s)
target_run [] os r count b all h = none_more b count h
target_run (c ∷ s) os r count b all h =
    let (is, rest) = all_first is_name_byte c s all in
    further b s c count (target_run s os r (suc count) (b ++ c ∷ []) rest
    (byte_answer b c count (state Target Whole os r) Target Whole os r h (sym (ascii_step Target os r count c refl is))))

close_rest : (s done : List ℕ) (o : Open) (os : List Open) (r : Option Element) (count : ℕ) (b : List ℕ) → o.name ≡ done ++ s
    → HasReadBy None (state (Close (length done)) Whole (o ∷ os) r) count b → HasReadBy None (state (Close (length o.name)) Whole (o ∷ os) r) (count + length s) (b ++ s)
close_rest [] done o os r count b e h =
    subst (λ k. HasReadBy None (state (Close k) Whole (o ∷ os) r) (count + 0) (b ++ [])) (ap length (sym (e ∙ append-nil done))) (none_more b count h)
close_rest (c ∷ s) done o os r count b e h =
    let more = done ++ c ∷ [] in
    let within : length done < length o.name = omega (arith, ap length e, length-append done (c ∷ s)) in
    let is : c ≡ get_or o.name (length done) 0 = sym (ap (λ n. get_or n (length done) 0) e ∙ byte_of done s c) in
    let longer : suc (length done) ≡ length more = omega (arith, length-append done (c ∷ [])) in
    further b s c count (close_rest s more o os r (suc count) (b ++ c ∷ []) (e ∙ sym (append_assoc done (c ∷ []) s))
    (byte_answer b c count (state (Close (length done)) Whole (o ∷ os) r) (Close (length more)) Whole (o ∷ os) r h
    (sym (close_step (length done) o os r count c within is ∙ ap (λ n. state (Close n) Whole (o ∷ os) r) longer))))

pub close_run : (n : ℕ) (bytes : List ℕ) (os : List Open) (r : Option Element) (count : ℕ) (b : List ℕ) → ((o : Open) × (rest : List Open) × (os ≡ o ∷ rest) × (n ≡ length o.name) × (take n bytes ≡ o.name))
    → HasReadBy None (state (Close 0) Whole os r) count b → HasReadBy None (state (Close n) Whole os r) (count + n) (b ++ take n bytes)
close_run n bytes os r count b (o, rest, e, long, is) h =
    let behind : HasReadBy None (state (Close (length o.name)) Whole (o ∷ rest) r) (count + length o.name) (b ++ o.name) =
    close_rest o.name [] o rest r count b refl (subst (λ x. HasReadBy None (state (Close 0) Whole x r) count b) e h) in
    subst (λ x. HasReadBy None (state (Close n) Whole x r) (count + n) (b ++ take n bytes)) (sym e)
    (subst (λ s. HasReadBy None (state (Close n) Whole (o ∷ rest) r) (count + n) (b ++ s)) (sym is)
    (subst (λ m. HasReadBy None (state (Close m) Whole (o ∷ rest) r) (count + m) (b ++ o.name)) (sym long) behind))

comment_rest : (s : List ℕ) (os : List Open) (r : Option Element) (count : ℕ) (b : List ℕ) → all_bytes is_comment_byte s ≡ true → HasReadBy None (state (Comment Neither) Whole os r) count b
    → HasReadBy None (state (Comment Neither) Whole os r) (count + length s) (b ++ s)
comment_rest [] os r count b all h = none_more b count h
comment_rest (c ∷ s) os r count b all h =
    let (is, rest) = all_first is_comment_byte c s all in
    further b s c count (comment_rest s os r (suc count) (b ++ c ∷ []) rest
    (byte_answer b c count (state (Comment Neither) Whole os r) (Comment Neither) Whole os r h (sym (ascii_step (Comment Neither) os r count c refl is))))

pub comment_run : (s : List ℕ) (d : Dashes) (os : List Open) (r : Option Element) (count : ℕ) (b : List ℕ) → 0 < length s → all_bytes is_comment_byte s ≡ true → HasReadBy None (state (Comment d) Whole os r) count b
    → HasReadBy None (state (Comment Neither) Whole os r) (count + length s) (b ++ s)
comment_run [] d os r count b some all h = absurd (omega arith)
comment_run (c ∷ s) d os r count b some all h =
    let (is, rest) = all_first is_comment_byte c s all in
    further b s c count (comment_rest s os r (suc count) (b ++ c ∷ []) rest
    (byte_answer b c count (state (Comment d) Whole os r) (Comment Neither) Whole os r h (sym (ascii_step (Comment d) os r count c refl is))))

instruction_rest : (s : List ℕ) (os : List Open) (r : Option Element) (count : ℕ) (b : List ℕ) → all_bytes is_instruction_byte s ≡ true → HasReadBy None (state (Instruction false) Whole os r) count b
    → HasReadBy None (state (Instruction false) Whole os r) (count + length s) (b ++ s)
instruction_rest [] os r count b all h = none_more b count h
instruction_rest (c ∷ s) os r count b all h =
    let (is, rest) = all_first is_instruction_byte c s all in
    further b s c count (instruction_rest s os r (suc count) (b ++ c ∷ []) rest
    (byte_answer b c count (state (Instruction false) Whole os r) (Instruction false) Whole os r h (sym (ascii_step (Instruction false) os r count c refl is))))

pub instruction_run : (s : List ℕ) (e : Bool) (os : List Open) (r : Option Element) (count : ℕ) (b : List ℕ) → 0 < length s → all_bytes is_instruction_byte s ≡ true → HasReadBy None (state (Instruction e) Whole os r) count b
    → HasReadBy None (state (Instruction false) Whole os r) (count + length s) (b ++ s)
instruction_run [] e os r count b some all h = absurd (omega arith)
instruction_run (c ∷ s) e os r count b some all h =
    let (is, rest) = all_first is_instruction_byte c s all in
    further b s c count (instruction_rest s os r (suc count) (b ++ c ∷ []) rest
    (byte_answer b c count (state (Instruction e) Whole os r) (Instruction false) Whole os r h (sym (ascii_step (Instruction e) os r count c refl is))))

-- the same, as the code has them
pub many : (p : Place) (os : List Open) (r : Option Element) (count n : ℕ) (b bytes : List ℕ) → n ≤ length bytes → HasReadBy None (state p Whole os r) (count + length (take n bytes)) (b ++ take n bytes)
    → HasReadBy None (state p Whole os r) (count + n) (b ++ take n bytes)
many p os r count n b bytes within h = subst (λ m. HasReadBy None (state p Whole os r) (count + m) (b ++ take n bytes)) (length-take-le n bytes within) h

pub no_more : (p : Place) (os : List Open) (r : Option Element) (count : ℕ) (b : List ℕ) → HasReadBy None (state p Whole os r) count b → HasReadBy None (state p Whole os r) (count + 0) (b ++ [])
no_more p os r count b h = none_more b count h

pub length_more : (n : ℕ) (bytes : List ℕ) → n ≤ length bytes → 0 < n → 0 < length (take n bytes)
length_more n bytes within some = omega (arith, length-take-le n bytes within)

pub stand : (p : Place) (os : List Open) (r : Option Element) (count n : ℕ) (b bytes : List ℕ) → n ≤ 0 → HasReadBy None (state p Whole os r) count b
    → HasReadBy None (state p Whole os r) (count + n) (b ++ take n bytes)
stand p os r count n b bytes none h = subst (λ m. HasReadBy None (state p Whole os r) (count + m) (b ++ take m bytes)) (omega arith) (no_more p os r count b h)

pub moved : (p q : Place) (os ps : List Open) (r : Option Element) (count : ℕ) (b : List ℕ) → p ≡ q → os ≡ ps → HasReadBy None (state p Whole os r) count b → HasReadBy None (state q Whole ps r) count b
moved p q os ps r count b e1 e2 h = subst (λ x. HasReadBy None (state q Whole x r) count b) e2 (subst (λ x. HasReadBy None (state x Whole os r) count b) e1 h)

pub text_taken : (p : Place) (old new : List Open) (s : List ℕ) (empty added : Bool) → MatchBool empty (old ≡ []) ((o : Open) × (os : List Open) × (old ≡ o ∷ os)) → empty ≡ false
    → MatchBool added ((o : Open) × (os : List Open) × (old ≡ o ∷ os) × (new ≡ with_text o s ∷ os)) ((old ≡ []) × (new ≡ []))
    → p ≡ Between → all_bytes is_text s ≡ true → (r : Option Element) (count : ℕ) (b : List ℕ) → HasReadBy None (state p Whole old r) count b → HasReadBy None (state p Whole new r) (count + length s) (b ++ s)
text_taken p old new s empty true some e (o, os, e2, e3) e1 all r count b h =
    moved Between p (with_text o s ∷ os) new r (count + length s) (b ++ s) (sym e1) (sym e3) (text_run s o os r count b all (moved p Between old (o ∷ os) r count b e1 e2 h))
text_taken p old new s false false (o, os, e3) e (e2, _) e1 all r count b h = absurd cc
text_taken p old new s true false some e none e1 all r count b h = absurd (true≢false e)

-- white where it changes nothing
white_run : (s : List ℕ) (p : Place) (os : List Open) (r : Option Element) (count : ℕ) (b : List ℕ) → AtWhite (state p Whole os r) (state p Whole os r) → ((at : ℕ) → fault_of p Whole os at ≡ None)
    → all_bytes is_white s ≡ true → HasReadBy None (state p Whole os r) count b → HasReadBy None (state p Whole os r) (count + length s) (b ++ s)
white_run [] p os r count b stays quiet all h = none_more b count h
white_run (c ∷ s) p os r count b stays quiet all h =
    let (is, rest) = all_first is_white c s all in
    further b s c count (white_run s p os r (suc count) (b ++ c ∷ []) stays quiet rest
    (subst (λ f. HasReadBy f (state p Whole os r) (suc count) (b ++ c ∷ [])) (quiet count)
    (byte_answer b c count (state p Whole os r) p Whole os r h (sym (stays count c is)))))

pub white_taken : (p q : Place) (os : List Open) (r : Option Element) (count n : ℕ) (b bytes : List ℕ) → p ≡ q → AtWhite (state q Whole os r) (state q Whole os r) → ((at : ℕ) → fault_of q Whole os at ≡ None)
    → n ≤ length bytes → all_bytes is_white (take n bytes) ≡ true → HasReadBy None (state p Whole os r) count b → HasReadBy None (state p Whole os r) (count + n) (b ++ take n bytes)
white_taken p q os r count n b bytes e stays quiet within all h =
    many p os r count n b bytes within
    (moved q p os os r (count + length (take n bytes)) (b ++ take n bytes) (sym e) refl (white_run (take n bytes) q os r count b stays quiet all (moved p q os os r count b e refl h)))

pub outside_taken : (p : Place) (old : List Open) (empty : Bool) (n : ℕ) (bytes : List ℕ) → MatchBool empty (old ≡ []) ((o : Open) × (os : List Open) × (old ≡ o ∷ os)) → empty ≡ true → p ≡ Between
    → n ≤ length bytes → all_bytes is_white (take n bytes) ≡ true → (r : Option Element) (count : ℕ) (b : List ℕ) → HasReadBy None (state p Whole old r) count b → HasReadBy None (state p Whole old r) (count + n) (b ++ take n bytes)
outside_taken p old true n bytes none e1 e within all r count b h =
    moved p p [] old r (count + n) (b ++ take n bytes) refl (sym none)
    (white_taken p Between [] r count n b bytes e (outer_white r) (λ at. refl) within all (moved p p old [] r count b refl none h))
outside_taken p old false n bytes some e1 e within all r count b h = absurd (true≢false (sym e1))

pub end_white_taken : (os : List Open) (empty : Bool) (n : ℕ) (bytes : List ℕ) → MatchBool empty (os ≡ []) ((o : Open) × (rest : List Open) × (os ≡ o ∷ rest)) → empty ≡ false
    → n ≤ length bytes → all_bytes is_white (take n bytes) ≡ true → (r : Option Element) (count : ℕ) (b : List ℕ) → HasReadBy None (state CloseWhite Whole os r) count b
    → HasReadBy None (state CloseWhite Whole os r) (count + n) (b ++ take n bytes)
end_white_taken os false n bytes (o, rest, is) e within all r count b h =
    moved CloseWhite CloseWhite (o ∷ rest) os r (count + n) (b ++ take n bytes) refl (sym is)
    (white_taken CloseWhite CloseWhite (o ∷ rest) r count n b bytes refl (close_white_more o rest r) (λ at. refl) within all (moved CloseWhite CloseWhite os (o ∷ rest) r count b refl is h))
end_white_taken os true n bytes none e within all r count b h = absurd (true≢false e)
