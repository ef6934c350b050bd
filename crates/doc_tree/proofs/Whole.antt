-- What a whole document leads to.
use Rattle.std.proofs.Common.{◌≡◌, ℕ, suc, ◌+◌, ◌<◌, Bool, true, false, cond, List, [], ◌∷◌, ◌++◌, length, length-append, get_or, Option, Some, None, refl, sym, ap, ◌∙◌, subst, append_assoc, append-nil, arith, nat_lt}
use Rattle.std.proofs.lemmas.Bool.Decides.{nat_tests}
use Rattle.doc_model.specs.declared.tree.Element.{Element}
use Rattle.doc_tree.specs.declared.places.Open.{Open}
use Rattle.doc_tree.specs.declared.places.Place.TheVariants.{Between, Blank, Close, CloseWhite}
use Rattle.doc_tree.specs.declared.places.Part.TheVariants.{Whole}
use Rattle.doc_tree.specs.Characters.{is_white, is_name_start, is_lead}
use Rattle.doc_tree.specs.Documents
use Rattle.doc_tree.specs.Documents.{is_fresh, IsWhite, IsBlank, IsName, IsValue, AreAttributes, IsCommentText, IsInstructionText, IsAside, IsElement, IsContent}
use Rattle.doc_tree.specs.Machine.{State, state, chosen, tag, step_at, next, run}
use Rattle.doc_model.specs.declared.tree.Attribute.{Attribute}
use Rattle.doc_tree.specs.Documents.{AreExtras, IsProlog, Spells, shown}
use Rattle.doc_tree.specs.Machine.{closed, element_of, start, open_at}
use Rattle.doc_tree.proofs.Classes.{white_not_lead, run_character, run_reference, then_run}
use Rattle.doc_tree.proofs.Forward.{AtWhite, held, over_white, held_white, blank_white, held_greater, blank_greater, held_empty, blank_empty, run_tag_name, run_attributes, run_aside, less_step}
use Rattle.std.proofs.lemmas.Bool.{eq-eqb}

-- end tags: a name is compared byte by byte
pub cond_same : (t : Bool) (x : State) → cond t x x ≡ x
cond_same true x = refl
cond_same false x = refl

pub byte_of : (done rest : List ℕ) (c : ℕ) → get_or (done ++ c ∷ rest) (length done) 0 ≡ c
byte_of [] rest c = refl
byte_of (d ∷ done) rest c = byte_of done rest c

pub close_step : (k : ℕ) (o : Open) (os : List Open) (r : Option Element) (at c : ℕ) → k < length o.name → c ≡ get_or o.name k 0 → next (state (Close k) Whole (o ∷ os) r) at c ≡ state (Close (suc k)) Whole (o ∷ os) r
close_step k o os r at c within is =
    let lower : nat_lt k (length o.name) ≡ true = grind (arith, nat_tests) in
    cond_same (is_lead c) (chosen (step_at (Close k) (o ∷ os) r at c)) ∙ rw (lower, eq-eqb c (get_or o.name k 0) is) refl

pub run_close : (rest done : List ℕ) (o : Open) (os : List Open) (r : Option Element) (at : ℕ) → o.name ≡ done ++ rest
    → run (state (Close (length done)) Whole (o ∷ os) r) at rest ≡ state (Close (length o.name)) Whole (o ∷ os) r
run_close [] done o os r at e = ap (λ n. state (Close n) Whole (o ∷ os) r) (ap length (sym (e ∙ append-nil done)))
run_close (c ∷ rest) done o os r at e =
    let within : length done < length o.name = omega (arith, ap length e, length-append done (c ∷ rest)) in
    let is : c ≡ get_or o.name (length done) 0 = sym (ap (λ n. get_or n (length done) 0) e ∙ byte_of done rest c) in
    let longer : suc (length done) ≡ length (done ++ c ∷ []) = omega (arith, length-append done (c ∷ [])) in
    ap (λ st. run st (suc at) rest) (close_step (length done) o os r at c within is ∙ ap (λ n. state (Close n) Whole (o ∷ os) r) longer)
    ∙ run_close rest (done ++ c ∷ []) o os r (suc at) (e ∙ sym (append_assoc done (c ∷ []) rest))

close_white : (o : Open) (os : List Open) (r : Option Element) → AtWhite (state (Close (length o.name)) Whole (o ∷ os) r) (state CloseWhite Whole (o ∷ os) r)
close_white o os r at c h =
    let upper : nat_lt (length o.name) (length o.name) ≡ false = grind (arith, nat_tests) in
    rw (white_not_lead c h, upper, h) refl

pub close_white_more : (o : Open) (os : List Open) (r : Option Element) → AtWhite (state CloseWhite Whole (o ∷ os) r) (state CloseWhite Whole (o ∷ os) r)
close_white_more o os r at c h = rw (white_not_lead c h, h) refl

pub close_greater : (o : Open) (os : List Open) (r : Option Element) (at : ℕ) → next (state (Close (length o.name)) Whole (o ∷ os) r) at 62 ≡ chosen (closed (element_of o) os r)
unfolding is_lead is_white
close_greater o os r at =
    let upper : nat_lt (length o.name) (length o.name) ≡ false = grind (arith, nat_tests) in
    rw upper refl

pub close_white_greater : (o : Open) (os : List Open) (r : Option Element) (at : ℕ) → next (state CloseWhite Whole (o ∷ os) r) at 62 ≡ chosen (closed (element_of o) os r)
unfolding is_lead is_white
close_white_greater o os r at = refl

end_begun : (o : Open) (os : List Open) (r : Option Element) (at : ℕ) → run (state Between Whole (o ∷ os) r) at (60 ∷ 47 ∷ []) ≡ state (Close 0) Whole (o ∷ os) r
unfolding is_lead is_name_start
end_begun o os r at = ap (λ st. run st (suc at) (47 ∷ [])) (less_step (o ∷ os) r at)

-- elements and their content
pub start_tag : (os : List Open) (at : ℕ) {n a : List ℕ} {ats : List Attribute} → IsName n → AreAttributes a ats → run (state Between Whole os None) at (60 ∷ n ++ a) ≡ state (held at n ats) Whole os None
start_tag os at {n} {a} name spelled =
    then_run (state Between Whole os None) at (60 ∷ n) a
    (ap (λ st. run st (suc at) n) (less_step os None at) ∙ run_tag_name at os (suc at) name)
    (run_attributes at n os None (at + length (60 ∷ n)) spelled)

mutual
  pub run_element : (os : List Open) {at : ℕ} {b : List ℕ} {t : Element} → IsElement at b t → run (state Between Whole os None) at b ≡ chosen (closed t os None)
  run_element os (Documents.IsElement.empty at {n} {a} {w} {ats} name spelled white) =
      over_white (state Between Whole os None) (state (held at n ats) Whole os None) (state (Blank (tag at n ats)) Whole os None) at (60 ∷ n ++ a) w (47 ∷ 62 ∷ [])
      (start_tag os at name spelled) (held_white at n ats os None) (blank_white (tag at n ats) os None) white
      (held_empty at n ats os None (at + length (60 ∷ n ++ a ++ w))) (blank_empty (tag at n ats) os None (at + length (60 ∷ n ++ a ++ w)))
  run_element os (Documents.IsElement.full at {n} {a} {w} {c} {cs} {u} {ats} {ks} name spelled white content behind) =
      let o = open_at at n ats ks cs in
      let from = at + length (60 ∷ n ++ a ++ w) in
      let inside = run_content os at n ats content in
      let filled : run (state Between Whole os None) at (60 ∷ n ++ a ++ w ++ 62 ∷ c) ≡ state Between Whole (o ∷ os) None =
      over_white (state Between Whole os None) (state (held at n ats) Whole os None) (state (Blank (tag at n ats)) Whole os None) at (60 ∷ n ++ a) w (62 ∷ c)
      (start_tag os at name spelled) (held_white at n ats os None) (blank_white (tag at n ats) os None) white
      (ap (λ st. run st (suc from) c) (held_greater at n ats os None from) ∙ inside)
      (ap (λ st. run st (suc from) c) (blank_greater (tag at n ats) os None from) ∙ inside) in
      let behind_content = at + length (60 ∷ n ++ a ++ w ++ 62 ∷ c) in
      let named : run (state Between Whole os None) at (60 ∷ n ++ a ++ w ++ 62 ∷ c ++ 60 ∷ 47 ∷ n) ≡ state (Close (length n)) Whole (o ∷ os) None =
      then_run (state Between Whole os None) at (60 ∷ n ++ a ++ w ++ 62 ∷ c) (60 ∷ 47 ∷ n) filled
      (ap (λ st. run st (suc (suc behind_content)) n) (end_begun o os None behind_content) ∙ run_close n [] o os None (suc (suc behind_content)) refl) in
      over_white (state Between Whole os None) (state (Close (length n)) Whole (o ∷ os) None) (state CloseWhite Whole (o ∷ os) None) at (60 ∷ n ++ a ++ w ++ 62 ∷ c ++ 60 ∷ 47 ∷ n) u (62 ∷ [])
      named (close_white o os None) (close_white_more o os None) behind (close_greater o os None _) (close_white_greater o os None _)

  pub run_content : (os : List Open) (at : ℕ) (n : List ℕ) (ats : List Attribute) {from : ℕ} {c cs : List ℕ} {ks : List Element} → IsContent from c ks cs
      → run (state Between Whole (open_at at n ats [] [] ∷ os) None) from c ≡ state Between Whole (open_at at n ats ks cs ∷ os) None
  run_content os at n ats (Documents.IsContent.nothing from) = refl
  run_content os at n ats (Documents.IsContent.character from {b} {cs} {w} {ks} content h) =
      then_run (state Between Whole (open_at at n ats [] [] ∷ os) None) from b w (run_content os at n ats content) (run_character Between (open_at at n ats ks cs ∷ os) None (from + length b) refl h)
  run_content os at n ats (Documents.IsContent.reference from {b} {cs} {r = s} {w} {ks} content h) =
      then_run (state Between Whole (open_at at n ats [] [] ∷ os) None) from b s (run_content os at n ats content) (run_reference Between (open_at at n ats ks cs ∷ os) None (from + length b) refl h)
  run_content os at n ats (Documents.IsContent.aside from {b} {cs} {k} {ks} content h) =
      then_run (state Between Whole (open_at at n ats [] [] ∷ os) None) from b k (run_content os at n ats content) (run_aside (open_at at n ats ks cs ∷ os) None (from + length b) h)
  run_content os at n ats (Documents.IsContent.child from {b} {cs} {e} {ks} {k} content h) =
      then_run (state Between Whole (open_at at n ats [] [] ∷ os) None) from b e (run_content os at n ats content) (run_element (open_at at n ats ks cs ∷ os) h)

-- documents
pub outer_white : (r : Option Element) (at c : ℕ) → is_white c ≡ true → next (state Between Whole [] r) at c ≡ state Between Whole [] r
outer_white r at c h = rw (white_not_lead c h, h) refl

run_extras : (r : Option Element) (at : ℕ) {x : List ℕ} → AreExtras x → run (state Between Whole [] r) at x ≡ state Between Whole [] r
run_extras r at Documents.AreExtras.nothing = refl
run_extras r at (Documents.AreExtras.white c {b} before h) = then_run (state Between Whole [] r) at b (c ∷ []) (run_extras r at before) (outer_white r (at + length b) c h)
run_extras r at (Documents.AreExtras.aside {b} {k} before h) = then_run (state Between Whole [] r) at b k (run_extras r at before) (run_aside [] r (at + length b) h)

mark_run : run start 0 (239 ∷ 187 ∷ 191 ∷ []) ≡ start
unfolding is_lead
mark_run = refl

pub run_prolog : {p : List ℕ} → IsProlog p → run start 0 p ≡ start
run_prolog (Documents.IsProlog.plain x) = run_extras None 0 x
run_prolog (Documents.IsProlog.marked {x} h) = then_run start 0 (239 ∷ 187 ∷ 191 ∷ []) x mark_run (run_extras None 3 h)

pub run_document : {b : List ℕ} {t : Element} → Spells b t → run start 0 b ≡ state Between Whole [] (Some t)
run_document (Documents.Spells.document {p} {e} {x} {t} prolog element extras) =
    then_run start 0 (p ++ e) x (then_run start 0 p e (run_prolog prolog) (run_element [] (subst (λ n. IsElement n e t) (omega arith) element)))
    (run_extras (Some t) (0 + length (p ++ e)) extras)
