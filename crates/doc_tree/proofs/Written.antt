-- The written text of a tree spells it.
use Rattle.std.proofs.Common.{true≢false, ◌≡◌, ◌⊎◌, inl, inr, ⊎_elim, ℕ, suc, ◌+◌, Bool, true, false, cond, List, [], ◌∷◌, ◌++◌, length, map, None, refl, sym, ap, ◌∙◌, subst, append_assoc, append-nil, arith, nat_eq, nat_lt, ◌&&◌}
use Rattle.std.proofs.lemmas.Bool.{eqb-true}
use Rattle.std.proofs.lemmas.Bool.Decides.{nat_tests}
use Rattle.std.proofs.lemmas.List.Concat.{flat_map-append}
use Rattle.std.specs.List.{concat, flat_map}
use Rattle.doc_model.specs.declared.tree.Attribute.{Attribute}
use Rattle.doc_model.specs.declared.tree.Element.{Element}
use Rattle.doc_model.specs.Trees.{attribute, element_at}
use Rattle.doc_model.specs.Texts.{escaped, escaped_byte, attribute_text, text_of, first_line}
use Rattle.doc_model.proofs.TextLaws.{text_of-element_at}
use Rattle.doc_tree.specs.declared.places.Quote.TheVariants.{Double}
use Rattle.doc_tree.specs.declared.places.Entity.TheVariants as entity
use Rattle.doc_tree.specs.declared.places.Radix.TheVariants.{Decimal}
use Rattle.doc_tree.specs.Characters
use Rattle.doc_tree.specs.Characters.{is_ascii, is_text, is_value, is_white, is_tail, is_lead_of_two, is_front_of_three, is_front_of_four, is_digit, digit_value, is_character_number, utf8, is_name_start, is_name_byte, is_instruction_byte, is_lead, IsCharacter, IsReference, IsWide}
use Rattle.doc_tree.specs.Documents
use Rattle.doc_tree.specs.Documents.{IsName, IsValue, AreAttributes, IsContent, IsElement, IsProlog, Spells, are_white, is_fresh, shown}
use Rattle.doc_tree.specs.Writable
use Rattle.doc_tree.specs.Writable.{AreCharacters, AreWritableAttributes, IsWritable, AreWritable, IsSameTree, AreSameTrees, WrittenIsSpelled}
use Rattle.doc_tree.proofs.Stems
use Rattle.doc_tree.proofs.Stems.{Stem}
use Rattle.doc_tree.proofs.Reading.{document_read}

-- a character as it is written: itself, or a reference to it
Written : List ℕ → Type 0
Written w = ((escaped w ≡ w) × IsCharacter (is_value Double) w) ⊎ IsReference (escaped w) w

plain_value : (c : ℕ) → is_ascii c ≡ true → nat_eq c 38 ≡ false → nat_eq c 60 ≡ false → nat_eq c 34 ≡ false → is_value Double c ≡ true
unfolding is_value is_text
plain_value c h a b d = rw (h, a, b, d) refl

plain_byte : (c : ℕ) → nat_eq c 38 ≡ false → nat_eq c 60 ≡ false → nat_eq c 62 ≡ false → nat_eq c 34 ≡ false → nat_eq c 9 ≡ false → nat_eq c 10 ≡ false → nat_eq c 13 ≡ false → escaped_byte c ≡ c ∷ []
plain_byte c a b d e f g h = rw (a, b, d, e, f, g, h) refl

at_byte : (c k : ℕ) → nat_eq c k ≡ true → Written (k ∷ []) → Written (c ∷ [])
at_byte c k is h = subst (λ d. Written (d ∷ [])) (sym (eqb-true c k is)) h

written_tab : Written (9 ∷ [])
unfolding Written is_digit digit_value is_character_number utf8
written_tab = inr (Characters.IsReference.number Decimal 9 (Characters.IsNumeral.first 57 refl) refl)

written_feed : Written (10 ∷ [])
unfolding Written is_digit digit_value is_character_number utf8
written_feed = inr (Characters.IsReference.number Decimal 10 (Characters.IsNumeral.more 48 (Characters.IsNumeral.first 49 refl) refl) refl)

written_return : Written (13 ∷ [])
unfolding Written is_digit digit_value is_character_number utf8
written_return = inr (Characters.IsReference.number Decimal 13 (Characters.IsNumeral.more 51 (Characters.IsNumeral.first 49 refl) refl) refl)

written_ascii : (c : ℕ) → is_ascii c ≡ true → Written (c ∷ [])
unfolding Written
written_ascii c h = amp (nat_eq c 38) refl
  where
    plain : nat_eq c 38 ≡ false → nat_eq c 60 ≡ false → nat_eq c 62 ≡ false → nat_eq c 34 ≡ false → nat_eq c 9 ≡ false → nat_eq c 10 ≡ false → nat_eq c 13 ≡ false → Written (c ∷ [])
    plain a b d e f g i = inl (ap (λ s. s ++ []) (plain_byte c a b d e f g i), Characters.IsCharacter.ascii c (plain_value c h a b e))

    return : nat_eq c 38 ≡ false → nat_eq c 60 ≡ false → nat_eq c 62 ≡ false → nat_eq c 34 ≡ false → nat_eq c 9 ≡ false → nat_eq c 10 ≡ false → (t : Bool) → nat_eq c 13 ≡ t → Written (c ∷ [])
    return a b d e f g true is = at_byte c 13 is written_return
    return a b d e f g false is = plain a b d e f g is

    feed : nat_eq c 38 ≡ false → nat_eq c 60 ≡ false → nat_eq c 62 ≡ false → nat_eq c 34 ≡ false → nat_eq c 9 ≡ false → (t : Bool) → nat_eq c 10 ≡ t → Written (c ∷ [])
    feed a b d e f true is = at_byte c 10 is written_feed
    feed a b d e f false is = return a b d e f is (nat_eq c 13) refl

    tab : nat_eq c 38 ≡ false → nat_eq c 60 ≡ false → nat_eq c 62 ≡ false → nat_eq c 34 ≡ false → (t : Bool) → nat_eq c 9 ≡ t → Written (c ∷ [])
    tab a b d e true is = at_byte c 9 is written_tab
    tab a b d e false is = feed a b d e is (nat_eq c 10) refl

    quote : nat_eq c 38 ≡ false → nat_eq c 60 ≡ false → nat_eq c 62 ≡ false → (t : Bool) → nat_eq c 34 ≡ t → Written (c ∷ [])
    quote a b d true is = at_byte c 34 is (inr (Characters.IsReference.named entity.Quotation))
    quote a b d false is = tab a b d is (nat_eq c 9) refl

    greater : nat_eq c 38 ≡ false → nat_eq c 60 ≡ false → (t : Bool) → nat_eq c 62 ≡ t → Written (c ∷ [])
    greater a b true is = at_byte c 62 is (inr (Characters.IsReference.named entity.Greater))
    greater a b false is = quote a b is (nat_eq c 34) refl

    less : nat_eq c 38 ≡ false → (t : Bool) → nat_eq c 60 ≡ t → Written (c ∷ [])
    less a true is = at_byte c 60 is (inr (Characters.IsReference.named entity.Less))
    less a false is = greater a is (nat_eq c 62) refl

    amp : (t : Bool) → nat_eq c 38 ≡ t → Written (c ∷ [])
    amp true is = at_byte c 38 is (inr (Characters.IsReference.named entity.Ampersand))
    amp false is = less is (nat_eq c 60) refl

-- bytes past ASCII are written as they are
high_byte : (c : ℕ) → nat_lt c 128 ≡ false → escaped_byte c ≡ c ∷ []
high_byte c h = plain_byte c (grind (arith, nat_tests)) (grind (arith, nat_tests)) (grind (arith, nat_tests)) (grind (arith, nat_tests)) (grind (arith, nat_tests)) (grind (arith, nat_tests)) (grind (arith, nat_tests))

tail_high : (c : ℕ) → is_tail c ≡ true → nat_lt c 128 ≡ false
unfolding is_tail
tail_high c h = grind (arith, nat_tests)

two_high : (c : ℕ) → is_lead_of_two c ≡ true → nat_lt c 128 ≡ false
unfolding is_lead_of_two
two_high c h = grind (arith, nat_tests)

three_high : (a b : ℕ) → is_front_of_three a b ≡ true → (nat_lt a 128 ≡ false) × (nat_lt b 128 ≡ false)
unfolding is_front_of_three is_tail
three_high a b h = (grind (arith, nat_tests), grind (arith, nat_tests))

four_high : (a b : ℕ) → is_front_of_four a b ≡ true → (nat_lt a 128 ≡ false) × (nat_lt b 128 ≡ false)
unfolding is_front_of_four is_tail
four_high a b h = (grind (arith, nat_tests), grind (arith, nat_tests))

more_high : (c : ℕ) (s : List ℕ) → nat_lt c 128 ≡ false → escaped s ≡ s → escaped (c ∷ s) ≡ c ∷ s
more_high c s h e = flat_map-append escaped_byte (c ∷ []) s ∙ ap (λ x. (x ++ []) ++ escaped s) (high_byte c h) ∙ ap (λ (x : List ℕ). c ∷ x) e

written_wide : {w : List ℕ} → IsWide w → escaped w ≡ w
written_wide (Characters.IsWide.two a b two tail) = more_high a (b ∷ []) (two_high a two) (more_high b [] (tail_high b tail) refl)
written_wide (Characters.IsWide.three a b c front tail) =
    more_high a (b ∷ c ∷ []) (three_high a b front).0 (more_high b (c ∷ []) (three_high a b front).1 (more_high c [] (tail_high c tail) refl))
written_wide (Characters.IsWide.four a b c d front third tail) =
    more_high a (b ∷ c ∷ d ∷ []) (four_high a b front).0 (more_high b (c ∷ d ∷ []) (four_high a b front).1 (more_high c (d ∷ []) (tail_high c third) (more_high d [] (tail_high d tail) refl)))

written : {w : List ℕ} → IsCharacter is_ascii w → Written w
unfolding Written
written (Characters.IsCharacter.ascii c h) = written_ascii c h
written (Characters.IsCharacter.wide h) = inl (written_wide h, Characters.IsCharacter.wide h)

value_is_text : {w : List ℕ} → IsCharacter (is_value Double) w → IsCharacter is_text w
unfolding is_value
value_is_text (Characters.IsCharacter.ascii c h) = Characters.IsCharacter.ascii c (left _ _ h)
  where
    left : (s t : Bool) → s && t ≡ true → s ≡ true
    left true t e = refl
    left false t e = absurd cc
value_is_text (Characters.IsCharacter.wide h) = Characters.IsCharacter.wide h

-- values and texts
spelled_value : {v : List ℕ} → AreCharacters v → IsValue Double (escaped v) v
unfolding Written
spelled_value Writable.AreCharacters.nothing = Documents.IsValue.nothing
spelled_value (Writable.AreCharacters.more {b} {w} before h) =
    let inner = spelled_value before in
    subst (λ s. IsValue Double s (b ++ w)) (sym (flat_map-append escaped_byte b w))
    (⊎_elim (λ same. subst (λ s. IsValue Double (escaped b ++ s) (b ++ w)) (sym same.0) (Documents.IsValue.character inner same.1))
    (λ reference. Documents.IsValue.reference inner reference) (written h))

spelled_text : (from : ℕ) {v : List ℕ} → AreCharacters v → IsContent from (escaped v) [] v
unfolding Written
spelled_text from Writable.AreCharacters.nothing = Documents.IsContent.nothing from
spelled_text from (Writable.AreCharacters.more {b} {w} before h) =
    let inner = spelled_text from before in
    subst (λ s. IsContent from s [] (b ++ w)) (sym (flat_map-append escaped_byte b w))
    (⊎_elim (λ same. subst (λ s. IsContent from (escaped b ++ s) [] (b ++ w)) (sym same.0) (Documents.IsContent.character from inner (value_is_text same.1)))
    (λ reference. Documents.IsContent.reference from inner reference) (written h))

regroup_attribute : (a n s : List ℕ) → a ++ (32 ∷ []) ++ n ++ [] ++ (61 ∷ []) ++ (34 ∷ s) ++ (34 ∷ []) ≡ a ++ ((32 ∷ n) ++ (61 ∷ 34 ∷ []) ++ s ++ (34 ∷ []))
regroup_attribute a n s = simp (append_assoc, append-nil)

spelled_attributes : {ats : List Attribute} → AreWritableAttributes ats → AreAttributes (flat_map attribute_text ats) ats
unfolding is_white
spelled_attributes Writable.AreWritableAttributes.nothing = Documents.AreAttributes.nothing
spelled_attributes (Writable.AreWritableAttributes.more {n} {v} {ats} before name fresh characters) =
    subst (λ s. AreAttributes s (ats ++ attribute n v ∷ []))
    (regroup_attribute (flat_map attribute_text ats) n (escaped v) ∙ ap (λ s. flat_map attribute_text ats ++ s) (sym (append-nil (attribute_text (attribute n v)))) ∙ sym (flat_map-append attribute_text ats (attribute n v ∷ [])))
    (Documents.AreAttributes.more Double (spelled_attributes before) (Documents.IsBlank.one 32 refl) name fresh Documents.IsWhite.nothing Documents.IsWhite.nothing (spelled_value characters))

-- an element: its bytes, and a line feed behind them
record Spelled (at : ℕ) (e : Element) : Type 0 where
  bytes : List ℕ
  tree : Element
  spells : IsElement at bytes tree
  text : text_of e ≡ bytes ++ 10 ∷ []
  same : IsSameTree e tree

record SpelledAll (from : ℕ) (b : List ℕ) (front : List Element) (ks : List Element) : Type 0 where
  trees : List Element
  own : List ℕ
  spells : IsContent from (b ++ concat (map text_of ks)) (front ++ trees) own
  white : are_white own ≡ true
  same : AreSameTrees ks trees

regroup_bare : (n a : List ℕ) → (60 ∷ n) ++ a ++ (47 ∷ 62 ∷ 10 ∷ []) ≡ (60 ∷ n ++ a ++ [] ++ 47 ∷ 62 ∷ []) ++ 10 ∷ []
regroup_bare n a = ap (λ (s : List ℕ). 60 ∷ s) (inner n a)
  where
    inner : (n a : List ℕ) → n ++ a ++ (47 ∷ 62 ∷ 10 ∷ []) ≡ (n ++ a ++ [] ++ 47 ∷ 62 ∷ []) ++ 10 ∷ []
    inner n a = simp (append_assoc, append-nil)

regroup_parts : (n a c e x y : List ℕ) → n ++ a ++ (c ++ (e ++ (x ++ y))) ≡ (n ++ a ++ [] ++ c ++ e ++ [] ++ x) ++ y
regroup_parts n a c e x y = simp (append_assoc, append-nil)

regroup_full : (n a c : List ℕ) → (60 ∷ n) ++ a ++ ((62 ∷ c) ++ ((60 ∷ 47 ∷ n) ++ (62 ∷ 10 ∷ []))) ≡ (60 ∷ n ++ a ++ [] ++ 62 ∷ c ++ 60 ∷ 47 ∷ n ++ [] ++ 62 ∷ []) ++ 10 ∷ []
regroup_full n a c = ap (λ (s : List ℕ). 60 ∷ s) (regroup_parts n a (62 ∷ c) (60 ∷ 47 ∷ n) (62 ∷ []) (10 ∷ []))

white_more : (s : List ℕ) → are_white s ≡ true → are_white (s ++ 10 ∷ []) ≡ true
unfolding is_white
white_more [] h = refl
white_more (c ∷ s) h = pick (is_white c) refl (white_more s)
  where
    pick : (t : Bool) → is_white c ≡ t → (are_white s ≡ true → are_white (s ++ 10 ∷ []) ≡ true) → cond (is_white c) (are_white (s ++ 10 ∷ [])) false ≡ true
    pick true is more = ap (λ t. cond t (are_white (s ++ 10 ∷ [])) false) is ∙ more (sym (ap (λ t. cond t (are_white s) false) is) ∙ h)
    pick false is more = absurd (true≢false (sym h ∙ ap (λ t. cond t (are_white s) false) is))

feed_is_text : IsCharacter is_text (10 ∷ [])
unfolding is_text is_ascii is_white
feed_is_text = Characters.IsCharacter.ascii 10 refl

feed_is_white : is_white 10 ≡ true
unfolding is_white
feed_is_white = refl

feeds_are_white : are_white (10 ∷ []) ≡ true
unfolding is_white
feeds_are_white = refl

regroup_text : (n a s : List ℕ) → (60 ∷ n) ++ a ++ ((62 ∷ s) ++ ((60 ∷ 47 ∷ n) ++ (62 ∷ 10 ∷ []))) ≡ (60 ∷ n ++ a ++ [] ++ 62 ∷ s ++ 60 ∷ 47 ∷ n ++ [] ++ 62 ∷ []) ++ 10 ∷ []
regroup_text n a s = regroup_full n a s

regroup_parent : (n a s : List ℕ) → (60 ∷ n) ++ a ++ ((62 ∷ 10 ∷ s) ++ ((60 ∷ 47 ∷ n) ++ (62 ∷ 10 ∷ []))) ≡ (60 ∷ n ++ a ++ [] ++ 62 ∷ (10 ∷ s) ++ 60 ∷ 47 ∷ n ++ [] ++ 62 ∷ []) ++ 10 ∷ []
regroup_parent n a s = regroup_full n a (10 ∷ s)

mutual
  spelled : (at : ℕ) {e : Element} → IsWritable e → Spelled at e
  spelled at (Writable.IsWritable.bare bt {n} {ats} name attributes) = record {
    bytes = 60 ∷ n ++ flat_map attribute_text ats ++ [] ++ 47 ∷ 62 ∷ [];
    tree = element_at at n ats [] [];
    spells = Documents.IsElement.empty at name (spelled_attributes attributes) Documents.IsWhite.nothing;
    text = text_of-element_at bt n ats [] [] ∙ regroup_bare n (flat_map attribute_text ats);
    same = Writable.IsSameTree.same bt at n [] ats Writable.AreSameTrees.nothing;
  }
  spelled at (Writable.IsWritable.text bt c {n} {cs} {ats} name attributes characters black) =
      let a = flat_map attribute_text ats in
      let from = suc (at + length (60 ∷ n ++ a ++ [])) in
      record {
        bytes = 60 ∷ n ++ a ++ [] ++ 62 ∷ escaped (c ∷ cs) ++ 60 ∷ 47 ∷ n ++ [] ++ 62 ∷ [];
        tree = element_at at n ats [] (c ∷ cs);
        spells = subst (λ s. IsElement at (60 ∷ n ++ a ++ [] ++ 62 ∷ escaped (c ∷ cs) ++ 60 ∷ 47 ∷ n ++ [] ++ 62 ∷ []) (element_at at n ats [] s))
            (ap (λ t. cond t [] (c ∷ cs)) black)
            (Documents.IsElement.full at name (spelled_attributes attributes) Documents.IsWhite.nothing (spelled_text from characters) Documents.IsWhite.nothing);
        text = text_of-element_at bt n ats [] (c ∷ cs) ∙ regroup_text n a (escaped (c ∷ cs));
        same = Writable.IsSameTree.same bt at n (c ∷ cs) ats Writable.AreSameTrees.nothing;
      }
  spelled at (Writable.IsWritable.parent bt {n} {ats} {k} {ks} name attributes children) =
      let a = flat_map attribute_text ats in
      let from = suc (at + length (60 ∷ n ++ a ++ [])) in
      let inner = spelled_all from (10 ∷ []) [] (10 ∷ []) (Documents.IsContent.character from (Documents.IsContent.nothing from) feed_is_text) feeds_are_white children in
      let c = 10 ∷ concat (map text_of (k ∷ ks)) in
      record {
        bytes = 60 ∷ n ++ a ++ [] ++ 62 ∷ c ++ 60 ∷ 47 ∷ n ++ [] ++ 62 ∷ [];
        tree = element_at at n ats inner.trees [];
        spells = subst (λ s. IsElement at (60 ∷ n ++ a ++ [] ++ 62 ∷ c ++ 60 ∷ 47 ∷ n ++ [] ++ 62 ∷ []) (element_at at n ats inner.trees s))
            (ap (λ t. cond t [] inner.own) inner.white)
            (Documents.IsElement.full at name (spelled_attributes attributes) Documents.IsWhite.nothing inner.spells Documents.IsWhite.nothing);
        text = text_of-element_at bt n ats (k ∷ ks) [] ∙ regroup_parent n a (concat (map text_of (k ∷ ks)));
        same = Writable.IsSameTree.same bt at n [] ats inner.same;
      }

  spelled_all : (from : ℕ) (b : List ℕ) (front : List Element) (own : List ℕ) {ks : List Element} → IsContent from b front own → are_white own ≡ true → AreWritable ks → SpelledAll from b front ks
  spelled_all from b front own content white Writable.AreWritable.nothing = record {
    trees = [];
    own = own;
    white = white;
    same = Writable.AreSameTrees.nothing;
    spells = subst (λ s. IsContent from s (front ++ []) own) (sym (append-nil b)) (subst (λ js. IsContent from b js own) (sym (append-nil front)) content);
  }
  spelled_all from b front own content white (Writable.AreWritable.more {k} {ks} first rest) =
      let here = spelled (from + length b) first in
      let fed = Documents.IsContent.character from (Documents.IsContent.child from content here.spells) feed_is_text in
      let inner = spelled_all from (b ++ here.bytes ++ 10 ∷ []) (front ++ here.tree ∷ []) (own ++ 10 ∷ []) fed (white_more own white) rest in
      record {
        trees = here.tree ∷ inner.trees;
        own = inner.own;
        white = inner.white;
        same = Writable.AreSameTrees.more here.same inner.same;
        spells = subst (λ s. IsContent from s (front ++ here.tree ∷ inner.trees) inner.own)
            (ap (λ s. s ++ concat (map text_of ks)) (append_assoc b here.bytes (10 ∷ []) ∙ ap (λ s. b ++ s) (sym here.text)) ∙ append_assoc b (text_of k) (concat (map text_of ks)))
            (subst (λ js. IsContent from ((b ++ here.bytes ++ 10 ∷ []) ++ concat (map text_of ks)) js inner.own) (append_assoc front (here.tree ∷ []) inner.trees) inner.spells);
      }

-- the document
prolog_of : {b : List ℕ} → Stem b [] None → IsProlog b
prolog_of (Stems.Stem.root prolog) = prolog

line_is_prolog : IsProlog first_line
unfolding first_line is_lead is_white is_ascii is_name_start is_name_byte is_instruction_byte
line_is_prolog = prolog_of (document_read first_line)

pub written_is_spelled : WrittenIsSpelled
written_is_spelled root h =
    let inner = spelled (length first_line) h in (
      inner.tree,
      subst (λ s. Spells s inner.tree) (append_assoc first_line inner.bytes (10 ∷ []) ∙ ap (λ s. first_line ++ s) (sym inner.text))
          (Documents.Spells.document line_is_prolog inner.spells (Documents.AreExtras.white 10 Documents.AreExtras.nothing feed_is_white)),
      inner.same,
    )
