-- The text of an element as it is written, part by part.
use Rattle.std.proofs.Common.{◌≡◌, ℕ, ◌+◌, ◌-◌, ◌<◌, ◌≤◌, List, [], ◌∷◌, ◌++◌, map, length, take, drop, get_or, codes, refl, sym, ap, ◌∙◌, append_assoc, arith}
use Rattle.std.proofs.lemmas.List.{append-nil, drop_all, drop-take, drop-append-le, flat_map_more, length-take-le, take_more}
use Rattle.std.specs.List.{concat, flat_map}
use Rattle.doc_model.specs.declared.tree.Element.{Element}
use Rattle.doc_model.specs.Texts.{text_of, content_text, end_text, escaped, escaped_byte}

-- the children's texts, joined
pub concat-map : (f : Element → List ℕ) (es : List Element) → concat (map f es) ≡ flat_map f es
concat-map f [] = refl
concat-map f (e ∷ es) = ap (λ text. f e ++ text) (concat-map f es)

pub content-children : (name : List ℕ) (children : List Element) (text : List ℕ) → 0 < length children
    → content_text name (map text_of children) text ≡ codes ">\n" ++ flat_map text_of children ++ end_text name
content-children name [] text none = absurd (omega (arith, none))
content-children name (e ∷ es) text some = ap (λ inner. codes ">\n" ++ inner ++ end_text name) (concat-map text_of (e ∷ es))

pub five_pieces : (old s a m k e : List ℕ) {first second third fourth fifth : List ℕ}
    → first ≡ old ++ s → second ≡ first ++ a → third ≡ second ++ m → fourth ≡ third ++ k → fifth ≡ fourth ++ e
    → fifth ≡ old ++ (s ++ a ++ (m ++ k ++ e))
five_pieces old s a m k e h1 h2 h3 h4 h5 =
    h5 ∙ ap (λ xs. xs ++ e) (h4 ∙ ap (λ xs. xs ++ k) (h3 ∙ ap (λ xs. xs ++ m) (h2 ∙ ap (λ xs. xs ++ a) h1))) ∙ simp append_assoc refl

-- one more byte of a text that is written with its escapes: a plain byte waits
pub escaped-plain : (old now text : List ℕ) (from at : ℕ) → from ≤ at → at < length text → escaped_byte (get_or text at 0) ≡ get_or text at 0 ∷ []
    → now ++ drop from (take at text) ≡ old ++ escaped (take at text)
    → now ++ drop from (take (at + 1) text) ≡ old ++ escaped (take (at + 1) text)
escaped-plain old now text from at before within plain known =
    let byte = get_or text at 0 in
    let longer = take_more text at 0 within in
    let room : from ≤ length (take at text) = omega (arith, length-take-le at text (omega arith)) in
    ap (λ front. now ++ drop from front) longer
    ∙ ap (λ waiting. now ++ waiting) (drop-append-le from (take at text) (byte ∷ []) room)
    ∙ sym (append_assoc now (drop from (take at text)) (byte ∷ []))
    ∙ ap (λ front. front ++ byte ∷ []) known
    ∙ ap (λ end. (old ++ escaped (take at text)) ++ end) (sym plain)
    ∙ flat_map_more escaped_byte old (take at text) byte
    ∙ ap (λ front. old ++ escaped front) (sym longer)

-- at any other byte, what waits is written, and then the escape
pub escaped-escape : (old now first second escape text : List ℕ) (from at : ℕ) → from ≤ at → at < length text → escape ≡ escaped_byte (get_or text at 0)
    → now ++ drop from (take at text) ≡ old ++ escaped (take at text)
    → first ≡ now ++ take (at - from) (drop from text) → second ≡ first ++ escape
    → second ++ drop (at + 1) (take (at + 1) text) ≡ old ++ escaped (take (at + 1) text)
escaped-escape old now first second escape text from at before within is known piece whole =
    let byte = get_or text at 0 in
    let longer = take_more text at 0 within in
    let empty = drop_all (at + 1) (take (at + 1) text) (omega (arith, length-take-le (at + 1) text (omega arith))) in
    let split : from + (at - from) ≡ at = omega arith in
    let waiting : take (at - from) (drop from text) ≡ drop from (take at text) = sym (drop-take from (at - from) text) ∙ ap (λ n. drop from (take n text)) split in
    ap (λ end. second ++ end) empty
    ∙ append-nil second
    ∙ whole
    ∙ ap (λ front. front ++ escape) (piece ∙ ap (λ part. now ++ part) waiting ∙ known)
    ∙ ap (λ end. (old ++ escaped (take at text)) ++ end) is
    ∙ flat_map_more escaped_byte old (take at text) byte
    ∙ ap (λ front. old ++ escaped front) (sym longer)
