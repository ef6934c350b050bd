-- Words with one space between them are read as these words.
use Rattle.std.proofs.Common.{◌≡◌, ℕ, Bool, true, false, List, [], ◌∷◌, ◌++◌, ◌&&◌, ◌||◌, ◌<◌, nat_lt, not, flat_map, None, Some, refl, sym, ap, ◌∙◌, arith}
use Rattle.std.specs.Prelude.{◌==◌, filter, if◌then◌else◌}
use Rattle.std.specs.Bool.{⊤}
use Rattle.std.specs.List.{list_all}
use Rattle.std.specs.Str.{IsAscii, IsUtf8}
use Rattle.std.proofs.lemmas.Bool.{eqb-true, false≢true, ltb-true}
use Rattle.std.proofs.lemmas.Bool.Decides.{nat_tests}
use Rattle.std.proofs.lemmas.List.{append-nil}
use Rattle.std.proofs.lemmas.Str.{IsUtf8-append, IsUtf8-from_ascii, IsUtf8-nil}
use Rattle.std.proofs.lemmas.Str.Ascii.{IsAscii-cons, IsAscii-nil}
use Rattle.line_words.specs.Texts.{spaced}
use Rattle.line_words.specs.Words.{before_mark, behind_mark, is_some_text, is_white, longer, pieces, words_of}

pub both : (a b : Bool) → (a && b) ≡ true → (a ≡ true) × (b ≡ true)
both true true e = (refl, refl)
both true false e = absurd (false≢true e)
both false b e = absurd (false≢true e)

pub with_both : (a b : Bool) → a ≡ true → b ≡ true → (a && b) ≡ true
with_both true true e f = refl
with_both true false e f = absurd (false≢true f)
with_both false b e f = absurd (false≢true e)

pub not_true : (a : Bool) → not a ≡ true → a ≡ false
not_true true e = absurd (false≢true e)
not_true false e = refl

-- a test that holds of all bytes, and one that follows from it
pub all_also : (p q : ℕ → Bool) → ((c : ℕ) → p c ≡ true → q c ≡ true) → (w : List ℕ) → list_all p w ≡ true → list_all q w ≡ true
all_also p q also [] are = refl
all_also p q also (c ∷ cs) are =
    let parts = both (p c) (list_all p cs) are in
    with_both (q c) (list_all q cs) (also c parts.0) (all_also p q also cs parts.1)

pub all_joined : (p : ℕ → Bool) (x y : List ℕ) → list_all p x ≡ true → list_all p y ≡ true → list_all p (x ++ y) ≡ true
all_joined p [] y first later = later
all_joined p (c ∷ cs) y first later =
    let parts = both (p c) (list_all p cs) first in
    with_both (p c) (list_all p (cs ++ y)) parts.0 (all_joined p cs y parts.1 later)

-- no byte is the mark, and no byte is white
abbrev pub isnt : ℕ → ℕ → Bool
isnt mark c = not (c == mark)

abbrev pub is_dark : ℕ → Bool
is_dark c = not (is_white c)

pub isnt_mark : (p : ℕ → Bool) (mark c : ℕ) → p mark ≡ false → p c ≡ true → isnt mark c ≡ true
isnt_mark p mark c never is = by (c == mark) refl
  where
    by : (t : Bool) → (c == mark) ≡ t → not t ≡ true
    by true e = absurd (false≢true (sym never ∙ ap p (sym (eqb-true c mark e)) ∙ is))
    by false e = refl

pub free_of : (p : ℕ → Bool) (mark : ℕ) → p mark ≡ false → (w : List ℕ) → list_all p w ≡ true → list_all (isnt mark) w ≡ true
free_of p mark never w are = all_also p (isnt mark) (λ c is. isnt_mark p mark c never is) w are

nor : (a b c d : Bool) → not a ≡ true → not b ≡ true → not c ≡ true → not d ≡ true → not (a || b || c || d) ≡ true
nor false false false false a b c d = refl
nor true _ _ _ a b c d = absurd (false≢true a)
nor false true _ _ a b c d = absurd (false≢true b)
nor false false true _ a b c d = absurd (false≢true c)
nor false false false true a b c d = absurd (false≢true d)

pub dark_of : (p : ℕ → Bool) → p 32 ≡ false → p 9 ≡ false → p 10 ≡ false → p 13 ≡ false → (w : List ℕ) → list_all p w ≡ true → list_all is_dark w ≡ true
dark_of p space tab feed return w are = all_also p is_dark
    (λ c is. nor (c == 32) (c == 9) (c == 10) (c == 13)
    (isnt_mark p 32 c space is) (isnt_mark p 9 c tab is) (isnt_mark p 10 c feed is) (isnt_mark p 13 c return is))
    w are

-- what stands before and behind a mark
pub before_free : (mark : ℕ) (w : List ℕ) → list_all (isnt mark) w ≡ true → before_mark mark w ≡ w
before_free mark [] are = refl
before_free mark (c ∷ cs) are =
    let parts = both (isnt mark c) (list_all (isnt mark) cs) are in
    ap (λ t. if t then [] else c ∷ before_mark mark cs) (not_true (c == mark) parts.0)
    ∙ ap (λ w. c ∷ w) (before_free mark cs parts.1)

pub behind_free : (mark : ℕ) (w : List ℕ) → list_all (isnt mark) w ≡ true → behind_mark mark w ≡ None
behind_free mark [] are = refl
behind_free mark (c ∷ cs) are =
    let parts = both (isnt mark c) (list_all (isnt mark) cs) are in
    ap (λ t. if t then Some cs else behind_mark mark cs) (not_true (c == mark) parts.0)
    ∙ behind_free mark cs parts.1

same_number : (c : ℕ) → (c == c) ≡ true
same_number c = grind (arith, nat_tests)

pub before_cut : (mark : ℕ) (w y : List ℕ) → list_all (isnt mark) w ≡ true → before_mark mark (w ++ mark ∷ y) ≡ w
before_cut mark [] y are = ap (λ t. if t then [] else mark ∷ before_mark mark y) (same_number mark)
before_cut mark (c ∷ cs) y are =
    let parts = both (isnt mark c) (list_all (isnt mark) cs) are in
    ap (λ t. if t then [] else c ∷ before_mark mark (cs ++ mark ∷ y)) (not_true (c == mark) parts.0)
    ∙ ap (λ w. c ∷ w) (before_cut mark cs y parts.1)

pub behind_cut : (mark : ℕ) (w y : List ℕ) → list_all (isnt mark) w ≡ true → behind_mark mark (w ++ mark ∷ y) ≡ Some y
behind_cut mark [] y are = ap (λ t. if t then Some y else behind_mark mark y) (same_number mark)
behind_cut mark (c ∷ cs) y are =
    let parts = both (isnt mark c) (list_all (isnt mark) cs) are in
    ap (λ t. if t then Some (cs ++ mark ∷ y) else behind_mark mark (cs ++ mark ∷ y)) (not_true (c == mark) parts.0)
    ∙ behind_cut mark cs y parts.1

-- words
pub record IsWord (word : List ℕ) : Type 0 where
  pub some : is_some_text word ≡ true
  pub dark : list_all is_dark word ≡ true
  pub text : IsUtf8 word

abbrev pub AreWords : List (List ℕ) → Type 0
AreWords [] = ⊤
AreWords (word ∷ words) = IsWord word × AreWords words

pub one_byte : (c : ℕ) → c < 128 → IsUtf8 (c ∷ [])
one_byte c low = IsUtf8-from_ascii (c ∷ []) (IsAscii-cons c [] low IsAscii-nil)

-- a literal word
abbrev pub is_plain : ℕ → Bool
is_plain c = nat_lt c 128 && is_dark c

all_ascii : (w : List ℕ) → list_all is_plain w ≡ true → IsAscii w
all_ascii [] are = IsAscii-nil
all_ascii (c ∷ cs) are =
    let parts = both (is_plain c) (list_all is_plain cs) are in
    IsAscii-cons c cs (ltb-true c 128 (both (nat_lt c 128) (is_dark c) parts.0).0) (all_ascii cs parts.1)

pub plain_word : (w : List ℕ) → is_some_text w ≡ true → list_all is_plain w ≡ true → IsWord w
plain_word w some are = record {
  some = some;
  dark = all_also is_plain is_dark (λ c e. (both (nat_lt c 128) (is_dark c) e).1) w are;
  text = IsUtf8-from_ascii w (all_ascii w are);
}

piece_then : (w y : List ℕ) → list_all is_dark w ≡ true → pieces is_white (w ++ 32 ∷ y) ≡ w ∷ pieces is_white y
piece_then [] y are = refl
piece_then (c ∷ cs) y are =
    let parts = both (is_dark c) (list_all is_dark cs) are in
    ap (λ t. if t then [] ∷ pieces is_white (cs ++ 32 ∷ y) else longer c (pieces is_white (cs ++ 32 ∷ y))) (not_true (is_white c) parts.0)
    ∙ ap (longer c) (piece_then cs y parts.1)

piece_alone : (w : List ℕ) → list_all is_dark w ≡ true → pieces is_white w ≡ w ∷ []
piece_alone [] are = refl
piece_alone (c ∷ cs) are =
    let parts = both (is_dark c) (list_all is_dark cs) are in
    ap (λ t. if t then [] ∷ pieces is_white cs else longer c (pieces is_white cs)) (not_true (is_white c) parts.0)
    ∙ ap (longer c) (piece_alone cs parts.1)

pieces_said : (w : List ℕ) (ws : List (List ℕ)) → IsWord w → AreWords ws → pieces is_white (w ++ flat_map spaced ws) ≡ w ∷ ws
pieces_said w [] is are = ap (pieces is_white) (append-nil w) ∙ piece_alone w is.dark
pieces_said w (v ∷ vs) is (next, later) =
    piece_then w (v ++ flat_map spaced vs) is.dark ∙ ap (λ ps. w ∷ ps) (pieces_said v vs next later)

kept : (ws : List (List ℕ)) → AreWords ws → filter is_some_text ws ≡ ws
kept [] are = refl
kept (w ∷ ws) (is, are) = ap (λ t. if t then w ∷ filter is_some_text ws else filter is_some_text ws) is.some ∙ ap (λ vs. w ∷ vs) (kept ws are)

pub words_said : (w : List ℕ) (ws : List (List ℕ)) → IsWord w → AreWords ws → words_of (w ++ flat_map spaced ws) ≡ w ∷ ws
words_said w ws is are = ap (filter is_some_text) (pieces_said w ws is are) ∙ kept (w ∷ ws) (is, are)

pub text_said : (w : List ℕ) (ws : List (List ℕ)) → IsWord w → AreWords ws → IsUtf8 (w ++ flat_map spaced ws)
text_said w [] is are = IsUtf8-append w [] is.text IsUtf8-nil
text_said w (v ∷ vs) is (next, later) =
    IsUtf8-append w (32 ∷ v ++ flat_map spaced vs) is.text
    (IsUtf8-append (32 ∷ []) (v ++ flat_map spaced vs) (one_byte 32 (omega arith)) (text_said v vs next later))

feedless : (w : List ℕ) → list_all is_dark w ≡ true → list_all (isnt 10) w ≡ true
feedless w are = free_of is_dark 10 refl w are

no_feed : (w : List ℕ) (ws : List (List ℕ)) → IsWord w → AreWords ws → list_all (isnt 10) (w ++ flat_map spaced ws) ≡ true
no_feed w [] is are = all_joined (isnt 10) w [] (feedless w is.dark) refl
no_feed w (v ∷ vs) is (next, later) = all_joined (isnt 10) w (32 ∷ v ++ flat_map spaced vs) (feedless w is.dark) (no_feed v vs next later)

pub no_feed_said : (w : List ℕ) (ws : List (List ℕ)) → IsWord w → AreWords ws → behind_mark 10 (w ++ flat_map spaced ws) ≡ None
no_feed_said w ws is are = behind_free 10 (w ++ flat_map spaced ws) (no_feed w ws is are)
