-- How the cuts of the code are those of the definitions.
use Rattle.std.proofs.Common.{◌≡◌, ℕ, zero, suc, ◌+◌, ◌<◌, Bool, true, false, cond, not, List, [], ◌∷◌, ◌++◌, length, filter, take, drop, None, Some, refl, sym, ap, ◌∙◌, arith, slice_index, subst}
use Rattle.std.specs.Prelude.{◌==◌, ◌≤◌, if◌then◌else◌}
use Rattle.std.specs.List.{position_or_len}
use Rattle.std.proofs.lemmas.Bool.{false_from_ne_true}
use Rattle.std.proofs.lemmas.List.{append-nil}
use Rattle.line_words.specs.Words.{IsDark, before_mark, behind_mark, is_some_text, is_white, longer, pieces, words_of}

-- a front without a byte that passes goes onto the first piece
abbrev pub onto_first : List ℕ → List (List ℕ) → List (List ℕ)
onto_first front [] = front ∷ []
onto_first front (piece ∷ later) = (front ++ piece) ∷ later

longer-onto_first : (c : ℕ) (front : List ℕ) (ps : List (List ℕ)) → longer c (onto_first front ps) ≡ onto_first (c ∷ front) ps
longer-onto_first c front [] = refl
longer-onto_first c front (p ∷ ps) = refl

passing : (test : ℕ → Bool) (c : ℕ) (cs : List ℕ) → test c ≡ true → position_or_len test (c ∷ cs) ≡ 0
passing test c cs e = ap (λ t. cond (not t) (1 + position_or_len test cs) 0) e

going : (test : ℕ → Bool) (c : ℕ) (cs : List ℕ) → test c ≡ false → position_or_len test (c ∷ cs) ≡ suc (position_or_len test cs)
going test c cs e = let k = position_or_len test cs in ap (λ t. cond (not t) (1 + k) 0) e ∙ (omega arith)

pub pieces-front : (test : ℕ → Bool) (b : List ℕ)
    → pieces test b ≡ onto_first (take (position_or_len test b) b) (pieces test (drop (position_or_len test b) b))
pieces-front test [] = refl
pieces-front test (c ∷ cs) = by (test c) refl (pieces-front test cs)
  where
    by : (t : Bool) → test c ≡ t
        → pieces test cs ≡ onto_first (take (position_or_len test cs) cs) (pieces test (drop (position_or_len test cs) cs))
        → pieces test (c ∷ cs) ≡ onto_first (take (position_or_len test (c ∷ cs)) (c ∷ cs)) (pieces test (drop (position_or_len test (c ∷ cs)) (c ∷ cs)))
    by true e ih = rw (passing test c cs e) (ap (λ t. if t then [] ∷ pieces test cs else longer c (pieces test cs)) e
        ∙ sym (ap (λ t. onto_first [] (if t then [] ∷ pieces test cs else longer c (pieces test cs))) e))
    by false e ih = rw (going test c cs e) (ap (λ t. if t then [] ∷ pieces test cs else longer c (pieces test cs)) e ∙ ap (longer c) ih ∙ longer-onto_first c (take (position_or_len test cs) cs) (pieces test (drop (position_or_len test cs) cs)))

-- behind the first piece's bytes the next piece begins
pub pieces-behind : (test : ℕ → Bool) (b : List ℕ) → (later : List (List ℕ)) × (pieces test (drop (position_or_len test b) b) ≡ [] ∷ later)
pieces-behind test [] = ([], refl)
pieces-behind test (c ∷ cs) = by (test c) refl (pieces-behind test cs)
  where
    by : (t : Bool) → test c ≡ t
        → (later : List (List ℕ)) × (pieces test (drop (position_or_len test cs) cs) ≡ [] ∷ later)
        → (later : List (List ℕ)) × (pieces test (drop (position_or_len test (c ∷ cs)) (c ∷ cs)) ≡ [] ∷ later)
    by true e ih = (pieces test cs, rw (passing test c cs e) (ap (λ t. if t then [] ∷ pieces test cs else longer c (pieces test cs)) e))
    by false e ih = (ih.0, rw (going test c cs e) ih.1)

pub words-cut : (b : List ℕ) → 0 < length b → IsDark b
    → words_of b ≡ take (position_or_len is_white b) b ∷ words_of (drop (position_or_len is_white b) b)
words-cut [] some dark = absurd (omega arith)
words-cut (c ∷ cs) some dark =
    let n = position_or_len is_white cs in
    let whole : position_or_len is_white (c ∷ cs) ≡ suc n = going is_white c cs dark in
    let behind = pieces-behind is_white (c ∷ cs) in
    let at : pieces is_white (drop (suc n) (c ∷ cs)) ≡ [] ∷ behind.0 = subst (λ k. pieces is_white (drop k (c ∷ cs)) ≡ [] ∷ behind.0) whole behind.1 in
    let front = subst (λ k. pieces is_white (c ∷ cs) ≡ onto_first (take k (c ∷ cs)) (pieces is_white (drop k (c ∷ cs)))) whole (pieces-front is_white (c ∷ cs)) in
    let joined : pieces is_white (c ∷ cs) ≡ onto_first (take (suc n) (c ∷ cs)) ([] ∷ behind.0) = front ∙ ap (onto_first (take (suc n) (c ∷ cs))) at in
    subst (λ k. words_of (c ∷ cs) ≡ take k (c ∷ cs) ∷ words_of (drop k (c ∷ cs))) (sym whole)
    (ap (filter is_some_text) joined
    ∙ ap (λ w. (c ∷ w) ∷ filter is_some_text behind.0) (append-nil (take n cs))
    ∙ ap (λ ps. take (suc n) (c ∷ cs) ∷ filter is_some_text ps) (sym at))

pub mark-at : (mark : ℕ) (b : List ℕ) (n : ℕ) → n < length b → ((k : ℕ) → 0 ≤ k → k < n → (slice_index b k == mark) ≡ true → ⊥) → (slice_index b n == mark) ≡ true
    → (before_mark mark b ≡ take n b) × (behind_mark mark b ≡ Some (drop (suc n) b))
mark-at mark [] n within before here = absurd (omega arith)
mark-at mark (c ∷ cs) zero within before here = (rw here refl, rw here refl)
mark-at mark (c ∷ cs) (suc n) within before here =
    let apart : (c == mark) ≡ false = false_from_ne_true _ (before 0 (omega arith) (omega arith)) in
    let later = mark-at mark cs n (omega arith) (λ k low high is. before (suc k) (omega arith) (omega arith) is) here in
    (rw apart (ap (λ w. c ∷ w) later.0), rw apart later.1)

pub mark-none : (mark : ℕ) (b : List ℕ) → ((k : ℕ) → 0 ≤ k → k < length b → (slice_index b k == mark) ≡ true → ⊥)
    → (before_mark mark b ≡ b) × (behind_mark mark b ≡ None)
mark-none mark [] nowhere = (refl, refl)
mark-none mark (c ∷ cs) nowhere =
    let apart : (c == mark) ≡ false = false_from_ne_true _ (nowhere 0 (omega arith) (omega arith)) in
    let later = mark-none mark cs (λ k low high is. nowhere (suc k) (omega arith) (omega arith) is) in
    (rw apart (ap (λ w. c ∷ w) later.0), rw apart later.1)
