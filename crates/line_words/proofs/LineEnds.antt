-- How lines end, whatever comes behind them.
use Rattle.std.proofs.Common.{◌≡◌, ℕ, Bool, true, false, List, [], ◌∷◌, ◌++◌, length, nat_eq, Option, None, Some, Result, Err, IfSome, IfNone, Bor, refl, sym, ap, subst, ◌∙◌, rules}
use Rattle.std.specs.Prelude.{◌==◌, if◌then◌else◌}
use Rattle.std.specs.Option.{option_copied}
use Rattle.std.proofs.lemmas.Bool.{eqb-true}
use Rattle.std.proofs.lemmas.List.{append_assoc, append-nil}
use Rattle.line_words.specs.Readers.{StandsFor}
use Rattle.line_words.specs.Words.{before_mark, behind_mark, lines_of, longer, pieces, without_last_empty}

-- the first byte isn't the mark, and the others have none either
apart : (mark c : ℕ) (cs : List ℕ) → behind_mark mark (c ∷ cs) ≡ None → ((c == mark) ≡ false) × (behind_mark mark cs ≡ None)
apart mark c cs none = by (c == mark) refl none
  where
    by : (t : Bool) → (c == mark) ≡ t → (if t then Some cs else behind_mark mark cs) ≡ None → ((c == mark) ≡ false) × (behind_mark mark cs ≡ None)
    by true e n = absurd (cc)
    by false e n = (e, n)

together : (mark c : ℕ) (cs : List ℕ) → (c == mark) ≡ false → behind_mark mark cs ≡ None → behind_mark mark (c ∷ cs) ≡ None
together mark c cs e none = ap (λ t. if t then Some cs else behind_mark mark cs) e ∙ none

pub none_joined : (mark : ℕ) (x y : List ℕ) → behind_mark mark x ≡ None → behind_mark mark y ≡ None → behind_mark mark (x ++ y) ≡ None
none_joined mark [] y none later = later
none_joined mark (c ∷ cs) y none later =
    let parts = apart mark c cs none in
    together mark c (cs ++ y) parts.0 (none_joined mark cs y parts.1 later)

pub none_before : (mark : ℕ) (b : List ℕ) → behind_mark mark (before_mark mark b) ≡ None
none_before mark [] = refl
none_before mark (c ∷ cs) = by (c == mark) refl (none_before mark cs)
  where
    by : (t : Bool) → (c == mark) ≡ t → behind_mark mark (before_mark mark cs) ≡ None
        → behind_mark mark (if t then [] else c ∷ before_mark mark cs) ≡ None
    by true e ih = refl
    by false e ih = together mark c (before_mark mark cs) e ih

pub all_before : (mark : ℕ) (b : List ℕ) → behind_mark mark b ≡ None → b ≡ before_mark mark b
all_before mark [] none = refl
all_before mark (c ∷ cs) none =
    let parts = apart mark c cs none in
    ap (λ w. c ∷ w) (all_before mark cs parts.1) ∙ sym (ap (λ t. if t then [] else c ∷ before_mark mark cs) parts.0)

pub split_at_mark : (mark : ℕ) (b behind : List ℕ) → behind_mark mark b ≡ Some behind → b ≡ before_mark mark b ++ mark ∷ behind
split_at_mark mark [] behind some = absurd (cc)
split_at_mark mark (c ∷ cs) behind some = by (c == mark) refl some (split_at_mark mark cs behind)
  where
    by : (t : Bool) → (c == mark) ≡ t → (if t then Some cs else behind_mark mark cs) ≡ Some behind
        → (behind_mark mark cs ≡ Some behind → cs ≡ before_mark mark cs ++ mark ∷ behind)
        → c ∷ cs ≡ (if t then [] else c ∷ before_mark mark cs) ++ mark ∷ behind
    by true e s ih = let same : c ≡ mark = eqb-true c mark e in let rest : cs ≡ behind = cc in cc
    by false e s ih = ap (λ w. c ∷ w) (ih s)

pub cut_parts : (mark : ℕ) (b front : List ℕ) (behind : Option (Bor (List ℕ))) → front ≡ before_mark mark b → option_copied behind ≡ behind_mark mark b
    → (behind_mark mark front ≡ None) × IfSome behind (λ x. b ≡ front ++ mark ∷ x.now) × IfNone behind (b ≡ front)
cut_parts mark b front None before there =
    (ap (behind_mark mark) before ∙ none_before mark b, tt, all_before mark b (sym there) ∙ sym before)
cut_parts mark b front (Some x) before there =
    (ap (behind_mark mark) before ∙ none_before mark b, split_at_mark mark b x.now (sym there) ∙ ap (λ w. w ++ mark ∷ x.now) (sym before), tt)

piece_ended : (x y : List ℕ) → behind_mark 10 x ≡ None → pieces (λ c. c == 10) (x ++ 10 ∷ y) ≡ x ∷ pieces (λ c. c == 10) y
piece_ended [] y none = refl
piece_ended (c ∷ cs) y none =
    let parts = apart 10 c cs none in
    ap (λ t. if t then [] ∷ pieces (λ b. b == 10) (cs ++ 10 ∷ y) else longer c (pieces (λ b. b == 10) (cs ++ 10 ∷ y))) parts.0
    ∙ ap (longer c) (piece_ended cs y parts.1)

one_piece : (x : List ℕ) → behind_mark 10 x ≡ None → pieces (λ c. c == 10) x ≡ x ∷ []
one_piece [] none = refl
one_piece (c ∷ cs) none =
    let parts = apart 10 c cs none in
    ap (λ t. if t then [] ∷ pieces (λ b. b == 10) cs else longer c (pieces (λ b. b == 10) cs)) parts.0
    ∙ ap (longer c) (one_piece cs parts.1)

some_piece : (test : ℕ → Bool) (b : List ℕ) → (first : List ℕ) × (later : List (List ℕ)) × (pieces test b ≡ first ∷ later)
some_piece test [] = ([], [], refl)
some_piece test (c ∷ cs) = by (test c) (some_piece test cs)
  where
    by : (t : Bool) → (first : List ℕ) × (later : List (List ℕ)) × (pieces test cs ≡ first ∷ later)
        → (first : List ℕ) × (later : List (List ℕ)) × ((if t then [] ∷ pieces test cs else longer c (pieces test cs)) ≡ first ∷ later)
    by true ih = ([], pieces test cs, refl)
    by false (first, later, is) = (c ∷ first, later, ap (longer c) is)

pub line_then : (x y : List ℕ) → behind_mark 10 x ≡ None → lines_of (x ++ 10 ∷ y) ≡ x ∷ lines_of y
line_then x y none =
    let next = some_piece (λ c. c == 10) y in
    ap without_last_empty (piece_ended x y none ∙ ap (λ ps. x ∷ ps) next.2)
    ∙ ap (λ ps. x ∷ without_last_empty ps) (sym next.2)

pub last_line : (x : List ℕ) → behind_mark 10 x ≡ None → nat_eq (length x) 0 ≡ false → lines_of x ≡ x ∷ []
last_line [] none some = absurd (cc)
last_line (c ∷ cs) none some = ap without_last_empty (one_piece (c ∷ cs) none)

pub no_line : (x : List ℕ) → nat_eq (length x) 0 ≡ true → lines_of x ≡ []
no_line [] none = refl
no_line (c ∷ cs) none = search (rules, none)

-- bytes that were kept behind others, or for want of memory weren't
pub none_kept : (t : Bool) (x y z : List ℕ) → z ≡ (if t then x ++ y else x) → behind_mark 10 x ≡ None → behind_mark 10 y ≡ None → behind_mark 10 z ≡ None
none_kept true x y z is none later = ap (behind_mark 10) is ∙ none_joined 10 x y none later
none_kept false x y z is none later = ap (behind_mark 10) is ∙ none

pub ended : (rest end more : List ℕ) → behind_mark 10 rest ≡ None → behind_mark 10 end ≡ None → (rest ++ end) ∷ lines_of more ≡ lines_of (rest ++ (end ++ 10 ∷ more))
ended rest end more first last = sym (line_then (rest ++ end) more (none_joined 10 rest end first last)) ∙ ap lines_of (append_assoc rest end (10 ∷ more))

-- a reader at the end of all bytes
pub stands_at_end : {T V E : Type 0} (follows : T → ℕ → List (List ℕ) → Result V E → Type 0) (answers : List (List ℕ) → Result V E → Type 0)
    (taker : T) (number : ℕ) (rest : List ℕ) (refused : Option E) (bytes : List ℕ) (r : Result V E) → refused ≡ None
    → StandsFor follows answers taker number rest refused bytes → follows taker number (lines_of rest) r → answers (lines_of bytes) r
stands_at_end {T} {V} {E} follows answers taker number rest refused bytes r is stands f =
    let now = subst (λ o. StandsFor {T = T} {V = V} {E = E} follows answers taker number rest o bytes) is stands in
    subst (λ l. answers (lines_of l) r) (append-nil bytes) (now [] r (subst (λ l. follows taker number (lines_of l) r) (sym (append-nil rest)) f))

pub refused_at_end : {T V E : Type 0} (follows : T → ℕ → List (List ℕ) → Result V E → Type 0) (answers : List (List ℕ) → Result V E → Type 0)
    (taker : T) (number : ℕ) (rest : List ℕ) (refused : Option E) (bytes : List ℕ) (fault : E) → refused ≡ Some fault
    → StandsFor follows answers taker number rest refused bytes → answers (lines_of bytes) (Err fault)
refused_at_end {T} {V} {E} follows answers taker number rest refused bytes fault is stands =
    subst (λ l. answers (lines_of l) (Err fault)) (append-nil bytes)
    (subst (λ o. StandsFor {T = T} {V = V} {E = E} follows answers taker number rest o bytes) is stands [])
