-- White at the end of a text, byte by byte.
use Rattle.std.proofs.Common.{◌≡◌, ℕ, ◌+◌, ◌<◌, true, false, List, [], ◌∷◌, length, take, get_or, reverse, sym, ap, ◌∙◌, if◌then◌else◌}
use Rattle.std.proofs.lemmas.List.{reverse-append, reverse-reverse, take_more}
use Rattle.doc_tree.specs.Characters.{is_white}
use Rattle.net_elements.specs.Rules.{without_front}

reverse_more : (text : List ℕ) (n : ℕ) → n < length text → reverse (take (n + 1) text) ≡ get_or text n 0 ∷ reverse (take n text)
reverse_more text n within = ap reverse (take_more text n 0 within) ∙ reverse-append (take n text) (get_or text n 0 ∷ [])

front_white : (c : ℕ) (cs : List ℕ) → is_white c ≡ true → without_front (c ∷ cs) ≡ without_front cs
front_white c cs h = ap (λ b. if b then without_front cs else c ∷ cs) h

front_dark : (c : ℕ) (cs : List ℕ) → is_white c ≡ false → without_front (c ∷ cs) ≡ c ∷ cs
front_dark c cs h = ap (λ b. if b then without_front cs else c ∷ cs) h

pub trim_step : (text : List ℕ) (n : ℕ) → n < length text → is_white (get_or text n 0) ≡ true
    → without_front (reverse (take (n + 1) text)) ≡ without_front (reverse (take n text))
trim_step text n within white = ap without_front (reverse_more text n within) ∙ front_white (get_or text n 0) (reverse (take n text)) white

pub trim_stop : (text : List ℕ) (n : ℕ) → n < length text → is_white (get_or text n 0) ≡ false
    → reverse (without_front (reverse (take (n + 1) text))) ≡ take (n + 1) text
trim_stop text n within dark =
    ap (λ xs. reverse (without_front xs)) (reverse_more text n within)
    ∙ ap reverse (front_dark (get_or text n 0) (reverse (take n text)) dark)
    ∙ ap reverse (sym (reverse_more text n within))
    ∙ reverse-reverse (take (n + 1) text)
