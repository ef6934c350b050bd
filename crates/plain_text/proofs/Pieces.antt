-- One piece after another at the end of a text.
use Rattle.std.proofs.Common.{◌≡◌, ℕ, List, ◌++◌, ap, ◌∙◌, append_assoc, refl}

-- a text with the parts `a` after its start, and then with the part `b`, which is `piece`
pub after : (start a b piece : List ℕ) {was now : List ℕ} → was ≡ start ++ a → now ≡ was ++ b → b ≡ piece → now ≡ start ++ (a ++ piece)
after start a b piece first second same =
    second ∙ ap (λ v. v ++ b) first ∙ append_assoc start a b ∙ ap (λ v. start ++ (a ++ v)) same

-- three pieces after the start of a text
pub three : (start a b c : List ℕ) {one two all : List ℕ} → one ≡ start ++ a → two ≡ one ++ b → all ≡ two ++ c → all ≡ start ++ (a ++ b ++ c)
three start a b c first second third = after start (a ++ b) c c (after start a b b first second refl) third refl
