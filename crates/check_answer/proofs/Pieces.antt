-- One piece after another at the end of a text.
use Rattle.std.proofs.Common.{◌≡◌, ℕ, List, ◌++◌, ap, ◌∙◌, append_assoc}

-- a text with the part `a` after its start, and then with the part `b`
pub more : (start a b : List ℕ) {was now : List ℕ} → was ≡ start ++ a → now ≡ was ++ b → now ≡ start ++ (a ++ b)
more start a b first second = second ∙ ap (λ v. v ++ b) first ∙ append_assoc start a b

-- the same, with a label before the part
pub more_labelled : (start a label b : List ℕ) {was now : List ℕ} → was ≡ start ++ a → now ≡ was ++ label ++ b → now ≡ start ++ (a ++ label ++ b)
more_labelled start a label b first second =
    second ∙ ap (λ v. v ++ label ++ b) first ∙ ap (λ v. v ++ b) (append_assoc start a label) ∙ append_assoc start (a ++ label) b
