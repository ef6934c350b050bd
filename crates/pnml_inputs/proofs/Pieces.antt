-- What is read or written piece by piece.
use Rattle.std.proofs.Common.{◌≡◌, ℕ, ◌+◌, ◌-◌, List, ◌++◌, length, take, drop, Option, Some, None, sym, ap, ◌∙◌, subst, append_assoc, length-drop}
use Rattle.std.specs.Io.KnownBytes.{Appends}
use Rattle.std.proofs.Math.Seq.{take-add, take-length}

-- a slice from a place to the end is the list without what stands before the place
pub all_of_rest : (xs : List ℕ) (at : ℕ) → take (length xs - at) (drop at xs) ≡ drop at xs
all_of_rest xs at = subst (λ n. take n (drop at xs) ≡ drop at xs) (length-drop at xs) (take-length (drop at xs))

joined : (a b c : Option (List ℕ)) (front more : List ℕ) → Appends a b front → Appends b c more → Appends a c (front ++ more)
joined None b c front more p q = tt
joined (Some xs) None c front more p q = absurd p
joined (Some xs) (Some ys) None front more p q = absurd q
joined (Some xs) (Some ys) (Some zs) front more p q = q ∙ ap (λ l. l ++ more) p ∙ append_assoc xs front more

-- the first bytes of a text, and then the next ones
pub appended : (a b c : Option (List ℕ)) (text : List ℕ) (at n : ℕ) → Appends a b (take at text) → Appends b c (take n (drop at text)) → Appends a c (take (at + n) text)
appended a b c text at n p q = subst (Appends a c) (sym (take-add at n text)) (joined a b c _ _ p q)
