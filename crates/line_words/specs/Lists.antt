-- What a row of words says: a word and the words after it, each of the words, or no word.
use Rattle.std.specs.Prelude.{ℕ, List, [], ◌∷◌, Option, None, Some}
use Rattle.std.specs.Option.{option_and_then, option_map}

-- the value of the first word, and the words after it
abbrev pub first_of : {A : Type 0} → (List ℕ → Option A) → List (List ℕ) → Option (A × List (List ℕ))
first_of one [] = None
first_of one (word ∷ words) = option_map (λ x. (x, words)) (one word)

-- a word, and what the words after it say, given its value
abbrev pub word_then : {A B : Type 0} → (List ℕ → Option A) → (A → List (List ℕ) → Option B) → List (List ℕ) → Option B
word_then one rest words = option_and_then (λ x. rest x.0 x.1) (first_of one words)

-- what each of the words says, where each of them says it
abbrev pub both_of : {A : Type 0} → Option A → Option (List A) → Option (List A)
both_of None later = None
both_of (Some x) None = None
both_of (Some x) (Some xs) = Some (x ∷ xs)

abbrev pub all_of : {A : Type 0} → (List ℕ → Option A) → List (List ℕ) → Option (List A)
all_of one [] = Some []
all_of one (word ∷ words) = both_of (one word) (all_of one words)

-- words up to the end of the line
abbrev pub words_then : {A B : Type 0} → (List ℕ → Option A) → (List A → B) → List (List ℕ) → Option B
words_then one made words = option_map made (all_of one words)

-- the end of the line
abbrev pub end_with : {B : Type 0} → B → List (List ℕ) → Option B
end_with value [] = Some value
end_with value (word ∷ words) = None
