-- What a value is written as: one word, and words behind spaces.
use Rattle.std.specs.Prelude.{ℕ, List, [], ◌∷◌, ◌++◌, flat_map, decimal, Option, None, Some}
use Rattle.std.specs.Fmt.{signed_decimal}
use Rattle.line_words.specs.declared.items.Factor.{Factor}
use Rattle.line_words.specs.declared.items.InstanceRef.{InstanceRef}
use Rattle.line_words.specs.declared.items.Multiplier.{Multiplier}
use Rattle.line_words.specs.declared.items.Multiplier.TheVariants as multiplier
use Rattle.line_words.specs.declared.items.PlaceRef.{PlaceRef}
use Rattle.line_words.specs.declared.items.Weight.{Weight}

-- `P` or `P@K`, `T@K`, `V*` and a place, `V*NAME`, `V*@H`
abbrev pub colour_text : Option ℕ → List ℕ
colour_text None = []
colour_text (Some k) = 64 ∷ decimal k

abbrev pub place_text : PlaceRef → List ℕ
place_text place = place.place ++ colour_text place.colour

abbrev pub instance_text : InstanceRef → List ℕ
instance_text instance = instance.transition ++ 64 ∷ decimal instance.binding

abbrev pub weight_text : Weight → List ℕ
weight_text weight = signed_decimal weight.value ++ 42 ∷ place_text weight.place

abbrev pub factor_text : Factor → List ℕ
factor_text factor = signed_decimal factor.value ++ 42 ∷ factor.fact

abbrev pub multiplier_text : Multiplier → List ℕ
multiplier_text (multiplier.Fact factor) = factor_text factor
multiplier_text (multiplier.Hypothesis value number) = signed_decimal value ++ 42 ∷ 64 ∷ decimal number

-- a word, and each of a list, behind a space
abbrev pub spaced : List ℕ → List ℕ
spaced word = 32 ∷ word

abbrev pub all_spaced : {A : Type 0} → (A → List ℕ) → List A → List ℕ
all_spaced text items = flat_map (λ item. spaced (text item)) items

abbrev pub ended : List ℕ → List ℕ
ended line = line ++ 10 ∷ []
