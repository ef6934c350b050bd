-- What one word says.
use Rattle.std.specs.Prelude.{ℕ, ℤ, pos, negsuc, true, false, ◌==◌, ◌^◌, nat_lt, List, [], ◌∷◌, drop, slice_index, Option, None, Some, if◌then◌else◌}
use Rattle.std.specs.Option.{option_map}
use Rattle.name_tables.specs.Grammar.{is_id_text, number_of}
use Rattle.line_words.specs.Words.{before_mark, behind_mark}
use Rattle.line_words.specs.declared.items.InstanceRef.{InstanceRef}
use Rattle.line_words.specs.declared.items.PlaceRef.{PlaceRef}
use Rattle.line_words.specs.declared.items.Weight.{Weight}
use Rattle.line_words.specs.declared.items.Factor.{Factor}
use Rattle.line_words.specs.declared.items.Multiplier.{Multiplier}
use Rattle.line_words.specs.declared.items.Multiplier.TheVariants.{Fact, Hypothesis}

-- an id
abbrev pub id_of : List ℕ → Option (List ℕ)
id_of word = if is_id_text word then Some word else None

-- a number with a sign
abbrev pub signed_of : List ℕ → Option ℤ
signed_of word = number_of true word

-- a number up to 4294967295, without a sign
abbrev pub index_from : Option ℤ → Option ℕ
index_from None = None
index_from (Some (pos n)) = if nat_lt n (2 ^ 32) then Some n else None
index_from (Some (negsuc n)) = None

abbrev pub index_of : List ℕ → Option ℕ
index_of word = index_from (number_of false word)

-- a place: `P`, or `P@K`
abbrev pub place_from : Option (List ℕ) → Option (List ℕ) → Option PlaceRef
place_from None behind = None
place_from (Some id) None = Some (record { place = id; colour = None })
place_from (Some id) (Some digits) = option_map (λ k. record { place = id; colour = Some k }) (index_of digits)

abbrev pub place_of : List ℕ → Option PlaceRef
place_of word = place_from (id_of (before_mark 64 word)) (behind_mark 64 word)

-- a transition instance: `T@K`
abbrev pub instance_from : Option (List ℕ) → Option (List ℕ) → Option InstanceRef
instance_from None behind = None
instance_from (Some id) None = None
instance_from (Some id) (Some digits) = option_map (λ k. record { transition = id; binding = k }) (index_of digits)

abbrev pub instance_of : List ℕ → Option InstanceRef
instance_of word = instance_from (id_of (before_mark 64 word)) (behind_mark 64 word)

-- a coefficient and what it stands on: `V*`, and what is behind the star
abbrev pub coefficient_from : Option ℤ → Option (List ℕ) → Option (ℤ × List ℕ)
coefficient_from None behind = None
coefficient_from (Some value) None = None
coefficient_from (Some value) (Some behind) = Some (value, behind)

abbrev pub coefficient_of : List ℕ → Option (ℤ × List ℕ)
coefficient_of word = coefficient_from (number_of true (before_mark 42 word)) (behind_mark 42 word)

-- a weight: `V*` and a place
abbrev pub weight_from : Option (ℤ × List ℕ) → Option Weight
weight_from None = None
weight_from (Some (value, on)) = option_map (λ p. record { value = value; place = p }) (place_of on)

abbrev pub weight_of : List ℕ → Option Weight
weight_of word = weight_from (coefficient_of word)

-- a factor: `V*` and the name of a fact
abbrev pub factor_on : ℤ → List ℕ → Option Factor
factor_on value on = option_map (λ name. record { value = value; fact = name }) (id_of on)

abbrev pub factor_from : Option (ℤ × List ℕ) → Option Factor
factor_from None = None
factor_from (Some (value, on)) = factor_on value on

abbrev pub factor_of : List ℕ → Option Factor
factor_of word = factor_from (coefficient_of word)

-- a multiplier: a factor, or a hypothesis, `V*@H`
abbrev pub multiplier_on : ℤ → List ℕ → Option Multiplier
multiplier_on value on =
    if slice_index on 0 == 64
    then option_map (Hypothesis value) (index_of (drop 1 on))
    else option_map Fact (factor_on value on)

abbrev pub multiplier_from : Option (ℤ × List ℕ) → Option Multiplier
multiplier_from None = None
multiplier_from (Some (value, on)) = multiplier_on value on

abbrev pub multiplier_of : List ℕ → Option Multiplier
multiplier_of word = multiplier_from (coefficient_of word)
