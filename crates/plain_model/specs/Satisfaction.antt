-- When a marking satisfies the invariant of a property (Model Checking Contest, `integer-le`, `tokens-count`).
use Rattle.std.specs.Prelude.{ℕ, ◌+◌, ◌≤◌, List, [], ◌∷◌, bytes_eq, if◌then◌else◌}
use Rattle.plain_model.specs.declared.nets.Place.{Place}
use Rattle.plain_model.specs.declared.nets.PlainNet.{PlainNet}
use Rattle.plain_model.specs.declared.properties.Property.{Property}
use Rattle.plain_model.specs.declared.properties.Count.{Count}
use Rattle.plain_model.specs.declared.properties.Count.TheVariants.{Number, Tokens}

-- the tokens on the place with this id
abbrev pub tokens_on : List Place → List ℕ → List ℕ → ℕ
tokens_on (place ∷ places) (count ∷ marking) id = (if bytes_eq place.id id then count else 0) + tokens_on places marking id
tokens_on _ _ id = 0

-- the tokens on all listed places, a place listed twice twice
abbrev pub tokens_on_all : List Place → List ℕ → List (List ℕ) → ℕ
tokens_on_all places marking [] = 0
tokens_on_all places marking (id ∷ ids) = tokens_on places marking id + tokens_on_all places marking ids

abbrev pub value_of : PlainNet → List ℕ → Count → ℕ
value_of net marking (Number number) = number
value_of net marking (Tokens ids) = tokens_on_all net.places marking ids

-- the property's invariant holds at the marking
abbrev pub Satisfies : PlainNet → Property → List ℕ → Type 0
Satisfies net property marking = value_of net marking property.left ≤ value_of net marking property.right
