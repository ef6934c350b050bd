-- Names of attributes that are kept to be looked up.
use Rattle.std.specs.Prelude.{◌≡◌, ℕ, ◌≤◌, List, length, map, take}
use Rattle.doc_model.specs.declared.tree.Attribute.{Attribute}

-- the names of the first attributes
pub record AreKnown (known : List (List ℕ)) (attributes : List Attribute) : Type 0 where
  pub within : length known ≤ length attributes
  pub are : known ≡ map (λ (a : Attribute). a.name) (take (length known) attributes)
