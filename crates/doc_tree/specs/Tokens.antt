-- Tags and attributes that lie whole in the bytes at hand.
use Rattle.std.specs.Prelude.{◌≡◌, ◌∷◌, ◌+◌, ◌<◌, ℕ, List, true, take, drop, length, get_or}
use Rattle.doc_tree.specs.declared.places.Open.{Open}
use Rattle.doc_tree.specs.declared.places.Quote.TheVariants.{Double}
use Rattle.doc_tree.specs.Characters.{all_bytes, is_name_start, is_name_byte, is_value}

-- `<`, a name of so many bytes and one, and a byte more
pub record IsStart (n : ℕ) (bytes : List ℕ) : Type 0 where
  pub within : n + 2 < length bytes
  pub less : get_or bytes 0 0 ≡ 60
  pub first : is_name_start (get_or bytes 1 0) ≡ true
  pub more : all_bytes is_name_byte (take n (drop 2 bytes)) ≡ true

-- `</`, the innermost element's name, which is of so many bytes, and `>`
pub record IsEnd (n : ℕ) (opens : List Open) (bytes : List ℕ) : Type 0 where
  pub within : n + 2 < length bytes
  pub less : get_or bytes 0 0 ≡ 60
  pub slash : get_or bytes 1 0 ≡ 47
  pub name : (o : Open) × (os : List Open) × (opens ≡ o ∷ os) × (n ≡ length o.name) × (take n (drop 2 bytes) ≡ o.name)
  pub greater : get_or bytes (n + 2) 0 ≡ 62

-- a name of so many bytes and one, `="`, a value of so many bytes, and `"`
pub record IsPair (n m : ℕ) (bytes : List ℕ) : Type 0 where
  pub within : n + 3 + m < length bytes
  pub first : is_name_start (get_or bytes 0 0) ≡ true
  pub more : all_bytes is_name_byte (take n (drop 1 bytes)) ≡ true
  pub equals : get_or bytes (n + 1) 0 ≡ 61
  pub opening : get_or bytes (n + 2) 0 ≡ 34
  pub value : all_bytes (is_value Double) (take m (drop (n + 3) bytes)) ≡ true
  pub closing : get_or bytes (n + 3 + m) 0 ≡ 34
