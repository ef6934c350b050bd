-- What a reader has taken of a file that comes in pieces.
use Rattle.std.specs.Prelude.{◌≡◌, ℕ, ◌≤◌, ◌^◌, List, ◌++◌, length, Option, Some, None, Result, Err}

-- a reader without a fault stands for the bytes; a fault answers all that begins with them
abbrev pub TakenBy : {R V E : Type 0} → (R → List ℕ → Type 0) → (List ℕ → Result V E → Type 0) → R → Option E → List ℕ → Type 0
TakenBy stands answers reader None b = stands reader b
TakenBy stands answers reader (Some fault) b = (more : List ℕ) → answers (b ++ more) (Err fault)

-- so many bytes came, and where they are within the limit the reader took them
pub record HasTaken {R V E : Type 0} (stands : R → List ℕ → Type 0) (answers : List ℕ → Result V E → Type 0) (reader : R) (fault : Option E) (count : ℕ) (b : List ℕ) : Type 0 where
  pub counted : count ≡ length b
  pub taken : count ≤ 2 ^ 26 → TakenBy stands answers reader fault b
