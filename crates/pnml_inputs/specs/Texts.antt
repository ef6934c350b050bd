-- The three texts of a command.
use Rattle.std.specs.Prelude.{ℕ, List}

-- the bytes of the net file, of the formula file and of the certificate file
pub record Texts : Type 0 where
  pub net : List ℕ
  pub formula : List ℕ
  pub certificate : List ℕ
