-- The line of a file that is refused.
use Rattle.std.specs.Prelude.{ℕ, List, [], ◌∷◌, ◌++◌, codes}
use Rattle.pnml_inputs.specs.declared.inputs.Role.{Role}
use Rattle.pnml_inputs.specs.declared.inputs.Role.TheVariants.{Net, Formula, Cert}

-- the word for a file
abbrev pub role_word : Role → List ℕ
role_word Net = codes "net"
role_word Formula = codes "formula"
role_word Cert = codes "certificate"

-- the line of a file that is refused, `refused ROLE WORD`
abbrev pub refusal_line : Role → List ℕ → List ℕ
refusal_line role word = codes "refused " ++ role_word role ++ 32 ∷ word ++ 10 ∷ []

-- why a file isn't taken: which one, and the words behind the file's in its line
pub record Refused : Type 0 where
  pub role : Role
  pub words : List ℕ

abbrev pub refused : Role → List ℕ → Refused
refused role words = record { role = role; words = words }
