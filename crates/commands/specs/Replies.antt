-- The two tables that are a command's own: what it says of its files, and what Holds shows of them.
use Rattle.std.specs.Prelude.{ℕ, List, [], ◌∷◌}
use Rattle.pnml_inputs.specs.Texts.{Texts}
use Rattle.answers.specs.declared.commands.Command.{Command}
use Rattle.answers.specs.declared.commands.Command.TheVariants.{Canon, Check}
use Rattle.answers.specs.declared.verdicts.Verdict.{Verdict}
use Rattle.net_answer.specs.Canons.{IsCanon}
use Rattle.check_answer.specs.Verdicts.{IsVerdict}
use Rattle.check_answer.specs.Headline.{HasInvariant}

-- of the bytes of one file
abbrev pub OfOne : List (List ℕ) → (List ℕ → Type 0) → Type 0
OfOne [] fact = ⊥
OfOne (net ∷ []) fact = fact net
OfOne (net ∷ _ ∷ _) fact = ⊥

-- of the bytes of a net, of properties and of a certificate
abbrev pub OfThree : List (List ℕ) → (Texts → Type 0) → Type 0
OfThree [] fact = ⊥
OfThree (net ∷ []) fact = ⊥
OfThree (net ∷ formula ∷ []) fact = ⊥
OfThree (net ∷ formula ∷ certificate ∷ []) fact = fact (record { net = net; formula = formula; certificate = certificate })
OfThree (net ∷ formula ∷ certificate ∷ _ ∷ _) fact = ⊥

-- what each command says of the bytes of its files, and in which text
abbrev pub IsReply : Command → List (List ℕ) → Verdict → List ℕ → Type 0
IsReply Canon files verdict text = OfOne files (λ net. IsCanon net verdict text)
IsReply Check files verdict text = OfThree files (λ texts. IsVerdict texts verdict text)

-- what a command shows of them where it says Holds, which only `check` does
abbrev pub Shows : Command → List (List ℕ) → Type 0
Shows Canon files = ⊥
Shows Check files = OfThree files HasInvariant
