-- The canonical text of a certificate: one space between words, and a line feed after each line.
use Rattle.std.specs.Prelude.{ℕ, List, [], ◌∷◌, ◌++◌, flat_map, codes, decimal}
use Rattle.std.specs.Fmt.{signed_decimal}
use Rattle.plain_model.specs.declared.certificates.Weight.{Weight}
use Rattle.plain_model.specs.declared.certificates.Flow.{Flow}
use Rattle.plain_model.specs.declared.certificates.Multiplier.{Multiplier}
use Rattle.plain_model.specs.declared.certificates.Multiplier.TheVariants.{Fact, Hypothesis}
use Rattle.plain_model.specs.declared.certificates.Certificate.{Certificate}

-- the words and a line feed
abbrev pub line : List ℕ → List ℕ
line words = words ++ 10 ∷ []

-- a space and ` V*P`
abbrev pub weight_word : Weight → List ℕ
weight_word weight = 32 ∷ signed_decimal weight.value ++ 42 ∷ weight.place

-- a space and `V*NAME` or `V*@H`
abbrev pub multiplier_word : Multiplier → List ℕ
multiplier_word (Fact factor) = 32 ∷ signed_decimal factor.value ++ 42 ∷ factor.fact
multiplier_word (Hypothesis value number) = 32 ∷ signed_decimal value ++ codes "*@" ++ decimal number

-- `flow NAME V*P ..`
abbrev pub flow_line : Flow → List ℕ
flow_line flow = line (codes "flow " ++ flow.name ++ flat_map weight_word flow.weights)

-- `close V*@H V*NAME ..`
abbrev pub close_line : List Multiplier → List ℕ
close_line multipliers = line (codes "close" ++ flat_map multiplier_word multipliers)

-- `certificate 1` and `property ID`
abbrev pub head_lines : List ℕ → List ℕ
head_lines property = line (codes "certificate 1") ++ line (codes "property " ++ property)

-- the version, the property, the facts, the tree of one `close`, and the end
abbrev pub certificate_text : Certificate → List ℕ
certificate_text certificate =
    line (codes "certificate 1")
    ++ line (codes "property " ++ certificate.property)
    ++ flat_map flow_line certificate.flows
    ++ line (codes "proof")
    ++ close_line certificate.close
    ++ line (codes "end")
