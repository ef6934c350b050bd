-- What the verdict Holds shows of the three files.
use Rattle.std.specs.Prelude.{◌≡◌, ℕ, List}
use Rattle.plain_model.specs.declared.nets.PlainNet.{PlainNet}
use Rattle.plain_model.specs.declared.properties.Property.{Property}
use Rattle.plain_model.specs.declared.certificates.Certificate.{Certificate}
use Rattle.plain_model.specs.Soundness.{IsInvariant}
use Rattle.plain_text.specs.Nets.{net_text}
use Rattle.plain_text.specs.Properties.{property_text}
use Rattle.plain_text.specs.Certificates.{certificate_text}
use Rattle.pnml_inputs.specs.Texts.{Texts}
use Rattle.check_answer.specs.Verdicts.{IsVerdict}
use Rattle.answers.specs.declared.verdicts.Verdict.{Verdict}
use Rattle.answers.specs.declared.verdicts.Verdict.TheVariants.{Holds}

-- the bytes are the canonical texts of a net, a property and a certificate, and the property's invariant is true in every marking
-- that firing reaches from the net's initial marking
pub record HasInvariant (texts : Texts) : Type 0 where
  pub net : PlainNet
  pub property : Property
  pub certificate : Certificate
  pub net_file : net_text net ≡ texts.net
  pub formula_file : property_text property ≡ texts.formula
  pub certificate_file : certificate_text certificate ≡ texts.certificate
  pub invariant : IsInvariant net property

-- Holds is said only where it is
abbrev pub HoldsIsInvariant : Type 0
HoldsIsInvariant = (texts : Texts) (verdict : Verdict) (text : List ℕ) → IsVerdict texts verdict text → verdict ≡ Holds → HasInvariant texts
