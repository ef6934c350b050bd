-- What `check` says of the bytes of a net, a formula file and a certificate, and in which text.
use Rattle.std.specs.Prelude.{◌≡◌, ℕ, ◌⊎◌, List, codes}
use Rattle.plain_model.specs.declared.nets.PlainNet.{PlainNet}
use Rattle.plain_model.specs.declared.properties.Property.{Property}
use Rattle.plain_model.specs.declared.certificates.Certificate.{Certificate}
use Rattle.plain_model.specs.declared.verdicts.Judged.{Judged}
use Rattle.plain_model.specs.declared.verdicts.Judged.TheVariants as judged
use Rattle.plain_model.specs.Obligations.{judgement}
use Rattle.plain_model.specs.Plain.{IsPlainNet, IsPlainProperty, IsPlainCertificate}
use Rattle.plain_model.specs.Report.{report}
use Rattle.plain_text.specs.Nets.{net_text}
use Rattle.plain_text.specs.Properties.{property_text}
use Rattle.plain_text.specs.Certificates.{certificate_text}
use Rattle.pnml_inputs.specs.Texts.{Texts}
use Rattle.pnml_inputs.specs.declared.inputs.Role.{Role}
use Rattle.answers.specs.Refusals.{refusal_line}
use Rattle.answers.specs.declared.verdicts.Verdict.{Verdict}
use Rattle.answers.specs.declared.verdicts.Verdict.TheVariants.{Holds, NotShown, Range, Refused}

-- what is said by what the obligations show
abbrev pub verdict_of : Judged → Verdict
verdict_of judged.Shown = Holds
verdict_of (judged.NotShown spot) = NotShown
verdict_of (judged.Range spot) = Range

-- the three texts are those of a net, a property and a certificate of the first grammar, and these are judged
pub record IsJudged (texts : Texts) (verdict : Verdict) (text : List ℕ) : Type 0 where
  pub net : PlainNet
  pub property : Property
  pub certificate : Certificate
  pub net_file : net_text net ≡ texts.net
  pub formula_file : property_text property ≡ texts.formula
  pub certificate_file : certificate_text certificate ≡ texts.certificate
  pub plain_net : IsPlainNet net
  pub plain_property : IsPlainProperty net property
  pub plain_certificate : IsPlainCertificate net property certificate
  pub verdict_is : verdict ≡ verdict_of (judgement net property certificate)
  pub text_is : text ≡ report net property certificate (judgement net property certificate)

-- one of the files isn't taken yet. Which one, and where, stays free: it is the one answer that the definitions don't
-- determine so far
pub record IsNotYet (verdict : Verdict) (text : List ℕ) : Type 0 where
  pub role : Role
  pub verdict_is : verdict ≡ Refused
  pub text_is : text ≡ refusal_line role (codes "not-yet")

abbrev pub IsVerdict : Texts → Verdict → List ℕ → Type 0
IsVerdict texts verdict text = IsJudged texts verdict text ⊎ IsNotYet verdict text
