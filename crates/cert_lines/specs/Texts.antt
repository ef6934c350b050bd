-- The canonical text of a certificate: one space between words, and a line feed after each line.
use Rattle.std.specs.Prelude.{ℕ, List, [], ◌++◌, flat_map, codes, decimal}
use Rattle.std.specs.Fmt.{signed_decimal}
use Rattle.line_words.specs.Texts.{all_spaced, ended, factor_text, instance_text, multiplier_text, place_text, spaced, weight_text}
use Rattle.line_words.specs.declared.lines.Line.TheVariants.{Passed, Faulty, Says}
use Rattle.cert_lines.specs.Order.{lines_of_cert}
use Rattle.cert_lines.specs.Statements.{CertLine}
use Rattle.cert_lines.specs.declared.certificates.Cert.{Cert}
use Rattle.cert_lines.specs.declared.certificates.NodeForm.{NodeForm}
use Rattle.cert_lines.specs.declared.certificates.NodeForm.TheVariants.{Close, Clash, Split, Cases, Each}
use Rattle.cert_lines.specs.declared.certificates.Version.{Version}
use Rattle.cert_lines.specs.declared.certificates.Version.TheVariants.{One, Two}
use Rattle.cert_lines.specs.declared.statements.Claim.{Claim}
use Rattle.cert_lines.specs.declared.statements.Claim.TheVariants as claim
use Rattle.cert_lines.specs.declared.statements.Statement.{Statement}
use Rattle.cert_lines.specs.declared.statements.Statement.TheVariants.{Certificate, Property, Fact, Step, Proof, Node, End}
use Rattle.cert_lines.specs.declared.statements.StepClaim.{StepClaim}

-- what a line says, without its line feed
abbrev pub version_text : Version → List ℕ
version_text One = codes "1"
version_text Two = codes "2"

abbrev pub claim_text : List ℕ → Claim → List ℕ
claim_text name (claim.Flow weights) = codes "flow" ++ spaced name ++ all_spaced weight_text weights
claim_text name (claim.Trap places) = codes "trap" ++ spaced name ++ all_spaced place_text places
claim_text name (claim.Bound limit weights) = codes "bound" ++ spaced name ++ spaced (signed_decimal limit) ++ all_spaced weight_text weights

abbrev pub step_text : StepClaim → List ℕ
step_text step =
    codes "step"
    ++ spaced (instance_text step.origin)
    ++ spaced (signed_decimal step.scale)
    ++ spaced (signed_decimal step.keep)
    ++ all_spaced factor_text step.factors

abbrev pub node_text : NodeForm → List ℕ
node_text (Close multipliers) = codes "close" ++ all_spaced multiplier_text multipliers
node_text (Clash place) = codes "clash" ++ spaced (place_text place)
node_text (Split limit weights) = codes "split" ++ spaced (signed_decimal limit) ++ all_spaced weight_text weights
node_text (Cases choice branches) = codes "cases" ++ spaced (decimal choice) ++ spaced (decimal branches)
node_text (Each choice) = codes "each" ++ spaced (decimal choice)

abbrev pub statement_text : Statement → List ℕ
statement_text (Certificate version) = codes "certificate" ++ spaced (version_text version)
statement_text (Property id) = codes "property" ++ spaced id
statement_text (Fact name said) = claim_text name said
statement_text (Step step) = step_text step
statement_text Proof = codes "proof"
statement_text (Node form) = node_text form
statement_text End = codes "end"

-- a line that says something, and all lines
abbrev pub line_text : ℕ × CertLine → List ℕ
line_text (number, Passed) = []
line_text (number, Faulty) = []
line_text (number, Says statement) = ended (statement_text statement)

abbrev pub certificate_text : Cert → List ℕ
certificate_text cert = flat_map line_text (lines_of_cert cert)
