-- The lines of a certificate in their order, each with its number. In which lines the version, `proof` and `end` stand
-- is no part of a certificate: their number is 0 here.
use Rattle.std.specs.Prelude.{ℕ, List, [], ◌∷◌, ◌++◌, map, flat_map}
use Rattle.line_words.specs.declared.items.InstanceRef.{InstanceRef}
use Rattle.line_words.specs.declared.lines.Line.TheVariants.{Says}
use Rattle.cert_lines.specs.Statements.{CertLine}
use Rattle.cert_lines.specs.declared.certificates.Cert.{Cert}
use Rattle.cert_lines.specs.declared.certificates.Fact.{Fact}
use Rattle.cert_lines.specs.declared.certificates.FactKind.{FactKind}
use Rattle.cert_lines.specs.declared.certificates.FactKind.TheVariants.{Flow, Trap, Bound}
use Rattle.cert_lines.specs.declared.certificates.Node.{Node}
use Rattle.cert_lines.specs.declared.certificates.Section.{Section}
use Rattle.cert_lines.specs.declared.certificates.Step.{Step}
use Rattle.cert_lines.specs.declared.certificates.Version.{Version}
use Rattle.cert_lines.specs.declared.certificates.Version.TheVariants.{One, Two}
use Rattle.cert_lines.specs.declared.statements.Claim.{Claim}
use Rattle.cert_lines.specs.declared.statements.Claim.TheVariants as claim
use Rattle.cert_lines.specs.declared.statements.Statement.TheVariants as say

-- the line of a fact, and those of its steps behind it
abbrev pub claim_of : FactKind → Claim
claim_of (Flow weights) = claim.Flow weights
claim_of (Trap places) = claim.Trap places
claim_of (Bound limit weights steps) = claim.Bound limit weights

abbrev pub steps_of : FactKind → List Step
steps_of (Flow weights) = []
steps_of (Trap places) = []
steps_of (Bound limit weights steps) = steps

abbrev pub origin_of : Step → InstanceRef
origin_of step = record { transition = step.transition; binding = step.binding }

abbrev pub step_line : Step → ℕ × CertLine
step_line step = (
  step.line,
  Says (say.Step (record { origin = origin_of step; scale = step.scale; keep = step.keep; factors = step.factors })),
)

abbrev pub fact_lines : Fact → List (ℕ × CertLine)
fact_lines fact = (fact.line, Says (say.Fact fact.name (claim_of fact.kind))) ∷ map step_line (steps_of fact.kind)

-- the line of a property, and `proof` with the lines of its tree
abbrev pub property_lines : Section → List (ℕ × CertLine)
property_lines section = (section.line, Says (say.Property section.property)) ∷ []

abbrev pub node_line : Node → ℕ × CertLine
node_line node = (node.line, Says (say.Node node.form))

abbrev pub tree_lines : Section → List (ℕ × CertLine)
tree_lines section = (0, Says say.Proof) ∷ map node_line section.tree

abbrev pub section_lines : Section → List (ℕ × CertLine)
section_lines section = property_lines section ++ tree_lines section

-- version 1 has its property before the facts, version 2 behind them
abbrev pub body_lines : Version → List Fact → List Section → List (ℕ × CertLine)
body_lines One facts sections = flat_map property_lines sections ++ (flat_map fact_lines facts ++ flat_map tree_lines sections)
body_lines Two facts sections = flat_map fact_lines facts ++ flat_map section_lines sections

abbrev pub version_line : Version → ℕ × CertLine
version_line version = (0, Says (say.Certificate version))

abbrev pub end_line : ℕ × CertLine
end_line = (0, Says say.End)

abbrev pub lines_of_cert : Cert → List (ℕ × CertLine)
lines_of_cert cert = version_line cert.version ∷ (body_lines cert.version cert.facts cert.sections ++ end_line ∷ [])
