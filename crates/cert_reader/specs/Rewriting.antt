-- Certificates that are the same but for the numbers of their lines, and what a written one spells.
use Rattle.std.specs.Prelude.{ℕ, List, map, ◌≡◌}
use Rattle.cert_lines.specs.Texts.{certificate_text}
use Rattle.cert_lines.specs.declared.certificates.Cert.{Cert}
use Rattle.cert_lines.specs.declared.certificates.Fact.{Fact}
use Rattle.cert_lines.specs.declared.certificates.FactKind.{FactKind}
use Rattle.cert_lines.specs.declared.certificates.FactKind.TheVariants.{Flow, Trap, Bound}
use Rattle.cert_lines.specs.declared.certificates.Node.{Node}
use Rattle.cert_lines.specs.declared.certificates.Section.{Section}
use Rattle.cert_lines.specs.declared.certificates.Step.{Step}
use Rattle.cert_reader.specs.Grammar.{Spells}

-- each line has the number 0
abbrev pub unnumbered_step : Step → Step
unnumbered_step step = record {
  line = 0;
  transition = step.transition;
  binding = step.binding;
  scale = step.scale;
  keep = step.keep;
  factors = step.factors;
}

abbrev pub unnumbered_kind : FactKind → FactKind
unnumbered_kind (Flow weights) = Flow weights
unnumbered_kind (Trap places) = Trap places
unnumbered_kind (Bound limit weights steps) = Bound limit weights (map unnumbered_step steps)

abbrev pub unnumbered_fact : Fact → Fact
unnumbered_fact fact = record { line = 0; name = fact.name; kind = unnumbered_kind fact.kind }

abbrev pub unnumbered_node : Node → Node
unnumbered_node node = record { line = 0; form = node.form }

abbrev pub unnumbered_section : Section → Section
unnumbered_section section = record { line = 0; property = section.property; tree = map unnumbered_node section.tree }

abbrev pub unnumbered : Cert → Cert
unnumbered cert = record { version = cert.version; facts = map unnumbered_fact cert.facts; sections = map unnumbered_section cert.sections }

-- what is written of a certificate that a file spells spells the same certificate, the numbers of lines aside
abbrev pub WrittenIsRead : Type 0
WrittenIsRead = (bytes : List ℕ) (cert : Cert) → Spells bytes cert
    → (again : Cert) × Spells (certificate_text cert) again × (unnumbered again ≡ unnumbered cert)
