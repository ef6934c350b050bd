-- The sections of a certificate, each with the goal of its property (this project's own).
use Rattle.std.specs.Prelude.{ℕ, List, map, Option}
use Rattle.pt_net.specs.Numbering.{NetNumbering}
use Rattle.pt_net.specs.Systems.{NetSystem}
use Rattle.cert_lines.specs.declared.certificates.Fact.{Fact}
use Rattle.cert_lines.specs.declared.certificates.Node.{Node}
use Rattle.cert_model.specs.Formulas.{Formula}
use Rattle.cert_model.specs.Judging.{Judged}
use Rattle.cert_names.specs.Sections as names
use Rattle.cert_names.specs.Lines as lines
use Rattle.net_firing.specs.Coloured.{ColouredNet}
use Rattle.mcc_model.specs.declared.formulas.Goal.{Goal}
use Rattle.net_props.specs.Properties.{invariant_of}
use Rattle.net_props.specs.Resolved.{resolved}

-- a coloured net, the numbers and names of its unfolded net, and the unfolded net
pub record Setting : Type 0 where
  pub coloured : ColouredNet
  pub numbering : NetNumbering
  pub unfolded : NetSystem

-- the invariant of the goal over the place instances, and the tree
abbrev pub unfolded_section : ColouredNet → Goal × List Node → Formula × List Node
unfolded_section net section = (resolved net (invariant_of section.0), section.1)

-- the first line with a name that isn't there
abbrev pub missing_line : Setting → List Fact → List (Goal × List Node) → Option ℕ
missing_line setting all sections = lines.missing_line setting.numbering setting.unfolded all (map (λ section. section.1) sections)

-- the line at which the walks over all trees have cost too much
abbrev pub tree_limit : Setting → List Fact → List (Goal × List Node) → Option ℕ
tree_limit setting all sections = names.tree_limit setting.numbering setting.unfolded all (map (unfolded_section setting.coloured) sections)

-- what a section, and facts and sections, come to
abbrev pub section_judgement : Setting → List Fact → Goal × List Node → Judged
section_judgement setting all section = names.section_judgement setting.numbering setting.unfolded all (unfolded_section setting.coloured section)

abbrev pub judgement : Setting → List Fact → List (Goal × List Node) → Judged
judgement setting all sections = names.judgement setting.numbering setting.unfolded all (map (unfolded_section setting.coloured) sections)
