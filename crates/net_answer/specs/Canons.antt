-- What `canon` says of the bytes of a net file.
use Rattle.std.specs.Prelude.{◌≡◌, ℕ, List}
use Rattle.doc_model.specs.declared.tree.Element.{Element}
use Rattle.net_model.specs.declared.nets.Net.{Net}
use Rattle.pnml_inputs.specs.declared.inputs.Role.TheVariants as role
use Rattle.pnml_write.specs.Canon.{canonical_text}
use Rattle.answers.specs.Stages.{and_then, reply_by}
use Rattle.answers.specs.declared.stages.Stage.{Stage}
use Rattle.answers.specs.declared.verdicts.Verdict.{Verdict}
use Rattle.answers.specs.declared.verdicts.Verdict.TheVariants as verdict
use Rattle.net_answer.specs.Documents.{IsDocument, net_of_tree}

-- the canonical text of a net
abbrev pub canon_of_net : Net → Verdict × List ℕ
canon_of_net net = (verdict.Done, canonical_text net)

-- by what its bytes come to as a document
abbrev pub canon_of : Stage Element → Verdict × List ℕ
canon_of document = reply_by canon_of_net (and_then document net_of_tree)

abbrev pub IsCanon : List ℕ → Verdict → List ℕ → Type 0
IsCanon bytes verdict text = (document : Stage Element) × IsDocument role.Net bytes document × ((verdict, text) ≡ canon_of document)
