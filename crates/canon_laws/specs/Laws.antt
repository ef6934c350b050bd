-- Canonical trees and texts give the net that they are of.
use Rattle.std.specs.Prelude.{◌≡◌, ◌↔◌, []}
use Rattle.doc_model.specs.declared.tree.Element.{Element}
use Rattle.doc_tree.specs.Documents.{Spells}
use Rattle.doc_tree.specs.Writable.{IsWritable}
use Rattle.net_elements.specs.Rules.{broken_rules}
use Rattle.net_model.specs.declared.nets.Net.{Net}
use Rattle.pnml_read.specs.Nets.{net_of}
use Rattle.pnml_write.specs.Canon.{canonical_text, tree_of}
use Rattle.canon_laws.specs.Fitting.{NetFits}

-- the canonical tree of a net gives the net again
abbrev pub TreesGiveTheNet : Type 0
TreesGiveTheNet = (net : Net) → NetFits net → net_of (tree_of net) ≡ net

-- where its tree can be written, the canonical text of a net spells a tree that gives the net again
abbrev pub TextsGiveTheNet : Type 0
TextsGiveTheNet = (net : Net) → NetFits net → IsWritable (tree_of net) → (t : Element) × Spells (canonical_text net) t × (net_of t ≡ net)

-- two such nets with the same canonical text are the same
abbrev pub TextsTellNetsApart : Type 0
TextsTellNetsApart =
    (n m : Net) → NetFits n → NetFits m → IsWritable (tree_of n) → IsWritable (tree_of m) → canonical_text n ≡ canonical_text m → n ≡ m

-- reading and writing a canonical text again changes nothing
abbrev pub CanonicalTextsStay : Type 0
CanonicalTextsStay =
    (net : Net) → NetFits net → IsWritable (tree_of net) → (t : Element) → Spells (canonical_text net) t → canonical_text (net_of t) ≡ canonical_text net

-- a net that is read: that of a tree that breaks no rule
abbrev pub IsRead : Net → Type 0
IsRead net = (t : Element) × (broken_rules t ≡ []) × (net_of t ≡ net)

-- the canonical text of a net that is read spells a tree that breaks no rule and gives the net again
abbrev pub ReadNetsAreSpelled : Type 0
ReadNetsAreSpelled = (net : Net) → IsRead net → (t : Element) × Spells (canonical_text net) t × (broken_rules t ≡ []) × (net_of t ≡ net)

-- two nets that are read are the same exactly where their canonical texts are
abbrev pub ReadNetsAreToldApart : Type 0
ReadNetsAreToldApart = (n m : Net) → IsRead n → IsRead m → (n ≡ m) ↔ (canonical_text n ≡ canonical_text m)

-- reading and writing the canonical text of a net that is read refuses nothing and changes nothing
abbrev pub ReadNetsStay : Type 0
ReadNetsStay =
    (net : Net) → IsRead net → (t : Element) → Spells (canonical_text net) t → (broken_rules t ≡ []) × (canonical_text (net_of t) ≡ canonical_text net)
