-- Nets that are read fit, their canonical trees can be written and break no rule; so the laws of canonical texts hold for them.
use Rattle.std.proofs.Common.{◌≡◌, [], sym, ap, subst, ◌∙◌}
use Rattle.doc_model.specs.declared.tree.Element.{Element}
use Rattle.doc_tree.proofs.Answering.{one_tree}
use Rattle.doc_tree.proofs.Written.{written_is_spelled}
use Rattle.net_elements.specs.Rules.{broken_rules}
use Rattle.net_model.specs.declared.nets.Net.{Net}
use Rattle.pnml_read.specs.Nets.{net_of}
use Rattle.pnml_write.specs.Canon.{canonical_text, tree_of}
use Rattle.canon_laws.specs.Laws.{IsRead, ReadNetsAreSpelled, ReadNetsAreToldApart, ReadNetsStay}
use Rattle.pnml_read.proofs.Distinct.{ids_differ}
use Rattle.canon_laws.proofs.Offsets.{rules_same}
use Rattle.canon_laws.proofs.Sound.{NetIsSound}
use Rattle.canon_laws.proofs.Spelled.{texts_tell, same_net_of}
use Rattle.canon_laws.proofs.Nodes.{tree_back}
use Rattle.canon_laws.proofs.Unbroken.{sound_unbroken}
use Rattle.canon_laws.proofs.Values.{sound_values}
use Rattle.canon_laws.proofs.Writes.{sound_fits, sound_writable}

sound_tree : (t : Element) → broken_rules t ≡ [] → NetIsSound (net_of t)
sound_tree t unbroken =
    let differ = ids_differ t unbroken in
    record { values = sound_values t unbroken; nodes = differ.0; symbols = differ.1 }

sound : (net : Net) → IsRead net → NetIsSound net
sound net read = subst NetIsSound read.2 (sound_tree read.0 read.1)

pub spelled : ReadNetsAreSpelled
spelled net read =
    let is = sound net read in
    let text = written_is_spelled (tree_of net) (sound_writable net is.values) in (
      text.0,
      text.1,
      rules_same (tree_of net) text.0 text.2 (sound_unbroken net is),
      sym (same_net_of text.2) ∙ tree_back net (sound_fits net is.values),
    )

pub told_apart : ReadNetsAreToldApart
told_apart n m read_n read_m =
    let first = (sound n read_n).values in
    let second = (sound m read_m).values in (
      (λ same. ap canonical_text same),
      texts_tell n m (sound_fits n first) (sound_fits m second) (sound_writable n first) (sound_writable m second),
    )

pub stays : ReadNetsStay
stays net read t spells =
    let back = spelled net read in
    let one = one_tree (canonical_text net) t back.0 spells back.1 in
    (ap broken_rules one ∙ back.2, ap canonical_text (ap net_of one ∙ back.3))
