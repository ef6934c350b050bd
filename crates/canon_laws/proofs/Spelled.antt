-- Offsets play no part in the net of a tree; so what is spelled by a canonical text gives the net.
use Rattle.std.proofs.Common.{◌≡◌, ℕ, Bool, true, false, cond, List, ◌∷◌, map, Option, Some, codes, refl, ap, sym, subst, ◌∙◌}
use Rattle.std.specs.List.{find}
use Rattle.std.specs.Str.{bytes_eq}
use Rattle.doc_model.specs.declared.tree.Attribute.{Attribute}
use Rattle.doc_model.specs.declared.tree.Element.{Element, out-Element, fold-roll-Element, out-roll-Element}
use Rattle.doc_model.specs.Trees.{element_at}
use Rattle.doc_tree.proofs.Answering.{one_tree}
use Rattle.doc_tree.proofs.Written.{written_is_spelled}
use Rattle.doc_tree.specs.Documents.{Spells}
use Rattle.doc_tree.specs.Writable
use Rattle.doc_tree.specs.Writable.{AreSameTrees, IsSameTree, IsWritable}
use Rattle.net_model.specs.declared.kinds.Kind.TheVariants.{Pt}
use Rattle.net_elements.specs.Rules.{kind_from, value_of}
use Rattle.net_model.specs.declared.nets.Net.{Net}
use Rattle.pnml_read.specs.Nets.{Given, given, given_by_parts, net_in, net_of, net_with, text_in}
use Rattle.pnml_write.specs.Canon.{canonical_text, tree_of}
use Rattle.canon_laws.specs.Fitting.{NetFits}
use Rattle.canon_laws.proofs.Nodes.{tree_back}

at_gives : (at : ℕ) (n text : List ℕ) (ats : List Attribute) (ks : List Element)
    → given (element_at at n ats ks text) ≡ given_by_parts (record { at = at; name = n; attributes = ats; children = map given ks; text = text })
at_gives at n text ats ks = fold-roll-Element Given given_by_parts (record { at = at; name = n; attributes = ats; children = ks; text = text })

at_parts : (at : ℕ) (n text : List ℕ) (ats : List Attribute) (ks : List Element)
    → out-Element (element_at at n ats ks text) ≡ record { at = at; name = n; attributes = ats; children = ks; text = text }
at_parts at n text ats ks = out-roll-Element (record { at = at; name = n; attributes = ats; children = ks; text = text })

mutual
  same_given : {t u : Element} → IsSameTree t u → given t ≡ given u
  same_given (Writable.IsSameTree.same at bt n text ats {ks} {js} children) =
      at_gives at n text ats ks
      ∙ ap (λ gs. given_by_parts (record { at = at; name = n; attributes = ats; children = gs; text = text })) (all_given children)
      ∙ sym (at_gives bt n text ats js)

  all_given : {ks js : List Element} → AreSameTrees ks js → map given ks ≡ map given js
  all_given Writable.AreSameTrees.nothing = refl
  all_given (Writable.AreSameTrees.more {k} {j} {ks} {js} first later) = ap (λ g. g ∷ map given ks) (same_given first) ∙ ap (λ gs. given j ∷ gs) (all_given later)

-- the name and the attributes
same_name : {t u : Element} → IsSameTree t u → (out-Element t).name ≡ (out-Element u).name
same_name (Writable.IsSameTree.same at bt n text ats {ks} {js} children) =
    ap (λ r. r.name) (at_parts at n text ats ks) ∙ sym (ap (λ r. r.name) (at_parts bt n text ats js))

same_attributes : {t u : Element} → IsSameTree t u → (out-Element t).attributes ≡ (out-Element u).attributes
same_attributes (Writable.IsSameTree.same at bt n text ats {ks} {js} children) =
    ap (λ r. r.attributes) (at_parts at n text ats ks) ∙ sym (ap (λ r. r.attributes) (at_parts bt n text ats js))

-- the net of an element, from its attributes and what it gives
abbrev net_from : List Attribute → Given → Net
net_from ats g = let kind = kind_from Pt (value_of (codes "type") ats) in net_with (text_in (codes "id") ats) kind (g.lists kind)

same_net : {t u : Element} → IsSameTree t u → net_in (Some t) ≡ net_in (Some u)
same_net {t} {u} is = ap (λ ats. net_from ats (given t)) (same_attributes is) ∙ ap (net_from (out-Element u).attributes) (same_given is)

same_found : {ks js : List Element} → AreSameTrees ks js
    → net_in (find (λ e. bytes_eq (out-Element e).name (codes "net")) ks) ≡ net_in (find (λ e. bytes_eq (out-Element e).name (codes "net")) js)
same_found Writable.AreSameTrees.nothing = refl
same_found (Writable.AreSameTrees.more {k} {j} {ks} {js} first later) =
    ap (λ n. net_in (cond (bytes_eq n (codes "net")) (Some k) (find (λ e. bytes_eq (out-Element e).name (codes "net")) ks))) (same_name first)
    ∙ by (bytes_eq (out-Element j).name (codes "net")) (find (λ e. bytes_eq (out-Element e).name (codes "net")) ks) (find (λ e. bytes_eq (out-Element e).name (codes "net")) js) (same_net first) (same_found later)
  where
    by : (b : Bool) (o p : Option Element) → net_in (Some k) ≡ net_in (Some j) → net_in o ≡ net_in p → net_in (cond b (Some k) o) ≡ net_in (cond b (Some j) p)
    by true o p one rest = one
    by false o p one rest = rest

pub same_net_of : {t u : Element} → IsSameTree t u → net_of t ≡ net_of u
same_net_of (Writable.IsSameTree.same at bt n text ats {ks} {js} children) =
    ap (λ r. net_in (find (λ e. bytes_eq (out-Element e).name (codes "net")) r.children)) (at_parts at n text ats ks)
    ∙ same_found children
    ∙ sym (ap (λ r. net_in (find (λ e. bytes_eq (out-Element e).name (codes "net")) r.children)) (at_parts bt n text ats js))

pub text_back : (net : Net) → NetFits net → IsWritable (tree_of net) → (t : Element) × Spells (canonical_text net) t × (net_of t ≡ net)
text_back net fit written =
    let spelled = written_is_spelled (tree_of net) written in
    (spelled.0, spelled.1, sym (same_net_of spelled.2) ∙ tree_back net fit)

pub texts_tell : (n m : Net) → NetFits n → NetFits m → IsWritable (tree_of n) → IsWritable (tree_of m) → canonical_text n ≡ canonical_text m → n ≡ m
texts_tell n m fit_n fit_m written_n written_m is =
    let first = text_back n fit_n written_n in
    let second = text_back m fit_m written_m in
    sym first.2 ∙ ap net_of (one_tree (canonical_text m) first.0 second.0 (subst (λ b. Spells b first.0) is first.1) second.1) ∙ second.2

pub text_stays : (net : Net) → NetFits net → IsWritable (tree_of net) → (t : Element) → Spells (canonical_text net) t → canonical_text (net_of t) ≡ canonical_text net
text_stays net fit written t spells =
    let back = text_back net fit written in
    ap canonical_text (ap net_of (one_tree (canonical_text net) t back.0 spells back.1) ∙ back.2)
