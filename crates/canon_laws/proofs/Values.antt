-- The values of a net that is read are sound.
use Rattle.std.proofs.Common.{◌≡◌, ◌⊎◌, ℕ, ◌^◌, nat_lt, true, false, cond, List, [], ◌∷◌, map, codes, Option, None, Some, inl, inr, refl, ap, sym, subst, ◌∙◌}
use Rattle.std.proofs.lemmas.Bool.{false≢true, true≢false}
use Rattle.std.specs.List.{find}
use Rattle.std.specs.Str.{bytes_eq}
use Rattle.name_tables.specs.Grammar.{is_id_text}
use Rattle.doc_model.specs.declared.tree.Attribute.{Attribute}
use Rattle.doc_model.specs.declared.tree.Element.{Element, out-Element}
use Rattle.net_model.specs.declared.kinds.Kind.{Kind}
use Rattle.net_model.specs.declared.kinds.Kind.TheVariants.{Pt}
use Rattle.net_elements.specs.declared.roles.Role.{Role}
use Rattle.net_elements.specs.declared.roles.Role.TheVariants as role
use Rattle.net_elements.specs.Table.{keys_of, slots_of, word_of}
use Rattle.net_elements.specs.Rules.{broken_rules, is_missing, is_passed_over, kind_from, kind_within, nothing_met, role_named, trimmed, value_of, walk_of}
use Rattle.net_elements.specs.Walking.{name_of}
use Rattle.net_elements.proofs.Walks.{walk_name}
use Rattle.pnml_read.specs.declared.lists.Lists.{Lists}
use Rattle.pnml_read.specs.Nets.{Given, given, list_roles, lists_in, lists_part, net_in, net_of, net_with, number_part, number_roles, text_in}
use Rattle.pnml_read.specs.Each.{Each}
use Rattle.pnml_read.proofs.Each.{each_map, each_of, each_over}
use Rattle.pnml_read.proofs.Elements.{given_names, given_parts, given_walked, gives}
use Rattle.pnml_read.proofs.Noted.{are_fine, fine_from, keys_pass, root_notes}
use Rattle.pnml_read.proofs.ReadRoles.{Here, IsRead, children_read, fine_has_all, one_map, roles_in}
use Rattle.pnml_read.proofs.Weights.{by_children, notes_parts}
use Rattle.canon_laws.proofs.Sound.{ValuesAreSound}
use Rattle.canon_laws.proofs.SoundParts.{unsigned_fits}
use Rattle.canon_laws.proofs.SoundSeats.{Facts, ListsAreSound, NumbersFit, RoleIsSound, Seated, Takes}
use Rattle.canon_laws.proofs.SoundChildren.{as_node, numbers_at, only, span_is_small}
use Rattle.canon_laws.proofs.SoundNodes.{lists_sound}
use Rattle.canon_laws.proofs.SoundRoles.{role_sound}

-- Elements.

number_part_small : (o : Option Role) (attributes : List Attribute) (cs : List Given) (text : List ℕ) → Each NumbersFit cs → nat_lt (number_part o attributes cs text) (2 ^ 63) ≡ true
number_part_small None attributes cs text h = refl
number_part_small (Some role.NumberSubterm) attributes cs text h = (numbers_at role.NumberSubterm 0 cs h).0
number_part_small (Some role.NumberConstant) attributes cs text h = unsigned_fits (text_in (codes "value") attributes)
number_part_small (Some role.InitialMarking) attributes cs text h = (numbers_at role.InitialMarking 0 cs h).0
number_part_small (Some role.Inscription) attributes cs text h = (numbers_at role.Inscription 0 cs h).0
number_part_small (Some role.Text) attributes cs text h = unsigned_fits (trimmed text)
number_part_small (Some _) attributes cs text h = refl

parts_fit : (name : List ℕ) (attributes : List Attribute) (cs : List Given) (text : List ℕ) → Each NumbersFit cs → NumbersFit (gives name attributes cs text)
parts_fit name attributes cs text h = (number_part_small (role_named number_roles name) attributes cs text h, span_is_small attributes)

record ElementIsSound (e : Element) : Type 0 where
  pub fits : NumbersFit (given e)
  pub read : (kind : Kind) (r : Role) → (walk_of e).name ≡ word_of r → are_fine ((walk_of e).notes kind r) ≡ true → RoleIsSound kind r (given e)

seat : (kind : Kind) (parent : Role) (e : Element) → ElementIsSound e → IsRead kind parent (walk_of e) → Seated kind parent (given e)
seat kind parent e s (inl passed) = (s.fits, inl (ap (is_passed_over parent) (given_walked e) ∙ passed))
seat kind parent e s (inr one) = (
  s.fits,
  inr (one_map (roles_in (slots_of kind parent)) (Here (walk_of e).name (λ r. are_fine ((walk_of e).notes kind r) ≡ true)) (Takes kind (given e))
      (λ r h. (given_walked e ∙ h.0, s.read kind r h.0 h.1)) one),
)

seats : (kind : Kind) (parent : Role) (es : List Element) → Each ElementIsSound es → Each (IsRead kind parent) (map walk_of es) → Each (Seated kind parent) (map given es)
seats kind parent [] s h = tt
seats kind parent (e ∷ es) s h = (seat kind parent e s.0 h.0, seats kind parent es s.1 h.1)

facts : (kind : Kind) (r : Role) (e : Element) → Each ElementIsSound (out-Element e).children → are_fine ((walk_of e).notes kind r) ≡ true
    → Facts (kind_within kind r (out-Element e).attributes) r (out-Element e).attributes (map given (out-Element e).children)
facts kind r e s fine =
    let parts = out-Element e in
    let notes = notes_parts e kind r fine in
    let shown = kind_within kind r parts.attributes in
    record {
      keys = keys_pass parts.at (keys_of r) parts.attributes notes.fine_own;
      children = seats shown r parts.children s (children_read shown r [] (map walk_of parts.children) notes.fine_inner);
      present = ap (is_missing (slots_of shown r)) (given_names parts.children) ∙ fine_has_all (slots_of shown r) r parts.at (map name_of parts.children) parts.text notes.fine_end;
    }

same_kind : (kind : Kind) (r : Role) (attributes : List Attribute) → (r ≡ role.Net) ⊎ (kind_within kind r attributes ≡ kind)
same_kind kind role.Net attributes = inl refl
same_kind kind _ attributes = inr refl

read_sound : (e : Element) → Each ElementIsSound (out-Element e).children → (kind : Kind) (r : Role) → (walk_of e).name ≡ word_of r
    → are_fine ((walk_of e).notes kind r) ≡ true → RoleIsSound kind r (given e)
read_sound e s kind r is fine =
    subst (RoleIsSound kind r) (sym (given_parts e))
    (subst (λ n. RoleIsSound kind r (gives n (out-Element e).attributes (map given (out-Element e).children) (out-Element e).text)) (sym (sym (walk_name e) ∙ is))
    (by (same_kind kind r (out-Element e).attributes)))
  where
    by : ((r ≡ role.Net) ⊎ (kind_within kind r (out-Element e).attributes ≡ kind))
        → RoleIsSound kind r (gives (word_of r) (out-Element e).attributes (map given (out-Element e).children) (out-Element e).text)
    by (inl net) = subst (λ r. RoleIsSound kind r (gives (word_of r) (out-Element e).attributes (map given (out-Element e).children) (out-Element e).text)) (sym net) tt
    by (inr same) =
        role_sound kind r (out-Element e).attributes (map given (out-Element e).children) (out-Element e).text
        (subst (λ k. Facts k r (out-Element e).attributes (map given (out-Element e).children)) same (facts kind r e s fine))

sound_element : (e : Element) → ElementIsSound e
sound_element = by_children ElementIsSound (λ e s. record {
  fits = subst NumbersFit (sym (given_parts e))
      (parts_fit (out-Element e).name (out-Element e).attributes (map given (out-Element e).children) (out-Element e).text
      (each_over NumbersFit given (out-Element e).children (each_map ElementIsSound (λ c. NumbersFit (given c)) (λ c k. k.fits) (out-Element e).children s)));
  read = read_sound e s;
})

-- The net.

from_lists : (id : List ℕ) (kind : Kind) (lists : Lists) → is_id_text id ≡ true → ListsAreSound kind lists → ValuesAreSound (net_with id kind lists)
from_lists id kind lists h k = record {
  id = h;
  declared = k.declared;
  sorts = k.sorts;
  partitions = k.partitions;
  variables = k.variables;
  places = k.places;
  transitions = k.transitions;
  references = k.references;
  arcs = k.arcs;
}

net_values : (e : Element) → name_of e ≡ word_of role.Net → are_fine ((walk_of e).notes Pt role.Net) ≡ true → ValuesAreSound (net_in (Some e))
net_values e is h =
    let parts = out-Element e in
    let id = text_in (codes "id") parts.attributes in
    let kind = kind_from Pt (value_of (codes "type") parts.attributes) in
    let cs = map given parts.children in
    let f = facts Pt role.Net e (each_of ElementIsSound sound_element parts.children) h in
    let lists_are = ap (λ g. g.lists kind) (given_parts e) ∙ ap (λ n. lists_part kind (role_named list_roles n) id parts.attributes cs) is in
    subst (λ l. ValuesAreSound (net_with id kind l)) (sym lists_are) (from_lists id kind (lists_in role.Net kind cs) f.keys.0 (lists_sound kind role.Net cs (as_node kind) f.children))

found_net : (es : List Element) → Each (IsRead Pt role.Pnml) (map walk_of es) → is_missing (slots_of Pt role.Pnml) (map name_of es) ≡ false
    → ValuesAreSound (net_in (find (λ e. bytes_eq (out-Element e).name (codes "net")) es))
found_net [] h few = absurd (true≢false few)
found_net (e ∷ es) h few = by h.0
  where
    by : IsRead Pt role.Pnml (walk_of e)
        → ValuesAreSound (net_in (cond (bytes_eq (out-Element e).name (codes "net")) (Some e) (find (λ e. bytes_eq (out-Element e).name (codes "net")) es)))
    by (inl passed) = absurd (false≢true passed)
    by (inr one) =
        let t = only role.Net (Here (walk_of e).name (λ r. are_fine ((walk_of e).notes Pt r) ≡ true)) one in
        let is = sym (walk_name e) ∙ t.0 in
        subst (λ n. ValuesAreSound (net_in (cond (bytes_eq n (codes "net")) (Some e) (find (λ e. bytes_eq (out-Element e).name (codes "net")) es)))) (sym is) (net_values e is t.1)

pub sound_values : (t : Element) → broken_rules t ≡ [] → ValuesAreSound (net_of t)
sound_values t h =
    let parts = out-Element t in
    let notes = notes_parts t Pt role.Pnml (fine_from nothing_met ((walk_of t).notes Pt role.Pnml) (root_notes t h)) in
    found_net parts.children (children_read Pt role.Pnml [] (map walk_of parts.children) notes.fine_inner)
    (fine_has_all (slots_of Pt role.Pnml) role.Pnml parts.at (map name_of parts.children) parts.text notes.fine_end)
