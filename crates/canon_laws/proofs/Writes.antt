-- Sound nets fit, and their canonical trees can be written.
use Rattle.std.proofs.Common.{◌≡◌, ℕ, ◌==◌, ◌<◌, ◌^◌, Bool, true, false, ◌&&◌, List, [], ◌∷◌, Option, None, Some, codes, refl, arith, if◌then◌else◌}
use Rattle.std.proofs.lemmas.Bool.{and_parts}
use Rattle.std.proofs.lemmas.Fmt.{decimal_nonempty}
use Rattle.std.specs.Fmt.{decimal}
use Rattle.std.specs.List.{list_all}
use Rattle.doc_model.specs.declared.tree.Element.{Element}
use Rattle.doc_tree.specs.Characters.{is_ascii, is_name_byte, is_name_start, is_white}
use Rattle.doc_tree.specs.Writable
use Rattle.doc_tree.specs.Writable.{AreCharacters, AreWritable, IsWritable}
use Rattle.name_tables.specs.Grammar.{is_id_text}
use Rattle.net_model.specs.declared.sorts.SortTerm.{SortTerm}
use Rattle.net_model.specs.declared.sorts.NamedSort.{NamedSort}
use Rattle.net_model.specs.declared.sorts.Member.{Member}
use Rattle.net_model.specs.declared.sorts.Member.TheVariants as member
use Rattle.net_model.specs.declared.sorts.Block.{Block}
use Rattle.net_model.specs.declared.sorts.Partition.{Partition}
use Rattle.net_model.specs.declared.terms.Guard.{Guard}
use Rattle.net_model.specs.declared.kinds.Kind.{Kind}
use Rattle.net_model.specs.declared.kinds.Kind.TheVariants.{Pt, Symmetric}
use Rattle.net_elements.specs.declared.roles.Key.TheVariants as key
use Rattle.net_elements.specs.declared.roles.Role.{Role}
use Rattle.net_elements.specs.declared.roles.Role.TheVariants as role
use Rattle.net_model.specs.declared.nets.Label.{Label}
use Rattle.net_model.specs.declared.nets.Label.TheVariants as label
use Rattle.net_model.specs.declared.nets.Place.{Place}
use Rattle.net_model.specs.declared.nets.Transition.{Transition}
use Rattle.net_model.specs.declared.nets.Arc.{Arc}
use Rattle.net_model.specs.declared.nets.Reference.{Reference}
use Rattle.net_model.specs.declared.nets.VariableDecl.{VariableDecl}
use Rattle.net_model.specs.declared.nets.Net.{Net}
use Rattle.pnml_write.specs.Canon.{arc_tree, block_tree, condition_trees, declaration_trees, declared_trees, kind_text, label_trees, member_tree, named_sort_tree, net_tree, node_trees, page_tree, partition_tree, place_tree, reference_role, reference_tree, text_label, transition_tree, tree_of, type_trees, variable_tree}
use Rattle.canon_laws.specs.Fitting.{GuardFits, LabelFits, NetFits, SortFits, block_fits, member_fits, partition_fits, sort_fits}
use Rattle.pnml_read.proofs.Each.{each_map}
use Rattle.canon_laws.proofs.Branches.{all_write, appended, branch_writes, declared_attributes, digits_write, each_writes, holder_writes, id_attribute, key_is_name, no_children, one_attribute, one_child, two_attributes}
use Rattle.canon_laws.proofs.Characters.{all_pass, ascii_characters, ascii_name, decimal_digits, id_characters, is_ascii_name}
use Rattle.canon_laws.proofs.Sound.{ArcIsSound, GuardIsSound, LabelIsSound, PlaceIsSound, SortIsSound, TransitionIsSound, ValuesAreSound, block_sound, declared_sound, member_sound, named_sound, partition_sound, reference_sound, sort_sound, variable_sound}
use Rattle.canon_laws.proofs.SoundTerms.{good_declared, good_guard, good_sort, good_term, operator_writes, range_constant_writes}

-- Declarations.

good_named : (s : NamedSort) → named_sound s ≡ true → (sort_fits s.sort ≡ true) × IsWritable (named_sort_tree s)
good_named s h =
    let parts = and_parts (is_id_text s.id) (declared_sound s.sort) h in
    let good = good_declared s.sort parts.1 in
    (good.0, branch_writes role.NamedSort (declared_attributes s.id parts.0) (one_child good.1))

good_variable : (v : VariableDecl) → variable_sound v ≡ true → (sort_fits v.sort ≡ true) × IsWritable (variable_tree v)
good_variable v h =
    let parts = and_parts (is_id_text v.id) (sort_sound v.sort) h in
    let good = good_sort v.sort parts.1 in
    (good.0, branch_writes role.VariableDecl (declared_attributes v.id parts.0) (one_child good.1))

good_member : (m : Member) → member_sound m ≡ true → (member_fits m ≡ true) × IsWritable (member_tree m)
good_member (member.Constant id) h = (refl, operator_writes id h)
good_member (member.Number value span) h = (h, range_constant_writes value span h)
good_member member.Dot h = (refl, holder_writes role.DotConstant no_children)

good_block : (b : Block) → block_sound b ≡ true → (block_fits b ≡ true) × IsWritable (block_tree b)
good_block b h =
    let parts = and_parts (is_id_text b.id) (list_all member_sound b.members) h in (
      all_pass member_sound member_fits (λ m is. (good_member m is).0) b.members parts.1,
      branch_writes role.PartitionElement (declared_attributes b.id parts.0) (all_write member_tree member_sound (λ m is. (good_member m is).1) b.members parts.1),
    )

good_partition : (p : Partition) → partition_sound p ≡ true → (partition_fits p ≡ true) × IsWritable (partition_tree p)
good_partition p h =
    let parts = and_parts (is_id_text p.id && sort_sound p.sort) (list_all block_sound p.elements) h in
    let front = and_parts (is_id_text p.id) (sort_sound p.sort) parts.0 in
    let good = good_sort p.sort front.1 in
    let blocks = all_pass block_sound block_fits (λ b is. (good_block b is).0) p.elements parts.1 in (
      λ i. good.0 i && blocks i,
      branch_writes role.Partition (declared_attributes p.id front.0)
          (Writable.AreWritable.more good.1 (all_write block_tree block_sound (λ b is. (good_block b is).1) p.elements parts.1)),
    )

-- Labels.

label_fits : (kind : Kind) (m : Label) → LabelIsSound kind m → LabelFits kind m
label_fits Pt label.Absent never = never
label_fits Pt (label.Count n) small = small
label_fits Pt (label.Multiset t) never = never
label_fits Symmetric label.Absent sound = tt
label_fits Symmetric (label.Count n) never = never
label_fits Symmetric (label.Multiset t) sound = (good_term t sound).0

number_label_writes : (r : Role) (n : ℕ) → n < 2 ^ 63 → IsWritable (text_label r n)
number_label_writes r n small =
    holder_writes r (one_child (digits_write role.Text (decimal n) (decimal_nonempty n (omega (arith, small))) (decimal_digits n (omega (arith, small)))))

label_writes : (kind : Kind) (usual : ℕ) (plain coloured : Role) (m : Label) → LabelIsSound kind m → AreWritable (label_trees usual plain coloured m)
label_writes Pt usual plain coloured label.Absent never = absurd never
label_writes Pt usual plain coloured (label.Count n) small = by (n == usual)
  where
    by : (b : Bool) → AreWritable (if b then [] else text_label plain n ∷ [])
    by true = no_children
    by false = one_child (number_label_writes plain n small)
label_writes Pt usual plain coloured (label.Multiset t) never = absurd never
label_writes Symmetric usual plain coloured label.Absent sound = no_children
label_writes Symmetric usual plain coloured (label.Count n) never = absurd never
label_writes Symmetric usual plain coloured (label.Multiset t) sound =
    one_child (holder_writes coloured (one_child (holder_writes role.TermStructure (one_child (good_term t sound).1))))

-- Nodes.

type_fits : (kind : Kind) (s : SortTerm) → SortIsSound kind s → SortFits kind s
type_fits Pt s sound = sound
type_fits Symmetric s sound = (good_sort s sound).0

type_writes : (kind : Kind) (s : SortTerm) → SortIsSound kind s → AreWritable (type_trees kind s)
type_writes Pt s sound = no_children
type_writes Symmetric s sound = one_child (holder_writes role.PlaceType (one_child (holder_writes role.SortStructure (one_child (good_sort s sound).1))))

place_writes : (kind : Kind) (p : Place) → PlaceIsSound kind p → IsWritable (place_tree kind p)
place_writes kind p (id, sort, marking) =
    branch_writes role.Place (id_attribute p.id id)
    (appended (type_writes kind p.sort sort) (label_writes kind 0 role.InitialMarking role.HlInitialMarking p.marking marking))

guard_fits_so : (kind : Kind) (o : Option Guard) → GuardIsSound kind o → GuardFits o
guard_fits_so kind None sound = tt
guard_fits_so Pt (Some g) never = absurd never
guard_fits_so Symmetric (Some g) sound = (good_guard g sound).0

condition_writes : (kind : Kind) (o : Option Guard) → GuardIsSound kind o → AreWritable (condition_trees o)
condition_writes kind None sound = no_children
condition_writes Pt (Some g) never = absurd never
condition_writes Symmetric (Some g) sound =
    one_child (holder_writes role.Condition (one_child (holder_writes role.GuardStructure (one_child (good_guard g sound).1))))

transition_writes : (kind : Kind) (t : Transition) → TransitionIsSound kind t → IsWritable (transition_tree t)
transition_writes kind t (id, guard) = branch_writes role.Transition (id_attribute t.id id) (condition_writes kind t.guard guard)

reference_writes : (r : Reference) → reference_sound r ≡ true → IsWritable (reference_tree r)
reference_writes r h =
    let parts = and_parts (is_id_text r.id) (is_id_text r.target) h in
    branch_writes (reference_role r.kind)
    (two_attributes (codes "id") r.id (codes "ref") r.target
    (key_is_name key.NodeId) (id_characters r.id parts.0) (key_is_name key.Ref) refl (id_characters r.target parts.1))
    no_children

arc_writes : (kind : Kind) (a : Arc) → ArcIsSound kind a → IsWritable (arc_tree a)
arc_writes kind a (id, source, target, label) =
    branch_writes role.Arc
    (Writable.AreWritableAttributes.more
    (two_attributes (codes "id") a.id (codes "source") a.source
    (key_is_name key.NodeId) (id_characters a.id id) (key_is_name key.Source) refl (id_characters a.source source))
    (ascii_name (codes "target") (key_is_name key.Target)) refl (id_characters a.target target))
    (label_writes kind 1 role.Inscription role.HlInscription a.label label)

-- The net.

declarations_write : {trees : List Element} → AreWritable trees → AreWritable (declaration_trees trees)
declarations_write Writable.AreWritable.nothing = no_children
declarations_write (Writable.AreWritable.more first later) =
    one_child (holder_writes role.Declaration (one_child (holder_writes role.DeclarationStructure
    (one_child (holder_writes role.Declarations (Writable.AreWritable.more first later))))))

kind_characters : (kind : Kind) → AreCharacters (kind_text kind)
unfolding is_ascii is_white
kind_characters Pt = ascii_characters (kind_text Pt) refl
kind_characters Symmetric = ascii_characters (kind_text Symmetric) refl

page_characters : AreCharacters (codes "page")
unfolding is_ascii is_white
page_characters = ascii_characters (codes "page") refl

space_characters : AreCharacters (codes "http://www.pnml.org/version-2009/grammar/pnml")
unfolding is_ascii is_white
space_characters = ascii_characters (codes "http://www.pnml.org/version-2009/grammar/pnml") refl

space_is_name : is_ascii_name (codes "xmlns") ≡ true
unfolding is_name_byte is_name_start
space_is_name = refl

nodes_write : (net : Net) → ValuesAreSound net → AreWritable (node_trees net)
nodes_write net sound =
    appended
    (appended
    (appended (each_writes (place_tree net.kind) (PlaceIsSound net.kind) (place_writes net.kind) net.places sound.places)
    (each_writes transition_tree (TransitionIsSound net.kind) (transition_writes net.kind) net.transitions sound.transitions))
    (all_write reference_tree reference_sound reference_writes net.references sound.references))
    (each_writes arc_tree (ArcIsSound net.kind) (arc_writes net.kind) net.arcs sound.arcs)

page_writes : (net : Net) → ValuesAreSound net → IsWritable (page_tree net)
page_writes net sound = branch_writes role.Page (one_attribute (codes "id") (codes "page") (key_is_name key.AnyId) page_characters) (nodes_write net sound)

declared_write : (net : Net) → ValuesAreSound net → AreWritable (declared_trees net)
declared_write net sound =
    appended
    (appended (all_write named_sort_tree named_sound (λ s is. (good_named s is).1) net.sorts sound.sorts)
    (all_write partition_tree partition_sound (λ p is. (good_partition p is).1) net.partitions sound.partitions))
    (all_write variable_tree variable_sound (λ v is. (good_variable v is).1) net.variables sound.variables)

net_writes : (net : Net) → ValuesAreSound net → IsWritable (net_tree net)
net_writes net sound =
    branch_writes role.Net
    (two_attributes (codes "id") net.id (codes "type") (kind_text net.kind)
    (key_is_name key.AnyId) (id_characters net.id sound.id) (key_is_name key.NetType) refl (kind_characters net.kind))
    (appended (declarations_write (declared_write net sound)) (one_child (page_writes net sound)))

-- the canonical tree of a sound net can be written
pub sound_writable : (net : Net) → ValuesAreSound net → IsWritable (tree_of net)
sound_writable net sound =
    branch_writes role.Pnml (one_attribute (codes "xmlns") (codes "http://www.pnml.org/version-2009/grammar/pnml") space_is_name space_characters)
    (one_child (net_writes net sound))

-- a sound net fits
pub sound_fits : (net : Net) → ValuesAreSound net → NetFits net
sound_fits net sound = record {
  sorts = all_pass named_sound (λ s. sort_fits s.sort) (λ s is. (good_named s is).0) net.sorts sound.sorts;
  partitions = all_pass partition_sound partition_fits (λ p is. (good_partition p is).0) net.partitions sound.partitions;
  variables = all_pass variable_sound (λ v. sort_fits v.sort) (λ v is. (good_variable v is).0) net.variables sound.variables;
  places = each_map (PlaceIsSound net.kind) (λ p. SortFits net.kind p.sort × LabelFits net.kind p.marking)
      (λ p is. (type_fits net.kind p.sort is.1, label_fits net.kind p.marking is.2)) net.places sound.places;
  transitions = each_map (TransitionIsSound net.kind) (λ t. GuardFits t.guard) (λ t is. guard_fits_so net.kind t.guard is.1) net.transitions sound.transitions;
  arcs = each_map (ArcIsSound net.kind) (λ a. LabelFits net.kind a.label) (λ a is. label_fits net.kind a.label is.3) net.arcs sound.arcs;
}
