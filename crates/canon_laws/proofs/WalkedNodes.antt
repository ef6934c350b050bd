-- What is noted in the trees of nodes and of what is declared: their ids.
use Rattle.std.proofs.Common.{◌≡◌, ℕ, ◌<◌, ◌^◌, ◌==◌, Bool, true, false, not, ◌||◌, ◌&&◌, List, [], ◌∷◌, ◌++◌, map, codes, Option, None, Some, refl, ap, sym, ◌∙◌, if◌then◌else◌}
use Rattle.std.proofs.lemmas.Bool.{and_parts}
use Rattle.std.proofs.lemmas.List.{map-append}
use Rattle.std.specs.Fmt.{decimal}
use Rattle.std.specs.List.{flat_map, list_all}
use Rattle.name_tables.proofs.Numbers.{decimal-read_back}
use Rattle.name_tables.specs.Grammar.{is_id_text, number_of}
use Rattle.doc_model.specs.declared.tree.Attribute.{Attribute}
use Rattle.doc_model.specs.declared.tree.Element.{Element}
use Rattle.doc_model.specs.Trees.{attribute, element}
use Rattle.doc_tree.specs.declared.faults.Fault.TheVariants as fault
use Rattle.net_model.specs.declared.sorts.SortTerm.{SortTerm, out-SortTerm}
use Rattle.net_model.specs.declared.sorts.NamedSort.{NamedSort}
use Rattle.net_model.specs.declared.sorts.Member.{Member}
use Rattle.net_model.specs.declared.sorts.Member.TheVariants as member
use Rattle.net_model.specs.declared.sorts.Block.{Block}
use Rattle.net_model.specs.declared.sorts.Partition.{Partition}
use Rattle.net_model.specs.declared.terms.Term.{Term}
use Rattle.net_model.specs.declared.terms.Guard.{Guard}
use Rattle.net_model.specs.declared.kinds.Kind.{Kind}
use Rattle.net_model.specs.declared.kinds.Kind.TheVariants.{Pt, Symmetric}
use Rattle.net_elements.specs.declared.roles.Key.TheVariants as key
use Rattle.net_elements.specs.declared.roles.Role.{Role}
use Rattle.net_elements.specs.declared.roles.Role.TheVariants as role
use Rattle.net_elements.specs.declared.seats.Seat.TheVariants.{Read}
use Rattle.net_elements.specs.Rules.{Note, attribute_notes, broken, child_notes, children_notes, end_notes, has, is_aside, is_missing, kind_within, node, note_if, role_among, role_in_slot, role_named, seat_of, symbol, walk_of}
use Rattle.net_elements.specs.Table.{any, guards, keys_of, one, slots_of, sorts, terms, word_of}
use Rattle.net_model.specs.declared.nets.Label.{Label}
use Rattle.net_model.specs.declared.nets.Label.TheVariants as label
use Rattle.net_model.specs.declared.nets.Place.{Place}
use Rattle.net_model.specs.declared.nets.Transition.{Transition}
use Rattle.net_model.specs.declared.nets.Arc.{Arc}
use Rattle.net_model.specs.declared.nets.RefKind.{RefKind}
use Rattle.net_model.specs.declared.nets.RefKind.TheVariants as stands_for
use Rattle.net_model.specs.declared.nets.Reference.{Reference}
use Rattle.net_model.specs.declared.nets.VariableDecl.{VariableDecl}
use Rattle.pnml_write.specs.Canon.{arc_tree, attribute_id, block_tree, branch, condition_trees, declared_id, guard_tree, holder, label_trees, leaf_with, member_tree, named_sort_tree, partition_tree, place_tree, reference_role, reference_tree, sort_tree, term_label, term_tree, text_label, transition_tree, type_trees, variable_tree}
use Rattle.pnml_read.specs.Each.{Each}
use Rattle.pnml_read.proofs.Elements.{or_false}
use Rattle.net_model.specs.Ids.{constants_in_layer, partition_symbols, sort_symbols}
use Rattle.canon_laws.proofs.Sound.{ArcIsSound, GuardIsSound, LabelIsSound, PlaceIsSound, SortIsSound, TransitionIsSound, block_sound, declared_sound, guard_sound, member_sound, named_sound, partition_sound, reference_sound, sort_sound, term_sound, variable_sound}
use Rattle.canon_laws.proofs.Texts.{trimmed_decimal}
use Rattle.canon_laws.proofs.Walked.{Free, Reads, any_ends, branch_reads, child_reads, ends_well, free_more, key_is_declared, any_may_miss, one_met, one_reads, only_reads, seat_by, text_reads}
use Rattle.canon_laws.proofs.WalkedSorts.{declared_notes, declared_reads, declared_roles, sort_reads}
use Rattle.canon_laws.proofs.WalkedTerms.{guard_reads, operator_reads, range_constant_reads, term_reads, two_read}

-- children that note their ids
pub free_ids : {A : Type 0} (kind : Kind) (parent : Role) (make : List ℕ → Note) (r : A → Role) (f : A → Element) (g : A → List (List ℕ))
    → ((x : A) (earlier : List (List ℕ)) → seat_of kind parent earlier (word_of (r x)) ≡ Read (r x))
    → (xs : List A) → Each (λ x. Reads kind (r x) (walk_of (f x)) (map make (g x))) xs → Free kind parent (map walk_of (map f xs)) (map make (flat_map g xs))
free_ids kind parent make r f g seat [] each earlier = refl
free_ids kind parent make r f g seat (x ∷ xs) (here, later) earlier =
    free_more kind parent (walk_of (f x)) (map walk_of (map f xs)) (map make (g x)) (map make (flat_map g xs))
    (λ before. child_reads kind parent (r x) before (walk_of (f x)) (map make (g x)) (seat x before) here)
    (free_ids kind parent make r f g seat xs later) earlier
    ∙ sym (map-append make (g x) (flat_map g xs))

-- labels with numbers, terms, guards and sorts
number_label_reads : (kind : Kind) (r : Role) (n : ℕ) → n < 2 ^ 63 → kind_within kind r [] ≡ kind → attribute_notes 0 (keys_of r) [] ≡ []
    → seat_of kind r [] (word_of role.Text) ≡ Read role.Text → end_notes (slots_of kind r) r 0 (word_of role.Text ∷ []) [] ≡ []
    → Reads kind r (walk_of (text_label r n)) []
number_label_reads kind r n small same own seat ends =
    one_reads kind r role.Text [] (element (word_of role.Text) [] [] (decimal n)) [] [] same own seat ends
    (text_reads kind role.Text [] [] (decimal n) [] [] refl refl
    (ap (λ b. note_if (not b) (broken 0 fault.BadNumber)) (ap (λ t. has (number_of false t)) (trimmed_decimal n small) ∙ ap has (decimal-read_back n false small))))

term_label_reads : (kind : Kind) (r : Role) (t : Term) → term_sound t ≡ true → kind_within kind r [] ≡ kind → attribute_notes 0 (keys_of r) [] ≡ []
    → seat_of kind r [] (word_of role.TermStructure) ≡ Read role.TermStructure → end_notes (slots_of kind r) r 0 (word_of role.TermStructure ∷ []) [] ≡ []
    → Reads kind r (walk_of (term_label r t)) []
term_label_reads kind r t h same own seat ends =
    one_reads kind r role.TermStructure [] (holder role.TermStructure (term_tree t ∷ [])) [] [] same own seat ends
    (only_reads kind role.TermStructure terms [] (term_tree t) [] [] refl refl (λ name. or_false (is_aside name)) refl refl (term_reads kind t h))

condition_reads : (kind : Kind) (g : Guard) → guard_sound g ≡ true → Reads kind role.Condition (walk_of (holder role.Condition (holder role.GuardStructure (guard_tree g ∷ []) ∷ []))) []
condition_reads kind g h =
    one_reads kind role.Condition role.GuardStructure [] (holder role.GuardStructure (guard_tree g ∷ [])) [] [] refl refl refl refl
    (only_reads kind role.GuardStructure guards [] (guard_tree g) [] [] refl refl (λ name. or_false (is_aside name)) refl refl (guard_reads kind g h))

type_reads : (kind : Kind) (s : SortTerm) → sort_sound s ≡ true → Reads kind role.PlaceType (walk_of (holder role.PlaceType (holder role.SortStructure (sort_tree s ∷ []) ∷ []))) []
type_reads kind s h =
    one_reads kind role.PlaceType role.SortStructure [] (holder role.SortStructure (sort_tree s ∷ [])) [] [] refl refl refl refl
    (only_reads kind role.SortStructure sorts [] (sort_tree s) [] [] refl refl (λ name. or_false (is_aside name)) refl refl (sort_reads kind s h))

-- nodes
node_notes : (id : List ℕ) → is_id_text id ≡ true → attribute_notes 0 (key.NodeId ∷ []) (attribute_id id ∷ []) ≡ node 0 id ∷ []
node_notes id h = ap (λ ns. ns ++ []) (key_is_declared 0 key.NodeId id h)

pub place_reads : (kind : Kind) (p : Place) → PlaceIsSound kind p → Reads kind role.Place (walk_of (place_tree kind p)) (node 0 p.id ∷ [])
place_reads kind p (named, sort_is, label_is) = by kind p.sort p.marking sort_is label_is
  where
    counted : (n : ℕ) (b : Bool) → n < 2 ^ 63
        → Reads Pt role.Place (walk_of (branch role.Place (attribute_id p.id ∷ []) (if b then [] else text_label role.InitialMarking n ∷ []))) (node 0 p.id ∷ [])
    counted n true small = branch_reads Pt role.Place (attribute_id p.id ∷ []) [] (node 0 p.id ∷ []) [] (node_notes p.id named) refl refl
    counted n false small =
        one_reads Pt role.Place role.InitialMarking (attribute_id p.id ∷ []) (text_label role.InitialMarking n) (node 0 p.id ∷ []) [] refl (node_notes p.id named) refl refl
        (number_label_reads Pt role.InitialMarking n small refl refl refl refl)

    by : (kind : Kind) (s : SortTerm) (m : Label) → SortIsSound kind s → LabelIsSound kind m
        → Reads kind role.Place (walk_of (branch role.Place (attribute_id p.id ∷ []) (type_trees kind s ++ label_trees 0 role.InitialMarking role.HlInitialMarking m))) (node 0 p.id ∷ [])
    by Pt s label.Absent first second = absurd second
    by Pt s (label.Count n) first second = counted n (n == 0) second
    by Pt s (label.Multiset t) first second = absurd second
    by Symmetric s label.Absent first second =
        one_reads Symmetric role.Place role.PlaceType (attribute_id p.id ∷ []) (holder role.PlaceType (holder role.SortStructure (sort_tree s ∷ []) ∷ [])) (node 0 p.id ∷ []) []
        refl (node_notes p.id named) refl refl (type_reads Symmetric s first)
    by Symmetric s (label.Count n) first second = absurd second
    by Symmetric s (label.Multiset t) first second =
        two_read Symmetric role.Place role.PlaceType role.HlInitialMarking (attribute_id p.id ∷ []) (holder role.PlaceType (holder role.SortStructure (sort_tree s ∷ []) ∷ []))
        (term_label role.HlInitialMarking t) (node 0 p.id ∷ []) refl (node_notes p.id named) refl refl refl
        (type_reads Symmetric s first) (term_label_reads Symmetric role.HlInitialMarking t second refl refl refl refl)

pub transition_reads : (kind : Kind) (t : Transition) → TransitionIsSound kind t → Reads kind role.Transition (walk_of (transition_tree t)) (node 0 t.id ∷ [])
transition_reads kind t (named, guard_is) = by kind t.guard guard_is
  where
    by : (kind : Kind) (o : Option Guard) → GuardIsSound kind o → Reads kind role.Transition (walk_of (branch role.Transition (attribute_id t.id ∷ []) (condition_trees o))) (node 0 t.id ∷ [])
    by Pt None is = branch_reads Pt role.Transition (attribute_id t.id ∷ []) [] (node 0 t.id ∷ []) [] (node_notes t.id named) refl refl
    by Pt (Some g) is = absurd is
    by Symmetric None is = branch_reads Symmetric role.Transition (attribute_id t.id ∷ []) [] (node 0 t.id ∷ []) [] (node_notes t.id named) refl refl
    by Symmetric (Some g) is =
        one_reads Symmetric role.Transition role.Condition (attribute_id t.id ∷ [])
        (holder role.Condition (holder role.GuardStructure (guard_tree g ∷ []) ∷ [])) (node 0 t.id ∷ []) [] refl (node_notes t.id named) refl refl (condition_reads Symmetric g is)

reference_notes : (id target : List ℕ) → (is_id_text id && is_id_text target) ≡ true
    → attribute_notes 0 (key.NodeId ∷ key.Ref ∷ []) (attribute_id id ∷ attribute (codes "ref") target ∷ []) ≡ node 0 id ∷ []
reference_notes id target h =
    let attributes = attribute_id id ∷ attribute (codes "ref") target ∷ [] in
    ap (λ ns. ns ++ attribute_notes 0 (key.Ref ∷ []) attributes) (key_is_declared 0 key.NodeId id (and_parts (is_id_text id) (is_id_text target) h).0)
    ∙ ap (λ ns. node 0 id ∷ (ns ++ [])) (key_is_declared 0 key.Ref target (and_parts (is_id_text id) (is_id_text target) h).1)

pub reference_reads : (kind : Kind) (r : Reference) → reference_sound r ≡ true → Reads kind (reference_role r.kind) (walk_of (reference_tree r)) (node 0 r.id ∷ [])
reference_reads kind r h = by r.kind
  where
    by : (k : RefKind) → Reads kind (reference_role k) (walk_of (leaf_with (reference_role k) (attribute_id r.id ∷ attribute (codes "ref") r.target ∷ []))) (node 0 r.id ∷ [])
    by stands_for.Place = branch_reads kind role.ReferencePlace _ [] (node 0 r.id ∷ []) [] (reference_notes r.id r.target h) refl refl
    by stands_for.Transition = branch_reads kind role.ReferenceTransition _ [] (node 0 r.id ∷ []) [] (reference_notes r.id r.target h) refl refl

abbrev arc_attributes : Arc → List Attribute
arc_attributes a = attribute_id a.id ∷ attribute (codes "source") a.source ∷ attribute (codes "target") a.target ∷ []

arc_notes : (id source target : List ℕ) → is_id_text id ≡ true → is_id_text source ≡ true → is_id_text target ≡ true
    → attribute_notes 0 (key.NodeId ∷ key.Source ∷ key.Target ∷ []) (attribute_id id ∷ attribute (codes "source") source ∷ attribute (codes "target") target ∷ []) ≡ node 0 id ∷ []
arc_notes id source target first second third =
    let attributes = attribute_id id ∷ attribute (codes "source") source ∷ attribute (codes "target") target ∷ [] in
    ap (λ ns. ns ++ attribute_notes 0 (key.Source ∷ key.Target ∷ []) attributes) (key_is_declared 0 key.NodeId id first)
    ∙ ap (λ ns. node 0 id ∷ (ns ++ attribute_notes 0 (key.Target ∷ []) attributes)) (key_is_declared 0 key.Source source second)
    ∙ ap (λ ns. node 0 id ∷ (ns ++ [])) (key_is_declared 0 key.Target target third)

pub arc_reads : (kind : Kind) (a : Arc) → ArcIsSound kind a → Reads kind role.Arc (walk_of (arc_tree a)) (node 0 a.id ∷ [])
arc_reads kind a (named, from, to, label_is) = by kind a.label label_is
  where
    own : attribute_notes 0 (key.NodeId ∷ key.Source ∷ key.Target ∷ []) (arc_attributes a) ≡ node 0 a.id ∷ []
    own = arc_notes a.id a.source a.target named from to

    counted : (n : ℕ) (b : Bool) → n < 2 ^ 63
        → Reads Pt role.Arc (walk_of (branch role.Arc (arc_attributes a) (if b then [] else text_label role.Inscription n ∷ [])))
        (node 0 a.id ∷ [])
    counted n true small = branch_reads Pt role.Arc _ [] (node 0 a.id ∷ []) [] own refl refl
    counted n false small =
        one_reads Pt role.Arc role.Inscription _ (text_label role.Inscription n) (node 0 a.id ∷ []) [] refl own refl refl
        (number_label_reads Pt role.Inscription n small refl refl refl refl)

    by : (kind : Kind) (m : Label) → LabelIsSound kind m
        → Reads kind role.Arc (walk_of (branch role.Arc (arc_attributes a) (label_trees 1 role.Inscription role.HlInscription m)))
        (node 0 a.id ∷ [])
    by Pt label.Absent is = absurd is
    by Pt (label.Count n) is = counted n (n == 1) is
    by Pt (label.Multiset t) is = absurd is
    by Symmetric label.Absent is = branch_reads Symmetric role.Arc _ [] (node 0 a.id ∷ []) [] own refl refl
    by Symmetric (label.Count n) is = absurd is
    by Symmetric (label.Multiset t) is =
        one_reads Symmetric role.Arc role.HlInscription _ (term_label role.HlInscription t) (node 0 a.id ∷ []) [] refl own refl refl
        (term_label_reads Symmetric role.HlInscription t is refl refl refl refl)

-- what is declared
pub named_sort_reads : (kind : Kind) (s : NamedSort) → named_sound s ≡ true → Reads kind role.NamedSort (walk_of (named_sort_tree s)) (map (symbol 0) (sort_symbols s))
named_sort_reads kind s h =
    only_reads kind role.NamedSort declared_roles (declared_id s.id) (sort_tree s.sort) (symbol 0 s.id ∷ []) (map (symbol 0) (constants_in_layer (out-SortTerm s.sort)))
    refl refl (λ name. or_false (is_aside name)) refl (declared_notes s.id (and_parts (is_id_text s.id) (declared_sound s.sort) h).0)
    (declared_reads kind s.sort (and_parts (is_id_text s.id) (declared_sound s.sort) h).1)

pub variable_reads : (kind : Kind) (v : VariableDecl) → variable_sound v ≡ true → Reads kind role.VariableDecl (walk_of (variable_tree v)) (symbol 0 v.id ∷ [])
variable_reads kind v h =
    only_reads kind role.VariableDecl sorts (declared_id v.id) (sort_tree v.sort) (symbol 0 v.id ∷ []) [] refl refl
    (λ name. or_false (is_aside name)) refl (declared_notes v.id (and_parts (is_id_text v.id) (sort_sound v.sort) h).0)
    (sort_reads kind v.sort (and_parts (is_id_text v.id) (sort_sound v.sort) h).1)

member_child : (kind : Kind) (m : Member) (earlier : List (List ℕ)) → member_sound m ≡ true → child_notes kind role.PartitionElement earlier (walk_of (member_tree m)) ≡ []
member_child kind (member.Constant id) earlier h = child_reads kind role.PartitionElement role.UserOperator earlier _ [] refl (operator_reads kind id h)
member_child kind (member.Number value span) earlier h = child_reads kind role.PartitionElement role.FiniteIntRangeConstant earlier _ [] refl (range_constant_reads kind value span h)
member_child kind member.Dot earlier h =
    child_reads kind role.PartitionElement role.DotConstant earlier _ [] refl (branch_reads kind role.DotConstant [] [] [] [] refl refl refl)

members_read : (kind : Kind) (ms : List Member) → list_all member_sound ms ≡ true → Free kind role.PartitionElement (map walk_of (map member_tree ms)) []
members_read kind [] h = λ earlier. refl
members_read kind (m ∷ ms) h =
    free_more kind role.PartitionElement (walk_of (member_tree m)) (map walk_of (map member_tree ms)) [] []
    (λ earlier. member_child kind m earlier (and_parts (member_sound m) (list_all member_sound ms) h).0)
    (members_read kind ms (and_parts (member_sound m) (list_all member_sound ms) h).1)

block_reads : (kind : Kind) (b : Block) → block_sound b ≡ true → Reads kind role.PartitionElement (walk_of (block_tree b)) (symbol 0 b.id ∷ [])
block_reads kind b h =
    branch_reads kind role.PartitionElement (declared_id b.id) (map member_tree b.members) (symbol 0 b.id ∷ []) []
    (declared_notes b.id (and_parts (is_id_text b.id) (list_all member_sound b.members) h).0)
    (members_read kind b.members (and_parts (is_id_text b.id) (list_all member_sound b.members) h).1 [])
    (any_ends kind role.PartitionElement ((role.UserOperator ∷ []) ∷ (role.FiniteIntRangeConstant ∷ []) ∷ (role.DotConstant ∷ []) ∷ []) (map member_tree b.members) refl refl)

blocks_read : (kind : Kind) (bs : List Block) → list_all block_sound bs ≡ true → Free kind role.Partition (map walk_of (map block_tree bs)) (map (symbol 0) (map (λ b. b.id) bs))
blocks_read kind [] h = λ earlier. refl
blocks_read kind (b ∷ bs) h =
    free_more kind role.Partition (walk_of (block_tree b)) (map walk_of (map block_tree bs)) (symbol 0 b.id ∷ []) (map (symbol 0) (map (λ b. b.id) bs))
    (λ earlier. child_reads kind role.Partition role.PartitionElement earlier (walk_of (block_tree b)) (symbol 0 b.id ∷ []) refl
    (block_reads kind b (and_parts (block_sound b) (list_all block_sound bs) h).0))
    (blocks_read kind bs (and_parts (block_sound b) (list_all block_sound bs) h).1)

pub partition_reads : (kind : Kind) (p : Partition) → partition_sound p ≡ true → Reads kind role.Partition (walk_of (partition_tree p)) (map (symbol 0) (partition_symbols p))
partition_reads kind p h =
    let named = (and_parts (is_id_text p.id) (sort_sound p.sort) (and_parts (is_id_text p.id && sort_sound p.sort) (list_all block_sound p.elements) h).0).0 in
    let first = sort_reads kind p.sort (and_parts (is_id_text p.id) (sort_sound p.sort) (and_parts (is_id_text p.id && sort_sound p.sort) (list_all block_sound p.elements) h).0).1 in
    let blocks = blocks_read kind p.elements (and_parts (is_id_text p.id && sort_sound p.sort) (list_all block_sound p.elements) h).1 in
    let ws = map walk_of (map block_tree p.elements) in
    let w = walk_of (sort_tree p.sort) in
    branch_reads kind role.Partition (declared_id p.id) (sort_tree p.sort ∷ map block_tree p.elements) (symbol 0 p.id ∷ []) (map (symbol 0) (map (λ b. b.id) p.elements))
    (declared_notes p.id named)
    (ap (λ ns. ns ++ children_notes kind role.Partition (w.name ∷ []) ws) (child_reads kind role.Partition first.role [] w [] (seat first.role first.named first.aside) first.reads)
    ∙ blocks (w.name ∷ []))
    (ap (λ n. end_notes (slots_of kind role.Partition) role.Partition 0 (n ∷ map (λ w. w.name) ws) []) first.reads.name
    ∙ ends first.role first.named (map (λ w. w.name) ws))
  where
    seat : (r : Role) → role_named sorts (word_of r) ≡ Some r → is_aside (word_of r) ≡ false → seat_of kind role.Partition [] (word_of r) ≡ Read r
    seat r named aside =
        seat_by kind role.Partition r [] (word_of r) (or_false (is_aside (word_of r)) aside)
        (ap (role_in_slot (one sorts) [] (role_among (any (role.PartitionElement ∷ []) ∷ []) [] (word_of r))) named)

    ends : (r : Role) → role_named sorts (word_of r) ≡ Some r → (names : List (List ℕ)) → end_notes (slots_of kind role.Partition) role.Partition 0 (word_of r ∷ names) [] ≡ []
    ends r named names =
        ends_well (slots_of kind role.Partition) role.Partition (word_of r ∷ names)
        (ap (λ b. b || is_missing (any (role.PartitionElement ∷ []) ∷ []) (word_of r ∷ names)) (one_met (one sorts) (word_of r) names (ap has named))
        ∙ any_may_miss ((role.PartitionElement ∷ []) ∷ []) (word_of r ∷ names))
        refl
