-- Sound declarations and nodes, from sound labels and parts.
use Rattle.std.proofs.Common.{◌≡◌, ◌⊎◌, ℕ, ◌<◌, ◌^◌, nat_lt, Bool, true, false, not, ◌&&◌, List, [], ◌∷◌, ◌++◌, map, filter, length, codes, Option, None, Some, inl, inr, refl, ap, sym, subst, ◌∙◌, arith}
use Rattle.std.proofs.lemmas.Bool.{false≢true, true≢false, and_from, ltb-true}
use Rattle.std.proofs.lemmas.Slice.Eq.{bytes_eq-Decides}
use Rattle.std.specs.List.{list_all}
use Rattle.std.specs.Str.{bytes_eq}
use Rattle.name_tables.specs.Grammar.{is_id_text}
use Rattle.doc_model.specs.declared.tree.Attribute.{Attribute}
use Rattle.net_model.specs.declared.sorts.NamedSort.{NamedSort}
use Rattle.net_model.specs.declared.sorts.Partition.{Partition}
use Rattle.net_model.specs.declared.sorts.SortTerm.TheVariants as sort
use Rattle.net_model.specs.declared.kinds.Kind.{Kind}
use Rattle.net_model.specs.declared.kinds.Kind.TheVariants.{Pt, Symmetric}
use Rattle.net_elements.specs.declared.roles.Role.{Role}
use Rattle.net_elements.specs.declared.roles.Role.TheVariants as role
use Rattle.net_elements.specs.Table.{sorts, word_of}
use Rattle.net_elements.specs.Rules.{is_passed_over}
use Rattle.net_model.specs.declared.nets.Place.{Place}
use Rattle.net_model.specs.declared.nets.Transition.{Transition}
use Rattle.net_model.specs.declared.nets.Arc.{Arc}
use Rattle.net_model.specs.declared.nets.Reference.{Reference}
use Rattle.net_model.specs.declared.nets.VariableDecl.{VariableDecl}
use Rattle.net_model.specs.declared.nets.RefKind.{RefKind}
use Rattle.pnml_read.specs.declared.lists.Lists.{Lists}
use Rattle.pnml_read.specs.Nets.{Given, both, child, guard_or_none, inscription_of, is_block, joined, kept, lists_in, marking_of, multiset_or_absent, named, no_lists, nothing, number_or, partition_of, sort_or_dot, text_in}
use Rattle.pnml_read.specs.Each.{Each}
use Rattle.pnml_read.proofs.Elements.{gives}
use Rattle.pnml_read.proofs.ReadRoles.{OneOf, any_of}
use Rattle.canon_laws.proofs.Sound.{ArcIsSound, DeclaresFor, GuardIsSound, LabelIsSound, PlaceIsSound, SortIsSound, TransitionIsSound, block_sound, declared_sound, member_sound, named_sound, partition_sound, reference_sound, sort_sound, variable_sound}
use Rattle.pnml_read.proofs.Each.{OfSome, all_both, all_map, each_append, each_at, each_map, filter_has, found_has}
use Rattle.canon_laws.proofs.SoundParts.{declared_from}
use Rattle.canon_laws.proofs.SoundSeats.{DeclaredIsSound, Facts, ListsAreSound, MemberGiven, NodesAreSound, Seated, SortGiven, TakenIn, Takes, TermGiven, WholeSortGiven}
use Rattle.canon_laws.proofs.SoundChildren.{as_member, as_sort, as_whole_sort, child_has, each_kept, only, sort_child, sort_dot}

-- lists

declares_none : (kind : Kind) → DeclaresFor kind 0
declares_none Pt = refl
declares_none Symmetric = tt

declares_both : {A : Type 0} (kind : Kind) (xs ys : List A) → DeclaresFor kind (length xs) → DeclaresFor kind (length ys) → DeclaresFor kind (length (xs ++ ys))
declares_both Symmetric xs ys h k = tt
declares_both Pt [] ys h k = k
declares_both Pt (x ∷ xs) ys h k = absurd (omega (arith, h))

-- lists of one sort
of_sorts : (those : List NamedSort) → list_all named_sound those ≡ true → ListsAreSound Symmetric (record no_lists { sorts = those })
of_sorts those h = record { declared = (tt, tt, tt); sorts = h; partitions = refl; variables = refl; places = tt; transitions = tt; references = refl; arcs = tt }

of_partitions : (partitions : List Partition) → list_all partition_sound partitions ≡ true → ListsAreSound Symmetric (record no_lists { partitions = partitions })
of_partitions partitions h = record { declared = (tt, tt, tt); sorts = refl; partitions = h; variables = refl; places = tt; transitions = tt; references = refl; arcs = tt }

of_variables : (variables : List VariableDecl) → list_all variable_sound variables ≡ true → ListsAreSound Symmetric (record no_lists { variables = variables })
of_variables variables h = record { declared = (tt, tt, tt); sorts = refl; partitions = refl; variables = h; places = tt; transitions = tt; references = refl; arcs = tt }

of_places : (kind : Kind) (places : List Place) → Each (PlaceIsSound kind) places → ListsAreSound kind (record no_lists { places = places })
of_places kind places h = record { declared = (declares_none kind, declares_none kind, declares_none kind); sorts = refl; partitions = refl; variables = refl; places = h; transitions = tt; references = refl; arcs = tt }

of_transitions : (kind : Kind) (transitions : List Transition) → Each (TransitionIsSound kind) transitions → ListsAreSound kind (record no_lists { transitions = transitions })
of_transitions kind transitions h = record { declared = (declares_none kind, declares_none kind, declares_none kind); sorts = refl; partitions = refl; variables = refl; places = tt; transitions = h; references = refl; arcs = tt }

of_references : (kind : Kind) (references : List Reference) → list_all reference_sound references ≡ true → ListsAreSound kind (record no_lists { references = references })
of_references kind references h = record { declared = (declares_none kind, declares_none kind, declares_none kind); sorts = refl; partitions = refl; variables = refl; places = tt; transitions = tt; references = h; arcs = tt }

of_arcs : (kind : Kind) (arcs : List Arc) → Each (ArcIsSound kind) arcs → ListsAreSound kind (record no_lists { arcs = arcs })
of_arcs kind arcs h = record { declared = (declares_none kind, declares_none kind, declares_none kind); sorts = refl; partitions = refl; variables = refl; places = tt; transitions = tt; references = refl; arcs = h }

none_sound : (kind : Kind) → ListsAreSound kind no_lists
none_sound kind = of_places kind [] tt

both_sound : (kind : Kind) (a b : Lists) → ListsAreSound kind a → ListsAreSound kind b → ListsAreSound kind (both a b)
both_sound kind a b h k = record {
  declared = (
    declares_both kind a.sorts b.sorts h.declared.0 k.declared.0,
    declares_both kind a.partitions b.partitions h.declared.1 k.declared.1,
    declares_both kind a.variables b.variables h.declared.2 k.declared.2,
  );
  sorts = all_both named_sound a.sorts b.sorts h.sorts k.sorts;
  partitions = all_both partition_sound a.partitions b.partitions h.partitions k.partitions;
  variables = all_both variable_sound a.variables b.variables h.variables k.variables;
  places = each_append (PlaceIsSound kind) a.places b.places h.places k.places;
  transitions = each_append (TransitionIsSound kind) a.transitions b.transitions h.transitions k.transitions;
  references = all_both reference_sound a.references b.references h.references k.references;
  arcs = each_append (ArcIsSound kind) a.arcs b.arcs h.arcs k.arcs;
}

joined_sound : (kind : Kind) (gs : List Given) → Each (NodesAreSound kind) gs → ListsAreSound kind (joined (map (λ c. c.lists kind) gs))
joined_sound kind [] h = none_sound kind
joined_sound kind (g ∷ gs) h = both_sound kind (g.lists kind) (joined (map (λ c. c.lists kind) gs)) h.0 (joined_sound kind gs h.1)

pub lists_sound : (kind : Kind) (r : Role) (cs : List Given) → ((g : Given) → TakenIn kind r g → NodesAreSound kind g) → Each (Seated kind r) cs → ListsAreSound kind (lists_in r kind cs)
lists_sound kind r cs f h = joined_sound kind (kept r cs) (each_kept kind r (NodesAreSound kind) cs f h)

-- labels

clash : {n : List ℕ} (one r : Role) → n ≡ word_of one → bytes_eq n (word_of r) ≡ true → bytes_eq (word_of one) (word_of r) ≡ true
clash one r is h = sym (ap (λ n. bytes_eq n (word_of r)) is) ∙ h

abbrev NamedIn : Kind → Role → Role → Given → Type 0
NamedIn kind parent r g = Seated kind parent g × (bytes_eq g.name (word_of r) ≡ true)

label_taken : (kind : Kind) (parent r : Role) (g : Given) → is_passed_over parent (word_of r) ≡ false → NamedIn kind parent r g → TakenIn kind parent g
label_taken kind parent r g h is = by is.0.1
  where
    by : ((is_passed_over parent g.name ≡ true) ⊎ TakenIn kind parent g) → TakenIn kind parent g
    by (inl passed) = absurd (false≢true (sym h ∙ sym (ap (is_passed_over parent) ((bytes_eq-Decides g.name (word_of r)).0 is.1)) ∙ passed))
    by (inr one) = one

named_in : (kind : Kind) (parent r : Role) (cs : List Given) → Each (Seated kind parent) cs → OfSome (named r cs) (NamedIn kind parent r)
named_in kind parent r cs h = found_has (λ c. bytes_eq c.name (word_of r)) (Seated kind parent) cs h

number_small : (kind : Kind) (parent r : Role) (usual : ℕ) (o : Option Given) → nat_lt usual (2 ^ 63) ≡ true → OfSome o (NamedIn kind parent r) → number_or usual o < 2 ^ 63
number_small kind parent r usual None small h = ltb-true usual (2 ^ 63) small
number_small kind parent r usual (Some g) small h = ltb-true g.number (2 ^ 63) h.0.0.0

no_sort : (o : Option Given) → OfSome o (NamedIn Pt role.Place role.PlaceType) → sort_or_dot o ≡ sort.Dot
no_sort None h = refl
no_sort (Some g) h =
    let t = only role.InitialMarking (Takes Pt g) (label_taken Pt role.Place role.PlaceType g refl h) in
    absurd (false≢true (clash role.InitialMarking role.PlaceType t.0 h.1))

place_sort : (o : Option Given) → OfSome o (NamedIn Symmetric role.Place role.PlaceType) → sort_sound (sort_or_dot o) ≡ true
place_sort None h = sort_dot
place_sort (Some g) h = by (label_taken Symmetric role.Place role.PlaceType g refl h)
  where
    by : OneOf (role.PlaceType ∷ role.HlInitialMarking ∷ []) (Takes Symmetric g) → SortGiven g
    by (inl t) = t.1
    by (inr t) = absurd (false≢true (clash role.HlInitialMarking role.PlaceType (only role.HlInitialMarking (Takes Symmetric g) t).0 h.1))

place_label : (o : Option Given) → OfSome o (NamedIn Symmetric role.Place role.HlInitialMarking) → LabelIsSound Symmetric (multiset_or_absent o)
place_label None h = tt
place_label (Some g) h = by (label_taken Symmetric role.Place role.HlInitialMarking g refl h)
  where
    by : OneOf (role.PlaceType ∷ role.HlInitialMarking ∷ []) (Takes Symmetric g) → TermGiven g
    by (inl t) = absurd (false≢true (clash role.PlaceType role.HlInitialMarking t.0 h.1))
    by (inr t) = (only role.HlInitialMarking (Takes Symmetric g) t).1

arc_label : (o : Option Given) → OfSome o (NamedIn Symmetric role.Arc role.HlInscription) → LabelIsSound Symmetric (multiset_or_absent o)
arc_label None h = tt
arc_label (Some g) h = (only role.HlInscription (Takes Symmetric g) (label_taken Symmetric role.Arc role.HlInscription g refl h)).1

condition : (kind : Kind) (o : Option Given) → OfSome o (NamedIn kind role.Transition role.Condition) → GuardIsSound kind (guard_or_none o)
condition Pt None h = tt
condition Symmetric None h = tt
condition Pt (Some g) h = label_taken Pt role.Transition role.Condition g refl h
condition Symmetric (Some g) h = (only role.Condition (Takes Symmetric g) (label_taken Symmetric role.Transition role.Condition g refl h)).1

marking : (kind : Kind) (cs : List Given) → Each (Seated kind role.Place) cs → SortIsSound kind (sort_or_dot (named role.PlaceType cs)) × LabelIsSound kind (marking_of kind cs)
marking Pt cs h = (
  no_sort (named role.PlaceType cs) (named_in Pt role.Place role.PlaceType cs h),
  number_small Pt role.Place role.InitialMarking 0 (named role.InitialMarking cs) refl (named_in Pt role.Place role.InitialMarking cs h),
)
marking Symmetric cs h = (
  place_sort (named role.PlaceType cs) (named_in Symmetric role.Place role.PlaceType cs h),
  place_label (named role.HlInitialMarking cs) (named_in Symmetric role.Place role.HlInitialMarking cs h),
)

inscription : (kind : Kind) (cs : List Given) → Each (Seated kind role.Arc) cs → LabelIsSound kind (inscription_of kind cs)
inscription Pt cs h = number_small Pt role.Arc role.Inscription 1 (named role.Inscription cs) refl (named_in Pt role.Arc role.Inscription cs h)
inscription Symmetric cs h = arc_label (named role.HlInscription cs) (named_in Symmetric role.Arc role.HlInscription cs h)

-- nodes and declarations

pub place_sound : (kind : Kind) (attributes : List Attribute) (cs : List Given) (text : List ℕ) → Facts kind role.Place attributes cs → NodesAreSound kind (gives (word_of role.Place) attributes cs text)
place_sound kind attributes cs text f =
    let labels = marking kind cs f.children in
    let p : Place = record { id = text_in (codes "id") attributes; sort = sort_or_dot (named role.PlaceType cs); marking = marking_of kind cs } in
    of_places kind (p ∷ []) ((f.keys.0, labels.0, labels.1), tt)

pub transition_sound : (kind : Kind) (attributes : List Attribute) (cs : List Given) (text : List ℕ) → Facts kind role.Transition attributes cs
    → NodesAreSound kind (gives (word_of role.Transition) attributes cs text)
transition_sound kind attributes cs text f =
    let t : Transition = record { id = text_in (codes "id") attributes; guard = guard_or_none (named role.Condition cs) } in
    of_transitions kind (t ∷ []) ((f.keys.0, condition kind (named role.Condition cs) (named_in kind role.Transition role.Condition cs f.children)), tt)

pub arc_sound : (kind : Kind) (attributes : List Attribute) (cs : List Given) (text : List ℕ) → Facts kind role.Arc attributes cs → NodesAreSound kind (gives (word_of role.Arc) attributes cs text)
arc_sound kind attributes cs text f =
    let id = text_in (codes "id") attributes in
    let a : Arc = record { id = id; source = text_in (codes "source") attributes; target = text_in (codes "target") attributes; label = inscription_of kind cs } in
    of_arcs kind (a ∷ []) ((f.keys.0, f.keys.1.0, f.keys.1.1.0, inscription kind cs f.children), tt)

pub reference_given : (kind : Kind) (stands : RefKind) (id target : List ℕ) → is_id_text id ≡ true → is_id_text target ≡ true
    → ListsAreSound kind (record no_lists { references = record { id = id; kind = stands; target = target } ∷ [] })
reference_given kind stands id target h k =
    of_references kind (record { id = id; kind = stands; target = target } ∷ [])
    (and_from (is_id_text id && is_id_text target) true (and_from (is_id_text id) (is_id_text target) h k) refl)

pub declared_lists : (kind : Kind) (r : Role) (cs : List Given) → ((g : Given) → TakenIn kind r g → DeclaredIsSound kind g) → Each (Seated kind r) cs
    → (g : Given) → ((k : Kind) → g.lists k ≡ lists_in r k cs) → DeclaredIsSound kind g
declared_lists Pt r cs f h g is = tt
declared_lists Symmetric r cs f h g is = subst (ListsAreSound Symmetric) (sym (is Symmetric)) (lists_sound Symmetric r cs f h)

pub declared_child : (kind : Kind) (g : Given) → TakenIn kind role.Declarations g → DeclaredIsSound kind g
declared_child kind g =
    any_of (role.NamedSort ∷ role.Partition ∷ role.VariableDecl ∷ []) (Takes kind g) (DeclaredIsSound kind g) ((λ t. t.1), ((λ t. t.1), ((λ t. t.1), tt)))

pub named_sort_sound : (kind : Kind) (attributes : List Attribute) (cs : List Given) (text : List ℕ) → Facts kind role.NamedSort attributes cs
    → DeclaredIsSound kind (gives (word_of role.NamedSort) attributes cs text)
named_sort_sound Pt attributes cs text f = tt
named_sort_sound Symmetric attributes cs text f =
    let id = text_in (codes "id") attributes in
    let s = (child role.NamedSort 0 cs).sort in
    let whole = child_has Symmetric role.NamedSort 0 WholeSortGiven cs (as_whole_sort Symmetric) (declared_from sort.Dot sort_dot) f.children in
    of_sorts (record { id = id; sort = s } ∷ []) (and_from (is_id_text id && declared_sound s) true (and_from (is_id_text id) (declared_sound s) f.keys.0 whole) refl)

pub variable_decl_sound : (kind : Kind) (attributes : List Attribute) (cs : List Given) (text : List ℕ) → Facts kind role.VariableDecl attributes cs
    → DeclaredIsSound kind (gives (word_of role.VariableDecl) attributes cs text)
variable_decl_sound Pt attributes cs text f = tt
variable_decl_sound Symmetric attributes cs text f =
    let id = text_in (codes "id") attributes in
    let s = (child role.VariableDecl 0 cs).sort in
    let whole = sort_child Symmetric role.VariableDecl cs (as_sort Symmetric) f.children in
    of_variables (record { id = id; sort = s } ∷ []) (and_from (is_id_text id && sort_sound s) true (and_from (is_id_text id) (sort_sound s) f.keys.0 whole) refl)

-- the blocks of a partition and its sort
abbrev PartGiven : Given → Type 0
PartGiven g = (is_block g ≡ true → block_sound g.block ≡ true) × (is_block g ≡ false → SortGiven g)

sort_part_given : (kind : Kind) (g : Given) (one : Role) → bytes_eq (word_of one) (word_of role.PartitionElement) ≡ false → g.name ≡ word_of one → SortGiven g → PartGiven g
sort_part_given kind g one apart is h = ((λ block. absurd (false≢true (sym apart ∙ clash one role.PartitionElement is block))), (λ _. h))

block_part_given : (kind : Kind) (g : Given) → g.name ≡ word_of role.PartitionElement → block_sound g.block ≡ true → PartGiven g
block_part_given kind g is h = ((λ _. h), (λ other. absurd (true≢false (sym (ap (λ n. bytes_eq n (word_of role.PartitionElement)) is) ∙ other))))

as_part : (kind : Kind) (g : Given) → TakenIn kind role.Partition g → PartGiven g
as_part kind g =
    any_of (sorts ++ role.PartitionElement ∷ []) (Takes kind g) (PartGiven g) (
      (λ t. sort_part_given kind g role.Dot refl t.0 t.1),
      (
        (λ t. sort_part_given kind g role.UserSort refl t.0 t.1),
        (
          (λ t. sort_part_given kind g role.ProductSort refl t.0 t.1),
          ((λ t. sort_part_given kind g role.FiniteIntRange refl t.0 t.1), ((λ t. block_part_given kind g t.0 t.1), tt)),
        ),
      ),
    )

not_so : (b : Bool) → not b ≡ true → b ≡ false
not_so true h = absurd (false≢true h)
not_so false h = refl

partition_given : (kind : Kind) (id : List ℕ) (cs : List Given) → is_id_text id ≡ true → Each (Seated kind role.Partition) cs → partition_sound (partition_of id cs) ≡ true
partition_given kind id cs h seats =
    let ks = kept role.Partition cs in
    let parts = each_kept kind role.Partition PartGiven cs (as_part kind) seats in
    let others = each_map (λ g. PartGiven g × (not (is_block g) ≡ true)) SortGiven (λ g k. k.0.1 (not_so (is_block g) k.1)) (filter (λ c. not (is_block c)) ks)
    (filter_has (λ c. not (is_block c)) PartGiven ks parts) in
    let blocks = each_map (λ g. PartGiven g × (is_block g ≡ true)) (λ g. block_sound g.block ≡ true) (λ g k. k.0.0 k.1) (filter is_block ks) (filter_has is_block PartGiven ks parts) in
    let sort_is = each_at SortGiven (filter (λ c. not (is_block c)) ks) 0 nothing others sort_dot in
    let s = (partition_of id cs).sort in
    and_from (is_id_text id && sort_sound s) (list_all block_sound (partition_of id cs).elements) (and_from (is_id_text id) (sort_sound s) h sort_is)
    (all_map block_sound (λ c. c.block) (filter is_block ks) blocks)

pub partition_is_sound : (kind : Kind) (attributes : List Attribute) (cs : List Given) (text : List ℕ) → Facts kind role.Partition attributes cs
    → DeclaredIsSound kind (gives (word_of role.Partition) attributes cs text)
partition_is_sound Pt attributes cs text f = tt
partition_is_sound Symmetric attributes cs text f =
    let p = partition_of (text_in (codes "id") attributes) cs in
    of_partitions (p ∷ []) (and_from (partition_sound p) true (partition_given Symmetric (text_in (codes "id") attributes) cs f.keys.0 f.children) refl)

pub block_given : (kind : Kind) (id : List ℕ) (cs : List Given) → is_id_text id ≡ true → Each (Seated kind role.PartitionElement) cs
    → block_sound (record { id = id; members = map (λ c. c.member) (kept role.PartitionElement cs) }) ≡ true
block_given kind id cs h seats =
    and_from (is_id_text id) (list_all member_sound (map (λ c. c.member) (kept role.PartitionElement cs))) h
    (all_map member_sound (λ c. c.member) (kept role.PartitionElement cs) (each_kept kind role.PartitionElement MemberGiven cs (as_member kind) seats))
