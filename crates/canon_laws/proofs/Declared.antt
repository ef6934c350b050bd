-- What is declared comes back: sorts, partitions and variables.
use Rattle.std.proofs.Common.{◌≡◌, true, false, not, cond, List, [], ◌∷◌, ◌++◌, map, slice_index_or, refl, ap, ◌∙◌}
use Rattle.std.proofs.lemmas.Bool.{and_parts}
use Rattle.std.specs.List.{filter, list_all}
use Rattle.doc_model.specs.declared.tree.Element.{Element}
use Rattle.net_model.specs.declared.sorts.NamedSort.{NamedSort}
use Rattle.net_model.specs.declared.sorts.Member.{Member}
use Rattle.net_model.specs.declared.sorts.Member.TheVariants as member
use Rattle.net_model.specs.declared.sorts.Block.{Block}
use Rattle.net_model.specs.declared.sorts.Partition.{Partition}
use Rattle.net_model.specs.declared.kinds.Kind.{Kind}
use Rattle.net_elements.specs.declared.roles.Role.TheVariants as role
use Rattle.net_elements.specs.Rules.{is_aside, is_passed_over}
use Rattle.net_model.specs.declared.nets.VariableDecl.{VariableDecl}
use Rattle.pnml_read.specs.declared.lists.Lists.{Lists}
use Rattle.pnml_read.specs.Nets.{both, child, given, is_block, kept, lists_in, no_lists, nothing}
use Rattle.pnml_write.specs.Canon.{block_tree, declared_id, member_tree, named_sort_tree, partition_tree, range_tree, sort_tree, variable_tree}
use Rattle.canon_laws.specs.Fitting.{block_fits, fits, member_fits, partition_fits, sort_fits, span_fits}
use Rattle.pnml_read.proofs.Elements.{first_child, kept_first, or_false}
use Rattle.canon_laws.proofs.Elements.{branch_gives}
use Rattle.canon_laws.proofs.Lists.{first_lists}
use Rattle.canon_laws.proofs.Numbers.{signed_back}
use Rattle.canon_laws.proofs.Sorts.{sort_aside, sort_back, sort_is_no_block}
use Rattle.canon_laws.proofs.Terms.{range_in}

-- members and blocks
member_aside : (m : Member) → is_aside (given (member_tree m)).name ≡ false
member_aside (member.Constant id) = ap (λ g. is_aside g.name) (branch_gives role.UserOperator _ [])
member_aside (member.Number value span) = ap (λ g. is_aside g.name) (branch_gives role.FiniteIntRangeConstant _ _)
member_aside member.Dot = ap (λ g. is_aside g.name) (branch_gives role.DotConstant [] [])

member_back : (m : Member) → member_fits m ≡ true → (given (member_tree m)).member ≡ m
member_back (member.Constant id) h = ap (λ g. g.member) (branch_gives role.UserOperator _ [])
member_back (member.Number value span) h =
    ap (λ g. g.member) (branch_gives role.FiniteIntRangeConstant _ (range_tree span ∷ []))
    ∙ ap (λ v. member.Number v (child role.FiniteIntRangeConstant 0 (given (range_tree span) ∷ [])).span) (signed_back value (and_parts (fits value) (span_fits span) h).0)
    ∙ ap (member.Number value) (range_in span (and_parts (fits value) (span_fits span) h).1)
member_back member.Dot h = ap (λ g. g.member) (branch_gives role.DotConstant [] [])

members_back : (ms : List Member) → list_all member_fits ms ≡ true → map (λ c. c.member) (kept role.PartitionElement (map given (map member_tree ms))) ≡ ms
members_back [] h = refl
members_back (m ∷ ms) h =
    let rest = map given (map member_tree ms) in
    ap (map (λ c. c.member)) (kept_first role.PartitionElement (given (member_tree m)) rest (or_false (is_aside (given (member_tree m)).name) (member_aside m)))
    ∙ ap (λ t. t ∷ map (λ c. c.member) (kept role.PartitionElement rest)) (member_back m (and_parts (member_fits m) (list_all member_fits ms) h).0)
    ∙ ap (λ ts. m ∷ ts) (members_back ms (and_parts (member_fits m) (list_all member_fits ms) h).1)

block_back : (b : Block) → block_fits b ≡ true → (given (block_tree b)).block ≡ b
block_back b h =
    ap (λ g. g.block) (branch_gives role.PartitionElement (declared_id b.id) (map member_tree b.members))
    ∙ ap (λ ms. record { id = b.id; members = ms }) (members_back b.members h)

block_is_kept : (b : Block) → is_passed_over role.Partition (given (block_tree b)).name ≡ false
block_is_kept b = ap (λ g. is_passed_over role.Partition g.name) (branch_gives role.PartitionElement (declared_id b.id) (map member_tree b.members))

block_is_block : (b : Block) → is_block (given (block_tree b)) ≡ true
block_is_block b = ap is_block (branch_gives role.PartitionElement (declared_id b.id) (map member_tree b.members))

blocks_back : (bs : List Block) → list_all block_fits bs ≡ true → map (λ c. c.block) (filter is_block (kept role.Partition (map given (map block_tree bs)))) ≡ bs
blocks_back [] h = refl
blocks_back (b ∷ bs) h =
    let rest = map given (map block_tree bs) in
    ap (λ ks. map (λ c. c.block) (filter is_block ks)) (kept_first role.Partition (given (block_tree b)) rest (block_is_kept b))
    ∙ ap (λ t. map (λ c. c.block) (cond t (given (block_tree b) ∷ filter is_block (kept role.Partition rest)) (filter is_block (kept role.Partition rest)))) (block_is_block b)
    ∙ ap (λ t. t ∷ map (λ c. c.block) (filter is_block (kept role.Partition rest))) (block_back b (and_parts (block_fits b) (list_all block_fits bs) h).0)
    ∙ ap (λ ts. b ∷ ts) (blocks_back bs (and_parts (block_fits b) (list_all block_fits bs) h).1)

-- a partition
abbrev partition_lists : Partition → Lists
partition_lists p = record no_lists { partitions = p ∷ [] }

divided_back : (p : Partition) → sort_fits p.sort ≡ true
    → (slice_index_or (filter (λ c. not (is_block c)) (kept role.Partition (given (sort_tree p.sort) ∷ map given (map block_tree p.elements)))) 0 nothing).sort ≡ p.sort
divided_back p h =
    let first = given (sort_tree p.sort) in
    let rest = kept role.Partition (map given (map block_tree p.elements)) in
    ap (λ ks. (slice_index_or (filter (λ c. not (is_block c)) ks) 0 nothing).sort)
    (kept_first role.Partition first (map given (map block_tree p.elements)) (or_false (is_aside first.name) (sort_aside p.sort)))
    ∙ ap (λ t. (slice_index_or (cond (not t) (first ∷ filter (λ c. not (is_block c)) rest) (filter (λ c. not (is_block c)) rest)) 0 nothing).sort) (sort_is_no_block p.sort)
    ∙ sort_back p.sort h

elements_back : (p : Partition) → list_all block_fits p.elements ≡ true
    → map (λ c. c.block) (filter is_block (kept role.Partition (given (sort_tree p.sort) ∷ map given (map block_tree p.elements)))) ≡ p.elements
elements_back p h =
    let first = given (sort_tree p.sort) in
    let rest = kept role.Partition (map given (map block_tree p.elements)) in
    ap (λ ks. map (λ c. c.block) (filter is_block ks)) (kept_first role.Partition first (map given (map block_tree p.elements)) (or_false (is_aside first.name) (sort_aside p.sort)))
    ∙ ap (λ t. map (λ c. c.block) (cond t (first ∷ filter is_block rest) (filter is_block rest))) (sort_is_no_block p.sort)
    ∙ blocks_back p.elements h

partition_back : (kind : Kind) (p : Partition) → partition_fits p ≡ true → (given (partition_tree p)).lists kind ≡ partition_lists p
partition_back kind p h =
    ap (λ g. g.lists kind) (branch_gives role.Partition (declared_id p.id) (sort_tree p.sort ∷ map block_tree p.elements))
    ∙ ap (λ s. partition_lists (record {
      id = p.id;
      sort = s;
      elements = map (λ c. c.block) (filter is_block (kept role.Partition (given (sort_tree p.sort) ∷ map given (map block_tree p.elements))));
    })) (divided_back p (and_parts (sort_fits p.sort) (list_all block_fits p.elements) h).0)
    ∙ ap (λ bs. partition_lists (record { id = p.id; sort = p.sort; elements = bs })) (elements_back p (and_parts (sort_fits p.sort) (list_all block_fits p.elements) h).1)

-- sorts and variables
named_sort_back : (kind : Kind) (s : NamedSort) → sort_fits s.sort ≡ true → (given (named_sort_tree s)).lists kind ≡ record no_lists { sorts = s ∷ [] }
named_sort_back kind s h =
    ap (λ g. g.lists kind) (branch_gives role.NamedSort (declared_id s.id) (sort_tree s.sort ∷ []))
    ∙ ap (λ g. record no_lists { sorts = record { id = s.id; sort = g.sort } ∷ [] })
    (first_child role.NamedSort (given (sort_tree s.sort)) [] (or_false (is_aside (given (sort_tree s.sort)).name) (sort_aside s.sort)))
    ∙ ap (λ t. record no_lists { sorts = record { id = s.id; sort = t } ∷ [] }) (sort_back s.sort h)

variable_back : (kind : Kind) (v : VariableDecl) → sort_fits v.sort ≡ true → (given (variable_tree v)).lists kind ≡ record no_lists { variables = v ∷ [] }
variable_back kind v h =
    ap (λ g. g.lists kind) (branch_gives role.VariableDecl (declared_id v.id) (sort_tree v.sort ∷ []))
    ∙ ap (λ g. record no_lists { variables = record { id = v.id; sort = g.sort } ∷ [] })
    (first_child role.VariableDecl (given (sort_tree v.sort)) [] (or_false (is_aside (given (sort_tree v.sort)).name) (sort_aside v.sort)))
    ∙ ap (λ t. record no_lists { variables = record { id = v.id; sort = t } ∷ [] }) (sort_back v.sort h)

-- lists of them, before others
pub sorts_in : (kind : Kind) (ss : List NamedSort) (rest : List Element) → list_all (λ s. sort_fits s.sort) ss ≡ true
    → lists_in role.Declarations kind (map given (map named_sort_tree ss ++ rest)) ≡ both (record no_lists { sorts = ss }) (lists_in role.Declarations kind (map given rest))
sorts_in kind [] rest h = refl
sorts_in kind (s ∷ ss) rest h =
    first_lists role.Declarations kind (given (named_sort_tree s)) (map given (map named_sort_tree ss ++ rest))
    (ap (λ g. is_passed_over role.Declarations g.name) (branch_gives role.NamedSort (declared_id s.id) (sort_tree s.sort ∷ [])))
    ∙ ap (λ l. both l (lists_in role.Declarations kind (map given (map named_sort_tree ss ++ rest)))) (named_sort_back kind s (and_parts (sort_fits s.sort) (list_all (λ s. sort_fits s.sort) ss) h).0)
    ∙ ap (both (record no_lists { sorts = s ∷ [] })) (sorts_in kind ss rest (and_parts (sort_fits s.sort) (list_all (λ s. sort_fits s.sort) ss) h).1)

pub partitions_in : (kind : Kind) (ps : List Partition) (rest : List Element) → list_all partition_fits ps ≡ true
    → lists_in role.Declarations kind (map given (map partition_tree ps ++ rest)) ≡ both (record no_lists { partitions = ps }) (lists_in role.Declarations kind (map given rest))
partitions_in kind [] rest h = refl
partitions_in kind (p ∷ ps) rest h =
    first_lists role.Declarations kind (given (partition_tree p)) (map given (map partition_tree ps ++ rest))
    (ap (λ g. is_passed_over role.Declarations g.name) (branch_gives role.Partition (declared_id p.id) (sort_tree p.sort ∷ map block_tree p.elements)))
    ∙ ap (λ l. both l (lists_in role.Declarations kind (map given (map partition_tree ps ++ rest)))) (partition_back kind p (and_parts (partition_fits p) (list_all partition_fits ps) h).0)
    ∙ ap (both (partition_lists p)) (partitions_in kind ps rest (and_parts (partition_fits p) (list_all partition_fits ps) h).1)

pub variables_in : (kind : Kind) (vs : List VariableDecl) → list_all (λ v. sort_fits v.sort) vs ≡ true
    → lists_in role.Declarations kind (map given (map variable_tree vs)) ≡ record no_lists { variables = vs }
variables_in kind [] h = refl
variables_in kind (v ∷ vs) h =
    first_lists role.Declarations kind (given (variable_tree v)) (map given (map variable_tree vs))
    (ap (λ g. is_passed_over role.Declarations g.name) (branch_gives role.VariableDecl (declared_id v.id) (sort_tree v.sort ∷ [])))
    ∙ ap (λ l. both l (lists_in role.Declarations kind (map given (map variable_tree vs)))) (variable_back kind v (and_parts (sort_fits v.sort) (list_all (λ v. sort_fits v.sort) vs) h).0)
    ∙ ap (both (record no_lists { variables = v ∷ [] })) (variables_in kind vs (and_parts (sort_fits v.sort) (list_all (λ v. sort_fits v.sort) vs) h).1)
