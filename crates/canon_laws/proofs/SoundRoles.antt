-- Sound elements, from their attributes and sound children.
use Rattle.std.proofs.Common.{ℕ, List, map, codes, refl}
use Rattle.std.proofs.lemmas.Bool.{and_from}
use Rattle.name_tables.specs.Grammar.{is_id_text}
use Rattle.doc_model.specs.declared.tree.Attribute.{Attribute}
use Rattle.net_model.specs.declared.sorts.SortTerm.TheOpen as sort_layer
use Rattle.net_model.specs.declared.sorts.SortTerm.TheVariants as sort
use Rattle.net_model.specs.declared.terms.Order.TheVariants as order
use Rattle.net_model.specs.declared.terms.Term.TheOpen as term_layer
use Rattle.net_model.specs.declared.terms.Term.TheVariants as term
use Rattle.net_model.specs.declared.terms.Guard.TheOpen as guard_layer
use Rattle.net_model.specs.declared.terms.Guard.TheVariants as guard
use Rattle.net_model.specs.declared.kinds.Kind.{Kind}
use Rattle.net_elements.specs.declared.roles.Role.{Role}
use Rattle.net_elements.specs.declared.roles.Role.TheVariants as role
use Rattle.net_elements.specs.Table.{word_of}
use Rattle.net_elements.specs.Rules.{truth_of}
use Rattle.net_model.specs.declared.nets.RefKind.TheVariants as stands_for
use Rattle.pnml_read.specs.Nets.{Given, child, is_true, kept, signed, span_part, text_in}
use Rattle.pnml_read.proofs.Elements.{gives}
use Rattle.canon_laws.proofs.Sound.{guard_sound, sort_sound, term_sound}
use Rattle.pnml_read.proofs.Each.{all_maps}
use Rattle.canon_laws.proofs.SoundParts.{cyclic_sound, guard_from, listed_sound, sort_from, term_from}
use Rattle.canon_laws.proofs.SoundSeats.{Facts, RoleIsSound, SortGiven, Takes}
use Rattle.canon_laws.proofs.SoundChildren.{all_guards, all_terms, as_guard, as_node, as_sort, as_term, compared_sound, constant_id, each_kept, guard_child, guard_constant, ids_in, multiple, number_or_subterm, one_part, one_subterm, only, parts_full, ranged, sort_child, sort_dot, span_is_small, term_child, term_dot, two_parts, two_subterms}
use Rattle.canon_laws.proofs.SoundNodes.{arc_sound, block_given, declared_child, declared_lists, lists_sound, named_sort_sound, partition_is_sound, place_sound, reference_given, transition_sound, variable_decl_sound}

-- an element, from its attributes and what its children give
pub role_sound : (kind : Kind) (r : Role) (attributes : List Attribute) (cs : List Given) (text : List ℕ) → Facts kind r attributes cs → RoleIsSound kind r (gives (word_of r) attributes cs text)
role_sound kind role.Dot attributes cs text f = sort_dot
role_sound kind role.UserSort attributes cs text f =
    let id = text_in (codes "declaration") attributes in
    sort_from (sort_layer.Named id) (sort.Named id) (sort.rolls-Named id) f.keys.0
role_sound kind role.ProductSort attributes cs text f =
    let parts = map (λ c. c.sort) (kept role.ProductSort cs) in
    sort_from (sort_layer.Product parts) (sort.Product parts) (sort.rolls-Product parts)
    (all_maps sort_sound (λ c. c.sort) (kept role.ProductSort cs) (each_kept kind role.ProductSort SortGiven cs (as_sort kind) f.children))
role_sound kind role.FiniteIntRange attributes cs text f =
    sort_from (sort_layer.Range (span_part attributes)) (sort.Range (span_part attributes)) (sort.rolls-Range (span_part attributes)) (span_is_small attributes)
role_sound kind role.PlaceType attributes cs text f = sort_child kind role.PlaceType cs (λ g t. (only role.SortStructure (Takes kind g) t).1) f.children
role_sound kind role.SortStructure attributes cs text f = sort_child kind role.SortStructure cs (as_sort kind) f.children
role_sound kind role.FiniteEnumeration attributes cs text f =
    listed_sound (map (λ c. c.id) (kept role.FiniteEnumeration cs)) (ids_in kind role.FiniteEnumeration cs (constant_id kind) f.children)
role_sound kind role.CyclicEnumeration attributes cs text f =
    cyclic_sound (map (λ c. c.id) (kept role.CyclicEnumeration cs)) (ids_in kind role.CyclicEnumeration cs (constant_id kind) f.children)
role_sound kind role.FeConstant attributes cs text f = f.keys.0
role_sound kind role.Variable attributes cs text f =
    let id = text_in (codes "refvariable") attributes in
    term_from (term_layer.Variable id) (term.Variable id) (term.rolls-Variable id) f.keys.0
role_sound kind role.UserOperator attributes cs text f =
    let id = text_in (codes "declaration") attributes in
    (term_from (term_layer.Operator id) (term.Operator id) (term.rolls-Operator id) f.keys.0, f.keys.0)
role_sound kind role.DotConstant attributes cs text f = (term_dot, refl)
role_sound kind role.FiniteIntRangeConstant attributes cs text f =
    let value = signed (text_in (codes "value") attributes) in
    let span = (child role.FiniteIntRangeConstant 0 cs).span in
    (term_from (term_layer.Number value span) (term.Number value span) (term.rolls-Number value span) (ranged kind attributes cs f.children), ranged kind attributes cs f.children)
role_sound kind role.Successor attributes cs text f =
    let t = (child role.Successor 0 cs).term in
    term_from (term_layer.Successor t) (term.Successor t) (term.rolls-Successor t) (term_child kind role.Successor 0 cs (one_subterm kind) f.children)
role_sound kind role.Predecessor attributes cs text f =
    let t = (child role.Predecessor 0 cs).term in
    term_from (term_layer.Predecessor t) (term.Predecessor t) (term.rolls-Predecessor t) (term_child kind role.Predecessor 0 cs (one_subterm kind) f.children)
role_sound kind role.Tuple attributes cs text f =
    let ts = map (λ c. c.term) (kept role.Tuple cs) in
    term_from (term_layer.Tuple ts) (term.Tuple ts) (term.rolls-Tuple ts)
    (all_terms kind role.Tuple cs (parts_full role.Tuple role.TermSubterm refl cs f.present) (one_subterm kind) f.children)
role_sound kind role.Add attributes cs text f =
    let ts = map (λ c. c.term) (kept role.Add cs) in
    term_from (term_layer.Add ts) (term.Add ts) (term.rolls-Add ts)
    (all_terms kind role.Add cs (parts_full role.Add role.TermSubterm refl cs f.present) (one_subterm kind) f.children)
role_sound kind role.Subtract attributes cs text f =
    let s = (child role.Subtract 0 cs).term in
    let t = (child role.Subtract 1 cs).term in
    term_from (term_layer.Subtract s t) (term.Subtract s t) (term.rolls-Subtract s t)
    (and_from (term_sound s) (term_sound t) (term_child kind role.Subtract 0 cs (two_subterms kind) f.children) (term_child kind role.Subtract 1 cs (two_subterms kind) f.children))
role_sound kind role.All attributes cs text f =
    let s = (child role.All 0 cs).sort in
    term_from (term_layer.All s) (term.All s) (term.rolls-All s) (sort_child kind role.All cs (as_sort kind) f.children)
role_sound kind role.Empty attributes cs text f =
    let s = (child role.Empty 0 cs).sort in
    term_from (term_layer.Empty s) (term.Empty s) (term.rolls-Empty s) (sort_child kind role.Empty cs (as_sort kind) f.children)
role_sound kind role.NumberOf attributes cs text f =
    let n = (child role.NumberOf 0 cs).number in
    let t = (child role.NumberOf 1 cs).term in
    term_from (term_layer.NumberOf n t) (term.NumberOf n t) (term.rolls-NumberOf n t) (multiple kind role.NumberOf cs (number_or_subterm kind) f.children)
role_sound kind role.ScalarProduct attributes cs text f =
    let n = (child role.ScalarProduct 0 cs).number in
    let t = (child role.ScalarProduct 1 cs).term in
    term_from (term_layer.Scalar n t) (term.Scalar n t) (term.rolls-Scalar n t) (multiple kind role.ScalarProduct cs (number_or_subterm kind) f.children)
role_sound kind role.PartitionElementOf attributes cs text f =
    let id = text_in (codes "refpartition") attributes in
    let t = (child role.PartitionElementOf 0 cs).term in
    term_from (term_layer.BlockOf id t) (term.BlockOf id t) (term.rolls-BlockOf id t)
    (and_from (is_id_text id) (term_sound t) f.keys.0 (term_child kind role.PartitionElementOf 0 cs (one_subterm kind) f.children))
role_sound kind role.HlInitialMarking attributes cs text f = term_child kind role.HlInitialMarking 0 cs (λ g t. (only role.TermStructure (Takes kind g) t).1) f.children
role_sound kind role.HlInscription attributes cs text f = term_child kind role.HlInscription 0 cs (λ g t. (only role.TermStructure (Takes kind g) t).1) f.children
role_sound kind role.TermStructure attributes cs text f = term_child kind role.TermStructure 0 cs (as_term kind) f.children
role_sound kind role.TermSubterm attributes cs text f = term_child kind role.TermSubterm 0 cs (as_term kind) f.children
role_sound kind role.NumberSubterm attributes cs text f = term_child kind role.NumberSubterm 0 cs (λ g t. (only role.NumberConstant (Takes kind g) t).1) f.children
role_sound kind role.NumberConstant attributes cs text f = term_dot
role_sound kind role.And attributes cs text f =
    let gs = map (λ c. c.guard) (kept role.And cs) in
    guard_from (guard_layer.And gs) (guard.And gs) (guard.rolls-And gs)
    (all_guards kind role.And cs (parts_full role.And role.GuardSubterm refl cs f.present) (one_part kind) f.children)
role_sound kind role.Or attributes cs text f =
    let gs = map (λ c. c.guard) (kept role.Or cs) in
    guard_from (guard_layer.Or gs) (guard.Or gs) (guard.rolls-Or gs)
    (all_guards kind role.Or cs (parts_full role.Or role.GuardSubterm refl cs f.present) (one_part kind) f.children)
role_sound kind role.Not attributes cs text f =
    let g = (child role.Not 0 cs).guard in
    guard_from (guard_layer.Not g) (guard.Not g) (guard.rolls-Not g) (guard_child kind role.Not 0 cs (one_part kind) f.children)
role_sound kind role.Imply attributes cs text f =
    let g = (child role.Imply 0 cs).guard in
    let h = (child role.Imply 1 cs).guard in
    guard_from (guard_layer.Imply g h) (guard.Imply g h) (guard.rolls-Imply g h)
    (and_from (guard_sound g) (guard_sound h) (guard_child kind role.Imply 0 cs (two_parts kind) f.children) (guard_child kind role.Imply 1 cs (two_parts kind) f.children))
role_sound kind role.Equality attributes cs text f = compared_sound kind role.Equality order.Equal cs (two_subterms kind) f.children
role_sound kind role.Inequality attributes cs text f = compared_sound kind role.Inequality order.Unequal cs (two_subterms kind) f.children
role_sound kind role.LessThan attributes cs text f = compared_sound kind role.LessThan order.Less cs (two_subterms kind) f.children
role_sound kind role.LessThanOrEqual attributes cs text f = compared_sound kind role.LessThanOrEqual order.LessEqual cs (two_subterms kind) f.children
role_sound kind role.GreaterThan attributes cs text f = compared_sound kind role.GreaterThan order.Greater cs (two_subterms kind) f.children
role_sound kind role.GreaterThanOrEqual attributes cs text f = compared_sound kind role.GreaterThanOrEqual order.GreaterEqual cs (two_subterms kind) f.children
role_sound kind role.BooleanConstant attributes cs text f = guard_constant (is_true (truth_of (text_in (codes "value") attributes)))
role_sound kind role.Condition attributes cs text f = guard_child kind role.Condition 0 cs (λ g t. (only role.GuardStructure (Takes kind g) t).1) f.children
role_sound kind role.GuardStructure attributes cs text f = guard_child kind role.GuardStructure 0 cs (as_guard kind) f.children
role_sound kind role.GuardSubterm attributes cs text f = guard_child kind role.GuardSubterm 0 cs (as_guard kind) f.children
role_sound kind role.PartitionElement attributes cs text f = block_given kind (text_in (codes "id") attributes) cs f.keys.0 f.children
role_sound kind role.Declaration attributes cs text f =
    declared_lists kind role.Declaration cs (λ g t. (only role.DeclarationStructure (Takes kind g) t).1) f.children (gives (word_of role.Declaration) attributes cs text) (λ k. refl)
role_sound kind role.DeclarationStructure attributes cs text f =
    declared_lists kind role.DeclarationStructure cs (λ g t. (only role.Declarations (Takes kind g) t).1) f.children (gives (word_of role.DeclarationStructure) attributes cs text) (λ k. refl)
role_sound kind role.Declarations attributes cs text f =
    declared_lists kind role.Declarations cs (declared_child kind) f.children (gives (word_of role.Declarations) attributes cs text) (λ k. refl)
role_sound kind role.NamedSort attributes cs text f = named_sort_sound kind attributes cs text f
role_sound kind role.Partition attributes cs text f = partition_is_sound kind attributes cs text f
role_sound kind role.VariableDecl attributes cs text f = variable_decl_sound kind attributes cs text f
role_sound kind role.Page attributes cs text f = lists_sound kind role.Page cs (as_node kind) f.children
role_sound kind role.Place attributes cs text f = place_sound kind attributes cs text f
role_sound kind role.Transition attributes cs text f = transition_sound kind attributes cs text f
role_sound kind role.Arc attributes cs text f = arc_sound kind attributes cs text f
role_sound kind role.ReferencePlace attributes cs text f =
    reference_given kind stands_for.Place (text_in (codes "id") attributes) (text_in (codes "ref") attributes) f.keys.0 f.keys.1.0
role_sound kind role.ReferenceTransition attributes cs text f =
    reference_given kind stands_for.Transition (text_in (codes "id") attributes) (text_in (codes "ref") attributes) f.keys.0 f.keys.1.0
role_sound kind _ attributes cs text f = tt
