-- The trees of sorts, terms and guards with lists of parts, from the trees of their parts.
use Rattle.std.proofs.Common.{◌≡◌, List, map, ap, ◌∙◌}
use Rattle.std.proofs.lemmas.Simd.{map-map}
use Rattle.net_model.proofs.Layers.{term-Product}
use Rattle.net_model.specs.declared.sorts.SortTerm.{SortTerm}
use Rattle.net_model.specs.declared.sorts.SortTerm.TheVariants as sort
use Rattle.net_model.proofs.Layers.{fold-Add, fold-Tuple}
use Rattle.net_model.proofs.Layers.{guard-And, guard-Or}
use Rattle.net_model.specs.declared.terms.Term.{Term}
use Rattle.net_model.specs.declared.terms.Term.TheVariants as term
use Rattle.net_model.specs.declared.terms.Guard.{Guard}
use Rattle.net_model.specs.declared.terms.Guard.TheVariants as guard
use Rattle.net_elements.specs.declared.roles.Role.TheVariants as role
use Rattle.pnml_write.specs.Canon.{guard_by_parts, guard_part_tree, guard_tree, holder, part, sort_by_parts, sort_tree, term_by_parts, term_tree}

pub product_tree : (parts : List SortTerm) → sort_tree (sort.Product parts) ≡ holder role.ProductSort (map sort_tree parts)
product_tree parts = term-Product sort_by_parts parts

pub tuple_tree : (parts : List Term) → term_tree (term.Tuple parts) ≡ holder role.Tuple (map (λ t. part (term_tree t)) parts)
tuple_tree parts = fold-Tuple term_by_parts parts ∙ ap (holder role.Tuple) (map-map part term_tree parts)

pub add_tree : (parts : List Term) → term_tree (term.Add parts) ≡ holder role.Add (map (λ t. part (term_tree t)) parts)
add_tree parts = fold-Add term_by_parts parts ∙ ap (holder role.Add) (map-map part term_tree parts)

pub and_tree : (parts : List Guard) → guard_tree (guard.And parts) ≡ holder role.And (map (λ g. guard_part_tree (guard_tree g)) parts)
and_tree parts = guard-And guard_by_parts parts ∙ ap (holder role.And) (map-map guard_part_tree guard_tree parts)

pub or_tree : (parts : List Guard) → guard_tree (guard.Or parts) ≡ holder role.Or (map (λ g. guard_part_tree (guard_tree g)) parts)
or_tree parts = guard-Or guard_by_parts parts ∙ ap (holder role.Or) (map-map guard_part_tree guard_tree parts)
