-- The sort of the tree of a sort is the sort.
use Rattle.std.proofs.Common.{◌≡◌, ℕ, Bool, true, false, List, [], ◌∷◌, map, refl, ap, sym, ◌∙◌}
use Rattle.std.proofs.lemmas.Bool.{and_parts}
use Rattle.std.specs.Str.{bytes_eq}
use Rattle.doc_model.specs.declared.tree.Element.{Element}
use Rattle.net_model.specs.declared.sorts.SortTerm.{SortTerm, map-SortTerm, out-SortTerm, roll-SortTerm, fold-roll-SortTerm, fold_out-SortTerm}
use Rattle.net_model.specs.declared.sorts.SortTerm.TheOpen as layer
use Rattle.net_model.specs.declared.sorts.SortTerm.TheVariants as sort
use Rattle.net_elements.specs.declared.roles.Role.{Role}
use Rattle.net_elements.specs.declared.roles.Role.TheVariants as role
use Rattle.net_elements.specs.Rules.{is_aside, is_passed_over}
use Rattle.net_elements.specs.Table.{word_of}
use Rattle.pnml_read.specs.Nets.{given, kept}
use Rattle.pnml_write.specs.Canon.{constant_tree, declared_id, sort_by_parts, sort_tree}
use Rattle.pnml_read.specs.Each.{are_all}
use Rattle.canon_laws.specs.Fitting.{sort_fits, sort_fits_by_parts}
use Rattle.net_model.proofs.Inductions.{KnownSort, plain_sort, sort_by_layers, sort_in}
use Rattle.pnml_read.proofs.Elements.{kept_first, or_false}
use Rattle.canon_laws.proofs.Elements.{branch_gives}
use Rattle.canon_laws.proofs.Numbers.{span_back}

-- the tree of a sort is no name, graphic or tool's own, and no block of a partition
sort_layer_aside : (y : layer.SortTerm-F Element) → is_aside (given (sort_by_parts y)).name ≡ false
sort_layer_aside layer.Dot = ap (λ g. is_aside g.name) (branch_gives role.Dot _ _)
sort_layer_aside (layer.Named id) = ap (λ g. is_aside g.name) (branch_gives role.UserSort _ _)
sort_layer_aside (layer.Product parts) = ap (λ g. is_aside g.name) (branch_gives role.ProductSort _ _)
sort_layer_aside (layer.Range span) = ap (λ g. is_aside g.name) (branch_gives role.FiniteIntRange _ _)
sort_layer_aside (layer.Listed ids) = ap (λ g. is_aside g.name) (branch_gives role.FiniteEnumeration _ _)
sort_layer_aside (layer.Cyclic ids) = ap (λ g. is_aside g.name) (branch_gives role.CyclicEnumeration _ _)

sort_layer_block : (y : layer.SortTerm-F Element) → bytes_eq (given (sort_by_parts y)).name (word_of role.PartitionElement) ≡ false
sort_layer_block layer.Dot = ap (λ g. bytes_eq g.name (word_of role.PartitionElement)) (branch_gives role.Dot _ _)
sort_layer_block (layer.Named id) = ap (λ g. bytes_eq g.name (word_of role.PartitionElement)) (branch_gives role.UserSort _ _)
sort_layer_block (layer.Product parts) = ap (λ g. bytes_eq g.name (word_of role.PartitionElement)) (branch_gives role.ProductSort _ _)
sort_layer_block (layer.Range span) = ap (λ g. bytes_eq g.name (word_of role.PartitionElement)) (branch_gives role.FiniteIntRange _ _)
sort_layer_block (layer.Listed ids) = ap (λ g. bytes_eq g.name (word_of role.PartitionElement)) (branch_gives role.FiniteEnumeration _ _)
sort_layer_block (layer.Cyclic ids) = ap (λ g. bytes_eq g.name (word_of role.PartitionElement)) (branch_gives role.CyclicEnumeration _ _)

pub sort_aside : (s : SortTerm) → is_aside (given (sort_tree s)).name ≡ false
sort_aside s =
    ap (λ e. is_aside (given e).name) (fold_out-SortTerm Element sort_by_parts s)
    ∙ sort_layer_aside (map-SortTerm SortTerm Element sort_tree (out-SortTerm s))

pub sort_is_no_block : (s : SortTerm) → bytes_eq (given (sort_tree s)).name (word_of role.PartitionElement) ≡ false
sort_is_no_block s =
    ap (λ e. bytes_eq (given e).name (word_of role.PartitionElement)) (fold_out-SortTerm Element sort_by_parts s)
    ∙ sort_layer_block (map-SortTerm SortTerm Element sort_tree (out-SortTerm s))

-- the constants of an enumeration
pub constants_back : (r : Role) → is_passed_over r (word_of role.FeConstant) ≡ false → (ids : List (List ℕ)) → map (λ c. c.id) (kept r (map given (map constant_tree ids))) ≡ ids
constants_back r h [] = refl
constants_back r h (id ∷ ids) =
    let is = branch_gives role.FeConstant (declared_id id) [] in
    ap (map (λ c. c.id)) (kept_first r (given (constant_tree id)) (map given (map constant_tree ids)) (ap (λ g. is_passed_over r g.name) is ∙ h))
    ∙ ap (λ i. i ∷ map (λ c. c.id) (kept r (map given (map constant_tree ids)))) (ap (λ g. g.id) is)
    ∙ ap (λ rest. id ∷ rest) (constants_back r h ids)

abbrev Back : SortTerm → Type 0
Back s = sort_fits s ≡ true → (given (sort_tree s)).sort ≡ s

parts_back : (ys : List (KnownSort Back)) → are_all (map sort_fits (map (sort_in Back) ys)) ≡ true
    → map (λ c. c.sort) (kept role.ProductSort (map given (map sort_tree (map (sort_in Back) ys)))) ≡ map (sort_in Back) ys
parts_back [] h = refl
parts_back (y ∷ ys) h =
    let first = (and_parts (sort_fits y.0) (are_all (map sort_fits (map (sort_in Back) ys))) h).0 in
    let later = (and_parts (sort_fits y.0) (are_all (map sort_fits (map (sort_in Back) ys))) h).1 in
    let rest = map given (map sort_tree (map (sort_in Back) ys)) in
    ap (map (λ c. c.sort)) (kept_first role.ProductSort (given (sort_tree y.0)) rest (or_false (is_aside (given (sort_tree y.0)).name) (sort_aside y.0)))
    ∙ ap (λ s. s ∷ map (λ c. c.sort) (kept role.ProductSort rest)) (y.1 first)
    ∙ ap (λ later. y.0 ∷ later) (parts_back ys later)

layer_back : (y : layer.SortTerm-F (KnownSort Back)) → sort_fits_by_parts (map-SortTerm SortTerm Bool sort_fits (plain_sort Back y)) ≡ true
    → (given (sort_by_parts (map-SortTerm SortTerm Element sort_tree (plain_sort Back y)))).sort ≡ roll-SortTerm (plain_sort Back y)
layer_back layer.Dot h = ap (λ g. g.sort) (branch_gives role.Dot _ _) ∙ sym sort.rolls-Dot
layer_back (layer.Named id) h = ap (λ g. g.sort) (branch_gives role.UserSort _ _) ∙ sym (sort.rolls-Named id)
layer_back (layer.Product ys) h =
    ap (λ g. g.sort) (branch_gives role.ProductSort _ _) ∙ ap sort.Product (parts_back ys h) ∙ sym (sort.rolls-Product (map (sort_in Back) ys))
layer_back (layer.Range span) h = ap (λ g. g.sort) (branch_gives role.FiniteIntRange _ _) ∙ ap sort.Range (span_back span h) ∙ sym (sort.rolls-Range span)
layer_back (layer.Listed ids) h =
    ap (λ g. g.sort) (branch_gives role.FiniteEnumeration _ _) ∙ ap sort.Listed (constants_back role.FiniteEnumeration refl ids) ∙ sym (sort.rolls-Listed ids)
layer_back (layer.Cyclic ids) h =
    ap (λ g. g.sort) (branch_gives role.CyclicEnumeration _ _) ∙ ap sort.Cyclic (constants_back role.CyclicEnumeration refl ids) ∙ sym (sort.rolls-Cyclic ids)

pub sort_back : (s : SortTerm) → sort_fits s ≡ true → (given (sort_tree s)).sort ≡ s
sort_back = sort_by_layers Back (λ y h.
    ap (λ e. (given e).sort) (fold-roll-SortTerm Element sort_by_parts (plain_sort Back y))
    ∙ layer_back y (sym (fold-roll-SortTerm Bool sort_fits_by_parts (plain_sort Back y)) ∙ h))
