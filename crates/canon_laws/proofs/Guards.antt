-- The guard of the tree of a guard is the guard.
use Rattle.std.proofs.Common.{◌≡◌, Bool, true, false, ◌&&◌, List, [], ◌∷◌, map, refl, ap, sym, ◌∙◌}
use Rattle.std.proofs.lemmas.Bool.{and_parts}
use Rattle.doc_model.specs.declared.tree.Element.{Element}
use Rattle.net_model.specs.declared.terms.Order.{Order}
use Rattle.net_model.specs.declared.terms.Order.TheVariants as order
use Rattle.net_model.specs.declared.terms.Term.{Term}
use Rattle.net_model.specs.declared.terms.Guard.{Guard, map-Guard, out-Guard, roll-Guard, fold-roll-Guard, fold_out-Guard}
use Rattle.net_model.specs.declared.terms.Guard.TheOpen as layer
use Rattle.net_model.specs.declared.terms.Guard.TheVariants as guard
use Rattle.net_elements.specs.declared.roles.Role.{Role}
use Rattle.net_elements.specs.declared.roles.Role.TheVariants as role
use Rattle.net_elements.specs.Rules.{is_aside, is_passed_over}
use Rattle.net_elements.specs.Table.{word_of}
use Rattle.pnml_read.specs.Nets.{Given, child, compare, given}
use Rattle.pnml_write.specs.Canon.{guard_by_parts, guard_part_tree, guard_tree, holder, order_role, part, term_tree}
use Rattle.canon_laws.specs.Fitting.{guard_fits, guard_fits_by_parts, term_fits}
use Rattle.net_model.proofs.Inductions.{KnownGuard, guard_by_layers, guard_in, plain_guard}
use Rattle.pnml_read.proofs.Elements.{first_child, or_false, second_child}
use Rattle.canon_laws.proofs.Elements.{branch_gives, parts_back}
use Rattle.canon_laws.proofs.Terms.{first_part, part_is_kept, second_part, term_back}

-- the tree of a guard is no name, graphic or tool's own
compare_aside : (o : Order) (cs : List Element) → is_aside (given (holder (order_role o) cs)).name ≡ false
compare_aside order.Equal cs = ap (λ g. is_aside g.name) (branch_gives role.Equality [] cs)
compare_aside order.Unequal cs = ap (λ g. is_aside g.name) (branch_gives role.Inequality [] cs)
compare_aside order.Less cs = ap (λ g. is_aside g.name) (branch_gives role.LessThan [] cs)
compare_aside order.LessEqual cs = ap (λ g. is_aside g.name) (branch_gives role.LessThanOrEqual [] cs)
compare_aside order.Greater cs = ap (λ g. is_aside g.name) (branch_gives role.GreaterThan [] cs)
compare_aside order.GreaterEqual cs = ap (λ g. is_aside g.name) (branch_gives role.GreaterThanOrEqual [] cs)

guard_layer_aside : (y : layer.Guard-F Element) → is_aside (given (guard_by_parts y)).name ≡ false
guard_layer_aside (layer.Constant b) = ap (λ g. is_aside g.name) (branch_gives role.BooleanConstant _ _)
guard_layer_aside (layer.And gs) = ap (λ g. is_aside g.name) (branch_gives role.And _ _)
guard_layer_aside (layer.Or gs) = ap (λ g. is_aside g.name) (branch_gives role.Or _ _)
guard_layer_aside (layer.Not g) = ap (λ g. is_aside g.name) (branch_gives role.Not _ _)
guard_layer_aside (layer.Imply g h) = ap (λ g. is_aside g.name) (branch_gives role.Imply _ _)
guard_layer_aside (layer.Compare o s t) = compare_aside o (part (term_tree s) ∷ part (term_tree t) ∷ [])

pub guard_aside : (g : Guard) → is_aside (given (guard_tree g)).name ≡ false
guard_aside g =
    ap (λ e. is_aside (given e).name) (fold_out-Guard Element guard_by_parts g) ∙ guard_layer_aside (map-Guard Guard Element guard_tree (out-Guard g))

part_kept : (r : Role) (t : Element) → is_passed_over r (word_of role.GuardSubterm) ≡ false → is_passed_over r (given (guard_part_tree t)).name ≡ false
part_kept r t h = ap (λ g. is_passed_over r g.name) (branch_gives role.GuardSubterm [] (t ∷ [])) ∙ h

part_guard : (g : Guard) → (given (guard_part_tree (guard_tree g))).guard ≡ (given (guard_tree g)).guard
part_guard g =
    ap (λ g. g.guard) (branch_gives role.GuardSubterm [] (guard_tree g ∷ []))
    ∙ ap (λ g. g.guard) (first_child role.GuardSubterm (given (guard_tree g)) [] (or_false (is_aside (given (guard_tree g)).name) (guard_aside g)))

first_guard : (r : Role) (g : Guard) (gs : List Given) → is_passed_over r (word_of role.GuardSubterm) ≡ false
    → (child r 0 (given (guard_part_tree (guard_tree g)) ∷ gs)).guard ≡ (given (guard_tree g)).guard
first_guard r g gs h = ap (λ g. g.guard) (first_child r (given (guard_part_tree (guard_tree g))) gs (part_kept r (guard_tree g) h)) ∙ part_guard g

second_guard : (r : Role) (f : Given) (g : Guard) → is_passed_over r f.name ≡ false → is_passed_over r (word_of role.GuardSubterm) ≡ false
    → (child r 1 (f ∷ given (guard_part_tree (guard_tree g)) ∷ [])).guard ≡ (given (guard_tree g)).guard
second_guard r f g first h =
    ap (λ g. g.guard) (second_child r f (given (guard_part_tree (guard_tree g))) [] first (part_kept r (guard_tree g) h)) ∙ part_guard g

abbrev Back : Guard → Type 0
Back g = guard_fits g ≡ true → (given (guard_tree g)).guard ≡ g

compared : (r : Role) (o : Order) (s t : Term) → is_passed_over r (word_of role.TermSubterm) ≡ false → (term_fits s && term_fits t) ≡ true
    → compare r o (given (part (term_tree s)) ∷ given (part (term_tree t)) ∷ []) ≡ guard.Compare o s t
compared r o s t h fit =
    let gs = given (part (term_tree s)) ∷ given (part (term_tree t)) ∷ [] in
    ap (λ s. guard.Compare o s (child r 1 gs).term) (first_part r s (given (part (term_tree t)) ∷ []) h ∙ term_back s (and_parts (term_fits s) (term_fits t) fit).0)
    ∙ ap (guard.Compare o s) (second_part r (given (part (term_tree s))) t (part_is_kept r (term_tree s) h) h ∙ term_back t (and_parts (term_fits s) (term_fits t) fit).1)

compare_back : (o : Order) (s t : Term) → (term_fits s && term_fits t) ≡ true
    → (given (holder (order_role o) (part (term_tree s) ∷ part (term_tree t) ∷ []))).guard ≡ guard.Compare o s t
compare_back order.Equal s t fit = ap (λ g. g.guard) (branch_gives role.Equality [] _) ∙ compared role.Equality order.Equal s t refl fit
compare_back order.Unequal s t fit = ap (λ g. g.guard) (branch_gives role.Inequality [] _) ∙ compared role.Inequality order.Unequal s t refl fit
compare_back order.Less s t fit = ap (λ g. g.guard) (branch_gives role.LessThan [] _) ∙ compared role.LessThan order.Less s t refl fit
compare_back order.LessEqual s t fit = ap (λ g. g.guard) (branch_gives role.LessThanOrEqual [] _) ∙ compared role.LessThanOrEqual order.LessEqual s t refl fit
compare_back order.Greater s t fit = ap (λ g. g.guard) (branch_gives role.GreaterThan [] _) ∙ compared role.GreaterThan order.Greater s t refl fit
compare_back order.GreaterEqual s t fit = ap (λ g. g.guard) (branch_gives role.GreaterThanOrEqual [] _) ∙ compared role.GreaterThanOrEqual order.GreaterEqual s t refl fit

constant_back : (b : Bool) → (given (guard_by_parts (layer.Constant b))).guard ≡ guard.Constant b
constant_back true = ap (λ g. g.guard) (branch_gives role.BooleanConstant _ [])
constant_back false = ap (λ g. g.guard) (branch_gives role.BooleanConstant _ [])

layer_back : (y : layer.Guard-F (KnownGuard Back)) → guard_fits_by_parts (map-Guard Guard Bool guard_fits (plain_guard Back y)) ≡ true
    → (given (guard_by_parts (map-Guard Guard Element guard_tree (plain_guard Back y)))).guard ≡ roll-Guard (plain_guard Back y)
layer_back (layer.Constant b) h = constant_back b ∙ sym (guard.rolls-Constant b)
layer_back (layer.And ys) h =
    ap (λ g. g.guard) (branch_gives role.And _ _) ∙ ap guard.And (parts_back role.And guard_fits guard_tree guard_part_tree (λ g. g.guard) (λ g. part_kept role.And (guard_tree g) refl) part_guard ys h) ∙ sym (guard.rolls-And (map (guard_in Back) ys))
layer_back (layer.Or ys) h =
    ap (λ g. g.guard) (branch_gives role.Or _ _) ∙ ap guard.Or (parts_back role.Or guard_fits guard_tree guard_part_tree (λ g. g.guard) (λ g. part_kept role.Or (guard_tree g) refl) part_guard ys h) ∙ sym (guard.rolls-Or (map (guard_in Back) ys))
layer_back (layer.Not c) h =
    ap (λ g. g.guard) (branch_gives role.Not _ _) ∙ ap guard.Not (first_guard role.Not c.0 [] refl ∙ c.1 h) ∙ sym (guard.rolls-Not c.0)
layer_back (layer.Imply c d) h =
    let gs = given (guard_part_tree (guard_tree c.0)) ∷ given (guard_part_tree (guard_tree d.0)) ∷ [] in
    ap (λ g. g.guard) (branch_gives role.Imply _ _)
    ∙ ap (λ g. guard.Imply g (child role.Imply 1 gs).guard) (first_guard role.Imply c.0 (given (guard_part_tree (guard_tree d.0)) ∷ []) refl ∙ c.1 (and_parts (guard_fits c.0) (guard_fits d.0) h).0)
    ∙ ap (guard.Imply c.0) (second_guard role.Imply (given (guard_part_tree (guard_tree c.0))) d.0 (part_kept role.Imply (guard_tree c.0) refl) refl ∙ d.1 (and_parts (guard_fits c.0) (guard_fits d.0) h).1)
    ∙ sym (guard.rolls-Imply c.0 d.0)
layer_back (layer.Compare o s t) h = compare_back o s t h ∙ sym (guard.rolls-Compare o s t)

pub guard_back : (g : Guard) → guard_fits g ≡ true → (given (guard_tree g)).guard ≡ g
guard_back = guard_by_layers Back (λ y h.
    ap (λ e. (given e).guard) (fold-roll-Guard Element guard_by_parts (plain_guard Back y))
    ∙ layer_back y (sym (fold-roll-Guard Bool guard_fits_by_parts (plain_guard Back y)) ∙ h))
