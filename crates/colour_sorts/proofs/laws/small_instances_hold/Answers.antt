use Rattle.std.proofs.Common.{◌≡◌, pos, [], ◌∷◌, map, codes, refl, ap, ◌∙◌}
use Rattle.std.specs.List.{list_any, position_or_len}
use Rattle.colour_sorts.specs.declared.sorts.Colour.TheVariants as colour
use Rattle.colour_sorts.specs.declared.sorts.Sort.TheVariants as sort
use Rattle.colour_sorts.specs.Colours.{colours, constants_at, tuple, tuples}
use Rattle.colour_sorts.specs.Dividing.{is_colour_layer}
use Rattle.colour_sorts.specs.Instances.{two_blocks, two_lists}
use Rattle.colour_sorts.specs.Limits.{depth_part, sorts_in_part}
use Rattle.colour_sorts.specs.declared.sorts.Sort.TheOpen as layer
use Rattle.colour_sorts.proofs.Folds.{colours-Cyclic, colours-Listed, colours-Product, size-Range}
use Rattle.colour_sorts.proofs.Layers.{at-Dot, at-Product}
use Rattle.colour_sorts.proofs.laws.small_instances_hold.Goals as goal

pub returns : goal.returns
returns c = record {
  order = colours-Product two_lists (sort.Listed 0 ∷ sort.Cyclic 1 ∷ [])
      ∙ ap (λ firsts. map tuple (tuples (firsts ∷ colours two_lists (sort.Cyclic 1) ∷ []))) (colours-Listed two_lists 0)
      ∙ ap (λ seconds. map tuple (tuples (map colour.Constant (constants_at two_lists 0) ∷ seconds ∷ []))) (colours-Cyclic two_lists 1);
  next = refl;
  wrap = refl;
  wrap_back = refl;
  upside_down = size-Range [] (record { first = pos 3; last = pos 1 });
  first_block = ap (λ l. position_or_len (λ element. list_any (is_colour_layer l) element.members) two_blocks) (colour.outs-Constant (codes "c2"));
  second_block = ap (λ l. position_or_len (λ element. list_any (is_colour_layer l) element.members) two_blocks) (colour.outs-Constant (codes "c3"));
  sorts = at-Product sorts_in_part (sort.Dot ∷ []) ∙ ap (λ n. sorts_in_part (layer.Product (n ∷ []))) (at-Dot sorts_in_part);
  deep = at-Product depth_part (sort.Dot ∷ []) ∙ ap (λ n. depth_part (layer.Product (n ∷ []))) (at-Dot depth_part);
}
