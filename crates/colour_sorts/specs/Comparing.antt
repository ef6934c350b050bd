-- Whether two sorts are the same.
use Rattle.std.specs.Prelude.{Bool, true, false, ◌&&◌, nat_eq, List, [], ◌∷◌}
use Rattle.std.specs.Ordering.{int_eq}
use Rattle.colour_sorts.specs.declared.sorts.Sort.{Sort, fold-Sort, out-Sort}
use Rattle.colour_sorts.specs.declared.sorts.Sort.TheOpen as layer

abbrev pub all_same : List (Sort → Bool) → List Sort → Bool
all_same [] [] = true
all_same (test ∷ tests) (s ∷ more) = test s && all_same tests more
all_same _ _ = false

abbrev pub is_same_layer : layer.Sort-F (Sort → Bool) → layer.Sort-F Sort → Bool
is_same_layer layer.Dot layer.Dot = true
is_same_layer (layer.Listed at) (layer.Listed other) = nat_eq at other
is_same_layer (layer.Cyclic at) (layer.Cyclic other) = nat_eq at other
is_same_layer (layer.Range span) (layer.Range other) = int_eq span.first other.first && int_eq span.last other.last
is_same_layer (layer.Product tests) (layer.Product parts) = all_same tests parts
is_same_layer _ _ = false

abbrev pub is_same_part : layer.Sort-F (Sort → Bool) → Sort → Bool
is_same_part parts other = is_same_layer parts (out-Sort other)

abbrev pub is_same_sort : Sort → Sort → Bool
is_same_sort s = fold-Sort (Sort → Bool) is_same_part s
