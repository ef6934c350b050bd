-- What terms over children are, by the sorts of the children.
use Rattle.std.specs.Prelude.{ℕ, Bool, List, [], ◌∷◌, Result, Ok, Err, not, if◌then◌else◌}
use Rattle.std.specs.List.{list_all}
use Rattle.colour_sorts.specs.declared.rules.Rule.{Rule}
use Rattle.colour_sorts.specs.declared.rules.Rule.TheVariants as rule
use Rattle.colour_sorts.specs.declared.sorts.Sort.{Sort, roll-Sort}
use Rattle.colour_sorts.specs.declared.sorts.Sort.TheOpen as layer
use Rattle.colour_sorts.specs.Comparing.{is_same_sort}
use Rattle.multiset_terms.specs.declared.kinds.Kind.{Kind}
use Rattle.multiset_terms.specs.declared.kinds.Kind.TheVariants as kind
use Rattle.multiset_terms.specs.Typing.{wants}

-- a sum of children that are no blocks, or of which some are
abbrev pub sum_kind_by : Bool → List Sort → Result Kind Rule
sum_kind_by are_multisets [] = Err rule.NotAMultiset
sum_kind_by are_multisets (s ∷ others) =
    wants are_multisets rule.NotAMultiset
    (wants (list_all (is_same_sort s) others) rule.SortsDiffer
    (Ok (kind.Multiset s)))

-- a tuple of choices, or of other children too, where a test tells that its sort is too large
abbrev pub tuple_kind_by : Bool → Bool → Bool → List Sort → Result Kind Rule
tuple_kind_by passes are_choices are_colours sorts =
    wants are_choices rule.NotAColour
    (wants (not passes) rule.DomainLimit
    (Ok (if are_colours then kind.Colour (roll-Sort (layer.Product sorts)) else kind.Multiset (roll-Sort (layer.Product sorts)))))

-- the block that has a colour, where a partition divides this sort
abbrev pub block_kind_by : ℕ → Sort → Kind → Result Kind Rule
block_kind_by partition s (kind.Colour other) = wants (is_same_sort other s) rule.SortsDiffer (Ok (kind.Block partition))
block_kind_by partition s _ = Err rule.NotAColour
