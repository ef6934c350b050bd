-- Partitions of the colours of a sort (ISO/IEC 15909-2, partitions of symmetric nets), and their rules.
use Rattle.std.specs.Prelude.{ℕ, Bool, true, false, not, ◌&&◌, List, flat_map, count_by, ◌==◌, int_le, Option, None, Some, if◌then◌else◌}
use Rattle.std.specs.Ordering.{int_eq}
use Rattle.std.specs.List.{list_all, list_any, position_or_len}
use Rattle.std.specs.Str.{bytes_eq}
use Rattle.colour_sorts.specs.declared.rules.Rule.{Rule}
use Rattle.colour_sorts.specs.declared.rules.Rule.TheVariants as rule
use Rattle.net_model.specs.declared.sorts.NamedSort.{NamedSort}
use Rattle.net_model.specs.declared.sorts.Member.{Member}
use Rattle.net_model.specs.declared.sorts.Member.TheVariants as member
use Rattle.net_model.specs.declared.sorts.Block.{Block}
use Rattle.net_model.specs.declared.sorts.Partition.{Partition}
use Rattle.colour_sorts.specs.declared.sorts.Sort.{Sort, out-Sort}
use Rattle.colour_sorts.specs.declared.sorts.Sort.TheOpen.{Sort-F, Dot, Listed, Cyclic, Range, Product}
use Rattle.colour_sorts.specs.declared.sorts.Colour.{Colour, out-Colour}
use Rattle.colour_sorts.specs.declared.sorts.Colour.TheOpen as layer
use Rattle.colour_sorts.specs.Colours.{colours, constants_at}
use Rattle.net_model.specs.Ids.{constants_of}
use Rattle.colour_sorts.specs.Naming.{broken_rule, sort_of}

-- only enumerations and ranges are divided
abbrev pub can_be_divided_layer : {A : Type 0} → Sort-F A → Bool
can_be_divided_layer Dot = false
can_be_divided_layer (Product _) = false
can_be_divided_layer _ = true

abbrev pub can_be_divided : Sort → Bool
can_be_divided s = can_be_divided_layer (out-Sort s)

-- whether a member of a block is a colour of the sort; a number names the span of the sort too
abbrev pub is_member_layer : {A : Type 0} → List (List (List ℕ)) → Sort-F A → Member → Bool
is_member_layer constants (Listed at) (member.Constant id) = list_any (bytes_eq id) (constants_at constants at)
is_member_layer constants (Cyclic at) (member.Constant id) = list_any (bytes_eq id) (constants_at constants at)
is_member_layer constants (Range range) (member.Number value span) = int_eq span.first range.first && int_eq span.last range.last && int_le range.first value && int_le value range.last
is_member_layer constants _ _ = false

abbrev pub is_member : List (List (List ℕ)) → Sort → Member → Bool
is_member constants s m = is_member_layer constants (out-Sort s) m

-- whether a member is this colour
abbrev pub is_colour_layer : {A : Type 0} → layer.Colour-F A → Member → Bool
is_colour_layer layer.Dot member.Dot = true
is_colour_layer (layer.Constant name) (member.Constant id) = bytes_eq name id
is_colour_layer (layer.Number number) (member.Number value _) = int_eq number value
is_colour_layer _ _ = false

abbrev pub is_colour : Colour → Member → Bool
is_colour c m = is_colour_layer (out-Colour c) m

abbrev pub members_of : List Block → List Member
members_of elements = flat_map (λ element. element.members) elements

-- each colour of the sort stands once in the blocks
abbrev pub is_covered : List (List (List ℕ)) → Sort → List Block → Bool
is_covered constants s elements = list_all (λ c. count_by (is_colour c) (members_of elements) == 1) (colours constants s)

-- the first rule of partitions that the blocks of a sort break
abbrev pub broken_blocks : List (List (List ℕ)) → Sort → List Block → Option Rule
broken_blocks constants s elements =
    if not (can_be_divided s) then Some rule.PartitionSort
    else if not (list_all (is_member constants s) (members_of elements)) then Some rule.PartitionMember
    else if not (is_covered constants s elements) then Some rule.PartitionCover
    else None

-- those of its sort come first
abbrev pub after : Option Rule → Option Rule → Option Rule
after (Some first) _ = Some first
after None second = second

abbrev pub broken_partition : List NamedSort → Partition → Option Rule
broken_partition sorts p = after (broken_rule sorts 0 p.sort) (broken_blocks (constants_of sorts) (sort_of sorts 0 p.sort) p.elements)

-- the position of the block that has the colour
abbrev pub block_with : List Block → Colour → ℕ
block_with elements c = position_or_len (λ element. list_any (is_colour c) element.members) elements
