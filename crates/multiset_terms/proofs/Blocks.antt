-- The blocks of partitions.
use Rattle.std.proofs.Common.{◌≡◌, ℕ, ◌<◌, true, List, [], ◌∷◌, length, get_or, map, refl, sym, ap, ◌∙◌, arith, Some}
use Rattle.std.specs.Option.{option_map}
use Rattle.std.specs.Prelude.{nat_lt, not, slice_get}
use Rattle.std.specs.List.{list_any, position_or_len}
use Rattle.std.specs.Str.{bytes_eq}
use Rattle.std.proofs.lemmas.Bool.Decides.{nat_tests}
use Rattle.std.proofs.lemmas.List.{get_or-map, length-map}
use Rattle.std.proofs.lemmas.List.Quantifiers.{position-Some}
use Rattle.std.proofs.lemmas.Option.{slice_get-map, slice_get_within}
use Rattle.name_tables.proofs.Places.{prefix_len-map}
use Rattle.colour_sorts.specs.declared.sorts.Colour.{Colour}
use Rattle.colour_sorts.specs.declared.sorts.Sort.{Sort}
use Rattle.colour_sorts.specs.declared.sorts.Sort.TheVariants as sort
use Rattle.net_model.specs.declared.sorts.Partition.{Partition}
use Rattle.net_model.specs.declared.sorts.SortTerm.TheVariants as written
use Rattle.colour_sorts.specs.Calls.{blocks_at, group_of, place_in}
use Rattle.colour_sorts.specs.Colours.{colours}
use Rattle.colour_sorts.specs.Dividing.{block_with}
use Rattle.net_model.specs.Ids.{constants_of, element_ids}
use Rattle.colour_sorts.specs.Domain.{blocks_of, domain_of, partition_sort_of}
use Rattle.multiset_terms.specs.Agreeing.{IsOneColour}
use Rattle.multiset_terms.specs.Context.{Context}
use Rattle.multiset_terms.specs.Parts.{IsBlockWith}
use Rattle.multiset_terms.specs.Trees.{Reading, are_colours}
use Rattle.multiset_terms.specs.Typing.{partition_place, partition_sort, sort_named}
use Rattle.multiset_terms.specs.Values.{Meaning, colours_of, element_at}
use Rattle.multiset_terms.specs.Values as values

no-partition : Partition
no-partition = record { id = []; sort = written.Dot; elements = [] }

pub partition-known : (ctx : Context) (id : List ℕ) (at : ℕ) → partition_place ctx id ≡ Some at → at < length ctx.partitions
partition-known ctx id at here = (position-Some (λ p. bytes_eq id p.id) ctx.partitions at no-partition here).0

-- the block that has the colour at a place
pub block-here : (ctx : Context) (at : ℕ) (s : Sort) (c : Colour) (place : ℕ) → at < length ctx.partitions → s ≡ partition_sort ctx at → slice_get (colours_of ctx s) place ≡ Some c
    → slice_get (blocks_at (domain_of ctx.sorts ctx.partitions) at) place ≡ Some (block_with (values.blocks_at ctx at) c)
block-here ctx at s c place within is there =
    let p = get_or ctx.partitions at no-partition in
    let own : s ≡ partition_sort_of ctx.sorts p = is ∙ get_or-map (λ q. sort_named ctx q.sort) ctx.partitions at no-partition sort.Dot within in
    let elements : values.blocks_at ctx at ≡ p.elements = get_or-map (λ q. q.elements) ctx.partitions at no-partition [] within in
    ap (λ blocks. slice_get blocks place) (get_or-map (blocks_of ctx.sorts) ctx.partitions at no-partition [] within)
    ∙ slice_get-map (block_with p.elements) (colours (constants_of ctx.sorts) (partition_sort_of ctx.sorts p)) place
    ∙ ap (option_map (block_with p.elements)) (ap (λ z. slice_get (colours_of ctx z) place) (sym own) ∙ there)
    ∙ ap (λ es. Some (block_with es c)) (sym elements)

pub one-colour-fits : (cs : List Colour) (m : Meaning) (r : Reading) → IsOneColour cs m r → are_colours (r ∷ []) ≡ true
one-colour-fits cs m r known =
    let inside = slice_get_within cs r.place m.colour known.place in
    let size = known.agreed.size in
    let test : nat_lt r.place r.size ≡ true = grind (arith, nat_tests, inside, size) in
    rw (known.agreed.sound, known.is_colour, known.is_choice, test) refl

pub block-with : (ctx : Context) (at : ℕ) (s : Sort) (m n : Meaning) (r : Reading) → at < length ctx.partitions → s ≡ partition_sort ctx at → IsOneColour (colours_of ctx s) m r
    → n.block ≡ block_with (values.blocks_at ctx at) m.colour → IsBlockWith ctx at n r
block-with ctx at s m n r within is known means = record {
  known = within;
  colour = one-colour-fits (colours_of ctx s) m r known;
  block = block-here ctx at s m.colour r.place within is known.place ∙ ap Some (sym means);
}

-- the position of an element in its partition
pub element-position : (ctx : Context) (id : List ℕ) (at : ℕ) → group_of (map element_ids ctx.partitions) id ≡ Some at → place_in (map element_ids ctx.partitions) at id ≡ element_at ctx id at
element-position ctx id at found =
    let known = position-Some (list_any (bytes_eq id)) (map element_ids ctx.partitions) at [] found in
    let within : at < length ctx.partitions = omega (arith, known.0, length-map ctx.partitions element_ids) in
    let p = get_or ctx.partitions at no-partition in
    ap (position_or_len (bytes_eq id)) (get_or-map element_ids ctx.partitions at no-partition [] within)
    ∙ prefix_len-map (λ element. element.id) (λ name. not (bytes_eq id name)) p.elements
    ∙ ap (position_or_len (λ element. bytes_eq id element.id)) (sym (get_or-map (λ q. q.elements) ctx.partitions at no-partition [] within))
