-- Comparisons of colours and of blocks.
use Rattle.std.proofs.Common.{◌≡◌, ℕ, Bool, true, false, List, [], ◌∷◌, length, refl, sym, ap, ◌∙◌, arith, Option, None, Some}
use Rattle.std.specs.Prelude.{Ok, not, ◌&&◌, nat_eq, nat_lt, nat_le, if◌then◌else◌}
use Rattle.std.proofs.lemmas.Bool.Decides.{nat_tests}
use Rattle.std.proofs.lemmas.Option.{get_or_from_slice_get, slice_get_within}
use Rattle.std.proofs.lemmas.List.{length-map}
use Rattle.colour_sorts.specs.declared.rules.Rule.TheVariants as rule
use Rattle.colour_sorts.specs.declared.sorts.Sort.{Sort}
use Rattle.colour_sorts.specs.Calls.{blocks_at}
use Rattle.colour_sorts.specs.Domain.{domain_of}
use Rattle.colour_sorts.specs.Comparing.{is_same_sort}
use Rattle.multiset_terms.specs.declared.kinds.Kind.{Kind}
use Rattle.multiset_terms.specs.declared.kinds.Kind.TheVariants as kind
use Rattle.net_model.specs.declared.terms.Order.{Order}
use Rattle.net_model.specs.declared.terms.Order.TheVariants as order
use Rattle.multiset_terms.specs.declared.trees.Tree.{Tree}
use Rattle.multiset_terms.specs.Agreeing.{IsOneColour}
use Rattle.multiset_terms.specs.Conditions.{block_at, compares, is_block_fit}
use Rattle.multiset_terms.specs.Context.{Context}
use Rattle.multiset_terms.specs.GuardParts.{block_tree_of}
use Rattle.multiset_terms.specs.Laws.{ColoursAgree}
use Rattle.multiset_terms.specs.Parts.{IsBlockValue}
use Rattle.multiset_terms.specs.Trees.{Reading, once, reading}
use Rattle.multiset_terms.specs.Typing.{can_be_compared, can_be_ordered, can_be_same, has_order, wants}
use Rattle.multiset_terms.specs.Values.{Meaning, colours_of, is_ordered, is_same, is_same_value, place_in, place_of_meaning}
use Rattle.multiset_terms.proofs.Makers.{wanted}
use Rattle.colour_sorts.proofs.SameSort.{sort-told}

-- the kinds of what is compared
same-colour : (s : Sort) (q : Kind) → Ok tt ≡ can_be_same (kind.Colour s ∷ q ∷ []) → q ≡ kind.Colour s
same-colour s (kind.Colour other) h = ap kind.Colour (sym (sort-told s other (wanted (is_same_sort s other) rule.SortsDiffer (Ok tt) tt h).0))
same-colour s (kind.Every other) h = absurd (cc)
same-colour s (kind.Multiset other) h = absurd (cc)
same-colour s (kind.Block at) h = absurd (cc)

ordered-colour : (s : Sort) (q : Kind) → Ok tt ≡ can_be_ordered (kind.Colour s ∷ q ∷ []) → q ≡ kind.Colour s
ordered-colour s (kind.Colour other) h = ap kind.Colour (sym (sort-told s other (wanted (is_same_sort s other) rule.SortsDiffer (wants (has_order s) rule.NoOrder (Ok tt)) tt h).0))
ordered-colour s (kind.Every other) h = absurd (cc)
ordered-colour s (kind.Multiset other) h = absurd (cc)
ordered-colour s (kind.Block at) h = absurd (cc)

pub second-colour : (by : Order) (s : Sort) (q : Kind) → Ok tt ≡ can_be_compared by (kind.Colour s ∷ q ∷ []) → q ≡ kind.Colour s
second-colour order.Equal s q h = same-colour s q h
second-colour order.Unequal s q h = same-colour s q h
second-colour order.Less s q h = ordered-colour s q h
second-colour order.LessEqual s q h = ordered-colour s q h
second-colour order.Greater s q h = ordered-colour s q h
second-colour order.GreaterEqual s q h = ordered-colour s q h

pub same-block : (at : ℕ) (q : Kind) → Ok tt ≡ can_be_same (kind.Block at ∷ q ∷ []) → q ≡ kind.Block at
same-block at (kind.Colour other) h = absurd (cc)
same-block at (kind.Every other) h = absurd (cc)
same-block at (kind.Multiset other) h = absurd (cc)
same-block at (kind.Block other) h =
    let test = (wanted (nat_eq at other) rule.SortsDiffer (Ok tt) tt h).0 in
    let same : other ≡ at = grind (arith, nat_tests, test) in ap kind.Block same

-- the tests of places are those of colours
once-told : (a b : Bool) → once a ≡ (if b then 1 else 0) → a ≡ b
once-told true true h = refl
once-told true false h = absurd (omega (arith, h))
once-told false true h = absurd (omega (arith, h))
once-told false false h = refl

and-true : (a b : Bool) → b ≡ true → (a && b) ≡ a
and-true true b h = h
and-true false b h = refl

pub colours-compare : (ctx : Context) (by : Order) (s : Sort) (m n : Meaning) (r v : Reading) → ColoursAgree (colours_of ctx s) → IsOneColour (colours_of ctx s) m r → IsOneColour (colours_of ctx s) n v
    → m.sort ≡ s → n.sort ≡ s → m.block ≡ 0 → n.block ≡ 0 → compares by r.place v.place ≡ is_ordered ctx by m n
colours-compare ctx by s m n r v agree first second here there zero nought = decide by
  where
    blocks : nat_eq m.block n.block ≡ true
    blocks = rw (zero, nought) refl

    same : nat_eq r.place v.place ≡ is_same_value m n
    same = once-told (nat_eq r.place v.place) (is_same m.colour n.colour) (agree.counts r.place v.place m.colour n.colour first.place second.place)
        ∙ sym (and-true (is_same m.colour n.colour) (nat_eq m.block n.block) blocks)

    left : r.place ≡ place_of_meaning ctx m
    left = sym (ap (λ z. place_in (colours_of ctx z) m.colour) here ∙ agree.places r.place m.colour first.place)

    right : v.place ≡ place_of_meaning ctx n
    right = sym (ap (λ z. place_in (colours_of ctx z) n.colour) there ∙ agree.places v.place n.colour second.place)

    decide : (by : Order) → compares by r.place v.place ≡ is_ordered ctx by m n
    decide order.Equal = same
    decide order.Unequal = ap not same
    decide order.Less = ap (λ a. nat_lt a v.place) left ∙ ap (λ b. nat_lt (place_of_meaning ctx m) b) right
    decide order.LessEqual = ap (λ a. nat_le a v.place) left ∙ ap (λ b. nat_le (place_of_meaning ctx m) b) right
    decide order.Greater = ap (λ b. nat_lt b r.place) right ∙ ap (λ a. nat_lt (place_of_meaning ctx n) a) left
    decide order.GreaterEqual = ap (λ b. nat_le b r.place) right ∙ ap (λ a. nat_le (place_of_meaning ctx n) a) left

-- blocks
pub block-placed : (ctx : Context) (at : ℕ) (indices : List ℕ) (o : Option ℕ) (tree : Tree) (m : Meaning) → IsBlockValue ctx at o m (reading indices tree)
    → block_at (domain_of ctx.sorts ctx.partitions) at indices (block_tree_of o tree) ≡ m.block
block-placed ctx at indices (Some position) tree m known = sym known
block-placed ctx at indices None tree m known = get_or_from_slice_get (blocks_at (domain_of ctx.sorts ctx.partitions) at) (reading indices tree).place m.block 0 known.block

pub block-fit : (ctx : Context) (at : ℕ) (indices : List ℕ) (o : Option ℕ) (tree : Tree) (m : Meaning) → IsBlockValue ctx at o m (reading indices tree)
    → is_block_fit (domain_of ctx.sorts ctx.partitions) at indices (block_tree_of o tree) ≡ true
block-fit ctx at indices (Some position) tree m known = refl
block-fit ctx at indices None tree m known =
    let r = reading indices tree in
    let d = domain_of ctx.sorts ctx.partitions in
    let inside = slice_get_within (blocks_at d at) r.place m.block known.block in
    let within = known.known in
    let first : nat_lt at (length d.partition_ids) ≡ true = (let long = length-map ctx.partitions (λ p. p.id) in grind (arith, nat_tests, within, long)) in
    let second : nat_lt r.place (length (blocks_at d at)) ≡ true = grind (arith, nat_tests, inside) in
    rw (known.colour, first, second) refl
