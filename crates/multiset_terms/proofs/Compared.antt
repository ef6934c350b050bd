-- Compiled comparisons stand for the written ones.
use Rattle.std.proofs.Common.{◌≡◌, ℕ, ◌+◌, Bool, true, false, List, [], ◌∷◌, refl, sym, ap, ◌∙◌, subst, arith, Option, None, Some}
use Rattle.std.specs.Prelude.{Ok, Err, not, ◌&&◌, ◌||◌, nat_eq, nat_lt, slice_get}
use Rattle.std.proofs.lemmas.List.Sums.{sum_by-cons}
use Rattle.colour_sorts.specs.declared.rules.Rule.{Rule}
use Rattle.colour_sorts.specs.declared.sorts.Colour.TheVariants as colour
use Rattle.colour_sorts.specs.declared.sorts.Sort.{Sort}
use Rattle.colour_sorts.specs.Domain.{domain_of}
use Rattle.multiset_terms.specs.declared.conditions.CGuard.TheVariants as condition
use Rattle.multiset_terms.specs.declared.guards.GuardPart.{GuardPart}
use Rattle.multiset_terms.specs.declared.kinds.Kind.{Kind}
use Rattle.multiset_terms.specs.declared.kinds.Kind.TheVariants as kind
use Rattle.multiset_terms.specs.declared.parts.Part.{Part}
use Rattle.net_model.specs.declared.terms.Guard.TheVariants as guard
use Rattle.net_model.specs.declared.terms.Order.{Order}
use Rattle.net_model.specs.declared.terms.Order.TheVariants as order
use Rattle.net_model.specs.declared.terms.Term.{Term}
use Rattle.multiset_terms.specs.Agreeing.{IsOneColour}
use Rattle.multiset_terms.specs.Conditions.{block_uses_at, compares_blocks, condition_uses_part, verdict_of_parts}
use Rattle.multiset_terms.specs.Context.{Context}
use Rattle.multiset_terms.specs.GuardParts.{IsCondition, IsGuardPart, block_tree_of, is_equality}
use Rattle.multiset_terms.specs.Parts.{AreDistinct, HasKind, IsBlockValue, IsPart, PartValue}
use Rattle.multiset_terms.specs.Standing.{Binds, occurs, occurs_in_guard_part}
use Rattle.multiset_terms.specs.Trees.{Reading, are_colours, reading, uses_at}
use Rattle.multiset_terms.specs.Typing.{at_root, can_be_compared, guard_part, in_front, is_block, judged, looked_at, sort_of_kind, type_of_guard}
use Rattle.multiset_terms.specs.Values.{Binding, Meaning, colours_of, is_ordered, is_same, meaning, truth_part}
use Rattle.multiset_terms.specs.Weights.{weighed}
use Rattle.multiset_terms.proofs.Agreement.{lists-agree}
use Rattle.multiset_terms.proofs.Blocks.{one-colour-fits}
use Rattle.multiset_terms.proofs.Comparing.{block-fit, block-placed, colours-compare, same-block, second-colour}
use Rattle.multiset_terms.proofs.Distinct.{once-sort}
use Rattle.net_model.specs.declared.terms.Guard.TheOpen as written
use Rattle.multiset_terms.specs.declared.conditions.CGuard.TheOpen as open_guard
use Rattle.multiset_terms.proofs.Conjunctions.{alone, leaf}
use Rattle.multiset_terms.proofs.ConditionLayers.{condition-Compare, condition-CompareBlocks}
use Rattle.net_model.proofs.Layers.{fold-Compare}
use Rattle.multiset_terms.proofs.Lightness.{is_single, single-one}
use Rattle.multiset_terms.proofs.Roots.{term-apart}
use Rattle.multiset_terms.proofs.SameColour.{own}

-- the value of a part that is a colour or a block
value-of : (ctx : Context) (t : Term) (p : Part) (b : Binding) (indices : List ℕ) → IsPart ctx false t p → is_single p.kind ≡ true → Binds ctx b indices
    → PartValue ctx p.block p.kind (weighed ctx t).gross (meaning ctx b t) (reading indices p.tree)
value-of ctx t p b indices known single binds =
    known.values b indices binds (sym known.counted.heavy_node ∙ (single-one ctx false t p.kind known.counted.typed single).heavy)

record IsColourValue (ctx : Context) (t : Term) (p : Part) (s : Sort) (b : Binding) (indices : List ℕ) : Type 0 where
  one : IsOneColour (colours_of ctx s) (meaning ctx b t) (reading indices p.tree)
  sort : (meaning ctx b t).sort ≡ s
  none : (meaning ctx b t).block ≡ 0

colour-value : (ctx : Context) (t : Term) (p : Part) (s : Sort) (b : Binding) (indices : List ℕ) → IsPart ctx false t p → p.kind ≡ kind.Colour s → Binds ctx b indices → IsColourValue ctx t p s b indices
colour-value ctx t p s b indices known is binds =
    let value = value-of ctx t p b indices known (ap is_single is) binds in
    let of_kind : HasKind ctx p.block (kind.Colour s) (meaning ctx b t) (reading indices p.tree) = subst (λ k. HasKind ctx p.block k (meaning ctx b t) (reading indices p.tree)) is value.of_kind in
    record {
      one = of_kind.0;
      sort = value.sort (ap is_block is) ∙ ap sort_of_kind is;
      none = (term-apart ctx false b t p.kind known.counted.typed).no_block (ap is_block is);
    }

both-fit : (r v : Reading) → are_colours (r ∷ []) ≡ true → are_colours (v ∷ []) ≡ true → are_colours (r ∷ v ∷ []) ≡ true
both-fit r v first second = by (r.is_sound && r.is_colour && r.is_choice && nat_lt r.place r.size) (are_colours (v ∷ [])) first second
  where
    by : (a b : Bool) → (a && true) ≡ true → b ≡ true → (a && b) ≡ true
    by true b h k = k
    by false b h k = absurd (cc)

pub colours-compared : (ctx : Context) (by : Order) (t u : Term) (p q : Part) (s : Sort) → AreDistinct ctx → IsPart ctx false t p → IsPart ctx false u q → p.kind ≡ kind.Colour s
    → Ok tt ≡ can_be_compared by (p.kind ∷ q.kind ∷ []) → IsCondition ctx (guard.Compare by t u) (condition.Compare by p.tree q.tree)
colours-compared ctx by t u p q s distinct known other is allowed =
    let same : q.kind ≡ kind.Colour s = second-colour by s q.kind (allowed ∙ ap (λ k. can_be_compared by (k ∷ q.kind ∷ [])) is) in
    let agree = lists-agree (colours_of ctx s) (once-sort _ distinct s) in
    alone ctx (guard.Compare by t u) (condition.Compare by p.tree q.tree) (record {
      variables = λ at id here. condition-Compare (condition_uses_part at) by p.tree q.tree
          ∙ ap (λ x. x || uses_at at q.tree) (known.variables at id here) ∙ ap (λ x. occurs id t || x) (other.variables at id here)
          ∙ sym (fold-Compare (occurs_in_guard_part id) by t u);
      fit = λ b indices binds.
          let first = colour-value ctx t p s b indices known is binds in
          let second = colour-value ctx u q s b indices other same binds in
          ap (λ v. v.is_fit) (condition-Compare (verdict_of_parts (domain_of ctx.sorts ctx.partitions) indices) by p.tree q.tree)
          ∙ both-fit (reading indices p.tree) (reading indices q.tree) (one-colour-fits _ _ _ first.one) (one-colour-fits _ _ _ second.one);
      truths = λ b indices binds.
          let first = colour-value ctx t p s b indices known is binds in
          let second = colour-value ctx u q s b indices other same binds in
          ap (λ v. v.is_true) (condition-Compare (verdict_of_parts (domain_of ctx.sorts ctx.partitions) indices) by p.tree q.tree)
          ∙ colours-compare ctx by s _ _ _ _ agree first.one second.one first.sort second.sort first.none second.none
          ∙ sym (fold-Compare (truth_part ctx b) by t u);
    })
    (leaf _ _ (written.Compare by t u) (open_guard.Compare by p.tree q.tree) (guard.rolls-Compare by t u) (condition.rolls-Compare by p.tree q.tree) refl refl refl refl)

-- blocks
record IsEquality (by : Order) : Type 0 where
  either : (ctx : Context) (m n : Meaning) (a b : ℕ) → a ≡ m.block → b ≡ n.block → m.colour ≡ colour.Dot → n.colour ≡ colour.Dot → compares_blocks (is_equality by) a b ≡ is_ordered ctx by m n

record AreBlocks (by : Order) (at : ℕ) (q : Kind) : Type 0 where
  equality : IsEquality by
  second : q ≡ kind.Block at

same-values : (m n : Meaning) (a b : ℕ) → a ≡ m.block → b ≡ n.block → m.colour ≡ colour.Dot → n.colour ≡ colour.Dot → nat_eq a b ≡ (is_same m.colour n.colour && nat_eq m.block n.block)
same-values m n a b first second here there =
    ap (λ x. nat_eq x b) first ∙ ap (λ y. nat_eq m.block y) second
    ∙ sym (ap (λ test. test && nat_eq m.block n.block) (ap (is_same m.colour) (there ∙ sym here) ∙ own m.colour))

are-blocks : (by : Order) (at : ℕ) (q : Kind) → Ok tt ≡ can_be_compared by (kind.Block at ∷ q ∷ []) → AreBlocks by at q
are-blocks order.Equal at q h = record { equality = record { either = λ ctx m n a b first second here there. same-values m n a b first second here there }; second = same-block at q h }
are-blocks order.Unequal at q h = record { equality = record { either = λ ctx m n a b first second here there. ap not (same-values m n a b first second here there) }; second = same-block at q h }
are-blocks order.Less at q h = absurd (cc)
are-blocks order.LessEqual at q h = absurd (cc)
are-blocks order.Greater at q h = absurd (cc)
are-blocks order.GreaterEqual at q h = absurd (cc)

block-value : (ctx : Context) (t : Term) (p : Part) (at : ℕ) (b : Binding) (indices : List ℕ) → IsPart ctx false t p → p.kind ≡ kind.Block at → Binds ctx b indices
    → IsBlockValue ctx at p.block (meaning ctx b t) (reading indices p.tree)
block-value ctx t p at b indices known is binds =
    subst (λ k. HasKind ctx p.block k (meaning ctx b t) (reading indices p.tree)) is (value-of ctx t p b indices known (ap is_single is) binds).of_kind

block-use : (ctx : Context) (t : Term) (p : Part) (at : ℕ) (id : List ℕ) → IsPart ctx false t p → slice_get ctx.variables.ids at ≡ Some id
    → block_uses_at at (block_tree_of p.block p.tree) ≡ occurs id t
block-use ctx t p at id known here = by p.block refl
  where
    by : (o : Option ℕ) → p.block ≡ o → block_uses_at at (block_tree_of o p.tree) ≡ occurs id t
    by None e = known.variables at id here
    by (Some position) e = sym (known.closed position e id)

pub blocks-compared : (ctx : Context) (by : Order) (t u : Term) (p q : Part) (partition : ℕ) → IsPart ctx false t p → IsPart ctx false u q → p.kind ≡ kind.Block partition
    → Ok tt ≡ can_be_compared by (p.kind ∷ q.kind ∷ [])
    → IsCondition ctx (guard.Compare by t u) (condition.CompareBlocks (is_equality by) partition (block_tree_of p.block p.tree) (block_tree_of q.block q.tree))
blocks-compared ctx by t u p q partition known other is allowed =
    let blocks = are-blocks by partition q.kind (allowed ∙ ap (λ k. can_be_compared by (k ∷ q.kind ∷ [])) is) in
    let d = domain_of ctx.sorts ctx.partitions in
    let first_tree = block_tree_of p.block p.tree in
    let second_tree = block_tree_of q.block q.tree in
    alone ctx (guard.Compare by t u) (condition.CompareBlocks (is_equality by) partition first_tree second_tree) (record {
      variables = λ at id here. condition-CompareBlocks (condition_uses_part at) (is_equality by) partition first_tree second_tree
          ∙ ap (λ x. x || block_uses_at at second_tree) (block-use ctx t p at id known here) ∙ ap (λ x. occurs id t || x) (block-use ctx u q at id other here)
          ∙ sym (fold-Compare (occurs_in_guard_part id) by t u);
      fit = λ b indices binds.
          ap (λ v. v.is_fit) (condition-CompareBlocks (verdict_of_parts d indices) (is_equality by) partition first_tree second_tree)
          ∙ both-true _ _ (block-fit ctx partition indices p.block p.tree (meaning ctx b t) (block-value ctx t p partition b indices known is binds))
          (block-fit ctx partition indices q.block q.tree (meaning ctx b u) (block-value ctx u q partition b indices other blocks.second binds));
      truths = λ b indices binds.
          ap (λ v. v.is_true) (condition-CompareBlocks (verdict_of_parts d indices) (is_equality by) partition first_tree second_tree)
          ∙ blocks.equality.either ctx (meaning ctx b t) (meaning ctx b u) _ _
          (block-placed ctx partition indices p.block p.tree (meaning ctx b t) (block-value ctx t p partition b indices known is binds))
          (block-placed ctx partition indices q.block q.tree (meaning ctx b u) (block-value ctx u q partition b indices other blocks.second binds))
          ((term-apart ctx false b t p.kind known.counted.typed).no_colour (ap is_block is))
          ((term-apart ctx false b u q.kind other.counted.typed).no_colour (ap is_block blocks.second))
          ∙ sym (fold-Compare (truth_part ctx b) by t u);
    })
    (leaf _ _ (written.Compare by t u) (open_guard.CompareBlocks (is_equality by) partition first_tree second_tree) (guard.rolls-Compare by t u)
    (condition.rolls-CompareBlocks (is_equality by) partition first_tree second_tree) refl refl refl refl)
  where
    both-true : (a b : Bool) → a ≡ true → b ≡ true → (a && b) ≡ true
    both-true a b h k = rw (h, k) refl

-- multisets are never compared
pub nothing-compared : {A : Type 0} (by : Order) (k q : Kind) → (is_single k ≡ false) → Ok tt ≡ can_be_compared by (k ∷ q ∷ []) → A
nothing-compared by (kind.Colour s) q many h = absurd (cc)
nothing-compared by (kind.Block at) q many h = absurd (cc)
nothing-compared order.Equal (kind.Every s) q many h = absurd (cc)
nothing-compared order.Unequal (kind.Every s) q many h = absurd (cc)
nothing-compared order.Less (kind.Every s) q many h = absurd (cc)
nothing-compared order.LessEqual (kind.Every s) q many h = absurd (cc)
nothing-compared order.Greater (kind.Every s) q many h = absurd (cc)
nothing-compared order.GreaterEqual (kind.Every s) q many h = absurd (cc)
nothing-compared order.Equal (kind.Multiset s) q many h = absurd (cc)
nothing-compared order.Unequal (kind.Multiset s) q many h = absurd (cc)
nothing-compared order.Less (kind.Multiset s) q many h = absurd (cc)
nothing-compared order.LessEqual (kind.Multiset s) q many h = absurd (cc)
nothing-compared order.Greater (kind.Multiset s) q many h = absurd (cc)
nothing-compared order.GreaterEqual (kind.Multiset s) q many h = absurd (cc)

-- nodes over two terms
judged-compare : (ctx : Context) (by : Order) (t u : Term) (p q : Part) → IsPart ctx false t p → IsPart ctx false u q
    → type_of_guard ctx (guard.Compare by t u) ≡ at_root (can_be_compared by (p.kind ∷ q.kind ∷ []))
judged-compare ctx by t u p q known other =
    ap (λ j. j.verdict) (fold-Compare (guard_part ctx) by t u)
    ∙ ap (λ v. looked_at (can_be_compared by) (in_front 1 v (in_front (1 + (judged ctx false t).nodes) (judged ctx false u).verdict (Ok [])))) known.counted.typed
    ∙ ap (λ v. looked_at (can_be_compared by) (in_front 1 (Ok p.kind) (in_front (1 + (judged ctx false t).nodes) v (Ok [])))) other.counted.typed

pub compared-part : (ctx : Context) (by : Order) (t u : Term) (p q : Part) (part : GuardPart) → IsPart ctx false t p → IsPart ctx false u q
    → Ok tt ≡ can_be_compared by (p.kind ∷ q.kind ∷ []) → IsCondition ctx (guard.Compare by t u) part.condition → part.nodes ≡ 1 + p.nodes + q.nodes → IsGuardPart ctx (guard.Compare by t u) part
compared-part ctx by t u p q part known other allowed stands nodes = record {
  typed = judged-compare ctx by t u p q known other ∙ ap at_root (sym allowed);
  nodes = ap (λ j. j.nodes) (fold-Compare (guard_part ctx) by t u)
      ∙ omega (arith, nodes, known.counted.nodes, other.counted.nodes, sum_by-cons (λ j. j.nodes) (judged ctx false t) (judged ctx false u ∷ []), sum_by-cons (λ j. j.nodes) (judged ctx false u) []);
  stands = stands;
}

pub compared-fault : (ctx : Context) (by : Order) (t u : Term) (p q : Part) (broken : Rule) → IsPart ctx false t p → IsPart ctx false u q → Err broken ≡ can_be_compared by (p.kind ∷ q.kind ∷ [])
    → type_of_guard ctx (guard.Compare by t u) ≡ Err (0, broken)
compared-fault ctx by t u p q broken known other is = judged-compare ctx by t u p q known other ∙ ap at_root (sym is)

-- what is no block
pub others-compared : (ctx : Context) (by : Order) (t u : Term) (p q : Part) → AreDistinct ctx → IsPart ctx false t p → IsPart ctx false u q → ((at : ℕ) → p.kind ≡ kind.Block at → ⊥)
    → Ok tt ≡ can_be_compared by (p.kind ∷ q.kind ∷ []) → IsCondition ctx (guard.Compare by t u) (condition.Compare by p.tree q.tree)
others-compared ctx by t u p q distinct known other apart allowed = decide p.kind refl
  where
    decide : (k : Kind) → p.kind ≡ k → IsCondition ctx (guard.Compare by t u) (condition.Compare by p.tree q.tree)
    decide (kind.Colour s) is = colours-compared ctx by t u p q s distinct known other is allowed
    decide (kind.Block at) is = absurd (apart at is)
    decide (kind.Every s) is = nothing-compared by p.kind q.kind (ap is_single is) allowed
    decide (kind.Multiset s) is = nothing-compared by p.kind q.kind (ap is_single is) allowed
