-- What a compiled guard means under a list of colour indices.
use Rattle.std.specs.Prelude.{ℕ, Bool, true, false, not, ◌&&◌, ◌||◌, nat_eq, nat_lt, nat_le, List, [], ◌∷◌, length, map, slice_index_or, if◌then◌else◌}
use Rattle.std.specs.List.{list_all, list_any}
use Rattle.colour_sorts.specs.Calls.{blocks_at}
use Rattle.colour_sorts.specs.Domain.{Domain}
use Rattle.multiset_terms.specs.declared.conditions.BlockTree.{BlockTree}
use Rattle.multiset_terms.specs.declared.conditions.BlockTree.TheVariants as block
use Rattle.net_model.specs.declared.terms.Order.{Order}
use Rattle.net_model.specs.declared.terms.Order.TheVariants as order
use Rattle.multiset_terms.specs.declared.conditions.CGuard.{CGuard, fold-CGuard}
use Rattle.multiset_terms.specs.declared.conditions.CGuard.TheOpen.{CGuard-F, Constant, And, Or, Not, Imply, Compare, CompareBlocks}
use Rattle.multiset_terms.specs.Trees.{are_colours, reading, uses_at}

abbrev pub compares : Order → ℕ → ℕ → Bool
compares order.Equal a b = nat_eq a b
compares order.Unequal a b = not (nat_eq a b)
compares order.Less a b = nat_lt a b
compares order.LessEqual a b = nat_le a b
compares order.Greater a b = nat_lt b a
compares order.GreaterEqual a b = nat_le b a

abbrev pub compares_blocks : Bool → ℕ → ℕ → Bool
compares_blocks same a b = if same then nat_eq a b else not (nat_eq a b)

-- the position of a block in its partition, and whether all indices in it are in range
abbrev pub block_at : Domain → ℕ → List ℕ → BlockTree → ℕ
block_at domain partition binding (block.Element position) = position
block_at domain partition binding (block.With tree) = slice_index_or (blocks_at domain partition) (reading binding tree).place 0

abbrev pub is_block_fit : Domain → ℕ → List ℕ → BlockTree → Bool
is_block_fit domain partition binding (block.Element position) = true
is_block_fit domain partition binding (block.With tree) =
    are_colours (reading binding tree ∷ []) && nat_lt partition (length domain.partition_ids) && nat_lt (reading binding tree).place (length (blocks_at domain partition))

-- whether a guard is true, and whether all indices in it are in range
pub record Verdict : Type 0 where
  pub is_true : Bool
  pub is_fit : Bool

abbrev pub are_fit : List Verdict → Bool
are_fit vs = list_all (λ v. v.is_fit) vs

abbrev pub all_true : List Verdict → Bool
all_true vs = list_all (λ v. v.is_true) vs

abbrev pub any_true : List Verdict → Bool
any_true vs = list_any (λ v. v.is_true) vs

abbrev pub verdict_of_parts : Domain → List ℕ → CGuard-F Verdict → Verdict
verdict_of_parts domain binding (Constant value) = record { is_true = value; is_fit = true }
verdict_of_parts domain binding (And vs) = record { is_true = all_true vs; is_fit = are_fit vs }
verdict_of_parts domain binding (Or vs) = record { is_true = any_true vs; is_fit = are_fit vs }
verdict_of_parts domain binding (Not v) = record { is_true = not v.is_true; is_fit = v.is_fit }
verdict_of_parts domain binding (Imply a b) = record { is_true = not a.is_true || b.is_true; is_fit = a.is_fit && b.is_fit }
verdict_of_parts domain binding (Compare by a b) = record {
  is_true = compares by (reading binding a).place (reading binding b).place;
  is_fit = are_colours (reading binding a ∷ reading binding b ∷ []);
}
verdict_of_parts domain binding (CompareBlocks same partition a b) = record {
  is_true = compares_blocks same (block_at domain partition binding a) (block_at domain partition binding b);
  is_fit = is_block_fit domain partition binding a && is_block_fit domain partition binding b;
}

abbrev pub verdict : Domain → List ℕ → CGuard → Verdict
verdict domain binding condition = fold-CGuard Verdict (verdict_of_parts domain binding) condition

abbrev pub verdicts : Domain → List ℕ → List CGuard → List Verdict
verdicts domain binding conditions = map (verdict domain binding) conditions

-- whether the variable of a number occurs
abbrev pub block_uses_at : ℕ → BlockTree → Bool
block_uses_at variable (block.Element _) = false
block_uses_at variable (block.With tree) = uses_at variable tree

abbrev pub condition_uses_part : ℕ → CGuard-F Bool → Bool
condition_uses_part variable (Constant _) = false
condition_uses_part variable (And parts) = list_any (λ part. part) parts
condition_uses_part variable (Or parts) = list_any (λ part. part) parts
condition_uses_part variable (Not part) = part
condition_uses_part variable (Imply first second) = first || second
condition_uses_part variable (Compare _ first second) = uses_at variable first || uses_at variable second
condition_uses_part variable (CompareBlocks _ _ first second) = block_uses_at variable first || block_uses_at variable second

abbrev pub condition_uses_at : ℕ → CGuard → Bool
condition_uses_at variable condition = fold-CGuard Bool (condition_uses_part variable) condition

abbrev pub some_condition_uses : ℕ → List CGuard → Bool
some_condition_uses variable conditions = list_any (λ part. part) (map (condition_uses_at variable) conditions)
