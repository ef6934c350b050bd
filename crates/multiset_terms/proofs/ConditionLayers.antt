-- A fold over conditions, one node at a time.
use Rattle.std.proofs.Common.{◌≡◌, ℕ, Bool, List, map, sym, ap, ◌∙◌}
use Rattle.multiset_terms.specs.declared.conditions.BlockTree.{BlockTree}
use Rattle.multiset_terms.specs.declared.conditions.CGuard.{fold-CGuard, fold-roll-CGuard, CGuard}
use Rattle.multiset_terms.specs.declared.conditions.CGuard.TheOpen as layer
use Rattle.multiset_terms.specs.declared.conditions.CGuard.TheVariants as condition
use Rattle.net_model.specs.declared.terms.Order.{Order}
use Rattle.multiset_terms.specs.declared.trees.Tree.{Tree}

pub condition-Constant : {A : Type 0} (f : layer.CGuard-F A → A) (value : Bool) → fold-CGuard A f (condition.Constant value) ≡ f (layer.Constant value)
condition-Constant {A} f value = ap (fold-CGuard A f) (sym (condition.rolls-Constant value)) ∙ fold-roll-CGuard A f (layer.Constant value)

pub condition-And : {A : Type 0} (f : layer.CGuard-F A → A) (cs : List CGuard) → fold-CGuard A f (condition.And cs) ≡ f (layer.And (map (fold-CGuard A f) cs))
condition-And {A} f cs = ap (fold-CGuard A f) (sym (condition.rolls-And cs)) ∙ fold-roll-CGuard A f (layer.And cs)

pub condition-Or : {A : Type 0} (f : layer.CGuard-F A → A) (cs : List CGuard) → fold-CGuard A f (condition.Or cs) ≡ f (layer.Or (map (fold-CGuard A f) cs))
condition-Or {A} f cs = ap (fold-CGuard A f) (sym (condition.rolls-Or cs)) ∙ fold-roll-CGuard A f (layer.Or cs)

pub condition-Not : {A : Type 0} (f : layer.CGuard-F A → A) (c : CGuard) → fold-CGuard A f (condition.Not c) ≡ f (layer.Not (fold-CGuard A f c))
condition-Not {A} f c = ap (fold-CGuard A f) (sym (condition.rolls-Not c)) ∙ fold-roll-CGuard A f (layer.Not c)

pub condition-Imply : {A : Type 0} (f : layer.CGuard-F A → A) (c d : CGuard) → fold-CGuard A f (condition.Imply c d) ≡ f (layer.Imply (fold-CGuard A f c) (fold-CGuard A f d))
condition-Imply {A} f c d = ap (fold-CGuard A f) (sym (condition.rolls-Imply c d)) ∙ fold-roll-CGuard A f (layer.Imply c d)

pub condition-Compare : {A : Type 0} (f : layer.CGuard-F A → A) (order : Order) (a b : Tree) → fold-CGuard A f (condition.Compare order a b) ≡ f (layer.Compare order a b)
condition-Compare {A} f order a b = ap (fold-CGuard A f) (sym (condition.rolls-Compare order a b)) ∙ fold-roll-CGuard A f (layer.Compare order a b)

pub condition-CompareBlocks : {A : Type 0} (f : layer.CGuard-F A → A) (same : Bool) (partition : ℕ) (a b : BlockTree)
    → fold-CGuard A f (condition.CompareBlocks same partition a b) ≡ f (layer.CompareBlocks same partition a b)
condition-CompareBlocks {A} f same partition a b =
    ap (fold-CGuard A f) (sym (condition.rolls-CompareBlocks same partition a b)) ∙ fold-roll-CGuard A f (layer.CompareBlocks same partition a b)
