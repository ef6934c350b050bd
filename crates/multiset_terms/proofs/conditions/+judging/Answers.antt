use Rattle.std.proofs.Common.{◌≡◌, ℕ, List, [], ◌∷◌, sym, ap, ◌∙◌, true}
use Rattle.colour_sorts.specs.Domain.{Domain}
use Rattle.net_model.specs.declared.terms.Order.{Order}
use Rattle.multiset_terms.specs.declared.trees.Tree.{Tree}
use Rattle.multiset_terms.specs.declared.conditions.CGuard.{CGuard, fold-roll-CGuard}
use Rattle.multiset_terms.specs.declared.conditions.CGuard.TheOpen as layer
use Rattle.multiset_terms.specs.declared.conditions.CGuard.TheVariants as condition
use Rattle.multiset_terms.specs.Conditions.{Verdict, verdict, verdict_of_parts}
use Rattle.multiset_terms.specs.Trees.{reading}
use Rattle.multiset_terms.proofs.Readings.{IsColour, colours-head, colours-tail}
use Rattle.multiset_terms.proofs.conditions.+judging.Goals as goal

second : (d : Domain) (b : List ℕ) (order : Order) (x y : Tree) (whole : CGuard) → whole ≡ condition.Compare order x y → (verdict d b whole).is_fit ≡ true → IsColour (reading b y)
second d b order x y whole is known =
    let e = ap (verdict d b) is ∙ ap (verdict d b) (sym (condition.rolls-Compare order x y)) ∙ fold-roll-CGuard Verdict (verdict_of_parts d b) (layer.Compare order x y) in
    let both = ap (λ v. v.is_fit) (sym e) ∙ known in
    colours-head (reading b y) [] (colours-tail (reading b x) (reading b y ∷ []) both)

pub is_true-place-requires-in-Compare-clause-sound : goal.is_true-place-requires-in-Compare-clause-sound
is_true-place-requires-in-Compare-clause-sound t c = (second c.args.domains.now c.args.binding.now c.in-Compare.order c.in-Compare.first c.in-Compare.second c.args.condition.now c.in-Compare.is c.requires).sound

pub is_true-place-requires-in-Compare-clause-colour : goal.is_true-place-requires-in-Compare-clause-colour
is_true-place-requires-in-Compare-clause-colour t c = (second c.args.domains.now c.args.binding.now c.in-Compare.order c.in-Compare.first c.in-Compare.second c.args.condition.now c.in-Compare.is c.requires).colour
