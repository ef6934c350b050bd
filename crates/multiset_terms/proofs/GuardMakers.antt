-- Compiled guards that are made of parts stand for the guards that are written of them.
use Rattle.std.proofs.Common.{◌≡◌, ℕ, ◌+◌, Bool, true, List, [], ◌∷◌, map, refl, sym, ap, ◌∙◌, arith, Some}
use Rattle.std.specs.Prelude.{Ok, not, ◌&&◌, ◌||◌, slice_get}
use Rattle.std.specs.List.{list_all, list_any}
use Rattle.std.proofs.lemmas.List.Sums.{sum_by-cons}
use Rattle.colour_sorts.specs.Domain.{domain_of}
use Rattle.multiset_terms.specs.declared.conditions.CGuard.{CGuard}
use Rattle.multiset_terms.specs.declared.conditions.CGuard.TheVariants as condition
use Rattle.multiset_terms.specs.declared.guards.GuardPart.{GuardPart}
use Rattle.multiset_terms.specs.declared.guards.GuardParts.{GuardParts}
use Rattle.net_model.specs.declared.terms.Guard.{Guard}
use Rattle.net_model.specs.declared.terms.Guard.TheVariants as guard
use Rattle.multiset_terms.specs.Conditions.{all_true, any_true, are_fit, condition_uses_at, condition_uses_part, some_condition_uses, verdict, verdict_of_parts, verdicts}
use Rattle.multiset_terms.specs.Context.{Context}
use Rattle.multiset_terms.specs.GuardParts.{AreConditions, AreGuardParts, IsGuardPart}
use Rattle.multiset_terms.specs.Standing.{Binds, occurs_in_guard, occurs_in_guard_part}
use Rattle.multiset_terms.specs.Typing.{guard_part, in_front, judged_guard, looked_at}
use Rattle.multiset_terms.specs.Values.{Binding, truth, truth_part}
use Rattle.net_model.specs.declared.terms.Guard.TheOpen as written
use Rattle.multiset_terms.specs.declared.conditions.CGuard.TheOpen as layer
use Rattle.multiset_terms.proofs.Conjunctions.{alone, fewer-children, itself, leaf, together}
use Rattle.multiset_terms.proofs.GuardDescent.{typed-children}
use Rattle.net_model.proofs.Layers.{guard-And, guard-Constant, guard-Imply, guard-Not, guard-Or}
use Rattle.multiset_terms.proofs.ConditionLayers.{condition-And, condition-Constant, condition-Imply, condition-Not, condition-Or}

abbrev part-of : CGuard → ℕ → GuardPart
part-of made nodes = record { condition = made; nodes = nodes }

pub constant-guard : (ctx : Context) (value : Bool) → IsGuardPart ctx (guard.Constant value) (part-of (condition.Constant value) 1)
constant-guard ctx value = record {
  typed = ap (λ j. j.verdict) (guard-Constant (guard_part ctx) value);
  nodes = ap (λ j. j.nodes) (guard-Constant (guard_part ctx) value);
  stands = alone ctx (guard.Constant value) (condition.Constant value) (record {
    variables = λ at id here. condition-Constant (condition_uses_part at) value ∙ sym (guard-Constant (occurs_in_guard_part id) value);
    fit = λ b indices binds. ap (λ v. v.is_fit) (condition-Constant (verdict_of_parts (domain_of ctx.sorts ctx.partitions) indices) value);
    truths = λ b indices binds. ap (λ v. v.is_true) (condition-Constant (verdict_of_parts (domain_of ctx.sorts ctx.partitions) indices) value)
        ∙ sym (guard-Constant (truth_part ctx b) value);
  })
      (leaf _ _ (written.Constant value) (layer.Constant value) (guard.rolls-Constant value) (condition.rolls-Constant value) refl refl refl refl);
}

-- what is known of all children
conditions-use : (ctx : Context) (gs : List Guard) (cs : List CGuard) (at : ℕ) (id : List ℕ) → AreConditions ctx gs cs → slice_get ctx.variables.ids at ≡ Some id
    → some_condition_uses at cs ≡ list_any (λ part. part) (map (occurs_in_guard id) gs)
conditions-use ctx [] [] at id known here = refl
conditions-use ctx [] (c ∷ cs) at id known here = absurd known
conditions-use ctx (g ∷ gs) [] at id known here = absurd known
conditions-use ctx (g ∷ gs) (c ∷ cs) at id known here = rw ((itself known.0).variables at id here, conditions-use ctx gs cs at id known.1 here) refl

conditions-fit : (ctx : Context) (gs : List Guard) (cs : List CGuard) (b : Binding) (indices : List ℕ) → AreConditions ctx gs cs → Binds ctx b indices
    → are_fit (verdicts (domain_of ctx.sorts ctx.partitions) indices cs) ≡ true
conditions-fit ctx [] [] b indices known binds = refl
conditions-fit ctx [] (c ∷ cs) b indices known binds = absurd known
conditions-fit ctx (g ∷ gs) [] b indices known binds = absurd known
conditions-fit ctx (g ∷ gs) (c ∷ cs) b indices known binds = rw ((itself known.0).fit b indices binds, conditions-fit ctx gs cs b indices known.1 binds) refl

conditions-all : (ctx : Context) (gs : List Guard) (cs : List CGuard) (b : Binding) (indices : List ℕ) → AreConditions ctx gs cs → Binds ctx b indices
    → all_true (verdicts (domain_of ctx.sorts ctx.partitions) indices cs) ≡ list_all (λ part. part) (map (λ g. truth ctx g b) gs)
conditions-all ctx [] [] b indices known binds = refl
conditions-all ctx [] (c ∷ cs) b indices known binds = absurd known
conditions-all ctx (g ∷ gs) [] b indices known binds = absurd known
conditions-all ctx (g ∷ gs) (c ∷ cs) b indices known binds = rw ((itself known.0).truths b indices binds, conditions-all ctx gs cs b indices known.1 binds) refl

conditions-any : (ctx : Context) (gs : List Guard) (cs : List CGuard) (b : Binding) (indices : List ℕ) → AreConditions ctx gs cs → Binds ctx b indices
    → any_true (verdicts (domain_of ctx.sorts ctx.partitions) indices cs) ≡ list_any (λ part. part) (map (λ g. truth ctx g b) gs)
conditions-any ctx [] [] b indices known binds = refl
conditions-any ctx [] (c ∷ cs) b indices known binds = absurd known
conditions-any ctx (g ∷ gs) [] b indices known binds = absurd known
conditions-any ctx (g ∷ gs) (c ∷ cs) b indices known binds = rw ((itself known.0).truths b indices binds, conditions-any ctx gs cs b indices known.1 binds) refl

-- all and some of the children
pub and-guard : (ctx : Context) (gs : List Guard) (ps : GuardParts) → AreGuardParts ctx gs ps → IsGuardPart ctx (guard.And gs) (part-of (condition.And ps.conditions) ps.nodes)
and-guard ctx gs ps known = record {
  typed = ap (λ j. j.verdict) (guard-And (guard_part ctx) gs) ∙ ap (looked_at (λ _. Ok tt)) (typed-children ctx 1 gs known.typed);
  nodes = ap (λ j. j.nodes) (guard-And (guard_part ctx) gs) ∙ known.nodes;
  stands = together ctx gs ps.conditions (record {
    variables = λ at id here. condition-And (condition_uses_part at) ps.conditions ∙ conditions-use ctx gs ps.conditions at id known.standing here ∙ sym (guard-And (occurs_in_guard_part id) gs);
    fit = λ b indices binds. ap (λ v. v.is_fit) (condition-And (verdict_of_parts (domain_of ctx.sorts ctx.partitions) indices) ps.conditions)
        ∙ conditions-fit ctx gs ps.conditions b indices known.standing binds;
    truths = λ b indices binds. ap (λ v. v.is_true) (condition-And (verdict_of_parts (domain_of ctx.sorts ctx.partitions) indices) ps.conditions)
        ∙ conditions-all ctx gs ps.conditions b indices known.standing binds ∙ sym (guard-And (truth_part ctx b) gs);
  })
      known.standing (let fewer = fewer-children ctx gs in let nodes = known.nodes in let few = known.few in omega (arith, fewer, nodes, few));
}

pub or-guard : (ctx : Context) (gs : List Guard) (ps : GuardParts) → AreGuardParts ctx gs ps → IsGuardPart ctx (guard.Or gs) (part-of (condition.Or ps.conditions) ps.nodes)
or-guard ctx gs ps known = record {
  typed = ap (λ j. j.verdict) (guard-Or (guard_part ctx) gs) ∙ ap (looked_at (λ _. Ok tt)) (typed-children ctx 1 gs known.typed);
  nodes = ap (λ j. j.nodes) (guard-Or (guard_part ctx) gs) ∙ known.nodes;
  stands = alone ctx (guard.Or gs) (condition.Or ps.conditions) (record {
    variables = λ at id here. condition-Or (condition_uses_part at) ps.conditions ∙ conditions-use ctx gs ps.conditions at id known.standing here ∙ sym (guard-Or (occurs_in_guard_part id) gs);
    fit = λ b indices binds. ap (λ v. v.is_fit) (condition-Or (verdict_of_parts (domain_of ctx.sorts ctx.partitions) indices) ps.conditions)
        ∙ conditions-fit ctx gs ps.conditions b indices known.standing binds;
    truths = λ b indices binds. ap (λ v. v.is_true) (condition-Or (verdict_of_parts (domain_of ctx.sorts ctx.partitions) indices) ps.conditions)
        ∙ conditions-any ctx gs ps.conditions b indices known.standing binds ∙ sym (guard-Or (truth_part ctx b) gs);
  })
      (leaf _ _ (written.Or gs) (layer.Or ps.conditions) (guard.rolls-Or gs) (condition.rolls-Or ps.conditions) refl refl refl refl);
}

-- the opposite of a part
pub not-guard : (ctx : Context) (g : Guard) (p : GuardPart) (nodes : ℕ) → IsGuardPart ctx g p → nodes ≡ 1 + p.nodes → IsGuardPart ctx (guard.Not g) (part-of (condition.Not p.condition) nodes)
not-guard ctx g p nodes known is = record {
  typed = ap (λ j. j.verdict) (guard-Not (guard_part ctx) g) ∙ ap (λ v. looked_at (λ _. Ok tt) (in_front 1 v (Ok []))) known.typed;
  nodes = ap (λ j. j.nodes) (guard-Not (guard_part ctx) g) ∙ omega (arith, is, known.nodes, sum_by-cons (λ j. j.nodes) (judged_guard ctx g) []);
  stands = alone ctx (guard.Not g) (condition.Not p.condition) (record {
    variables = λ at id here. condition-Not (condition_uses_part at) p.condition ∙ (itself known.stands).variables at id here ∙ sym (guard-Not (occurs_in_guard_part id) g);
    fit = λ b indices binds. ap (λ v. v.is_fit) (condition-Not (verdict_of_parts (domain_of ctx.sorts ctx.partitions) indices) p.condition) ∙ (itself known.stands).fit b indices binds;
    truths = λ b indices binds. ap (λ v. v.is_true) (condition-Not (verdict_of_parts (domain_of ctx.sorts ctx.partitions) indices) p.condition)
        ∙ ap not ((itself known.stands).truths b indices binds) ∙ sym (guard-Not (truth_part ctx b) g);
  })
      (leaf _ _ (written.Not g) (layer.Not p.condition) (guard.rolls-Not g) (condition.rolls-Not p.condition) refl refl refl refl);
}

-- one part where another is true
pub imply-guard : (ctx : Context) (g h : Guard) (p q : GuardPart) (nodes : ℕ) → IsGuardPart ctx g p → IsGuardPart ctx h q → nodes ≡ 1 + p.nodes + q.nodes
    → IsGuardPart ctx (guard.Imply g h) (part-of (condition.Imply p.condition q.condition) nodes)
imply-guard ctx g h p q nodes first second is = record {
  typed = ap (λ j. j.verdict) (guard-Imply (guard_part ctx) g h)
      ∙ ap (λ v. looked_at (λ _. Ok tt) (in_front 1 v (in_front (1 + (judged_guard ctx g).nodes) (judged_guard ctx h).verdict (Ok [])))) first.typed
      ∙ ap (λ v. looked_at (λ _. Ok tt) (in_front 1 (Ok tt) (in_front (1 + (judged_guard ctx g).nodes) v (Ok [])))) second.typed;
  nodes = ap (λ j. j.nodes) (guard-Imply (guard_part ctx) g h)
      ∙ omega (arith, is, first.nodes, second.nodes, sum_by-cons (λ j. j.nodes) (judged_guard ctx g) (judged_guard ctx h ∷ []), sum_by-cons (λ j. j.nodes) (judged_guard ctx h) []);
  stands = alone ctx (guard.Imply g h) (condition.Imply p.condition q.condition) (record {
    variables = λ at id here. condition-Imply (condition_uses_part at) p.condition q.condition
        ∙ ap (λ u. u || condition_uses_at at q.condition) ((itself first.stands).variables at id here) ∙ ap (λ u. occurs_in_guard id g || u) ((itself second.stands).variables at id here)
        ∙ sym (guard-Imply (occurs_in_guard_part id) g h);
    fit = λ b indices binds. ap (λ v. v.is_fit) (condition-Imply (verdict_of_parts (domain_of ctx.sorts ctx.partitions) indices) p.condition q.condition)
        ∙ both-true _ _ ((itself first.stands).fit b indices binds) ((itself second.stands).fit b indices binds);
    truths = λ b indices binds. ap (λ v. v.is_true) (condition-Imply (verdict_of_parts (domain_of ctx.sorts ctx.partitions) indices) p.condition q.condition)
        ∙ ap (λ u. not u || (verdict (domain_of ctx.sorts ctx.partitions) indices q.condition).is_true) ((itself first.stands).truths b indices binds)
        ∙ ap (λ u. not (truth ctx g b) || u) ((itself second.stands).truths b indices binds) ∙ sym (guard-Imply (truth_part ctx b) g h);
  })
      (leaf _ _ (written.Imply g h) (layer.Imply p.condition q.condition) (guard.rolls-Imply g h) (condition.rolls-Imply p.condition q.condition) refl refl refl refl);
}
  where
    both-true : (a b : Bool) → a ≡ true → b ≡ true → (a && b) ≡ true
    both-true a b h k = rw (h, k) refl
