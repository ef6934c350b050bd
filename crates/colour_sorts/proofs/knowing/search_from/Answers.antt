use Rattle.std.proofs.Common.{rules, ◌≡◌, ◌++◌, ◌∷◌, [], length, ap, sym, ◌∙◌, arith, subst}
use Rattle.std.specs.List.{slice_get}
use Rattle.colour_sorts.specs.Knowing.{IsKnowing}
use Rattle.colour_sorts.specs.declared.ordering.Turn.TheVariants.{Enter}
use Rattle.colour_sorts.proofs.Has.{get-last}
use Rattle.colour_sorts.proofs.Known.{knowing-end, knowing-start}
use Rattle.colour_sorts.proofs.knowing.search_from.Goals as goal

pub loop-turn-init : goal.loop-turn-init
loop-turn-init c = knowing-start c.args.sorts.now c.args.visits.now c.push.new.self.items c.args.root c.requires.visits c.requires.within
    (c.in_ok-push.ensures.items ∙ ap (λ xs. xs ++ Enter c.args.root ∷ []) c.new-waiting.ensures.items)

pub look_at-requires-clause-within : goal.look_at-requires-clause-within
look_at-requires-clause-within c =
    let rest = c.pop.new.self.items in
    c.loop-turn.invariant.inside (length rest) c.in-Some.turn (ap (λ ws. slice_get ws (length rest)) c.in-Some.ensures.items ∙ get-last rest c.in-Some.turn)

pub returns : goal.returns
returns c =
    let empty : c.loop-turn.waiting.items ≡ [] = search rules in
    sym (knowing-end c.args.sorts.now c.loop-turn.visits c.args.root (subst (λ ws. IsKnowing c.args.sorts.now c.loop-turn.visits ws c.args.root) empty c.loop-turn.invariant))
