use Rattle.std.proofs.Common.{◌<◌, [], sym, ap, ◌∙◌, arith, length, subst}
use Rattle.std.proofs.lemmas.List.{length-map}
use Rattle.std.specs.Prelude.{IfNone}
use Rattle.colour_sorts.specs.Walking.{AreSound, IsDoneAt}
use Rattle.colour_sorts.proofs.Broken.{fault-here, fault-later, sound-more}
use Rattle.colour_sorts.proofs.breaking.first_broken.Goals as goal

pub rule_of-requires-clause-here : goal.rule_of-requires-clause-here
rule_of-requires-clause-here c = c.requires.all c.loop-at.at (omega (arith, c.loop-at-test.true, c.count-at-end.ensures, ap length c.requires.ids, length-map c.args.sorts.now (λ s. s.id)))

pub returns-in-Some : goal.returns-in-Some
returns-in-Some c =
    let sorts = c.args.sorts.now in
    let within : c.loop-at.at < length sorts = omega (arith, c.loop-at-test.true, c.count-at-end.ensures, ap length c.requires.ids, length-map sorts (λ s. s.id)) in
    record {
      broken = sym (fault-here sorts c.loop-at.at c.in-Some.rule within (sym c.in-Some.is ∙ c.in_ok-rule.ensures.rule)) ∙ c.loop-at.invariant.rest;
      within = within;
      sound = tt;
    }

pub loop-at-preserved : goal.loop-at-preserved
loop-at-preserved c =
    let sorts = c.args.sorts.now in
    let within : c.loop-at.at < length sorts = omega (arith, c.loop-at-test.true, c.count-at-end.ensures, ap length c.requires.ids, length-map sorts (λ s. s.id)) in
    record {
      sound = sound-more sorts c.args.marks.now c.loop-at.at (subst (λ r. IfNone r (IsDoneAt c.args.marks.now c.loop-at.at)) c.in_default.is c.in_ok-rule.ensures.done)
          (sym c.in_ok-rule.ensures.rule ∙ c.in_default.is) c.loop-at.invariant.sound;
      rest = sym (fault-later sorts c.loop-at.at within (sym c.in_default.is ∙ c.in_ok-rule.ensures.rule)) ∙ c.loop-at.invariant.rest;
    }

pub returns-clause-sound : goal.returns-clause-sound
returns-clause-sound c =
    let sorts = c.args.sorts.now in
    subst (AreSound sorts c.args.marks.now)
    (omega (arith, c.loop-at-test.false, c.loop-at.auto.at-end, c.count-at-end.ensures, ap length c.requires.ids, length-map sorts (λ s. s.id))) c.loop-at.invariant.sound
