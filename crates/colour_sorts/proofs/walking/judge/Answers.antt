use Rattle.std.proofs.Common.{◌<◌, length, ap, sym, ◌∙◌, arith, inl, inr, subst, length-set}
use Rattle.std.proofs.lemmas.List.{get_or-set_same}
use Rattle.colour_sorts.specs.declared.facts.Mark.TheVariants.{Done, Fresh}
use Rattle.colour_sorts.specs.Judging.{IsJudged, IsWaiting}
use Rattle.colour_sorts.proofs.PlacesIn.{get-at}
use Rattle.colour_sorts.proofs.Walks.{constants-at, keeps-set, marked-more, not-done-zero, term-at, waits-endless}
use Rattle.colour_sorts.proofs.walking.judge.Goals as goal

pub returns-in-Ok : goal.returns-in-Ok
returns-in-Ok c =
    let sorts = c.args.sorts.now in
    let marks = c.args.marks.now in
    let at = c.args.at in
    let f = c.in-Ok.facts in
    let inside : at < length marks = omega (arith, c.requires.within, c.requires.marked.as_long) in
    let is = term-at sorts at c.index-sorts-at.result c.requires.within in
    let own = c.constants_declared.ensures ∙ ap length (sym (constants-at sorts at c.index-sorts-at.result c.requires.within)) in
    record {
      marked = marked-more sorts marks at f c.requires.marked inside (not-done-zero _ c.in_default.not-Done) c.in-Ok.ensures.capped
          (λ steps more. subst (λ t. IsJudged sorts steps at t f) (sym is) (c.in-Ok.ensures.judged sorts steps at c.requires.ids (c.requires.marked.settled steps more) (omega (arith, more)) own));
      keeps = keeps-set marks at (Done f) c.in_default.not-Done;
      here = inl (f, get-at _ at (Done f) Fresh (omega (arith, inside, length-set marks at (Done f))) (get_or-set_same marks at (Done f) Fresh inside));
    }

pub returns-in-Err-clause-here : goal.returns-in-Err-clause-here
returns-in-Err-clause-here c =
    let sorts = c.args.sorts.now in
    let is = term-at sorts c.args.at c.index-sorts-at.result c.requires.within in
    inr (waits-endless sorts c.args.ids.now c.args.marks.now c.args.at c.in-Err.field-0 c.requires.ids (subst (λ t. IsWaiting c.args.ids.now c.args.marks.now t c.in-Err.field-0) (sym is) c.in-Err.ensures.waits) c.requires.behind)
