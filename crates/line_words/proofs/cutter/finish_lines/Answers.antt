use Rattle.std.proofs.Common.{[], Err, sym, ◌∙◌, subst}
use Rattle.line_words.proofs.LineEnds.{last_line, no_line}
use Rattle.line_words.proofs.cutter.finish_lines.Goals as goal

pub returns-then-is_empty : goal.returns-then-is_empty
returns-then-is_empty g c =
    subst (λ lines. g.D.TakesLines.follows c.args.taker c.args.number lines c.end.result) (sym (no_line c.args.rest.now (sym c.is_empty.ensures ∙ c.if-is_empty.true))) c.end.ensures

pub returns-in-Ok : goal.returns-in-Ok
returns-in-Ok g c =
    subst (λ lines. g.D.TakesLines.follows c.args.taker c.args.number lines c.end-in-Ok.result) (sym (last_line c.args.rest.now c.requires.whole (sym c.is_empty.ensures ∙ c.if-is_empty.false)))
    (c.in-Ok.ensures.taken [] c.end-in-Ok.result c.end-in-Ok.ensures)

pub returns-in-Err : goal.returns-in-Err
returns-in-Err g c =
    subst (λ lines. g.D.TakesLines.follows c.args.taker c.args.number lines (Err c.in-Err.fault)) (sym (last_line c.args.rest.now c.requires.whole (sym c.is_empty.ensures ∙ c.if-is_empty.false)))
    (c.in-Err.ensures.refused [])
