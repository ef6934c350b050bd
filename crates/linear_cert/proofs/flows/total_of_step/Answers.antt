use Rattle.std.proofs.Common.{◌<◌, List, All, true, false, map, ap, sym, subst, ◌∙◌, Some}
use Rattle.wide_sums.specs.Cells.{IsRising}
use Rattle.wide_sums.specs.declared.rows.Cell.{Cell}
use Rattle.wide_sums.specs.Total.{zero_total}
use Rattle.pt_net.specs.Systems.{instance_at, places}
use Rattle.linear_cert.specs.Sparse.{coefficient_in}
use Rattle.linear_cert.specs.Fitting.{fitting, plus_all}
use Rattle.linear_cert.specs.Checks.{cell_term}
use Rattle.linear_cert.proofs.Places.{total_of-step}
use Rattle.linear_cert.proofs.Adding.{plus_all-both}
use Rattle.linear_cert.proofs.flows.total_of_step.Goals as goal

pub returns : goal.returns
returns c =
    let f = coefficient_in c.args.form.now.terms in
    let instance = instance_at c.args.net.now c.args.instance in
    let put = c.plus_row-put.ensures
    ∙ ap (λ s. plus_all (Some s) (map (cell_term false f) c.cells.result.now)) c.zero.ensures
    ∙ ap (λ (cells : List Cell). plus_all (Some zero_total) (map (cell_term false f) cells)) c.cells.ensures.cells in
    c.plus_row.ensures
    ∙ ap (λ s. plus_all s (map (cell_term true f) c.cells-2.result.now)) put
    ∙ ap (λ (cells : List Cell). plus_all (plus_all (Some zero_total) (map (cell_term false f) instance.post)) (map (cell_term true f) cells)) c.cells-2.ensures.cells
    ∙ plus_all-both (map (cell_term false f) instance.post) (map (cell_term true f) instance.pre)
    ∙ ap fitting (sym (total_of-step f (places c.args.net.now) instance.pre instance.post
    (subst IsRising c.cells-2.ensures.cells c.cells-2.ensures.row.rising) (subst IsRising c.cells.ensures.cells c.cells.ensures.row.rising)
    (subst (λ cells. All (λ (d : Cell). d.at < places c.args.net.now) cells) c.cells-2.ensures.cells c.cells-2.ensures.in_range)
    (subst (λ cells. All (λ (d : Cell). d.at < places c.args.net.now) cells) c.cells.ensures.cells c.cells.ensures.in_range)))
