use Rattle.std.proofs.Common.{◌<◌, ◌∙◌, length, refl, rules, arith, sym}
use Rattle.pt_net.specs.Systems.{instance_at}
use Rattle.plain_judge.specs.Judging.{instance_check}
use Rattle.plain_judge.proofs.FirstFailing.{all_shown, first_decides}
use Rattle.plain_judge.proofs.flows.judge_steps.Goals as goal

pub returns-then-first-instances-clause-judged : goal.returns-then-first-instances-clause-judged
returns-then-first-instances-clause-judged c =
    sym (all_shown c.args.number c.args.coefficients.now c.args.system.now c.first_failing-first.result c.first_failing-first.ensures.first (omega (arith, c.if-first-instances.true, c.instances.ensures)))

pub returns-clause-judged : goal.returns-clause-judged
returns-clause-judged c =
    let first = c.first_failing-first.ensures.first in
    let most = first.within in
    let within : c.first_failing-first.result < length c.args.system.now.instances = search rules in
    c.judge_step.ensures
    ∙ first_decides c.args.number c.args.coefficients.now c.args.system.now c.first_failing-first.result (instance_check c.args.coefficients.now (instance_at c.args.system.now c.first_failing-first.result)) first within refl
