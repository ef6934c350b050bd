use Rattle.std.proofs.Common.{◌≡◌, ◌++◌, flat_map, take}
use Rattle.cert_lines.specs.Order.{step_line}
use Rattle.cert_lines.specs.Texts.{line_text}
use Rattle.cert_lines.proofs.texts.write_steps.Given as goal

abbrev pub invariant-loop-step : goal.invariant-loop-step
invariant-loop-step l = l.text ≡ l.fn.text ++ flat_map (λ step. line_text (step_line step)) (take l.step-index l.steps)
