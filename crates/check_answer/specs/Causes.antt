-- Which file isn't taken, by the fault that was met.
use Rattle.plain_judge.specs.declared.faults.JudgeFault.{JudgeFault}
use Rattle.plain_judge.specs.declared.faults.JudgeFault.TheVariants as judging
use Rattle.plain_rows.specs.declared.faults.BuildFault.{BuildFault}
use Rattle.plain_rows.specs.declared.faults.BuildFault.TheVariants as building
use Rattle.plain_text.specs.declared.faults.TextFault.{TextFault}
use Rattle.plain_text.specs.declared.faults.TextFault.TheVariants as reading
use Rattle.pnml_inputs.specs.declared.inputs.Role.{Role}
use Rattle.pnml_inputs.specs.declared.inputs.Role.TheVariants as role
use Rattle.check_answer.specs.declared.refusals.Refusal.{Refusal}
use Rattle.check_answer.specs.declared.refusals.Refusal.TheVariants as refusal

abbrev pub refusal_of_text : Role → TextFault → Refusal
refusal_of_text role reading.NotYet = refusal.NotYet role
refusal_of_text role reading.Memory = refusal.Memory

abbrev pub refusal_of_judge : Role → JudgeFault → Refusal
refusal_of_judge role judging.NotYet = refusal.NotYet role
refusal_of_judge role judging.Memory = refusal.Memory

-- a net that isn't built is one that isn't taken
abbrev pub refusal_of_build : BuildFault → Refusal
refusal_of_build building.NotYet = refusal.NotYet role.Net
refusal_of_build building.Memory = refusal.Memory
