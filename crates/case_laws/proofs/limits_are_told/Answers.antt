use Rattle.case_laws.proofs.limits_are_told.Goals as goal
use Rattle.case_laws.proofs.Limits.{limits_told}

pub returns : goal.returns
returns c = limits_told
