use Rattle.cert_laws.proofs.Truths.{formulas_are_reduced}
use Rattle.cert_laws.proofs.laws.formulas_are_reduced.Goals as goal

pub returns : goal.returns
returns c = formulas_are_reduced
