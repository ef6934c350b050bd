use Rattle.cert_names.proofs.Shown.{each_is_shown}
use Rattle.cert_names.proofs.laws.each_is_shown.Goals as goal

pub returns : goal.returns
returns c = each_is_shown
