use Rattle.cert_names.proofs.Claims.{splits_are_claims}
use Rattle.cert_names.proofs.laws.splits_are_claims.Goals as goal

pub returns : goal.returns
returns c = splits_are_claims
