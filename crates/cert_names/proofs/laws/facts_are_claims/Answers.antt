use Rattle.cert_names.proofs.Claims.{facts_are_claims}
use Rattle.cert_names.proofs.laws.facts_are_claims.Goals as goal

pub returns : goal.returns
returns c = facts_are_claims
