use Rattle.cert_names.proofs.Claims.{claims_hold}
use Rattle.cert_names.proofs.laws.claims_hold.Goals as goal

pub returns : goal.returns
returns c = claims_hold
