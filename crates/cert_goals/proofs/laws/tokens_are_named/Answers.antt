use Rattle.cert_goals.proofs.Tokens.{tokens_are_named}
use Rattle.cert_goals.proofs.laws.tokens_are_named.Goals as goal

pub returns : goal.returns
returns c = tokens_are_named
