use Rattle.std.proofs.Common.{sym, subst}
use Rattle.net_model.specs.Ids.{DeclaresOwnIds, HasOwnIds}
use Rattle.pnml_read.proofs.OwnIds.{declares_own, own_ids}
use Rattle.pnml_read.proofs.reading.read_net.Goals as goal

pub returns-clause-own_ids : goal.returns-clause-own_ids
returns-clause-own_ids c = subst HasOwnIds (sym c.in_ok-net_of.ensures) (own_ids c.args.root c.in_ok-check.ensures.sound c.in_ok-check.ensures.few)

pub returns-clause-declared : goal.returns-clause-declared
returns-clause-declared c = subst DeclaresOwnIds (sym c.in_ok-net_of.ensures) (declares_own c.args.root c.in_ok-check.ensures.sound c.in_ok-check.ensures.few)
