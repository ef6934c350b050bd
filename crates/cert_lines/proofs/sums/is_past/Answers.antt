use Rattle.std.proofs.Common.{sym, map, rules}
use Rattle.cert_lines.proofs.Amounts.{few_past}
use Rattle.cert_lines.proofs.sums.is_past.Goals as goal

pub returns-then-are_few : goal.returns-then-are_few
returns-then-are_few g c = sym (few_past (map g.T.Valued.amount c.args.items.now) (search rules))
