use Rattle.net_firing.proofs.Rows as rows
use Rattle.net_firing.proofs.laws.rows_are_told_by_amounts.Goals as goal

pub returns : goal.returns
returns c = record { amounts = rows.amounts; in_range = rows.in_range; row = rows.is_row; same = rows.told }
