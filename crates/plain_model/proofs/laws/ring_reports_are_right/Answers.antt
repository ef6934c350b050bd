use Rattle.std.proofs.Common.{refl, lit<}
use Rattle.std.proofs.lemmas.Fmt.{decimal_digit}
use Rattle.plain_model.proofs.laws.ring_reports_are_right.Goals as goal

pub returns : goal.returns
returns c = record {
  holds = rw (decimal_digit 2 (lit< tt)) refl;
  fails = rw (decimal_digit 2 (lit< tt), decimal_digit 3 (lit< tt)) refl;
}
