use Rattle.plain_judge.proofs.Order.{distinct_places}
use Rattle.plain_examples.proofs.judge_tests.judged_on.Goals as goal

pub new-requires : goal.new-requires
new-requires c = distinct_places c.args.net.now c.args.rows.now.places c.requires.plain c.requires.places
