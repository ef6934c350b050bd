use Rattle.std.proofs.Common.{◌∙◌, append_assoc}
use Rattle.check_answer.proofs.Pieces.{more, more_labelled}
use Rattle.check_answer.proofs.report.put_counts.Goals as goal

pub returns : goal.returns
returns c =
    let start = c.args.text.now.items in
    let one = c.in_ok-put_labelled.ensures ∙ append_assoc start _ _ in
    let two = more_labelled start _ _ _ one c.in_ok-put_labelled-2.ensures in
    let three = more_labelled start _ _ _ two c.in_ok-put_labelled-3.ensures in
    let four = more_labelled start _ _ _ three c.in_ok-put_labelled-4.ensures in
    more start _ _ four c.in_ok-put.ensures
