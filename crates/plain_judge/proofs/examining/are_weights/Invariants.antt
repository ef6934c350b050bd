use Rattle.std.proofs.Common.{◌≡◌, map, take, length, All}
use Rattle.plain_model.specs.declared.certificates.Weight.{Weight}
use Rattle.plain_model.specs.Plain.{AreDistinct, IsPlainWeight}
use Rattle.plain_judge.specs.Examining.{IsMarked}
use Rattle.plain_judge.proofs.examining.are_weights.Given as goal

abbrev pub invariant-loop-at : goal.invariant-loop-at
invariant-loop-at l =
    (length l.marks ≡ length l.flow.ids)
    × All (IsPlainWeight l.flow.ids) (take l.at l.flow.flow.weights)
    × AreDistinct (map (λ (weight : Weight). weight.place) (take l.at l.flow.flow.weights))
    × All (IsMarked l.flow.ids l.marks l.fn.mark) (map (λ (weight : Weight). weight.place) (take l.at l.flow.flow.weights))
