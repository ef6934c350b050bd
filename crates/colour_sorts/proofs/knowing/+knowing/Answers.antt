use Rattle.std.proofs.Common.{◌≡◌, map, take, true, ap, sym, ◌∙◌}
use Rattle.std.proofs.lemmas.List.{take_all}
use Rattle.std.specs.List.{list_all}
use Rattle.net_model.proofs.Layers.{term-Product}
use Rattle.colour_sorts.specs.Knowing.{is_declared}
use Rattle.colour_sorts.specs.Naming.{names_pass, names_pass_part}
use Rattle.colour_sorts.proofs.Known.{unknown-part}
use Rattle.colour_sorts.proofs.knowing.+knowing.Goals as goal

pub parts_declared-returns-then-not-are_declared : goal.parts_declared-returns-then-not-are_declared
parts_declared-returns-then-not-are_declared t c =
    unknown-part c.args.ids.now c.args.parts.now c.loop-part.part-index c.part-item.result c.loop-part-test.true c.part-item.is c.if-not-are_declared.ensures

pub parts_declared-returns : goal.parts_declared-returns
parts_declared-returns t c =
    term-Product (names_pass_part (is_declared c.args.ids.now)) c.args.parts.now
    ∙ ap (λ ts. list_all (λ b. b) (map (names_pass (is_declared c.args.ids.now)) ts)) (sym (take_all c.loop-part.part-index c.args.parts.now c.loop-part-test.false)) ∙ c.loop-part.invariant
