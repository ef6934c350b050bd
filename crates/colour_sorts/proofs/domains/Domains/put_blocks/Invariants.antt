use Rattle.std.proofs.Common.{[], take}
use Rattle.colour_sorts.specs.Colours.{colours}
use Rattle.colour_sorts.specs.Filling.{AreFilling}
use Rattle.colour_sorts.proofs.domains.Domains.put_blocks.Given as goal

abbrev pub invariant-loop-at : goal.invariant-loop-at
invariant-loop-at l = AreFilling (colours l.fn.self.constants l.sort) (take l.at l.elements) [] l.most l.blocks
