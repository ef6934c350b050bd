use Rattle.std.proofs.Common.{◌≡◌, List, [], length, take}
use Rattle.net_model.specs.declared.sorts.Block.{Block}
use Rattle.colour_sorts.specs.Colours.{colours}
use Rattle.colour_sorts.specs.Filling.{AreFilling}
use Rattle.colour_sorts.proofs.domains.Domains.put_members.Given as goal

abbrev pub invariant-loop-member : goal.invariant-loop-member
invariant-loop-member l = record {
  long : length l.blocks ≡ length l.fn.blocks;
  filled : (done : List Block) → l.block ≡ length done → AreFilling (colours l.fn.self.constants l.sort) done [] l.most l.fn.blocks
      → AreFilling (colours l.fn.self.constants l.sort) done (take l.member-index l.members) l.most l.blocks;
}
