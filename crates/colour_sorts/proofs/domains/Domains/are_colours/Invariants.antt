use Rattle.std.proofs.Common.{◌≡◌, drop}
use Rattle.std.specs.List.{list_all}
use Rattle.colour_sorts.specs.Dividing.{is_member}
use Rattle.colour_sorts.proofs.domains.Domains.are_colours.Given as goal

abbrev pub invariant-loop-member : goal.invariant-loop-member
invariant-loop-member l = list_all (is_member l.fn.self.constants l.sort) (drop l.member-index l.members) ≡ list_all (is_member l.fn.self.constants l.sort) l.members
