use Rattle.std.proofs.Common.{◌≡◌, drop}
use Rattle.std.specs.List.{list_all}
use Rattle.colour_sorts.specs.Dividing.{is_member, members_of}
use Rattle.colour_sorts.proofs.domains.Domains.are_members.Given as goal

abbrev pub invariant-loop-element : goal.invariant-loop-element
invariant-loop-element l = list_all (is_member l.fn.self.constants l.sort) (members_of (drop l.element-index l.elements)) ≡ list_all (is_member l.fn.self.constants l.sort) (members_of l.elements)
