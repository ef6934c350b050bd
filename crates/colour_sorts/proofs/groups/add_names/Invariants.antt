use Rattle.std.proofs.Common.{◌≡◌, ◌++◌, take, replicate}
use Rattle.colour_sorts.proofs.groups.add_names.Given as goal

abbrev pub invariant-loop-name : goal.invariant-loop-name
invariant-loop-name l = record {
  names : l.names ≡ l.fn.names ++ take l.name-index l.group;
  owners : l.owners ≡ l.fn.owners ++ replicate l.name-index l.at;
}
