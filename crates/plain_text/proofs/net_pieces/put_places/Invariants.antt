use Rattle.std.proofs.Common.{◌≡◌, ◌++◌, take, flat_map}
use Rattle.plain_text.specs.NetParts.{place_text}
use Rattle.plain_text.proofs.net_pieces.put_places.Given as goal

abbrev pub invariant-loop-place : goal.invariant-loop-place
invariant-loop-place l = l.comparison ≡ l.fn.comparison ++ flat_map place_text (take l.place-index l.places)
