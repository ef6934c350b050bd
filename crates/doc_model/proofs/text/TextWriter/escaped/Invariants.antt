use Rattle.std.proofs.Common.{◌≡◌, ◌≤◌, ◌++◌, take, drop}
use Rattle.doc_model.specs.Texts.{escaped}
use Rattle.doc_model.proofs.text.TextWriter.escaped.Given as goal

-- what is written, and the plain bytes that wait, are the escapes of what was read
abbrev pub invariant-loop-at : goal.invariant-loop-at
invariant-loop-at l =
    (l.from ≤ l.at) × (l.self ++ drop l.from (take l.at l.text) ≡ l.fn.self ++ escaped (take l.at l.text))
