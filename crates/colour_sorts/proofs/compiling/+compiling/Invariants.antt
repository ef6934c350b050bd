use Rattle.std.proofs.Common.{take}
use Rattle.colour_sorts.specs.Compiling.{AreCompiledBy}
use Rattle.colour_sorts.proofs.compiling.+compiling.Given as goal

abbrev pub invariant-compile_parts-loop-part : goal.invariant-compile_parts-loop-part
invariant-compile_parts-loop-part l = AreCompiledBy l.ids l.compiled l.at (take l.part-index l.parts) l.sorts.items
