use Rattle.std.proofs.Common.{◌≡◌, ◌++◌, drop, map}
use Rattle.std.specs.List.{flat_map}
use Rattle.doc_model.specs.Texts.{text_of}
use Rattle.pnml_write.specs.Canon.{place_tree}
use Rattle.pnml_write.proofs.writing.put_places.Given as goal

abbrev pub invariant-loop-place : goal.invariant-loop-place
invariant-loop-place l = l.writer ++ flat_map text_of (map (place_tree l.kind) (drop l.place-index l.places)) ≡ l.fn.writer ++ flat_map text_of (map (place_tree l.kind) l.places)
