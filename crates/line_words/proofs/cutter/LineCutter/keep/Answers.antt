use Rattle.std.specs.Prelude.{is_ok}
use Rattle.line_words.proofs.LineEnds.{none_kept}
use Rattle.line_words.proofs.cutter.LineCutter.keep.Goals as goal

pub invariant_of-self-clause-whole : goal.invariant_of-self-clause-whole
invariant_of-self-clause-whole g c =
    none_kept (is_ok c.extend_from_slice.result) c.args.self.now.rest.items c.args.part.now _ c.extend_from_slice.ensures.items c.args.self.now.whole c.requires
