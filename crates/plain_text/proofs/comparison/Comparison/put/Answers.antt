use Rattle.std.proofs.Common.{◌≡◌, ◌++◌, ◌-◌, take, drop, length, ap, sym, ◌∙◌, ℕ, List, arith, length-drop}
use Rattle.std.proofs.Math.Seq.{take-add}
use Rattle.std.proofs.lemmas.List.{take_all}
use Rattle.std.specs.Cmp.Lexicographic.{same_text}
use Rattle.plain_text.proofs.comparison.Comparison.put.Goals as goal

pub returns : goal.returns
returns c =
    let bytes = c.self.inside.bytes.now in
    let len = c.self.inside.len in
    let piece = c.args.piece.now in
    let rest = drop len bytes in
    let same : piece ≡ take (length piece) rest =
    same_text piece (take (length piece) (take (length bytes - len) rest)) c.if-not-starts_with.ensures.value
    ∙ ap (take (length piece)) (take_all (length bytes - len) rest (omega (arith, length-drop len bytes))) in
    take-add len (length piece) bytes ∙ ap (λ (met : List ℕ). met ++ take (length piece) rest) c.self.view_is ∙ ap (λ (next : List ℕ). c.args.self.now ++ next) (sym same)
