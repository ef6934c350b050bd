use Rattle.std.proofs.Common.{◌≡◌, ℕ, List, [], ◌∷◌, ◌+◌, ◌-◌, ◌<◌, length, get_or, take-add, length-drop, arith, ◌++◌, sym, ◌∙◌, ap, subst, take, drop, append_assoc, take-append-drop}
use Rattle.std.proofs.lemmas.List.{take_more}
use Rattle.std.proofs.Math.Seq.{take-length}
use Rattle.doc_tree.specs.Fed.{HasReadBy}
use Rattle.doc_tree.specs.Machine.{state}
use Rattle.doc_tree.proofs.Answering.{read_stays}
use Rattle.doc_tree.proofs.reader.Reader.read.Goals as goal

pub returns-then-is_some-clause-read : goal.returns-then-is_some-clause-read
returns-then-is_some-clause-read c b h =
    let s = c.loop-at.self in
    let st = state s.place s.part s.opens s.root in
    let i = c.loop-at.at in
    let piece = c.args.piece.now in
    subst (λ bytes. HasReadBy s.fault st s.count bytes) (append_assoc b (take i piece) (drop i piece) ∙ ap (λ end. b ++ end) (take-append-drop i piece))
    (read_stays s.fault st s.count (b ++ take i piece) (drop i piece) (sym c.is_some.ensures ∙ c.if-is_some.true) (c.loop-at.invariant.read b h))

slice_end : (piece : List ℕ) (at : ℕ) → take (length piece - at) (drop at piece) ≡ drop at piece
slice_end piece at = ap (λ m. take m (drop at piece)) (sym (length-drop at piece)) ∙ take-length (drop at piece)

regroup_run : (b piece : List ℕ) (at n : ℕ) → (b ++ take at piece) ++ take n (take (length piece - at) (drop at piece)) ≡ b ++ take (at + n) piece
regroup_run b piece at n =
    ap (λ s. (b ++ take at piece) ++ take n s) (slice_end piece at)
    ∙ append_assoc b (take at piece) (take n (drop at piece)) ∙ ap (λ s. b ++ s) (sym (take-add at n piece))

regroup_step : (b piece : List ℕ) (at n : ℕ) → at < length piece → n ≡ 0
    → ((b ++ take at piece) ++ take n (take (length piece - at) (drop at piece))) ++ get_or piece at 0 ∷ [] ≡ b ++ take (at + 1) piece
regroup_step b piece at n within none =
    ap (λ s. s ++ get_or piece at 0 ∷ []) (regroup_run b piece at n ∙ ap (λ k. b ++ take k piece) (omega (arith, none)))
    ∙ append_assoc b (take at piece) (get_or piece at 0 ∷ [])
    ∙ ap (λ s. b ++ s) (sym (take_more piece at 0 within))

pub loop-at-preserved-then-count-gt0 : goal.loop-at-preserved-then-count-gt0
loop-at-preserved-then-count-gt0 c =
    let at = c.loop-at.at in
    let n = c.in-Some.count in
    let piece = c.args.piece.now in
    let s = c.run.new.self in
    record {
      within = omega (arith, c.in-Some.ensures.within.0);
      read = λ b h. subst (λ bytes. HasReadBy s.fault (state s.place s.part s.opens s.root) s.count bytes) (regroup_run b piece at n)
          (c.in-Some.ensures.read (b ++ take at piece) (c.loop-at.invariant.read b h));
      count = omega (arith, c.in-Some.ensures.within.1, c.loop-at.invariant.count);
    }

pub loop-at-preserved : goal.loop-at-preserved
loop-at-preserved c =
    let at = c.loop-at.at in
    let n = c.in-Some.count in
    let piece = c.args.piece.now in
    let s = c.step.new.self in
    let none : n ≡ 0 = omega (arith, c.if-count-gt0.false) in
    record {
      within = omega arith;
      read = λ b h. subst (λ bytes. HasReadBy s.fault (state s.place s.part s.opens s.root) s.count bytes) (regroup_step b piece at n c.loop-at-test.true none)
          (c.step.ensures.read _ (c.in-Some.ensures.read (b ++ take at piece) (c.loop-at.invariant.read b h)));
      count = omega (arith, none, c.in-Some.ensures.within.1, c.step.ensures.count, c.loop-at.invariant.count);
    }
