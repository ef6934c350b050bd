use Rattle.std.proofs.Common.{◌≡◌, ◌∙◌, ap, sym, ℕ, ◌+◌, ◌<◌, ◌≤◌, List, [], ◌++◌, length, take, drop, get_or, slice_index_or, length-append, take-append-drop, arith, Bor}
use Rattle.std.proofs.lemmas.List.{take_more, flat_map_more}
use Rattle.std.proofs.lemmas.List.Concat.{flat_map-append}
use Rattle.doc_tree.specs.Fed.{joined}
use Rattle.doc_tree.proofs.reader.read_pieces.Goals as goal

piece_fits : (pieces : List (Bor (List ℕ))) (i : ℕ) (d : Bor (List ℕ)) → i < length pieces → length (joined (take i pieces)) + length (slice_index_or pieces i d).now ≤ length (joined pieces)
piece_fits pieces i d within =
    let x = get_or pieces i d in
    let longer : joined (take (i + 1) pieces) ≡ joined (take i pieces) ++ x.now = ap joined (take_more pieces i d within) ∙ sym (flat_map_more (λ (piece : Bor (List ℕ)). piece.now) [] (take i pieces) x) in
    let all : joined pieces ≡ joined (take (i + 1) pieces) ++ joined (drop (i + 1) pieces) = ap joined (sym (take-append-drop (i + 1) pieces)) ∙ flat_map-append (λ (piece : Bor (List ℕ)). piece.now) (take (i + 1) pieces) (drop (i + 1) pieces) in
    omega (arith, ap length longer, ap length all, length-append (joined (take i pieces)) x.now, length-append (joined (take (i + 1) pieces)) (joined (drop (i + 1) pieces)))

pub feed-requires : goal.feed-requires
feed-requires c =
    omega (arith, c.loop-piece.invariant.count, piece_fits c.args.pieces.now c.loop-piece.piece-index (record { ref_ptr = (0, 0); now = [] }) c.loop-piece-test.true)
