use Rattle.std.proofs.Common.{◌++◌, ◌+◌, ◌∙◌, drop, sym, ap, append_assoc}
use Rattle.keep_rope.proofs.Joined.{joined_from}
use Rattle.keep_rope.specs.Pieces.{joined, piece_bytes}
use Rattle.keep_disk.proofs.new_file.write_pieces.Goals as goal

pub loop-piece-preserved : goal.loop-piece-preserved
loop-piece-preserved g c =
    let pieces = c.args.pieces.now in
    let i = c.loop-piece.piece-index in
    let so_far = c.loop-piece.invariant.rest in
    let piece = c.piece-item.result in
    record {
      room = c.loop-piece.invariant.room;
      rest = (
        so_far.0 ++ piece_bytes piece,
        c.in_ok-write_piece.ensures so_far.0 so_far.1,
        append_assoc so_far.0 (piece_bytes piece) (joined (drop (i + 1) pieces))
            ∙ ap (λ s. so_far.0 ++ s) (sym (joined_from pieces i piece c.loop-piece-test.true c.piece-item.is))
            ∙ so_far.2,
      );
    }
