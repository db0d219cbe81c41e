use Rattle.std.proofs.Common.{ℕ, ◌<◌, List, Bor, ◌∙◌, arith, length}
use Rattle.keep_entries.proofs.HeldFiles.{one_more}
use Rattle.keep_entries.proofs.held_files.pieces_of.Goals as goal

pub loop-file-preserved : goal.loop-file-preserved
loop-file-preserved c =
    let files = c.args.files.now in
    let i = c.loop-file.file-index in
    let within : i < length files = omega arith in
    one_more (λ (piece : Bor (List ℕ)). piece.now) c.loop-file.pieces.items _ files i c.file-item.result c.in_ok-push.ensures.items
    (c.as_slice.ensures ∙ c.bytes.ensures) within c.file-item.is c.loop-file.invariant
