use Rattle.std.proofs.Common.{◌∷◌, [], ◌++◌, ◌||◌, false, length, map, min, sym, ap, ◌∙◌, append-nil}
use Rattle.std.proofs.lemmas.Result.{err_from_is_err_and}
use Rattle.std.specs.Slice.Iter.{chunks_rest}
use Rattle.keep_names.specs.declared.blob.BlobType.TheVariants.{Content}
use Rattle.keep_build.specs.Blobs.{id_of}
use Rattle.keep_backup.specs.Walk.{pieces_of}
use Rattle.keep_backup.proofs.Offering.{all_taken, full_left, more_taken}
use Rattle.keep_backup.proofs.Pieces.{ids_more, no_pieces, piece_more}
use Rattle.keep_backup.proofs.path_walk.put_pieces.Goals as goal

pub loop-piece-preserved : goal.loop-piece-preserved
loop-piece-preserved c =
    let inv = c.loop-piece.invariant in
    let steps = c.in-Some.ensures.steps in
    let left = chunks_rest c.loop-piece.piece-iterator in
    let rest = chunks_rest c.next.new.self in
    let piece = c.in-Some.piece.now in
    let all = pieces_of c.args.cut.bytes c.args.bytes.now in
    let more = piece_more c.args.cut.bytes left piece rest c.args.cut.in_range.0 steps.1.0 (steps.1.1 ∙ ap (λ n. min n (length left)) inv.size) steps.1.2 in
    record {
      size = steps.0 ∙ inv.size;
      ids = ids_more (map id_of all) c.loop-piece.ids.items c.push.new.self.items (pieces_of c.args.cut.bytes left) (pieces_of c.args.cut.bytes rest) (Content, piece) c.in_ok-id.id inv.ids more c.in_ok-id.ensures.id c.in_ok-push.ensures.items;
      taken = more_taken all ((Content, piece) ∷ []) (pieces_of c.args.cut.bytes rest) (pieces_of c.args.cut.bytes left) c.args.storing.now c.loop-piece.storing c.put.new.self more inv.taken (record { kept = c.in_ok-id.ensures.kept });
    }

pub returns-clause-took : goal.returns-clause-took
returns-clause-took c =
    let left = chunks_rest c.loop-piece.piece-iterator in
    all_taken (pieces_of c.args.cut.bytes c.args.bytes.now) (pieces_of c.args.cut.bytes left) c.args.storing.now c.loop-piece.storing (no_pieces c.args.cut.bytes left c.in-None.ensures.steps.1.0) c.loop-piece.invariant.taken

pub returns-clause-ids : goal.returns-clause-ids
returns-clause-ids c =
    let left = chunks_rest c.loop-piece.piece-iterator in
    sym (c.loop-piece.invariant.ids ∙ ap (λ bs. c.loop-piece.ids.items ++ map id_of bs) (no_pieces c.args.cut.bytes left c.in-None.ensures.steps.1.0) ∙ append-nil c.loop-piece.ids.items)

pub returns-in_err-id-clause-refused : goal.returns-in_err-id-clause-refused
returns-in_err-id-clause-refused c =
    let due = err_from_is_err_and c.from_residual.result c.from_residual.ensures.1 in
    let inv = c.loop-piece.invariant in
    let steps = c.in-Some.ensures.steps in
    let left = chunks_rest c.loop-piece.piece-iterator in
    let rest = chunks_rest c.next.new.self in
    let piece = c.in-Some.piece.now in
    let more = piece_more c.args.cut.bytes left piece rest c.args.cut.in_range.0 steps.1.0 (steps.1.1 ∙ ap (λ n. min n (length left)) inv.size) steps.1.2 in
    rw (due.1, due.2) (λ other.
    let full = c.in_err-id.ensures.refused other in
    (full.0, full_left (pieces_of c.args.cut.bytes c.args.bytes.now) ((Content, piece) ∷ []) (pieces_of c.args.cut.bytes rest) (pieces_of c.args.cut.bytes left) c.args.storing.now c.loop-piece.storing more inv.taken (ap (λ b. b || false) full.1)))
