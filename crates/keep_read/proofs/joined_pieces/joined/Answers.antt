use Rattle.keep_names.specs.BlobId.{piece_of}
use Rattle.keep_catalog.proofs.Growing.{no_id}
use Rattle.keep_read.proofs.Below.{in_map}
use Rattle.keep_read.proofs.joined_pieces.joined.Goals as goal

pub piece_bytes-requires : goal.piece_bytes-requires
piece_bytes-requires c =
    c.requires.each _ (in_map piece_of c.args.content.now c.loop-piece.piece-index no_id c.loop-piece-test.true)
