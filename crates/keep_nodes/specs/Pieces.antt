-- The pieces of files.
use Rattle.std.specs.Prelude.{ℕ, List, Result, ok_or}
use Rattle.keep_names.specs.BlobId.{piece_of}
use Rattle.keep_names.specs.declared.id.Id.{Id}
use Rattle.keep_repo.specs.Repository.{Repository}
use Rattle.keep_catalog.specs.Naming.{missing}
use Rattle.keep_catalog.specs.declared.reach_error.ReachError.{ReachError}
use Rattle.keep_read.specs.Contents.{bytes_of}

-- the bytes of a piece at its chosen place, or why it has none
abbrev pub piece_due : Repository → Id → Result (List ℕ) ReachError
piece_due r id = ok_or (bytes_of r (piece_of id)) (missing r (piece_of id))
