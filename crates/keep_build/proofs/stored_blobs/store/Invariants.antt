use Rattle.std.proofs.Common.{[], map, take}
use Rattle.keep_build.specs.Storing.{Keeps, given}
use Rattle.keep_build.proofs.stored_blobs.store.Given as goal

abbrev pub invariant-loop-blob_type : goal.invariant-loop-blob_type
invariant-loop-blob_type l = Keeps l.view.repo [] (map given (take l.blob_type-index l.blobs)) l.storing
