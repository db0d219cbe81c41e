use Rattle.std.proofs.Common.{◌≡◌, ◌++◌, List}
use Rattle.keep_reach.specs.declared.reached_blobs.ReachedBlob.{ReachedBlob}
use Rattle.keep_names.specs.declared.blob.BlobId.{BlobId}
use Rattle.keep_upkeep.proofs.MarkUsed.{RestOnThese}
use Rattle.keep_upkeep.proofs.mark.uses_found.Given as goal

-- what was passed, with what is left, is all; and what its uses rest on is there
abbrev pub invariant-loop-found : goal.invariant-loop-found
invariant-loop-found l =
    (done : List (BlobId × ReachedBlob)) × (done ++ l.found-iterator ≡ l.reached.entries) × RestOnThese done l.reuses
