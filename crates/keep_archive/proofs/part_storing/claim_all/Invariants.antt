use Rattle.keep_archive.proofs.Claims.{Claimed}
use Rattle.keep_archive.proofs.part_storing.claim_all.Given as goal

abbrev pub invariant-loop-blob : goal.invariant-loop-blob
invariant-loop-blob l = Claimed l.named l.blob-index l.initial.storing l.storing
