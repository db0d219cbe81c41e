use Rattle.std.proofs.Common.{take}
use Rattle.keep_archive.proofs.Claims.{HasOffered}
use Rattle.keep_archive.proofs.part_storing.store_all.Given as goal

abbrev pub invariant-loop-one : goal.invariant-loop-one
invariant-loop-one l = HasOffered (take l.one-index l.held) l.initial.storing l.storing
