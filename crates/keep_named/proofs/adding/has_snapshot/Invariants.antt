use Rattle.std.proofs.Common.{◌≡◌, drop}
use Rattle.keep_named.specs.Adding as spec
use Rattle.keep_named.proofs.adding.has_snapshot.Given as goal

abbrev pub invariant-loop-file : goal.invariant-loop-file
invariant-loop-file l =
    spec.has_snapshot l.fn.snapshot (drop l.file-index l.files) ≡ spec.has_snapshot l.fn.snapshot l.files
