-- What is left to put, put among what there is now, leaves what putting all leaves.
use Rattle.std.proofs.Common.{◌≡◌, drop}
use Rattle.keep_change.specs.Result as made
use Rattle.keep_opening.proofs.made_files.put_files.Given as goal

abbrev pub invariant-loop-file : goal.invariant-loop-file
invariant-loop-file l =
    record l.repo { files = made.put_files (drop l.file-index l.files) l.repo.files }
    ≡ record l.initial.repo { files = made.put_files l.files l.initial.repo.files }
