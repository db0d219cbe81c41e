-- What is left to take, taken from what there is now, leaves what taking all leaves.
use Rattle.std.proofs.Common.{◌≡◌, drop}
use Rattle.keep_change.specs.Result as made
use Rattle.keep_opening.proofs.made_files.remove_files.Given as goal

abbrev pub invariant-loop-file : goal.invariant-loop-file
invariant-loop-file l =
    record l.repo { files = made.remove_files (drop l.file-index l.files) l.repo.files }
    ≡ record l.initial.repo { files = made.remove_files l.files l.initial.repo.files }
