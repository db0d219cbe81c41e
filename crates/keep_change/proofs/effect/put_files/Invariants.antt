-- The files before this one are put.
use Rattle.std.proofs.Common.{◌≡◌, take}
use Rattle.keep_change.specs.Result as made
use Rattle.keep_change.proofs.effect.put_files.Given as goal

abbrev pub invariant-loop-place : goal.invariant-loop-place
invariant-loop-place l =
    l.repo ≡ record l.initial.repo { files = made.put_files (take l.place l.files) l.initial.repo.files }
