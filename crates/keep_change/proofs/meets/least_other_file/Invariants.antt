-- The least so far, and the least of what is left, are the least of all.
use Rattle.std.proofs.Common.{◌≡◌, drop, not, Some}
use Rattle.keep_repo.specs.Facet.{Stored}
use Rattle.keep_repo.specs.declared.facet.Facet.TheVariants.{File}
use Rattle.keep_change.specs.Change.{holds_same}
use Rattle.keep_change.specs.Form.{lesser, least_where}
use Rattle.keep_change.proofs.meets.least_other_file.Given as goal

abbrev pub invariant-loop-file : goal.invariant-loop-file
invariant-loop-file g l =
    lesser l.least (least_where (λ file. File file.name) (λ file. not (holds_same (g.H.Holder.holding l.holder (File file.name)) (Some (Stored file.bytes)))) (drop l.file-index l.files))
    ≡ least_where (λ file. File file.name) (λ file. not (holds_same (g.H.Holder.holding l.holder (File file.name)) (Some (Stored file.bytes)))) l.files
