-- A file that is as asked changes nothing, and another one is taken with the least before it.
use Rattle.std.proofs.Common.{◌≡◌, ℕ, List, not, Some, sym, ap, ◌∙◌}
use Rattle.keep_names.specs.declared.file_name.FileName.{FileName}
use Rattle.keep_repo.specs.Facet.{Stored}
use Rattle.keep_repo.specs.declared.facet.Facet.TheVariants.{File}
use Rattle.keep_change.specs.Change.{holds_same}
use Rattle.keep_change.specs.Form.{lesser}
use Rattle.keep_change.proofs.Least.{least_taken, least_kept}
use Rattle.keep_change.proofs.meets.least_other_file.Goals as goal
use Rattle.keep_change.proofs.meets.least_other_file.Goals.{then-not-has_file, else-not-has_file}

pub loop-file-preserved : goal.loop-file-preserved
loop-file-preserved g c =
    let holding = g.H.Holder.holding c.args.holder.now in
    let file = c.file-item.result in
    let told : c.has_file.result ≡ holds_same (holding (File file.name)) (Some (Stored file.bytes)) =
    c.has_file.ensures
    ∙ ap (λ (name : FileName). holds_same (holding (File name)) (Some (Stored c.bytes.result.now))) c.name-name.ensures
    ∙ ap (λ (bytes : List ℕ). holds_same (holding (File file.name)) (Some (Stored bytes))) c.bytes.ensures in
    elim c.if-not-has_file.branch [
      | then-not-has_file w ↦
          least_taken (λ file. File file.name) (λ file. not (holds_same (holding (File file.name)) (Some (Stored file.bytes)))) c.args.files.now c.loop-file.file-index file c.loop-file.least _
          (w.least-is ∙ w.lesser-least.ensures ∙ ap (λ (name : FileName). lesser c.loop-file.least (Some (File name))) c.name-name.ensures)
          c.loop-file-test.true c.file-item.is (ap not (sym told ∙ w.if-not-has_file.true)) c.loop-file.invariant
      | else-not-has_file w ↦
          least_kept (λ file. File file.name) (λ file. not (holds_same (holding (File file.name)) (Some (Stored file.bytes)))) c.args.files.now c.loop-file.file-index file c.loop-file.least _
          w.least-is c.loop-file-test.true c.file-item.is (ap not (sym told ∙ w.if-not-has_file.false)) c.loop-file.invariant
    ]
