use Rattle.std.proofs.Common.{◌≡◌, ◌++◌, drop, map}
use Rattle.keep_snap.specs.Facts.{facts_view}
use Rattle.keep_labels.specs.Edits.{edit_view}
use Rattle.keep_labels.specs.Tagging.{changed_by, retagged_files}
use Rattle.keep_labels.proofs.retagged.retagged.Given as goal

abbrev pub invariant-loop-facts : goal.invariant-loop-facts
invariant-loop-facts l = record {
  names : l.made.names.items ++ map (λ s. s.name) (changed_by (edit_view l.edit) (map facts_view (drop l.facts-index l.taken)))
      ≡ map (λ s. s.name) (changed_by (edit_view l.edit) (map facts_view l.taken));
  files : l.made.files.items ++ retagged_files l.catalog (edit_view l.edit) (changed_by (edit_view l.edit) (map facts_view (drop l.facts-index l.taken)))
      ≡ retagged_files l.catalog (edit_view l.edit) (changed_by (edit_view l.edit) (map facts_view l.taken));
}
