use Rattle.std.proofs.Common.{◌++◌, ap, sym, ◌∙◌}
use Rattle.keep_catalog.specs.Files.{indexes_in}
use Rattle.keep_change.specs.Lists.{marked_packs}
use Rattle.keep_change.specs.declared.change.Change.{Change}
use Rattle.keep_index.specs.Index.{index_view}
use Rattle.keep_names.specs.declared.file_name.Kind.TheVariants.{Index, Pack}
use Rattle.keep_plan.specs.FilesThere.{files_there}
use Rattle.keep_upkeep.specs.Reindexing.{other_indexes}
use Rattle.keep_upkeep.proofs.LeavingIndexes.{same_sweep}
use Rattle.keep_upkeep.proofs.sweep.sweep.Goals as goal

pub returns : goal.returns
returns c =
    let r = c.args.repo.now in
    let packs = c.deref-2.result.now in
    let same_packs = c.deref-5.ensures.value ∙ sym c.deref-2.ensures.value in
    c.clearing.ensures ∙ ap (λ (change : Change). record change { clears = c.args.marks.items }) c.in_ok-change.ensures
    ∙ same_sweep r c.args.marks.items c.indexes.result.now.entries packs c.in_ok-names.names.items c.in_ok-others.others.items (index_view c.in_ok-names.left) c.in_ok-built.built.items c.put_files-2.new.files.items
    (c.indexes.ensures.all ∙ ap indexes_in c.requires)
    (c.deref-2.ensures.value ∙ c.in_ok-packs.ensures ∙ ap marked_packs c.deref.ensures.value)
    c.in_ok-names.ensures.names c.in_ok-names.ensures.left c.in_ok-built.ensures.files
    (c.in_ok-others.ensures ∙ (λ i. other_indexes (c.deref-3.ensures.value i) (c.deref-4.ensures.value i)))
    (c.in_ok-put_files-2.ensures
    ∙ (λ i. (c.in_ok-put_files.ensures ∙ (λ j. c.new-drops.ensures.items j ++ files_there r Pack (same_packs j))) i ++ files_there r Index (c.deref-6.ensures.value i)))
