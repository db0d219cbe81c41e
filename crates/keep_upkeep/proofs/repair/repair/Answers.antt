use Rattle.std.proofs.Common.{◌++◌, map, ap, subst, ◌∙◌}
use Rattle.keep_names.specs.Orders.{name_cmp}
use Rattle.keep_names.specs.declared.file_name.Kind.TheVariants.{Index}
use Rattle.keep_index.specs.Index.{Fits, index_view}
use Rattle.keep_catalog.specs.Files.{indexes_in, packs_view}
use Rattle.keep_catalog.specs.Ordered.{in_order}
use Rattle.keep_change.specs.declared.change.Change.{Change}
use Rattle.keep_plan.specs.FilesThere.{files_there}
use Rattle.keep_upkeep.specs.Reindexing.{other_indexes}
use Rattle.keep_upkeep.specs.Repair.{absent_listed, other_listings, packs_there}
use Rattle.keep_upkeep.proofs.RepairPlanned.{same_repair}
use Rattle.keep_upkeep.proofs.repair.repair.Goals as goal

pub returns-clause-change : goal.returns-clause-change
returns-clause-change c =
    let r = c.args.repo.now in
    c.asking_absent.ensures ∙ ap (λ (change : Change). record change { absent = c.in_ok-absent.absent.items }) c.in_ok-change.ensures
    ∙ same_repair r c.indexes.result.now.entries (index_view c.in_ok-index.index) c.in_ok-ids.ids.items c.in_ok-others.others.items c.in_ok-built.built.items c.put_files.new.files.items c.in_ok-absent.absent.items
    (c.indexes.ensures.all ∙ ap indexes_in c.requires)
    (c.in_ok-index.ensures ∙ ap packs_there c.requires)
    c.in_ok-built.ensures.files
    (c.in_ok-absent.ensures ∙ (λ i. in_order name_cmp (absent_listed r (other_listings (c.deref.ensures.value i) (map packs_view c.indexes.result.now.entries)))))
    c.in_ok-ids.ensures
    (c.in_ok-others.ensures ∙ (λ i. other_indexes (c.deref-2.ensures.value i) (c.deref-3.ensures.value i)))
    (c.in_ok-put_files.ensures ∙ (λ i. c.new-drops.ensures.items i ++ files_there r Index (c.deref-4.ensures.value i)))

pub returns-clause-fits : goal.returns-clause-fits
returns-clause-fits c = subst Fits (c.in_ok-index.ensures ∙ ap packs_there c.requires) c.in_ok-built.ensures.fits
