-- Each file is learnt in turn.
use Rattle.std.proofs.Common.{ap, ◌∙◌, ◌||◌}
use Rattle.std.specs.BTreeSet.{contains}
use Rattle.keep_names.specs.Orders.{id_cmp}
use Rattle.keep_names.specs.declared.file_name.FileName.{FileName}
use Rattle.keep_repo.specs.Facet.{facet_eq}
use Rattle.keep_repo.specs.declared.facet.Facet.TheVariants.{File}
use Rattle.keep_view.specs.Telling.{snapshot_file}
use Rattle.keep_view.proofs.Knowing.{one_learnt}
use Rattle.keep_view.proofs.known.learn_files.Goals as goal

pub loop-file-preserved : goal.loop-file-preserved
loop-file-preserved c id =
    let learnt =
    c.in_ok-learn.ensures id
    ∙ ap (λ (name : FileName). contains id_cmp c.loop-file.known id || facet_eq (snapshot_file id) (File name)) c.name.ensures in
    one_learnt (λ f. facet_eq (snapshot_file id) (File f.name)) c.args.files.now c.loop-file.file-index c.file-item.result c.file-item.result c.loop-file-test.true c.file-item.is
    _ _ _ (c.loop-file.invariant id) learnt
