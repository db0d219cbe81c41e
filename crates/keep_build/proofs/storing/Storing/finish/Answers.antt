use Rattle.std.proofs.Common.{◌≡◌, ◌++◌, map, sym, ap, ◌∙◌}
use Rattle.keep_names.specs.declared.blob.BlobType.TheVariants.{Content, Tree}
use Rattle.keep_plan.specs.Storing.{stored_built}
use Rattle.keep_plan.proofs.Outcomes.{if_ok}
use Rattle.keep_build.specs.Blobs.{names_once}
use Rattle.keep_build.specs.Packs.{packs_of}
use Rattle.keep_build.specs.Stored.{built, packs_and_index, stored_with}
use Rattle.keep_build.specs.Storing.{blob_view}
use Rattle.keep_build.proofs.Packable.{can_pack, can_same}
use Rattle.keep_build.proofs.storing.Storing.finish.Goals as goal

pub built_files-requires-clause-pieces : goal.built_files-requires-clause-pieces
built_files-requires-clause-pieces g c =
    can_same _ _ (sym c.deref.ensures.value) (can_pack Content c.args.repo.now c.requires.1 c.args.self.pieces.items c.requires.2.fits c.requires.2.pieces)

pub built_files-requires-clause-trees : goal.built_files-requires-clause-trees
built_files-requires-clause-trees g c =
    can_same _ _ (sym c.deref-2.ensures.value) (can_pack Tree c.args.repo.now c.requires.1 c.args.self.trees.items c.requires.2.fits c.requires.2.trees)

pub returns : goal.returns
unfolding stored_with
returns g c =
    let r = c.args.repo.now in
    if_ok _ _ c.store_built.result
    (λ stored so named offered keeps.
    let pieces = ap (map blob_view) c.deref.ensures.value ∙ keeps.pieces.blobs_are in
    let trees = ap (map blob_view) c.deref-2.ensures.value ∙ keeps.trees.blobs_are in
    let files : c.in_ok-files.files.items ≡ built r offered = c.in_ok-files.ensures ∙ (λ i. packs_and_index (packs_of (pieces i) ++ packs_of (trees i))) in
    so (named ++ names_once offered) keeps.reuses ∙ ap (stored_built r (named ++ names_once offered)) files)
    c.store_built.ensures
