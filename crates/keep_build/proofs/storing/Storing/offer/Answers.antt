use Rattle.std.proofs.Common.{◌++◌, sym, ◌∙◌}
use Rattle.keep_names.specs.declared.blob.BlobType.TheVariants.{Content, Tree}
use Rattle.keep_plan.proofs.Outcomes.{on_ok}
use Rattle.keep_build.specs.Blobs.{blob_id_of, names_once, new_of}
use Rattle.keep_build.specs.Storing.{text_bytes}
use Rattle.keep_build.proofs.Keeping.{kept_again, kept_piece, kept_there, kept_tree, own_name}
use Rattle.keep_build.proofs.storing.Storing.offer.Goals as goal

pub returns-then-contains : goal.returns-then-contains
returns-then-contains c r named offered keeps =
    kept_again r named offered (c.args.blob.blob_type, text_bytes c.args.bytes) c.args.self.now keeps c.requires.fits
    c.args.blob (own_name c.args.blob (text_bytes c.args.bytes) c.requires.own) (sym c.contains.ensures ∙ c.if-contains.true)

pub returns-in-Some : goal.returns-in-Some
returns-in-Some c =
    on_ok _ _ c.rest_on.result
    (λ more r named offered keeps. kept_there r named offered (c.args.blob.blob_type, text_bytes c.args.bytes) c.args.self.now keeps c.requires.fits
    c.args.blob (own_name c.args.blob (text_bytes c.args.bytes) c.requires.own)
    c.insert.new.self (sym c.contains.ensures ∙ c.if-contains.false) c.in_ok-insert.ensures.updates.0
    (c.in-Some.pack, c.in-Some.index) c.rest_on.new.self (sym c.in-Some.is ∙ c.reuse.ensures)
    (more r (named ++ names_once offered) (blob_id_of (c.args.blob.blob_type, text_bytes c.args.bytes))))
    c.rest_on.ensures

pub returns-in-Content : goal.returns-in-Content
returns-in-Content c =
    on_ok _ _ c.keep.result
    (λ more r named offered keeps. kept_piece r named offered (c.args.blob.blob_type, text_bytes c.args.bytes) c.args.self.now keeps c.requires.fits
    c.args.blob (own_name c.args.blob (text_bytes c.args.bytes) c.requires.own)
    c.insert.new.self (sym c.contains.ensures ∙ c.if-contains.false) c.in_ok-insert.ensures.updates.0
    (sym c.in-None.is ∙ c.reuse.ensures) c.keep.new.kept c.in-Content.is (more (new_of Content r offered) keeps.pieces))
    c.keep.ensures

pub returns-in-Tree : goal.returns-in-Tree
returns-in-Tree c =
    on_ok _ _ c.keep-in-Tree.result
    (λ more r named offered keeps. kept_tree r named offered (c.args.blob.blob_type, text_bytes c.args.bytes) c.args.self.now keeps c.requires.fits
    c.args.blob (own_name c.args.blob (text_bytes c.args.bytes) c.requires.own)
    c.insert.new.self (sym c.contains.ensures ∙ c.if-contains.false) c.in_ok-insert.ensures.updates.0
    (sym c.in-None.is ∙ c.reuse.ensures) c.keep-in-Tree.new.kept c.in-Tree.is (more (new_of Tree r offered) keeps.trees))
    c.keep-in-Tree.ensures
