use Rattle.std.proofs.Common.{cond, None, Some, Option, map, refl, ap, ◌∙◌}
use Rattle.std.proofs.lemmas.Result.{on_ok_weaker}
use Rattle.std.specs.BTreeMap as tree
use Rattle.std.specs.Option.{option_or}
use Rattle.keep_names.specs.FileName.{named}
use Rattle.keep_names.specs.declared.file_name.FileName.{FileName}
use Rattle.keep_names.specs.declared.file_name.Kind.TheVariants.{Pack}
use Rattle.keep_catalog.specs.Orders.{same_name, packed_blob_cmp}
use Rattle.keep_catalog.specs.Places.{is_among, packed_of}
use Rattle.keep_catalog.specs.declared.unread.FileError.{FileError}
use Rattle.keep_catalog.proofs.Coming.{pack_comes, noted_at}
use Rattle.keep_catalog.proofs.tables.Tables.add_pack.Goals as goal

pub returns : goal.returns
returns c =
    let old = c.args.self.now in
    on_ok_weaker c.note.result (λ noted r absent kept.
    pack_comes r old _ c.args.bytes.now kept c.args.pack absent
    (λ p. c.in_ok-store.ensures p ∙ ap (λ es. cond (is_among (map (packed_of c.args.pack) es) p) (Some None) (tree.get packed_blob_cmp old.stored p)) (c.deref.ensures.value ∙ c.in_ok-entries.ensures.entries))
    (λ q. noted q
    ∙ ap (λ (n : FileName). option_or (cond (same_name n q) c.in_ok-entries.why None) (noted_at old q)) c.pack.ensures
    ∙ ap (λ (why : Option FileError). option_or (cond (same_name (named Pack c.args.pack) q) why None) (noted_at old q)) c.in_ok-entries.ensures.why)
    refl refl refl) c.note.ensures
