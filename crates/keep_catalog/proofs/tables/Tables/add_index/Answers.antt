use Rattle.std.proofs.Common.{◌&&◌, cond, true, None, Option, List, refl, ap, ◌∙◌}
use Rattle.std.proofs.lemmas.Result.{on_ok_weaker}
use Rattle.std.specs.Option.{option_or}
use Rattle.keep_index.specs.Index.{PackData}
use Rattle.keep_names.specs.FileName.{named}
use Rattle.keep_names.specs.declared.file_name.FileName.{FileName}
use Rattle.keep_names.specs.declared.file_name.Kind.TheVariants.{Index}
use Rattle.keep_catalog.specs.Kept.{lists_at, packs_at, places_said}
use Rattle.keep_catalog.specs.Orders.{same_name, same_id}
use Rattle.keep_catalog.specs.Places.{at, is_among}
use Rattle.keep_catalog.specs.declared.unread.FileError.{FileError}
use Rattle.keep_catalog.proofs.Coming.{index_comes, noted_at}
use Rattle.keep_catalog.proofs.tables.Tables.add_index.Goals as goal

pub returns : goal.returns
returns c =
    let old = c.args.self.now in
    let index = c.args.index in
    on_ok_weaker c.note.result (λ noted r absent kept.
    index_comes r old _ c.args.bytes.now kept index absent
    (λ blob l. c.in_ok-put_index.ensures.listed blob l ∙ ap (λ (packs : Option (List PackData)). cond (same_id index l.index && is_among (places_said packs) (at blob l.spot)) true (lists_at old.listed blob l)) c.in_ok-packs.ensures.packs)
    (λ q. c.in_ok-put_index.ensures.kept q ∙ ap (λ (packs : Option (List PackData)). option_or (cond (same_id index q) packs None) (packs_at old.indexes q)) c.in_ok-packs.ensures.packs)
    (c.in_ok-put_index.ensures.ordered kept.indexes_ordered)
    (λ q. noted q
    ∙ ap (λ (n : FileName). option_or (cond (same_name n q) c.in_ok-packs.why None) (noted_at old q)) c.index.ensures
    ∙ ap (λ (why : Option FileError). option_or (cond (same_name (named Index index) q) why None) (noted_at old q)) c.in_ok-packs.ensures.why)
    refl refl) c.note.ensures
