use Rattle.std.proofs.Common.{cond, None, is_some, map, refl, sym, ap, ◌∙◌}
use Rattle.std.specs.BTreeMap as tree
use Rattle.keep_names.specs.declared.file_name.FileName.{FileName}
use Rattle.keep_catalog.specs.Orders.{same_name, packed_blob_cmp}
use Rattle.keep_catalog.specs.Places.{is_among, packed_of}
use Rattle.keep_catalog.proofs.Coming.{pack_goes, noted_at}
use Rattle.keep_catalog.proofs.Unreadable.{pack_stores_none}
use Rattle.keep_catalog.proofs.tables.Tables.drop_pack.Goals as goal

pub returns-then-is_some : goal.returns-then-is_some
returns-then-is_some c r present kept =
    let old = c.args.self.now in
    let refused = ap is_some (sym (kept.unread _) ∙ ap (noted_at old) (sym c.pack.ensures) ∙ sym c.forget.ensures.was) ∙ sym c.is_some.ensures ∙ c.if-is_some.true in
    pack_goes r old _ kept c.args.pack c.args.bytes.now present
    (pack_stores_none r c.args.bytes.now c.args.pack present refused old.stored)
    (λ q. c.forget.ensures.forgotten q ∙ ap (λ (n : FileName). cond (same_name n q) None (noted_at old q)) c.pack.ensures)
    refl refl refl

pub returns : goal.returns
returns c r present kept =
    let old = c.args.self.now in
    pack_goes r old _ kept c.args.pack c.args.bytes.now present
    (λ p. c.unstore.ensures p ∙ ap (λ es. cond (is_among (map (packed_of c.args.pack) es) p) None (tree.get packed_blob_cmp old.stored p)) (c.deref.ensures.value ∙ c.in_ok-entries.ensures.entries))
    (λ q. c.forget.ensures.forgotten q ∙ ap (λ (n : FileName). cond (same_name n q) None (noted_at old q)) c.pack.ensures)
    refl refl refl
