use Rattle.std.proofs.Common.{sym, ap, ◌∙◌}
use Rattle.std.proofs.lemmas.Result.{on_err_weaker, on_ok_weaker}
use Rattle.std.specs.FinMap as map
use Rattle.keep_names.specs.FileName.{named}
use Rattle.keep_names.specs.declared.file_name.Kind.TheVariants.{Pack, Index, Snapshot}
use Rattle.keep_repo.proofs.ByName.{Files, put_counted, put_there}
use Rattle.keep_repo.specs.Files.{by_name}
use Rattle.keep_repo.proofs.files.Files.insert.Goals as goal

pub returns-in-Pack-clause-ok : goal.returns-in-Pack-clause-ok
returns-in-Pack-clause-ok c =
    let f = c.self.inside in
    on_ok_weaker c.put.result (λ put_is.
    put_there f.packs.entries f.indexes.entries f.snapshots.entries Pack c.put.new.files.entries c.args.name.id c.args.bytes put_is
    ∙ ap (λ kind. map.insert (by_name f.packs.entries f.indexes.entries f.snapshots.entries) (named kind c.args.name.id) c.args.bytes) (sym c.in-Pack.is)
    ∙ ap (λ (files : Files). map.insert files c.args.name c.args.bytes) c.self.view_is) c.put.ensures.ok

pub invariant_of-self : goal.invariant_of-self
invariant_of-self c =
    let f = c.self.inside in
    put_counted (by_name f.packs.entries f.indexes.entries f.snapshots.entries) _ (named Pack c.args.name.id) c.args.bytes c.put.result c.len.result
    (on_ok_weaker c.put.result (put_there f.packs.entries f.indexes.entries f.snapshots.entries Pack c.put.new.files.entries c.args.name.id c.args.bytes) c.put.ensures.ok)
    (on_err_weaker c.put.result (λ same. ap (λ es. by_name es f.indexes.entries f.snapshots.entries) same) c.put.ensures.err)
    (c.len.ensures ∙ ap (λ (files : Files). map.len files) (sym c.self.view_is)) c.len.type_inv c.if-len.false

pub returns-in-Index-clause-ok : goal.returns-in-Index-clause-ok
returns-in-Index-clause-ok c =
    let f = c.self.inside in
    on_ok_weaker c.put-in-Index.result (λ put_is.
    put_there f.packs.entries f.indexes.entries f.snapshots.entries Index c.put-in-Index.new.files.entries c.args.name.id c.args.bytes put_is
    ∙ ap (λ kind. map.insert (by_name f.packs.entries f.indexes.entries f.snapshots.entries) (named kind c.args.name.id) c.args.bytes) (sym c.in-Index.is)
    ∙ ap (λ (files : Files). map.insert files c.args.name c.args.bytes) c.self.view_is) c.put-in-Index.ensures.ok

pub invariant_of-self-in-Index : goal.invariant_of-self-in-Index
invariant_of-self-in-Index c =
    let f = c.self.inside in
    put_counted (by_name f.packs.entries f.indexes.entries f.snapshots.entries) _ (named Index c.args.name.id) c.args.bytes c.put-in-Index.result c.len.result
    (on_ok_weaker c.put-in-Index.result (put_there f.packs.entries f.indexes.entries f.snapshots.entries Index c.put-in-Index.new.files.entries c.args.name.id c.args.bytes) c.put-in-Index.ensures.ok)
    (on_err_weaker c.put-in-Index.result (λ same. ap (λ es. by_name f.packs.entries es f.snapshots.entries) same) c.put-in-Index.ensures.err)
    (c.len.ensures ∙ ap (λ (files : Files). map.len files) (sym c.self.view_is)) c.len.type_inv c.if-len.false

pub returns-in-Snapshot-clause-ok : goal.returns-in-Snapshot-clause-ok
returns-in-Snapshot-clause-ok c =
    let f = c.self.inside in
    on_ok_weaker c.put-in-Snapshot.result (λ put_is.
    put_there f.packs.entries f.indexes.entries f.snapshots.entries Snapshot c.put-in-Snapshot.new.files.entries c.args.name.id c.args.bytes put_is
    ∙ ap (λ kind. map.insert (by_name f.packs.entries f.indexes.entries f.snapshots.entries) (named kind c.args.name.id) c.args.bytes) (sym c.in-Snapshot.is)
    ∙ ap (λ (files : Files). map.insert files c.args.name c.args.bytes) c.self.view_is) c.put-in-Snapshot.ensures.ok

pub invariant_of-self-in-Snapshot : goal.invariant_of-self-in-Snapshot
invariant_of-self-in-Snapshot c =
    let f = c.self.inside in
    put_counted (by_name f.packs.entries f.indexes.entries f.snapshots.entries) _ (named Snapshot c.args.name.id) c.args.bytes c.put-in-Snapshot.result c.len.result
    (on_ok_weaker c.put-in-Snapshot.result (put_there f.packs.entries f.indexes.entries f.snapshots.entries Snapshot c.put-in-Snapshot.new.files.entries c.args.name.id c.args.bytes) c.put-in-Snapshot.ensures.ok)
    (on_err_weaker c.put-in-Snapshot.result (λ same. ap (λ es. by_name f.packs.entries f.indexes.entries es) same) c.put-in-Snapshot.ensures.err)
    (c.len.ensures ∙ ap (λ (files : Files). map.len files) (sym c.self.view_is)) c.len.type_inv c.if-len.false
