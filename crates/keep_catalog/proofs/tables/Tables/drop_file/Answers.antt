use Rattle.std.proofs.Common.{◌≡◌, Some, OnOk, subst}
use Rattle.std.proofs.lemmas.Result.{on_ok_weaker}
use Rattle.std.specs.FinMap as finite
use Rattle.keep_names.specs.declared.file_name.FileName.{FileName}
use Rattle.keep_repo.specs.Repository.{Repository}
use Rattle.keep_catalog.specs.Kept.{IsKept, without_file}
use Rattle.keep_catalog.proofs.Coming.{named_so}
use Rattle.keep_catalog.proofs.tables.Tables.drop_file.Goals as goal

pub returns-in-Pack : goal.returns-in-Pack
returns-in-Pack c =
    let P : FileName → Type 0 = λ name. OnOk c.drop_pack.result ((r : Repository) → finite.get r.files name ≡ Some c.args.bytes.now → IsKept r c.args.self.now → IsKept (without_file r name) c.drop_pack.new.self) in
    subst P (named_so c.args.name _ c.in-Pack.is) c.drop_pack.ensures

pub returns-in-Index : goal.returns-in-Index
returns-in-Index c =
    let P : Repository → FileName → Type 0 = λ r name. IsKept (without_file r name) c.drop_index.new.self in
    on_ok_weaker c.drop_index.result (λ gone r present kept. subst (P r) (named_so c.args.name _ c.in-Index.is) (gone r kept)) c.drop_index.ensures

pub returns-in-Snapshot : goal.returns-in-Snapshot
returns-in-Snapshot c r present kept =
    let P : FileName → Type 0 = λ name. IsKept (without_file r name) c.drop_snapshot.new.self in
    subst P (named_so c.args.name _ c.in-Snapshot.is) (c.drop_snapshot.ensures r kept)
