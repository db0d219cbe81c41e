use Rattle.std.proofs.Common.{◌≡◌, None, OnOk, subst}
use Rattle.std.specs.FinMap as finite
use Rattle.keep_names.specs.declared.file_name.FileName.{FileName}
use Rattle.keep_repo.specs.Repository.{Repository}
use Rattle.keep_catalog.specs.Kept.{IsKept, with_file}
use Rattle.keep_catalog.proofs.Coming.{named_so}
use Rattle.keep_catalog.proofs.tables.Tables.add_file.Goals as goal

pub returns-in-Pack : goal.returns-in-Pack
returns-in-Pack c =
    let P : FileName → Type 0 = λ name. OnOk c.add_pack.result ((r : Repository) → finite.get r.files name ≡ None → IsKept r c.args.self.now → IsKept (with_file r name c.args.bytes.now) c.add_pack.new.self) in
    subst P (named_so c.args.name _ c.in-Pack.is) c.add_pack.ensures

pub returns-in-Index : goal.returns-in-Index
returns-in-Index c =
    let P : FileName → Type 0 = λ name. OnOk c.add_index.result ((r : Repository) → finite.get r.files name ≡ None → IsKept r c.args.self.now → IsKept (with_file r name c.args.bytes.now) c.add_index.new.self) in
    subst P (named_so c.args.name _ c.in-Index.is) c.add_index.ensures

pub returns-in-Snapshot : goal.returns-in-Snapshot
returns-in-Snapshot c =
    let P : FileName → Type 0 = λ name. OnOk c.add_snapshot.result ((r : Repository) → finite.get r.files name ≡ None → IsKept r c.args.self.now → IsKept (with_file r name c.args.bytes.now) c.add_snapshot.new.self) in
    subst P (named_so c.args.name _ c.in-Snapshot.is) c.add_snapshot.ensures
