use Rattle.std.proofs.Common.{sym, subst}
use Rattle.keep_files.specs.Act.{Made, Seen}
use Rattle.keep_files.specs.Stands.{IsClosed}
use Rattle.keep_memory_files.specs.Memory.{seen_in}
use Rattle.keep_disk.proofs.scan.Scan.add_folder.Goals as goal

pub returns-in-Ok : goal.returns-in-Ok
returns-in-Ok g c = λ closed.
    subst (λ (s : Seen). IsClosed s.stands) (sym c.in-Ok.ensures.ok)
    (c.acts_keep_folders.ensures (seen_in c.args.self.now.image).stands (Made c.args.path.now) c.in-Ok.ensures.can closed)

pub returns-in-Err : goal.returns-in-Err
returns-in-Err g c = λ closed. subst (λ (s : Seen). IsClosed s.stands) (sym c.in-Err.ensures.err) closed
