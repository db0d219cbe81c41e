use Rattle.std.proofs.Common.{◌∙◌, Some, ap, sym, subst}
use Rattle.keep_files.proofs.Kept.{put_at-here}
use Rattle.keep_files.specs.Act.{Seen, Wrote}
use Rattle.keep_files.specs.Stands.{IsClosed}
use Rattle.keep_files.specs.declared.node.Node.TheVariants.{File}
use Rattle.keep_memory_files.specs.Memory.{seen_in}
use Rattle.keep_disk.proofs.scan.Scan.add_file.Goals as goal

pub returns-in-Ok-clause-closed : goal.returns-in-Ok-clause-closed
returns-in-Ok-clause-closed g c = λ closed.
    subst (λ (s : Seen). IsClosed s.stands) (sym c.in-Ok.ensures.ok)
    (c.acts_keep_folders.ensures (seen_in c.args.self.now.image).stands (Wrote c.args.path.now c.args.bytes.now) c.in-Ok.ensures.can closed)

pub returns-in-Ok-clause-added : goal.returns-in-Ok-clause-added
returns-in-Ok-clause-added g c =
    ap (λ (s : Seen). s.stands c.args.path.now) c.in-Ok.ensures.ok
    ∙ put_at-here (seen_in c.args.self.now.image).stands c.args.path.now (Some (File c.args.bytes.now))

pub returns-in-Err-clause-closed : goal.returns-in-Err-clause-closed
returns-in-Err-clause-closed g c = λ closed. subst (λ (s : Seen). IsClosed s.stands) (sym c.in-Err.ensures.err) closed
