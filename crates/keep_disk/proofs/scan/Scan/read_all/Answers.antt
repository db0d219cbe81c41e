use Rattle.keep_disk.proofs.scan.Scan.read_all.Goals as goal

pub loop-preserved : goal.loop-preserved
loop-preserved g c = λ closed. c.note_folder.ensures (c.loop.invariant closed)

pub returns-in_err-note_folder-in-Some : goal.returns-in_err-note_folder-in-Some
returns-in_err-note_folder-in-Some g c = λ closed. c.note_folder.ensures (c.loop.invariant (c.note_root.ensures closed))

pub returns : goal.returns
returns g c = λ closed. c.loop.invariant (c.note_root.ensures closed)
