use Rattle.std.proofs.Common.{◌≡◌, drop}
use Rattle.keep_opening.specs.Filing.{trash_put}
use Rattle.keep_opening.proofs.trash.put_out.Given as goal

abbrev pub invariant-loop-file : goal.invariant-loop-file
invariant-loop-file l = trash_put l.n (drop l.file-index l.files) l.stock ≡ trash_put l.n l.files l.initial.stock
