use Rattle.std.proofs.Common.{◌≡◌, ◌++◌, drop, map}
use Rattle.keep_shelf.specs.declared.key.Key.TheVariants.{Trash}
use Rattle.keep_moves.specs.declared.moves.Move.TheVariants.{Erase}
use Rattle.keep_moves.proofs.sweeping.push_erasures.Given as goal

abbrev pub invariant-loop-file : goal.invariant-loop-file
invariant-loop-file l =
    l.moves.items ++ map Erase (map (λ f. Trash l.m f.name) (drop l.file-index l.files))
    ≡ l.initial.moves.items ++ map Erase (map (λ f. Trash l.m f.name) l.files)
