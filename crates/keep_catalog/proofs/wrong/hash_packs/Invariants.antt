use Rattle.std.proofs.Common.{◌≡◌, take}
use Rattle.std.specs.List.{flat_map}
use Rattle.keep_catalog.specs.Wrong.{wrong_in}
use Rattle.keep_catalog.proofs.wrong.hash_packs.Given as goal

abbrev pub invariant-loop-pack : goal.invariant-loop-pack
invariant-loop-pack l = l.wrong.items ≡ flat_map (wrong_in l.repo) (take l.pack-index l.packs)
