use Rattle.std.proofs.Common.{◌≡◌, map}
use Rattle.keep_index.specs.Index.{pack_view}
use Rattle.keep_build.proofs.NamedPacks.{file_given, listed_given}
use Rattle.keep_build.proofs.packs.named_packs.Given as goal

abbrev pub invariant-loop-pack : goal.invariant-loop-pack
invariant-loop-pack g l =
    (goal.iterator-loop-pack g).can_next l.pack-iterator
    × (goal.iterator-loop-pack g).is_finite l.pack-iterator
    × (l.built.files.items ≡ map file_given l.yielded)
    × (map pack_view l.built.listed.items ≡ map listed_given l.yielded)
