use Rattle.std.proofs.Common.{◌≡◌, map, take}
use Rattle.keep_build.specs.declared.packs.NewPack.{NewPack}
use Rattle.keep_build.proofs.packs.ids_of.Given as goal

abbrev pub invariant-loop-pack : goal.invariant-loop-pack
invariant-loop-pack g l =
    map (λ text. text.now) l.texts.items ≡ map (λ (pack : NewPack). pack.bytes.items) (take l.pack-index l.packs)
