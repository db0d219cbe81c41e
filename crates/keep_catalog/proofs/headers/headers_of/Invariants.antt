use Rattle.std.proofs.Common.{◌≡◌, map, take}
use Rattle.std.specs.List.{filter_map}
use Rattle.keep_catalog.specs.Files.{header_in, header_view, readable}
use Rattle.keep_catalog.proofs.headers.headers_of.Given as goal

abbrev pub invariant-loop-pack : goal.invariant-loop-pack
invariant-loop-pack l =
    map header_view l.headers.items ≡ filter_map (λ pack. readable pack (header_in l.repo pack)) (take l.pack-index l.packs)
