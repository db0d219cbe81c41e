use Rattle.std.proofs.Common.{List, [], ◌∷◌, ◌++◌, map, ap, ℕ, ◌∙◌}
use Rattle.std.proofs.lemmas.List.{map-append}
use Rattle.keep_names.specs.declared.blob.Blob.{Blob}
use Rattle.keep_build.specs.NewPacks.{new_pack_view}
use Rattle.keep_build.proofs.Building.{header_short, new_pack_built}
use Rattle.keep_build.proofs.packs.add_pack.Goals as goal

pub build_pack-requires-clause-header : goal.build_pack-requires-clause-header
build_pack-requires-clause-header c = header_short c.args.blobs.now c.requires.fits c.requires.some c.requires.front

pub listed_blobs-requires-clause-count : goal.listed_blobs-requires-clause-count
listed_blobs-requires-clause-count c = header_short c.args.blobs.now c.requires.fits c.requires.some c.requires.front

pub returns : goal.returns
returns c =
    ap (map new_pack_view) c.in_ok-push.ensures.items
    ∙ map-append new_pack_view c.args.packs.now.items (record { bytes = c.in_ok-bytes.bytes; blobs = c.in_ok-blobs.blobs } ∷ [])
    ∙ ap (λ (made : List ℕ × List Blob). map new_pack_view c.args.packs.now.items ++ made ∷ [])
    (new_pack_built c.args.blobs.now c.in_ok-bytes.bytes.items c.in_ok-blobs.blobs.items c.in_ok-bytes.ensures c.in_ok-blobs.ensures)
