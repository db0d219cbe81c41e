use Rattle.std.proofs.Common.{[], ◌++◌, map, option_to_list, get_or, refl, ap, ◌∙◌}
use Rattle.keep_catalog.specs.Files.{header_in, header_view, readable}
use Rattle.keep_catalog.proofs.Growing.{map-found, more_noted, no_id}
use Rattle.keep_catalog.proofs.headers.headers_of.Goals as goal

pub loop-pack-preserved : goal.loop-pack-preserved
loop-pack-preserved c =
    let packs = c.args.packs.now in
    let i = c.loop-pack.pack-index in
    more_noted packs i (get_or packs i no_id) no_id c.loop-pack-test.true refl (λ pack. readable pack (header_in c.args.repo.now pack)) [] _ _ c.loop-pack.invariant
    (ap (map header_view) c.in_ok-add_found.ensures ∙ map-found header_view c.loop-pack.headers.items c.in_ok-header.header ∙ ap (λ found. map header_view c.loop-pack.headers.items ++ option_to_list found) c.in_ok-header.ensures)
