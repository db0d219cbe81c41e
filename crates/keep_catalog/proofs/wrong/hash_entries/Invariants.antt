use Rattle.std.proofs.Common.{◌≡◌, map, take}
use Rattle.std.specs.List.{filter_map}
use Rattle.keep_catalog.specs.Places.{packed_of}
use Rattle.keep_catalog.specs.Wrong.{wrong_at}
use Rattle.keep_catalog.proofs.wrong.hash_entries.Given as goal

abbrev pub invariant-loop-entry : goal.invariant-loop-entry
invariant-loop-entry l =
    l.blobs.items ≡ filter_map (wrong_at l.repo) (map (packed_of l.pack) (take l.entry-index l.entries))
