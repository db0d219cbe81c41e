use Rattle.std.proofs.Common.{◌≡◌, All, take}
use Rattle.keep_names.specs.Id.{IsDigest}
use Rattle.keep_archive.proofs.archive_node.kind_of_file.Given as goal

abbrev pub invariant-loop-id : goal.invariant-loop-id
invariant-loop-id l = (l.ids.items ≡ take l.id-index l.content) × All IsDigest l.ids.items
