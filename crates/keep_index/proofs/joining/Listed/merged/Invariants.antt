use Rattle.std.proofs.Common.{◌≡◌, map, take}
use Rattle.keep_index.specs.Index.{pack_view}
use Rattle.keep_index.proofs.Gathered.{made}
use Rattle.keep_index.proofs.joining.Listed.merged.Given as goal

abbrev pub invariant-loop-id : goal.invariant-loop-id
invariant-loop-id l = map pack_view l.packs.items ≡ map (made l.self.blobs) (take l.id-index l.id-items)
