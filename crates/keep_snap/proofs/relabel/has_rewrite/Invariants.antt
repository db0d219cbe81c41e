use Rattle.std.proofs.Common.{◌≡◌, drop, map, string_bytes}
use Rattle.keep_snap.specs.Relabel.{has_rewrite}
use Rattle.keep_snap.proofs.relabel.has_rewrite.Given as goal

abbrev pub invariant-loop-tag : goal.invariant-loop-tag
invariant-loop-tag l =
    has_rewrite (map string_bytes (drop l.tag-index l.tags)) ≡ has_rewrite (map string_bytes l.tags)
