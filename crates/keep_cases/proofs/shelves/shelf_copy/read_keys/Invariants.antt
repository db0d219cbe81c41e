use Rattle.std.proofs.Common.{◌≡◌, drop}
use Rattle.std.specs.FinMap as map
use Rattle.keep_cases.specs.Found.{found_under}
use Rattle.keep_cases.proofs.shelves.shelf_copy.read_keys.Given as goal

-- what was found with what the other keys have is all that the keys have
abbrev pub invariant-loop-key : goal.invariant-loop-key
invariant-loop-key g l = record {
  same : (g.S.Shelf.shelved l.shelf).content ≡ (g.S.Shelf.shelved l.initial.shelf).content;
  copy : found_under (g.S.Shelf.shelved l.initial.shelf).content (drop l.key-index l.keys) l.copy.content ≡ found_under (g.S.Shelf.shelved l.initial.shelf).content l.keys map.empty;
}
