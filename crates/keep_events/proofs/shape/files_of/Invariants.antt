use Rattle.std.proofs.Common.{◌≡◌, ◌+◌, take}
use Rattle.keep_events.specs.Deeds.{files_of}
use Rattle.keep_events.proofs.shape.files_of.Given as goal

abbrev pub invariant-loop-name : goal.invariant-loop-name
invariant-loop-name l = record {
  counted : l.files ≡ files_of (take l.name-index l.names);
  total : l.files.snapshots + l.files.indexes + l.files.packs ≡ l.name-index;
}
