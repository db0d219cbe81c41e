use Rattle.std.proofs.Common.{◌≡◌, ◌+◌, ◌++◌, drop, map}
use Rattle.std.specs.List.{sum_by}
use Rattle.keep_pack.specs.Pack.{entries_from}
use Rattle.keep_pack.specs.Reading.{length_in, listed_in}
use Rattle.keep_pack.proofs.header.list_entries.Given as goal

-- the entries so far and those to come are all, and so are the lengths
abbrev pub invariant-loop-entry : goal.invariant-loop-entry
invariant-loop-entry l = record {
  entries : l.entries.items ++ entries_from l.offset (map listed_in
      (drop l.entry-index l.raw)) ≡ entries_from 0 (map listed_in l.raw);
  lengths : l.offset + sum_by length_in (drop l.entry-index l.raw) ≡ sum_by length_in l.raw;
}
