use Rattle.std.proofs.Common.{◌≡◌, ◌++◌, string_bytes}
use Rattle.keep_tables.specs.Lines.{spaces}
use Rattle.keep_tables.proofs.table.push_spaces.Given as goal

abbrev pub invariant-loop : goal.invariant-loop
invariant-loop l = string_bytes l.text ≡ string_bytes l.initial.text ++ spaces l.counter
