use Rattle.std.proofs.Common.{◌≡◌, ◌++◌, map, take}
use Rattle.keep_events.specs.Parts.{file_part}
use Rattle.keep_events.proofs.change_parts.push_files.Given as goal

abbrev pub invariant-loop-file : goal.invariant-loop-file
invariant-loop-file l =
    l.rows.items ≡ l.initial.rows.items ++ map (file_part l.sign) (take l.file-index l.files)
