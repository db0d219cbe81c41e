use Rattle.std.proofs.Common.{◌≡◌, ◌++◌, drop, map, take}
use Rattle.std.specs.List.{AllByRecursion}
use Rattle.serde_json.specs.View.{items_of}
use Rattle.serde_json.specs.Written.{items_text}
use Rattle.keep_entries.specs.Entry.{FitsFile}
use Rattle.keep_entries.specs.Spelling.{file_data}
use Rattle.keep_entries.specs.Members.{list_text}
use Rattle.keep_entries.proofs.entry_values.put_files.Given as goal

abbrev pub invariant-loop-file : goal.invariant-loop-file
invariant-loop-file l = record {
  rest : l.out ++ items_text l.later (items_of (map file_data (drop l.file-index l.files))) ≡ l.fn.out ++ list_text (map file_data l.files);
  fit : AllByRecursion FitsFile (take l.file-index l.files);
}
