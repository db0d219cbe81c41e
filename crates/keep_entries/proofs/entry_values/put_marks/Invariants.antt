use Rattle.std.proofs.Common.{◌≡◌, ◌++◌, drop, map, take}
use Rattle.std.specs.List.{AllByRecursion}
use Rattle.serde_json.specs.View.{items_of}
use Rattle.serde_json.specs.Written.{items_text}
use Rattle.keep_entries.specs.Entry.{FitsMark}
use Rattle.keep_entries.specs.Spelling.{mark_data}
use Rattle.keep_entries.specs.declared.form.Form.TheVariants.{Moments}
use Rattle.keep_entries.specs.Members.{list_text}
use Rattle.keep_entries.proofs.entry_values.put_marks.Given as goal

abbrev pub invariant-loop-mark : goal.invariant-loop-mark
invariant-loop-mark l = record {
  rest : l.out ++ items_text l.later (items_of (map (mark_data Moments) (drop l.mark-index l.marks))) ≡ l.fn.out ++ list_text (map (mark_data Moments) l.marks);
  fit : AllByRecursion FitsMark (take l.mark-index l.marks);
}
