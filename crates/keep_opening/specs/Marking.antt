-- The marks that a leaf tells.
use Rattle.std.specs.Prelude.{List, Option, None, option_and_then}
use Rattle.keep_change.specs.declared.change.PackMark.{PackMark}
use Rattle.keep_journal.specs.History.{marks_by}
use Rattle.keep_reading.specs.declared.leaf.Leaf.{Leaf}

-- those of its emptying, if it is one's
abbrev pub marks_under : Leaf → Option (List PackMark)
marks_under leaf = option_and_then (λ e. marks_by None e.kind) leaf.event
