-- The lines that ask to be told something.
use Rattle.std.specs.Prelude.{ℕ, List, ◌++◌, codes, ⊤}
use Rattle.keep_lines.specs.Word.{IsName, IsTarget, target_text}
use Rattle.keep_lines.specs.declared.question.Question.{Question}
use Rattle.keep_lines.specs.declared.question.Question.TheVariants.{List as ListFiles, Count, History, Same, Restore, Audit, Totals}

-- `list`, `count`, `history`, `same NAME`, `restore SNAP`, `audit` or `totals`
abbrev pub question_text : Question → List ℕ
question_text ListFiles = codes "list"
question_text Count = codes "count"
question_text History = codes "history"
question_text (Same name) = codes "same " ++ name.now
question_text (Restore target) = codes "restore " ++ target_text target
question_text Audit = codes "audit"
question_text Totals = codes "totals"

-- its name is one, or the snapshot that it means is in range
abbrev pub IsQuestion : Question → Type 0
IsQuestion ListFiles = ⊤
IsQuestion Count = ⊤
IsQuestion History = ⊤
IsQuestion (Same name) = IsName name.now
IsQuestion (Restore target) = IsTarget target
IsQuestion Audit = ⊤
IsQuestion Totals = ⊤
