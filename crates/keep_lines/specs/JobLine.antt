-- The lines that ask for jobs.
use Rattle.std.specs.Prelude.{ℕ, ⊤, List, ◌++◌, codes, Some, None}
use Rattle.std.specs.Fmt.{decimal}
use Rattle.keep_lines.specs.declared.job_line.JobLine.{JobLine}
use Rattle.keep_lines.specs.declared.job_line.JobLine.TheVariants.{Backup, Forget, Mark, Repair, Rewrite, Sweep, Tag}
use Rattle.keep_lines.specs.BackupLine.{IsBackup, backup_text}
use Rattle.keep_lines.specs.ForgetLine.{IsForget, forget_text}
use Rattle.keep_lines.specs.RewriteLine.{IsRewrite, rewrite_text}
use Rattle.keep_lines.specs.TagLine.{IsTag, tag_text}
use Rattle.keep_names.specs.Number.{IsNumber}

-- `backup HOST TIME PATH=HEX ..`, `tag FILTER WORD ..`, `forget FILTER RULE ..`, `rewrite FILTER PATTERN ..` or
-- `rewrite FILTER forget PATTERN ..`, `repair`, `mark`, `sweep` or `sweep N`
abbrev pub job_text : JobLine → List ℕ
job_text (Backup backup) = codes "backup " ++ backup_text backup
job_text (Tag tag) = codes "tag " ++ tag_text tag
job_text (Forget forget) = codes "forget " ++ forget_text forget
job_text (Rewrite rewrite) = codes "rewrite " ++ rewrite_text rewrite
job_text Repair = codes "repair"
job_text Mark = codes "mark"
job_text (Sweep None) = codes "sweep"
job_text (Sweep (Some wait)) = codes "sweep " ++ decimal wait

-- its words are words of its line, and its number has 64 bits
abbrev pub IsJob : JobLine → Type 0
IsJob (Backup backup) = IsBackup backup
IsJob (Tag tag) = IsTag tag
IsJob (Forget forget) = IsForget forget
IsJob (Rewrite rewrite) = IsRewrite rewrite
IsJob Repair = ⊤
IsJob Mark = ⊤
IsJob (Sweep None) = ⊤
IsJob (Sweep (Some wait)) = IsNumber wait
