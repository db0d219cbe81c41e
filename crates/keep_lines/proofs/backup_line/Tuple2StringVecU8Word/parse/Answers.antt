use Rattle.keep_lines.proofs.BackupWords.{cut_last, no_bytes, no_equals}
use Rattle.keep_lines.proofs.backup_line.Tuple2StringVecU8Word.parse.Goals as goal

pub returns-in_default : goal.returns-in_default
returns-in_default c =
    let word = c.args.word.now in
    let cut = cut_last word c.rsplit_once.result c.rsplit_once.ensures.cases in
    no_equals word (rw c.in_default.is at cut)

pub returns-in_default-2 : goal.returns-in_default-2
returns-in_default-2 c =
    let word = c.args.word.now in
    let cut = cut_last word c.rsplit_once.result c.rsplit_once.ensures.cases in
    let parts = rw c.in-Some.is at cut in
    no_bytes word c.in-Some.path.now c.in-Some.hex.now parts.0 parts.1 (rw c.in_default-2.is at c.in_ok-bytes.ensures)
