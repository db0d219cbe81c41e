use Rattle.std.proofs.Common.{◌≡◌, ◌==◌, false, length, Ok, lit<, sym, ap, ◌∙◌, eqb-true, arith}
use Rattle.std.proofs.lemmas.Bool.Decides.{nat_tests}
use Rattle.std.proofs.lemmas.Iterator.Consumers.{map_from_collect}
use Rattle.std.proofs.lemmas.Iterator.Splits.{YieldsList-from_str_split}
use Rattle.std.specs.declared.alloc.AllocError.{AllocError}
use Rattle.keep_lines.proofs.BackupWords.{backup_of_words, no_files, no_host, no_time, spaceless_behind, too_few}
use Rattle.keep_lines.proofs.WordLists.{texts}
use Rattle.keep_lines.proofs.backup_line.parse_backup.Goals as goal
use Rattle.keep_lines.proofs.backup_line.parse_backup.Goals.{then-is_empty-via-then-is_empty, then-is_empty-via-else-is_empty+then-is_empty-2}

pub returns-in_default : goal.returns-in_default
returns-in_default c =
    let words = c.as_slice.result.now in
    let text = c.args.text.now in
    let cut = ap texts c.as_slice.ensures.value ∙ map_from_collect {E = AllocError} (Ok c.in_ok-words.words) c.in_ok-words.ensures.ran (YieldsList-from_str_split 32 text (lit< tt) c.split.ensures.text c.split.ensures.has_more c.split.ensures.pattern) in
    too_few words text c.in_default.len_below cut

pub returns-then-is_empty : goal.returns-then-is_empty
returns-then-is_empty c =
    let words = c.as_slice.result.now in
    let text = c.args.text.now in
    let cut = ap texts c.as_slice.ensures.value ∙ map_from_collect {E = AllocError} (Ok c.in_ok-words.words) c.in_ok-words.ensures.ran (YieldsList-from_str_split 32 text (lit< tt) c.split.ensures.text c.split.ensures.has_more c.split.ensures.pattern) in
    elim c.then-is_empty.branch [
      | then-is_empty-via-then-is_empty w ↦ no_host words _ text c.in-len2-up.len_at_least cut (eqb-true _ _ (sym c.is_empty.ensures ∙ w.if-is_empty.true))
      | then-is_empty-via-else-is_empty+then-is_empty-2 w ↦ no_time words _ text c.in-len2-up.len_at_least cut (eqb-true _ _ (sym w.is_empty-else-is_empty.ensures ∙ w.if-is_empty-2.true))
    ]

pub parse_words-requires : goal.parse_words-requires
parse_words-requires c =
    let words = c.as_slice.result.now in
    let text = c.args.text.now in
    let cut = ap texts c.as_slice.ensures.value ∙ map_from_collect {E = AllocError} (Ok c.in_ok-words.words) c.in_ok-words.ensures.ran (YieldsList-from_str_split 32 text (lit< tt) c.split.ensures.text c.split.ensures.has_more c.split.ensures.pattern) in
    spaceless_behind words text c.in-len2-up.len_at_least cut

pub returns-in_default-2 : goal.returns-in_default-2
returns-in_default-2 c =
    let words = c.as_slice.result.now in
    let text = c.args.text.now in
    let cut = ap texts c.as_slice.ensures.value ∙ map_from_collect {E = AllocError} (Ok c.in_ok-words.words) c.in_ok-words.ensures.ran (YieldsList-from_str_split 32 text (lit< tt) c.split.ensures.text c.split.ensures.has_more c.split.ensures.pattern) in
    let refused = rw c.in_default-2.is at c.in_ok-files.ensures in
    no_files words text c.in-len2-up.len_at_least cut refused

pub returns : goal.returns
returns c =
    let words = c.as_slice.result.now in
    let text = c.args.text.now in
    let cut = ap texts c.as_slice.ensures.value ∙ map_from_collect {E = AllocError} (Ok c.in_ok-words.words) c.in_ok-words.ensures.ran (YieldsList-from_str_split 32 text (lit< tt) c.split.ensures.text c.split.ensures.has_more c.split.ensures.pattern) in
    let value = rw c.in-Some.is at c.in_ok-files.ensures in
    let host_known : (length _ == 0) ≡ false = sym c.is_empty.ensures ∙ c.if-is_empty.false in
    let time_known : (length _ == 0) ≡ false = sym c.is_empty-else-is_empty.ensures ∙ c.if-is_empty-2.false in
    backup_of_words words _ text (record { host = c.in_ok-host.host; time = c.in_ok-time.time; files = c.in-Some.files }) c.in-len2-up.len_at_least cut c.in_ok-host.ensures.ok c.in_ok-time.ensures.ok (grind (arith, nat_tests, host_known)) (grind (arith, nat_tests, time_known)) value.0 value.1
