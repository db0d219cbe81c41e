use Rattle.std.proofs.Common.{◌≡◌, ◌==◌, false, length, Ok, lit<, sym, subst, ap, ◌∙◌, eqb-true, arith}
use Rattle.std.proofs.lemmas.Bool.Decides.{nat_tests}
use Rattle.std.proofs.lemmas.Iterator.Consumers.{map_from_collect}
use Rattle.std.proofs.lemmas.Iterator.Splits.{YieldsList-from_str_split}
use Rattle.std.specs.declared.alloc.AllocError.{AllocError}
use Rattle.keep_lines.specs.declared.rewrite_line.RewriteLine.{RewriteLine}
use Rattle.keep_lines.proofs.RewriteWords.{no_name_rewrites, no_patterns_rewrite, no_words_rewrite, rewrite_of_words, spaceless_rest}
use Rattle.keep_lines.proofs.WordLists.{spaceless_behind_one, texts}
use Rattle.keep_lines.specs.RewriteLine.{CutsFlag}
use Rattle.keep_lines.proofs.rewrite_line.parse_rewrite.Goals as goal

pub returns-in_default : goal.returns-in_default
returns-in_default c =
    let words = c.as_slice.result.now in
    let text = c.args.text.now in
    let cut = ap texts c.as_slice.ensures.value ∙ map_from_collect {E = AllocError} (Ok c.in_ok-words.words) c.in_ok-words.ensures.ran (YieldsList-from_str_split 32 text (lit< tt) c.split.ensures.text c.split.ensures.has_more c.split.ensures.pattern) in
    no_words_rewrite words text c.in_default.len_below cut

pub returns-then-is_empty : goal.returns-then-is_empty
returns-then-is_empty c =
    let words = c.as_slice.result.now in
    let text = c.args.text.now in
    let cut = ap texts c.as_slice.ensures.value ∙ map_from_collect {E = AllocError} (Ok c.in_ok-words.words) c.in_ok-words.ensures.ran (YieldsList-from_str_split 32 text (lit< tt) c.split.ensures.text c.split.ensures.has_more c.split.ensures.pattern) in
    no_name_rewrites words _ text c.in-len1-up.len_at_least cut (eqb-true _ _ (sym c.is_empty.ensures ∙ c.if-is_empty.true))

pub parse_words-requires : goal.parse_words-requires
parse_words-requires c =
    let words = c.as_slice.result.now in
    let text = c.args.text.now in
    let cut = ap texts c.as_slice.ensures.value ∙ map_from_collect {E = AllocError} (Ok c.in_ok-words.words) c.in_ok-words.ensures.ran (YieldsList-from_str_split 32 text (lit< tt) c.split.ensures.text c.split.ensures.has_more c.split.ensures.pattern) in
    spaceless_rest _ _ _ c.cut_flag-forget.ensures (spaceless_behind_one words text c.in-len1-up.len_at_least cut)

pub returns-in_default-2 : goal.returns-in_default-2
returns-in_default-2 c =
    let words = c.as_slice.result.now in
    let text = c.args.text.now in
    let cut = ap texts c.as_slice.ensures.value ∙ map_from_collect {E = AllocError} (Ok c.in_ok-words.words) c.in_ok-words.ensures.ran (YieldsList-from_str_split 32 text (lit< tt) c.split.ensures.text c.split.ensures.has_more c.split.ensures.pattern) in
    let refused = rw c.in_default-2.is at c.in_ok-patterns.ensures in
    no_patterns_rewrite words text _ _ c.in-len1-up.len_at_least cut c.cut_flag-forget.ensures refused

pub returns : goal.returns
returns c =
    let words = c.as_slice.result.now in
    let text = c.args.text.now in
    let cut = ap texts c.as_slice.ensures.value ∙ map_from_collect {E = AllocError} (Ok c.in_ok-words.words) c.in_ok-words.ensures.ran (YieldsList-from_str_split 32 text (lit< tt) c.split.ensures.text c.split.ensures.has_more c.split.ensures.pattern) in
    let value = rw c.in-Some.is at c.in_ok-patterns.ensures in
    let known : (length _ == 0) ≡ false = sym c.is_empty.ensures ∙ c.if-is_empty.false in
    let made : RewriteLine = record { filter = c.in_ok-filter.filter; forget = c.cut_flag-forget.result.0; patterns = c.in-Some.patterns } in
    rewrite_of_words words _ text made c.in-len1-up.len_at_least cut c.in_ok-filter.ensures.ok (grind (arith, nat_tests, known)) value.0 (subst (CutsFlag _ _) (sym value.1) c.cut_flag-forget.ensures)
