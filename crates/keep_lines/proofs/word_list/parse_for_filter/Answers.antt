use Rattle.std.proofs.Common.{◌≡◌, ◌==◌, false, length, Ok, lit<, sym, ap, ◌∙◌, eqb-true, arith}
use Rattle.std.proofs.lemmas.Bool.Decides.{nat_tests}
use Rattle.std.proofs.lemmas.Iterator.Consumers.{map_from_collect}
use Rattle.std.proofs.lemmas.Iterator.Splits.{YieldsList-from_str_split}
use Rattle.std.specs.declared.alloc.AllocError.{AllocError}
use Rattle.keep_lines.proofs.WordLists.{asked_of_words, no_name, no_values, no_words, spaceless_behind_one, texts}
use Rattle.keep_lines.proofs.word_list.parse_for_filter.Goals as goal

pub returns-in_default : goal.returns-in_default
returns-in_default g c =
    let words = c.as_slice.result.now in
    let text = c.args.text.now in
    let cut = ap texts c.as_slice.ensures.value ∙ map_from_collect {E = AllocError} (Ok c.in_ok-words.words) c.in_ok-words.ensures.ran (YieldsList-from_str_split 32 text (lit< tt) c.split.ensures.text c.split.ensures.has_more c.split.ensures.pattern) in
    no_words g.W.Word.IsSaid g.W.Word.text g.met.W.Word.spaceless words text c.in_default.len_below cut

pub returns-then-is_empty : goal.returns-then-is_empty
returns-then-is_empty g c =
    let words = c.as_slice.result.now in
    let text = c.args.text.now in
    let cut = ap texts c.as_slice.ensures.value ∙ map_from_collect {E = AllocError} (Ok c.in_ok-words.words) c.in_ok-words.ensures.ran (YieldsList-from_str_split 32 text (lit< tt) c.split.ensures.text c.split.ensures.has_more c.split.ensures.pattern) in
    no_name g.W.Word.IsSaid g.W.Word.text g.met.W.Word.spaceless words _ text c.in-len1-up.len_at_least cut (eqb-true _ _ (sym c.is_empty.ensures ∙ c.if-is_empty.true))

pub parse_words-requires : goal.parse_words-requires
parse_words-requires g c =
    let words = c.as_slice.result.now in
    let text = c.args.text.now in
    let cut = ap texts c.as_slice.ensures.value ∙ map_from_collect {E = AllocError} (Ok c.in_ok-words.words) c.in_ok-words.ensures.ran (YieldsList-from_str_split 32 text (lit< tt) c.split.ensures.text c.split.ensures.has_more c.split.ensures.pattern) in
    spaceless_behind_one words text c.in-len1-up.len_at_least cut

pub returns-in_default-2 : goal.returns-in_default-2
returns-in_default-2 g c =
    let words = c.as_slice.result.now in
    let text = c.args.text.now in
    let cut = ap texts c.as_slice.ensures.value ∙ map_from_collect {E = AllocError} (Ok c.in_ok-words.words) c.in_ok-words.ensures.ran (YieldsList-from_str_split 32 text (lit< tt) c.split.ensures.text c.split.ensures.has_more c.split.ensures.pattern) in
    let refused = rw c.in_default-2.is at c.in_ok-values.ensures in
    no_values g.W.Word.IsSaid g.W.Word.text g.met.W.Word.spaceless words text c.in-len1-up.len_at_least cut refused

pub returns : goal.returns
returns g c =
    let words = c.as_slice.result.now in
    let text = c.args.text.now in
    let cut = ap texts c.as_slice.ensures.value ∙ map_from_collect {E = AllocError} (Ok c.in_ok-words.words) c.in_ok-words.ensures.ran (YieldsList-from_str_split 32 text (lit< tt) c.split.ensures.text c.split.ensures.has_more c.split.ensures.pattern) in
    let value = rw c.in-Some.is at c.in_ok-values.ensures in
    let known : (length _ == 0) ≡ false = sym c.is_empty.ensures ∙ c.if-is_empty.false in
    asked_of_words g.W.Word.IsSaid g.W.Word.text words _ text (c.in_ok-filter.filter, c.in-Some.values) c.in-len1-up.len_at_least cut c.in_ok-filter.ensures.ok (grind (arith, nat_tests, known)) value.0 value.1
