use Rattle.std.proofs.Common.{sym, subst}
use Rattle.keep_lines.proofs.WordLists.{NamesNone, all-push, names_none, next_word, read_all, read_next, spaceless_at}
use Rattle.keep_lines.proofs.word_list.parse_words.Goals as goal

pub parse-requires : goal.parse-requires
parse-requires g c = spaceless_at c.args.words.now c.loop-word.word-index _ c.loop-word-test.true c.requires

pub returns-in_default : goal.returns-in_default
returns-in_default g c =
    let turn = c.loop-word in
    let refused = rw c.in_default.is at c.in_ok-value.ensures in
    let none =
    subst (NamesNone g.W.Word.IsSaid g.W.Word.text) (sym (next_word g.W.Word.text c.args.words.now turn.word-index _ turn.values.items c.loop-word-test.true turn.invariant.read))
    (names_none g.W.Word.IsSaid g.W.Word.text _ _ _ refused) in
    λ values h e. none values.items h e

pub loop-word-preserved : goal.loop-word-preserved
loop-word-preserved g c =
    let turn = c.loop-word in
    let value = rw c.in-Some.is at c.in_ok-value.ensures in
    rw c.in_ok-push.ensures.items
    record {
      are_all = all-push g.W.Word.IsSaid turn.values.items c.in-Some.value turn.invariant.are_all value.0;
      read = read_next g.W.Word.text c.args.words.now turn.word-index _ turn.values.items c.in-Some.value c.loop-word-test.true turn.invariant.read value.1;
    }

pub returns : goal.returns
returns g c = (c.loop-word.invariant.are_all, read_all g.W.Word.text c.args.words.now c.loop-word.word-index c.loop-word.values.items c.loop-word-test.false c.loop-word.invariant.read)
