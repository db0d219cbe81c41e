use Rattle.std.proofs.Common.{lit<}
use Rattle.std.proofs.lemmas.Str.Pattern.{strip_prefix_char}
use Rattle.keep_lines.proofs.TagWords.{no_tag_word}
use Rattle.keep_lines.proofs.tag_line.TagWordWord.parse.Goals as goal

pub returns : goal.returns
returns c =
    let word = c.args.word.now in
    no_tag_word word
    (rw c.in_default.is at (strip_prefix_char 43 word c.strip_prefix.result c.strip_prefix.ensures.cases (lit< tt)))
    (rw c.in_default-strip_prefix.is at (strip_prefix_char 45 word c.strip_prefix-2.result c.strip_prefix-2.ensures.cases (lit< tt)))
    (rw c.in_default-strip_prefix-2.is at (strip_prefix_char 61 word c.strip_prefix-3.result c.strip_prefix-3.ensures.cases (lit< tt)))
