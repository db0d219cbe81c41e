use Rattle.std.proofs.Common.{lit<}
use Rattle.std.proofs.lemmas.Str.Pattern.{split_parts}
use Rattle.keep_lines.proofs.forget_line.RuleWord.parse.Goals as goal

pub parse_counted-requires : goal.parse_counted-requires
parse_counted-requires c = (rw c.in-Some.is at (split_parts 61 c.args.word.now c.split_once.result c.split_once.ensures.cases (lit< tt))).1
