use Rattle.std.proofs.Common.{None, Some, lit<}
use Rattle.std.proofs.lemmas.Str.Pattern.{strip_suffix_char}
use Rattle.keep_patterns.proofs.Spelling.{closed, unclosed}
use Rattle.keep_nodes.proofs.chosen_nodes.before_slash.Goals as goal

pub returns-in-Some : goal.returns-in-Some
returns-in-Some c = closed c.args.text.now c.in-Some.rest.now (strip_suffix_char 47 c.args.text.now (Some c.in-Some.rest) c.in-Some.ensures.cases (lit< tt))

pub returns-in-None : goal.returns-in-None
returns-in-None c = unclosed c.args.text.now (strip_suffix_char 47 c.args.text.now None c.in-None.ensures.cases (lit< tt))
