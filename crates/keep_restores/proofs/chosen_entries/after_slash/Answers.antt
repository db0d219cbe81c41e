use Rattle.std.proofs.Common.{None, lit<}
use Rattle.std.proofs.lemmas.Str.Pattern.{strip_prefix_char}
use Rattle.keep_patterns.proofs.Spelling.{unopened}
use Rattle.keep_restores.proofs.chosen_entries.after_slash.Goals as goal

pub returns-in-None : goal.returns-in-None
returns-in-None c = unopened c.args.text.now (strip_prefix_char 47 c.args.text.now None c.in-None.ensures.cases (lit< tt))
