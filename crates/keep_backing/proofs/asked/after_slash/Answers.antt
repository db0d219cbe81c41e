use Rattle.std.proofs.Common.{None, lit<}
use Rattle.std.proofs.lemmas.Str.Pattern.{strip_prefix_char}
use Rattle.keep_patterns.proofs.Spelling.{unopened}
use Rattle.keep_backing.proofs.asked.after_slash.Goals as goal

pub returns-in-None : goal.returns-in-None
returns-in-None c = unopened c.args.path.now (strip_prefix_char 47 c.args.path.now None c.in-None.ensures.cases (lit< tt))
