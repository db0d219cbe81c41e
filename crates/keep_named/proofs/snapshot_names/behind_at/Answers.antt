use Rattle.std.proofs.Common.{lit<}
use Rattle.std.proofs.lemmas.Str.Pattern.{strip_prefix_char}
use Rattle.keep_named.proofs.Signs.{sign_taken}
use Rattle.keep_named.proofs.snapshot_names.behind_at.Goals as goal

pub returns : goal.returns
returns c = sign_taken c.args.text.now c.strip_prefix.result (strip_prefix_char 64 c.args.text.now c.strip_prefix.result c.strip_prefix.ensures.cases (lit< tt))
