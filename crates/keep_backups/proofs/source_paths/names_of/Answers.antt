use Rattle.std.proofs.Common.{Ok, lit<, ap, ◌∙◌}
use Rattle.std.proofs.lemmas.Iterator.Adapters.{YieldsList-from_skip}
use Rattle.std.proofs.lemmas.Iterator.Consumers.{map_from_collect}
use Rattle.std.proofs.lemmas.Iterator.Splits.{YieldsList-from_str_split}
use Rattle.std.specs.Str.Iter.{split_has_more, split_pattern, split_text}
use Rattle.std.specs.declared.alloc.AllocError.{AllocError}
use Rattle.keep_backups.proofs.source_paths.names_of.Goals as goal

pub returns : goal.returns
returns c =
    map_from_collect {E = AllocError} (Ok c.in_ok-names.names) c.in_ok-names.ensures.ran
    (YieldsList-from_skip {s = c.skip.result} 1
    (YieldsList-from_str_split {s = c.skip.result.iter} 47 c.args.path.now (lit< tt)
    (ap split_text c.skip.ensures.source ∙ c.split.ensures.text)
    (ap split_has_more c.skip.ensures.source ∙ c.split.ensures.has_more)
    (ap split_pattern c.skip.ensures.source ∙ c.split.ensures.pattern))
    c.skip.ensures.count)
