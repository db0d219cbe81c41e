use Rattle.std.proofs.Common.{Ok, lit<, ap, ◌∙◌}
use Rattle.std.proofs.lemmas.Iterator.Consumers.{map_from_collect}
use Rattle.std.proofs.lemmas.Iterator.Splits.{YieldsList-from_str_split}
use Rattle.std.specs.List.{slice_split}
use Rattle.std.specs.declared.alloc.AllocError.{AllocError}
use Rattle.keep_patterns.specs.Parsing as spec
use Rattle.keep_restores.proofs.chosen_entries.parts_of.Goals as goal

pub returns : goal.returns
returns c =
    map_from_collect {E = AllocError} (Ok c.in_ok-parts.parts) c.in_ok-parts.ensures.ran (YieldsList-from_str_split 47 c.after_slash.result.now (lit< tt) c.split.ensures.text c.split.ensures.has_more c.split.ensures.pattern)
    ∙ ap (slice_split spec.is_slash) c.after_slash.ensures
