use Rattle.std.proofs.Common.{length, ap, ◌∙◌}
use Rattle.keep_backing.proofs.Lists.{none_of_none, when_ok}
use Rattle.keep_backing.proofs.printing.print_backup.Goals as goal

pub returns : goal.returns
returns c =
    when_ok c.name_left.result
    (λ none. none_of_none c.args.done.now.skipped.items c.as_slice-left.result.now none (ap length c.as_slice-left.ensures.value ∙ c.in_ok-left.ensures))
    c.name_left.ensures
