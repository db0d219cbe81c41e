use Rattle.std.proofs.Common.{option_map, ap, ◌∙◌}
use Rattle.keep_snap.specs.Time.{written}
use Rattle.keep_snap.proofs.Times.{dated}
use Rattle.keep_snap.proofs.time.date_of.Goals as goal

pub returns : goal.returns
returns c =
    ap (option_map written) c.ok.ensures.value
    ∙ dated c.args.year c.args.month c.args.day c.new.result c.requires.year_fits c.requires.month_fits c.requires.day_fits c.new.ensures.succeeds c.new.ensures.value
