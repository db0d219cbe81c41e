use Rattle.std.proofs.Common.{◌∙◌, ap, of_z, to_z, w64}
use Rattle.std.proofs.lemmas.Int.{to_z-of_z}
use mir.Syntax.{w128}
use Rattle.keep_tables.proofs.Calendar.{date-fits, date-found}
use Rattle.keep_tables.proofs.time.date_at.Goals as goal

pub returns : goal.returns
returns c =
    let wide = to_z-of_z w128 c.args.day c.ranges.day in
    let low = rw wide at c.if-day-lt-FIRST.false in
    let high = rw wide at c.if-day-gt-LAST.false in
    let same = ap (λ z. to_z w64 (of_z w64 z)) wide ∙ to_z-of_z w64 c.args.day (date-fits c.args.day low high) in
    date-found c.from_unix_epoch_day.result c.ok.result c.args.day _ c.ok.ensures.value same low high
    c.from_unix_epoch_day.ensures.succeeds c.from_unix_epoch_day.ensures.value
