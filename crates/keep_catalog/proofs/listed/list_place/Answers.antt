use Rattle.std.proofs.Common.{ap, sym, ◌∙◌}
use Rattle.keep_catalog.proofs.Relisted.{first_one, listed_one, one_more}
use Rattle.keep_catalog.proofs.listed.list_place.Goals as goal
use Rattle.keep_catalog.proofs.listed.list_place.Goals.{in-Some+in_ok-listings-in-Some, in-None}

pub returns : goal.returns
returns c =
    listed_one c.args.place c.args.index c.args.listed.now c.remove.new.self c.insert.new.self c.remove.ensures.updates.0
    c.match-remove.listings c.in_ok-insert.ensures.updates.0
    (elim c.match-remove.branch [
      | in-Some+in_ok-listings-in-Some w ↦ one_more c.args.place c.args.index c.args.listed.now w.in-Some.listings c.match-remove.listings (sym c.remove.ensures.value ∙ w.in-Some.is)
          (rw w.listings-is w.in_ok-listings-in-Some.ensures)
      | in-None w ↦ first_one c.args.place c.args.index c.args.listed.now c.match-remove.listings (sym c.remove.ensures.value ∙ w.in-None.is) w.listings-is
    ])
