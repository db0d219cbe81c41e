use Rattle.std.proofs.Common.{◌≡◌, Some, Ok, ap, ◌∙◌}
use Rattle.keep_archive.specs.Archive.{going_view}
use Rattle.keep_archive.specs.Plans.{part_change}
use Rattle.keep_archive.proofs.Differing.{planned_so}
use Rattle.keep_archive.proofs.Made.{part_met, part_well_formed}
use Rattle.keep_archive.proofs.archive.Archive.plan_part.Goals as goal

pub returns-clause-planned : goal.returns-clause-planned
returns-clause-planned g c =
    let r = c.args.view.now.repo in
    let going = going_view c.in-Some.going in
    let is : part_change r going ≡ Ok (Some c.in-Some-2.change) =
    planned_so _ _ _ (c.in_ok-change.ensures ∙ ap Ok c.in-Some-2.is) in
    record {
      well_formed = part_well_formed r going c.in-Some-2.change is;
      met = part_met r going c.in-Some-2.change is;
      seen = c.length.ensures;
    }
