use Rattle.std.proofs.Common.{◌≡◌, Ok, map, string_bytes}
use Rattle.keep_backup.specs.Backup.{facts_view}
use Rattle.keep_archive.specs.Archive.{going_view}
use Rattle.keep_archive.specs.Plans.{last_change}
use Rattle.keep_archive.proofs.Differing.{planned_so}
use Rattle.keep_archive.proofs.Made.{last_met, last_well_formed}
use Rattle.keep_archive.proofs.archive.Archive.plan_backup.Goals as goal

pub returns-clause-planned : goal.returns-clause-planned
returns-clause-planned g c =
    let r = c.args.view.now.repo in
    let facts = facts_view c.args.facts.now in
    let tags = map string_bytes c.args.tags.now in
    let going = going_view c.in-Some.going in
    let is : last_change r facts tags going ≡ Ok c.in_ok-change.change = planned_so _ _ _ c.in_ok-change.ensures in
    record {
      well_formed = last_well_formed r facts tags going c.in_ok-change.change is;
      met = last_met r facts tags going c.in_ok-change.change is;
      seen = c.length.ensures;
    }
