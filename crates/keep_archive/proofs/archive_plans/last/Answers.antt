-- No file that was built is there with other bytes.
use Rattle.std.proofs.Common.{◌≡◌, ◌∙◌, None, false, map, string_bytes, ap, arith}
use Rattle.std.proofs.lemmas.Grind.{common_steps}
use Rattle.keep_plan.specs.Storing.{is_there}
use Rattle.keep_plan.specs.declared.stored.Stored.{Stored}
use Rattle.keep_plan.proofs.StoredFiles.{filled_there}
use Rattle.keep_backup.specs.Backup.{bad_time, facts_view}
use Rattle.keep_archive.specs.Archive.{going_view}
use Rattle.keep_archive.specs.Plans.{last_change, last_differing, unclosed}
use Rattle.keep_archive.proofs.Differing.{due_so}
use Rattle.keep_archive.proofs.Reading.{last_is, last_planned, none_of}
use Rattle.keep_archive.proofs.archive_plans.last.Goals as goal

pub returns : goal.returns
returns g c =
    let r = c.args.view.now.repo in
    let facts = facts_view c.args.facts.now in
    let tags = map string_bytes c.args.tags.now in
    let a = going_view c.args.going.now in
    let file = c.in_ok-snapshot.snapshot in
    let closed : unclosed a.place ≡ None = grind (arith, common_steps) in
    let timed : bad_time facts ≡ None = grind (arith, common_steps) in
    let absent : is_there r file.name ≡ false = grind (arith, common_steps, filled_there) in
    let whole = last_planned r facts tags a _ file c.in_ok-change.change closed timed c.in_ok-tree.ensures c.in_ok-snapshot.ensures absent c.in_ok-change.ensures in
    let none = none_of c.in_ok-tree.stored.differing c.in_default.not-Some in
    due_so (last_differing r a) (last_change r facts tags a) c.in_ok-change.change whole
    (ap (λ (s : Stored). s.differing) (last_is r a _ c.in_ok-tree.ensures) ∙ none)
