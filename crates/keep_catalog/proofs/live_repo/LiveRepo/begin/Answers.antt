use Rattle.std.proofs.Common.{◌≡◌, IfSome, true, rules}
use Rattle.keep_change.proofs.Halves.{turned_writes_once}
use Rattle.keep_change.specs.Change.{is_ready}
use Rattle.keep_change.specs.Halves.{turned}
use Rattle.keep_repo.specs.Repository.{held}
use Rattle.keep_catalog.specs.Kept.{IsKept}
use Rattle.keep_catalog.proofs.Halfway.{came_kept}
use Rattle.keep_catalog.proofs.live_repo.LiveRepo.begin.Goals as goal

pub invariant_of-self-2 : goal.invariant_of-self-2
invariant_of-self-2 c =
    let d = turned c.args.turn c.args.change.now in
    let ready : is_ready (held c.self.inside.repo) d ≡ true = search rules in
    let kept : IfSome c.take.result (IsKept c.self.inside.repo) = search rules in
    came_kept d c.self.inside.repo c.begin.new.repo c.take.result c.came.result c.coming_files.result.now
    c.coming_files.ensures c.in_ok-begin.ensures.ok (turned_writes_once c.args.turn c.args.change.now c.requires.once) ready kept c.came.ensures
