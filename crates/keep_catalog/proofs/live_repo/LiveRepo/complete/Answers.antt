use Rattle.std.proofs.Common.{IfSome, sym, subst, rules}
use Rattle.keep_change.proofs.Halves.{turned_writes_once}
use Rattle.keep_change.specs.Halves.{IsBegun, turned}
use Rattle.keep_catalog.specs.Kept.{IsKept}
use Rattle.keep_catalog.proofs.Halfway.{going_there, went_kept}
use Rattle.keep_catalog.proofs.live_repo.LiveRepo.complete.Goals as goal

pub invariant_of-self : goal.invariant_of-self
invariant_of-self c =
    let d = turned c.args.turn c.args.change.now in
    let begun : IsBegun d c.self.inside.repo = subst (IsBegun d) (sym c.self.view_is) c.requires.begun in
    let kept : IfSome c.take.result (IsKept c.self.inside.repo) = search rules in
    went_kept d c.self.inside.repo c.complete.new.repo c.take.result c.went.result c.going_files.result.now
    c.going_files.ensures c.complete.ensures
    (going_there d c.self.inside.repo (turned_writes_once c.args.turn c.args.change.now c.requires.once) begun) kept c.went.ensures
