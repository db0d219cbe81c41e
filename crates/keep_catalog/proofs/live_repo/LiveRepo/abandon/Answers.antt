use Rattle.std.proofs.Common.{IfSome, sym, subst, ◌∙◌, rules}
use Rattle.keep_change.proofs.Halves.{turned_writes_once}
use Rattle.keep_change.specs.Halves.{IsBegun, turned}
use Rattle.keep_change.specs.Result.{reverse_of}
use Rattle.keep_catalog.specs.Kept.{IsKept}
use Rattle.keep_catalog.proofs.Halfway.{come_there, went_kept, withdrawn}
use Rattle.keep_catalog.proofs.live_repo.LiveRepo.abandon.Goals as goal

pub invariant_of-self : goal.invariant_of-self
invariant_of-self c =
    let d = turned c.args.turn c.args.change.now in
    let once = turned_writes_once c.args.turn c.args.change.now c.requires.once in
    let begun : IsBegun d c.self.inside.repo = subst (IsBegun d) (sym c.self.view_is) c.requires.begun in
    let kept : IfSome c.take.result (IsKept c.self.inside.repo) = search rules in
    went_kept (reverse_of d) c.self.inside.repo c.abandon.new.repo c.take.result c.went.result c.coming_files.result.now
    c.coming_files.ensures (withdrawn d c.self.inside.repo once begun c.abandon.new.repo c.abandon.ensures)
    (come_there d c.self.inside.repo once begun) kept c.went.ensures

pub returns : goal.returns
returns c before ready begun = c.refresh.ensures ∙ c.abandon.ensures before ready (c.self.view_is ∙ begun)
