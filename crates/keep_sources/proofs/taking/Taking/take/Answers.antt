use Rattle.std.proofs.Common.{[], inl, subst}
use Rattle.keep_sources.proofs.Leaves.{on_ok}
use Rattle.keep_sources.specs.Limits.{most_levels}
use Rattle.keep_sources.specs.Took.{TookListed}
use Rattle.keep_sources.proofs.taking.Taking.take.Goals as goal

pub returns-in-Ok : goal.returns-in-Ok
returns-in-Ok g c =
    let told = g.S.Source.told in
    let gives = g.A.Receives.gives in
    let seen = g.A.Receives.seen in
    let listing = c.in-Ok.listing in
    let now = c.walk_listed.new.self in
    on_ok c.walk_listed.result
    (λ took.
    let a = subst (λ x. TookListed told gives c.args.job.now most_levels [] listing (seen x) (seen now.archive) c.list_root.new.self.skipped.items now.skipped.items) c.in-Ok.ensures.archive took in
    let b = subst (λ v. TookListed told gives c.args.job.now most_levels [] listing (seen c.args.self.now.archive) (seen now.archive) v.items now.skipped.items) c.in-Ok.ensures.skipped a in
    inl (listing, c.in-Ok.ensures.listed, b))
    c.walk_listed.ensures
