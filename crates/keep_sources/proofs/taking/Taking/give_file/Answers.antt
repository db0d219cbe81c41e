use Rattle.std.proofs.Common.{string_bytes, sym, subst}
use Rattle.keep_sources.proofs.Leaves.{on_ok, same}
use Rattle.keep_sources.specs.Job.{IsUnchanged}
use Rattle.keep_sources.proofs.taking.Taking.give_file.Goals as goal

pub read_file-requires-clause-new : goal.read_file-requires-clause-new
read_file-requires-clause-new g c = record {
  seen = c.requires.seen;
  file = c.requires.file;
  new = λ content h. c.in-None.ensures content (subst (λ p. IsUnchanged c.args.job.now p c.args.sight content) (sym c.as_str.ensures.value) h);
}

pub returns-in-Some : goal.returns-in-Some
returns-in-Some g c =
    let seen = g.A.Receives.seen in
    let path = string_bytes c.args.path in
    let content = c.in-Some.content.now in
    let known : IsUnchanged c.args.job.now path c.args.sight content =
    subst (λ p. IsUnchanged c.args.job.now p c.args.sight content) c.as_str.ensures.value c.in-Some.ensures in
    on_ok c.same_file.result
    (λ gave. same g.A.Receives.gives g.S.Source.told c.args.job.now c.args.levels path c.args.name.now (seen c.args.self.now.archive) (seen c.same_file.new.self)
    c.args.self.now.skipped.items c.args.sight content c.requires.asked c.requires.seen c.requires.file known gave)
    c.same_file.ensures
