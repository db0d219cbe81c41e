use Rattle.std.proofs.Common.{rules, ◌≡◌, ◌∙◌, [], ◌∷◌, ◌++◌, Some, None, map, string_bytes, ap, sym, subst}
use Rattle.std.proofs.lemmas.List.{append-nil}
use Rattle.keep_sources.proofs.Leaves.{broken, missed, on_ok, whole}
use Rattle.keep_sources.specs.Given.{DroppedFile, EndedFile}
use Rattle.keep_sources.specs.Met.{change_of, named, sized}
use Rattle.keep_sources.specs.Took.{CopiedFile, skip_view}
use Rattle.keep_sources.proofs.taking.Taking.read_file.Goals as goal

pub returns-in-Err : goal.returns-in-Err
returns-in-Err g c =
    let told = g.S.Source.told in
    let path = string_bytes c.args.path in
    let lost : told.lost path c.in-Err.why = subst (λ p. told.lost p c.in-Err.why) c.as_str.ensures.value c.in-Err.ensures.lost in
    on_ok c.skip.result
    (λ named. missed g.A.Receives.gives told c.args.job.now c.args.levels path c.args.name.now (g.A.Receives.seen c.args.self.now.archive) (g.A.Receives.seen c.skip.new.self.archive)
    c.args.self.now.skipped.items c.skip.new.self.skipped.items c.in-Err.why c.requires.asked lost (ap g.A.Receives.seen c.skip.ensures.archive) named)
    c.skip.ensures.named

pub returns-in-Some : goal.returns-in-Some
returns-in-Some g c =
    let told = g.S.Source.told in
    let gives = g.A.Receives.gives in
    let seen = g.A.Receives.seen in
    let path = string_bytes c.args.path in
    let copied = subst (λ p. CopiedFile told gives p c.args.sight.size (seen c.args.self.now.archive) (seen c.copy.new.self.archive) c.in_ok-copied.copied.size c.in_ok-copied.copied.failure) c.as_str-2.ensures.value c.in_ok-copied.ensures.copied in
    on_ok c.skip-in-Some.result
    (λ named. broken gives told c.args.job.now c.args.levels path c.args.name.now (seen c.args.self.now.archive) (seen c.copy.new.self.archive) (seen c.skip-in-Some.new.self.archive)
    c.args.self.now.skipped.items c.skip-in-Some.new.self.skipped.items c.args.sight c.in_ok-copied.copied.size c.in_ok-copied.copied.failure c.in-Some.why c.requires.asked c.requires.new copied c.in-Some.is
    (subst (gives (seen c.copy.new.self.archive) DroppedFile) (sym (ap seen c.skip-in-Some.ensures.archive)) c.in_ok-drop_file.ensures)
    (named ∙ ap (λ v. map skip_view v.items ++ (path, c.in-Some.why) ∷ []) c.in_ok-copied.ensures.skipped))
    c.skip-in-Some.ensures.named

pub returns-in-Some-change_of : goal.returns-in-Some-change_of
returns-in-Some-change_of g c =
    let told = g.S.Source.told in
    let gives = g.A.Receives.gives in
    let seen = g.A.Receives.seen in
    let path = string_bytes c.args.path in
    let copied = subst (λ p. CopiedFile told gives p c.args.sight.size (seen c.args.self.now.archive) (seen c.copy.new.self.archive) c.in_ok-copied.copied.size c.in_ok-copied.copied.failure) c.as_str-2.ensures.value c.in_ok-copied.ensures.copied in
    let ended : c.in_ok-copied.copied.failure ≡ None = search rules in
    let change : Some c.in-Some-change_of.why ≡ change_of c.in_ok-copied.copied.size c.args.sight.size = sym c.in-Some-change_of.is ∙ c.change_of.ensures in
    on_ok c.skip-in-Some-change_of.result
    (λ told_so. whole gives told c.args.job.now c.args.levels path c.args.name.now (seen c.args.self.now.archive) (seen c.copy.new.self.archive) (seen c.skip-in-Some-change_of.new.self.archive)
    c.args.self.now.skipped.items c.skip-in-Some-change_of.new.self.skipped.items c.args.sight c.in_ok-copied.copied.size c.in_ok-copied.copied.failure c.requires.asked c.requires.new copied ended
    (subst (gives (seen c.copy.new.self.archive) (EndedFile c.args.name.now (sized c.args.sight c.in_ok-copied.copied.size))) (sym (ap seen c.skip-in-Some-change_of.ensures.archive)) c.in_ok-end_file.ensures)
    (told_so ∙ ap (λ v. map skip_view v.items ++ (path, c.in-Some-change_of.why) ∷ []) c.in_ok-copied.ensures.skipped ∙ ap (λ o. map skip_view c.args.self.now.skipped.items ++ named path o) change))
    c.skip-in-Some-change_of.ensures.named

pub returns-in-None : goal.returns-in-None
returns-in-None g c =
    let told = g.S.Source.told in
    let gives = g.A.Receives.gives in
    let seen = g.A.Receives.seen in
    let path = string_bytes c.args.path in
    let copied = subst (λ p. CopiedFile told gives p c.args.sight.size (seen c.args.self.now.archive) (seen c.copy.new.self.archive) c.in_ok-copied.copied.size c.in_ok-copied.copied.failure) c.as_str-2.ensures.value c.in_ok-copied.ensures.copied in
    let ended : c.in_ok-copied.copied.failure ≡ None = search rules in
    let change : None ≡ change_of c.in_ok-copied.copied.size c.args.sight.size = sym c.in-None.is ∙ c.change_of.ensures in
    whole gives told c.args.job.now c.args.levels path c.args.name.now (seen c.args.self.now.archive) (seen c.copy.new.self.archive) (seen c.end_file.new.self)
    c.args.self.now.skipped.items c.copy.new.self.skipped.items c.args.sight c.in_ok-copied.copied.size c.in_ok-copied.copied.failure c.requires.asked c.requires.new copied ended
    c.in_ok-end_file.ensures
    (ap (λ v. map skip_view v.items) c.in_ok-copied.ensures.skipped ∙ sym (append-nil (map skip_view c.args.self.now.skipped.items)) ∙ ap (λ o. map skip_view c.args.self.now.skipped.items ++ named path o) change)
