use Rattle.std.proofs.Common.{rules, ◌≡◌, ◌∙◌, ◌+◌, ◌≤◌, true, false, [], ◌∷◌, ◌++◌, map, take, string_bytes, ap, sym, subst, arith}
use Rattle.std.proofs.lemmas.Grind.{common_steps}
use Rattle.keep_sources.proofs.Joined.{took_leaf, took_more}
use Rattle.keep_sources.proofs.Leaves.{folder_ends, left_out, missed, on_ok, other, too_deep}
use Rattle.keep_sources.specs.Job.{is_asked}
use Rattle.keep_sources.specs.Took.{Took, is_other}
use Rattle.keep_sources.proofs.taking.Taking.+walking.Goals as goal

pub walk_folder-returns-then-levels-eq0 : goal.walk_folder-returns-then-levels-eq0
walk_folder-returns-then-levels-eq0 g t c =
    let needs = c.requires.1.1.1.1 in
    let told = g.S.Source.told in
    let gives = g.A.Receives.gives in
    let seen = g.A.Receives.seen in
    let path = string_bytes c.args.path in
    let s = c.args.self.now.skipped.items in
    let s' = c.skip.new.self.skipped.items in
    let g0 = seen c.args.self.now.archive in
    let g1 = seen c.skip.new.self.archive in
    on_ok c.skip.result
    (λ says. took_leaf gives told c.args.job.now c.args.levels c.args.folder.now c.args.name.now path g0 g1 s s' needs.0
    (too_deep gives told c.args.job.now c.args.levels path c.args.name.now g0 g1 s s' c.args.sight.now needs.1.0 c.if-levels-eq0.true needs.1.1.0 needs.1.1.1
    (ap seen c.skip.ensures.archive) says))
    c.skip.ensures.named

pub walk_folder-returns-in-Err : goal.walk_folder-returns-in-Err
walk_folder-returns-in-Err g t c =
    let needs = c.requires.1.1.1.1 in
    let told = g.S.Source.told in
    let gives = g.A.Receives.gives in
    let seen = g.A.Receives.seen in
    let path = string_bytes c.args.path in
    let s = c.args.self.now.skipped.items in
    let s' = c.skip-in-Err.new.self.skipped.items in
    let g0 = seen c.args.self.now.archive in
    let g1 = seen c.skip-in-Err.new.self.archive in
    let lost : told.lost path c.in-Err.why = subst (λ p. told.lost p c.in-Err.why) c.as_str.ensures.value c.in-Err.ensures.lost in
    on_ok c.skip-in-Err.result
    (λ says. took_leaf gives told c.args.job.now c.args.levels c.args.folder.now c.args.name.now path g0 g1 s s' needs.0
    (missed gives told c.args.job.now c.args.levels path c.args.name.now g0 g1 s s' c.in-Err.why needs.1.0 lost (ap seen c.skip-in-Err.ensures.archive) says))
    c.skip-in-Err.ensures.named

pub walk_folder-returns : goal.walk_folder-returns
walk_folder-returns g t c =
    let needs = c.requires.1.1.1.1 in
    let told = g.S.Source.told in
    let seen = g.A.Receives.seen in
    let path = string_bytes c.args.path in
    let text = c.as_str.result.now in
    let same : c.as_str-2.result.now ≡ text = c.as_str-2.ensures.value ∙ sym c.as_str.ensures.value in
    let took = c.in_ok-walk_listed.ensures in
    let reached : 1 ≤ c.args.levels = omega (arith, c.if-levels-eq0.false) in
    on_ok c.close_folder.result
    (λ closed. folder_ends g.A.Receives.gives told c.args.job.now c.args.levels c.args.folder.now c.args.name.now path c.as_str-2.result.now c.args.sight.now c.in-Ok.listing
    (seen c.args.self.now.archive) (seen c.open_folder.new.self) (seen c.walk_listed.new.self.archive) (seen c.make_room.new.self.archive) (seen c.close_folder.new.self)
    c.args.self.now.skipped.items c.walk_listed.new.self.skipped.items c.make_room.new.self.skipped.items
    needs.0 c.as_str-2.ensures.value needs.1.0 needs.1.1.0 needs.1.1.1 reached (subst (λ p. told.listed p c.in-Ok.listing) (sym same) c.in-Ok.ensures.listed)
    c.in_ok-open_folder.ensures took c.in_ok-make_room.ensures.same (ap (λ v. v.items) c.in_ok-make_room.ensures.skipped) closed)
    c.close_folder.ensures

pub walk_name-returns-then-not-branch : goal.walk_name-returns-then-not-branch
walk_name-returns-then-not-branch g t c =
    let path = string_bytes c.in_ok-path.path in
    let out : is_asked c.args.job.now path ≡ false = subst (λ p. is_asked c.args.job.now p ≡ false) c.as_str.ensures.value (sym c.in_ok-is_asked.ensures ∙ c.if-not-branch.true) in
    let g0 = g.A.Receives.seen c.args.self.now.archive in
    let s = c.args.self.now.skipped.items in
    took_leaf g.A.Receives.gives g.S.Source.told c.args.job.now c.args.levels c.args.folder.now c.args.name.now path g0 g0 s s c.in_ok-path.ensures
    (left_out g.A.Receives.gives g.S.Source.told c.args.job.now c.args.levels path c.args.name.now g0 s out)

pub walk_name-returns-in-Err : goal.walk_name-returns-in-Err
walk_name-returns-in-Err g t c =
    let told = g.S.Source.told in
    let gives = g.A.Receives.gives in
    let seen = g.A.Receives.seen in
    let path = string_bytes c.in_ok-path.path in
    let s = c.args.self.now.skipped.items in
    let s' = c.skip.new.self.skipped.items in
    let g0 = seen c.args.self.now.archive in
    let g1 = seen c.skip.new.self.archive in
    let asked : is_asked c.args.job.now path ≡ true = subst (λ p. is_asked c.args.job.now p ≡ true) c.as_str.ensures.value (sym c.in_ok-is_asked.ensures ∙ c.if-not-branch.false) in
    let lost : told.lost path c.in-Err.why = subst (λ p. told.lost p c.in-Err.why) c.as_str-2.ensures.value c.in-Err.ensures.lost in
    on_ok c.skip.result
    (λ says. took_leaf gives told c.args.job.now c.args.levels c.args.folder.now c.args.name.now path g0 g1 s s' c.in_ok-path.ensures
    (missed gives told c.args.job.now c.args.levels path c.args.name.now g0 g1 s s' c.in-Err.why asked lost (ap seen c.skip.ensures.archive) says))
    c.skip.ensures.named

pub walk_name-returns-in-File : goal.walk_name-returns-in-File
walk_name-returns-in-File g t c =
    let seen = g.A.Receives.seen in
    let path = string_bytes c.in_ok-path.path in
    on_ok c.give_file.result
    (took_leaf g.A.Receives.gives g.S.Source.told c.args.job.now c.args.levels c.args.folder.now c.args.name.now path (seen c.args.self.now.archive) (seen c.give_file.new.self.archive)
    c.args.self.now.skipped.items c.give_file.new.self.skipped.items c.in_ok-path.ensures)
    c.give_file.ensures

pub walk_name-returns-in-Link : goal.walk_name-returns-in-Link
walk_name-returns-in-Link g t c =
    let told = g.S.Source.told in
    let gives = g.A.Receives.gives in
    let seen = g.A.Receives.seen in
    let path = string_bytes c.in_ok-path.path in
    let s = c.args.self.now.skipped.items in
    let g0 = seen c.args.self.now.archive in
    let g1 = seen c.add_other.new.self in
    let asked : is_asked c.args.job.now path ≡ true = subst (λ p. is_asked c.args.job.now p ≡ true) c.as_str.ensures.value (sym c.in_ok-is_asked.ensures ∙ c.if-not-branch.false) in
    let saw : told.saw path c.in-Ok.sight = subst (λ p. told.saw p c.in-Ok.sight) c.as_str-2.ensures.value c.in-Ok.ensures.seen in
    let is : is_other c.in-Ok.sight.kind ≡ true = search rules in
    on_ok c.add_other.result
    (λ gave. took_leaf gives told c.args.job.now c.args.levels c.args.folder.now c.args.name.now path g0 g1 s s c.in_ok-path.ensures
    (other gives told c.args.job.now c.args.levels path c.args.name.now g0 g1 s c.in-Ok.sight asked saw is gave))
    c.add_other.ensures

pub walk_names-loop-name-preserved : goal.walk_names-loop-name-preserved
walk_names-loop-name-preserved g t c =
    let gives = g.A.Receives.gives in
    let seen = g.A.Receives.seen in
    let told = g.S.Source.told in
    let names = c.args.names.now in
    let i = c.loop-name.name-index in
    let name = c.as_str.result.now in
    let before = map string_bytes (take i names) in
    let more : map string_bytes (take (i + 1) names) ≡ before ++ name ∷ [] = grind (arith, common_steps, c.name-item.is, c.as_str.ensures.value, c.loop-name-test.true) in
    subst
    (λ ns. Took told gives c.args.job.now c.args.levels c.args.folder.now ns (seen c.args.self.now.archive) (seen c.walk_name.new.self.archive) c.args.self.now.skipped.items
    c.walk_name.new.self.skipped.items)
    (sym more)
    (took_more gives told c.args.job.now c.args.levels c.args.folder.now before (name ∷ []) (seen c.args.self.now.archive) (seen c.loop-name.self.archive) (seen c.walk_name.new.self.archive)
    c.args.self.now.skipped.items c.loop-name.self.skipped.items c.walk_name.new.self.skipped.items c.loop-name.invariant c.in_ok-walk_name.ensures)
