use Rattle.std.proofs.Common.{ℕ, ◌<◌, Bool, List, Option, IfSome, inl, inr, length, ap, ap₂, subst, ◌∙◌, refl}
use Rattle.std.proofs.KnownBytes.{prepend_known-nil}
use Rattle.std.specs.Io.KnownBytes.{prepend_known}
use Rattle.keep_jobs.specs.Job.{settings_view}
use Rattle.keep_jobs.specs.Kits.{kit_view}
use Rattle.keep_jobs.specs.Job.{SettingsData}
use Rattle.keep_repo.specs.Repository.{Repository}
use Rattle.keep_script.proofs.RunLemmas.{Ends-begun, Ends-finished, Ends-nothing, unfinished}
use Rattle.keep_script.specs.Line.{longest_script}
use Rattle.keep_answers.specs.State.{state_of}
use Rattle.keep_script.specs.Begun.{begun_over}
use Rattle.keep_script.specs.Status.{ReachesEnd}
use Rattle.keep_script.proofs.script.run_on.Goals as goal

pub returns-in_default-clause-answers : goal.returns-in_default-clause-answers
returns-in_default-clause-answers g c =
    let begun = begun_over (settings_view c.args.setup.settings) (kit_view c.args.kit.now) c.args.book.now in
    let none = Ends-nothing (g.R.Read.remaining c.args.reader.now) (g.R.Read.remaining c.args.reader.now) (g.W.Write.contents c.args.writer.now) begun in
    (none.0, none.1, (begun, record { ledger = refl; armed = refl }, refl, none.2))

pub returns-clause-answers : goal.returns-clause-answers
returns-clause-answers g c =
    let before =
    ap₂ (λ (s : SettingsData) (p : (List ℕ → Option Repository) × Bool). record (begun_over s (kit_view c.args.kit.now) c.args.book.now) { notes = p.0; faulted = p.1 })
    c.in-Ok.ensures.settings (ap₂ (λ (n : List ℕ → Option Repository) (f : Bool). (n, f)) c.in-Ok.ensures.notes c.in-Ok.ensures.faultless) in
    let read = ap (λ bs. prepend_known bs (g.R.Read.remaining c.args.reader.now)) c.in-Ok.ensures.unread ∙ prepend_known-nil (g.R.Read.remaining c.args.reader.now) in
    let whole = Ends-begun _ (g.R.Read.remaining c.args.reader.now) _ _ _ _ (begun_over (settings_view c.args.setup.settings) (kit_view c.args.kit.now) c.args.book.now) _ _ before read c.answer_all-status.ensures.answers in
    let handed = Ends-finished (g.R.Read.remaining c.args.reader.now) _ _ _ _ (begun_over (settings_view c.args.setup.settings) (kit_view c.args.kit.now) c.args.book.now) _ _ _ whole c.finish.ensures.kept c.finish.ensures.status in
    (handed.0, handed.1, (state_of (kit_view c.answer_all-status.new.kit) c.answer_all-status.new.self.session c.answer_all-status.new.book, record { ledger = refl; armed = refl }, refl, handed.2))

pub returns-clause-limit : goal.returns-clause-limit
returns-clause-limit g c done =
    let known = g.R.Read.remaining c.args.reader.now in
    let read = ap (λ bs. prepend_known bs known) c.in-Ok.ensures.unread ∙ prepend_known-nil known in
    let through : ReachesEnd c.answer_all-status.result =
    elim c.finish.ensures.status [ inl kept ↦ subst ReachesEnd kept done | inr failed ↦ absurd (unfinished (subst ReachesEnd failed done)) ] in
    subst (λ k. IfSome k (λ script. length script < longest_script)) read (c.answer_all-status.ensures.limit through)
