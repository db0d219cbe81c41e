-- The last event is the one that is told last.
use Rattle.std.proofs.Common.{◌≡◌, Option, subst}
use Rattle.std.specs.Prelude.{IfOk}
use Rattle.keep_journal.specs.declared.event.Event.{Event}
use Rattle.keep_opening.proofs.Lasting.{last_is, settled_moves}
use Rattle.keep_pages.proofs.Ending.{commit_last, empty_last, redo_last, undo_last}
use Rattle.keep_pages.proofs.last.last_event.Goals as goal

pub commit_of-requires : goal.commit_of-requires
commit_of-requires c =
    let told = last_is _ _ _ c.notices.ensures.exact c.in-Some.ensures.value in
    (settled_moves _ _ c.notices.ensures.legal told (λ is. cc (is, c.in-Commit.is))).0

pub returns-in-Commit : goal.returns-in-Commit
returns-in-Commit c opening is =
    let told = last_is _ _ _ c.notices.ensures.exact c.in-Some.ensures.value in
    subst (λ (o : Option Event). IfOk c.commit_of.result (λ last. last ≡ o)) (commit_last _ _ told c.notices.ensures.legal c.in-Commit.is) c.commit_of.ensures

pub returns-in-Undo : goal.returns-in-Undo
returns-in-Undo c opening is =
    let told = last_is _ _ _ c.notices.ensures.exact c.in-Some.ensures.value in
    undo_last c.args.history.now.journal c.in-Some.last.now told c.in-Undo.is

pub returns-in-Redo : goal.returns-in-Redo
returns-in-Redo c opening is =
    let told = last_is _ _ _ c.notices.ensures.exact c.in-Some.ensures.value in
    redo_last c.args.history.now.journal c.in-Some.last.now told c.in-Redo.is

pub returns-in_ok-marks-in-Empty : goal.returns-in_ok-marks-in-Empty
returns-in_ok-marks-in-Empty c opening is =
    let told = last_is _ _ _ c.notices.ensures.exact c.in-Some.ensures.value in
    empty_last _ _ told opening c.args.live.now c.in_ok-marks-in-Empty.marks is c.in-Empty.is c.in_ok-marks-in-Empty.ensures
