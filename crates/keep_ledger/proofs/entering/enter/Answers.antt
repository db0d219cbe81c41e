-- A commit's change is noted, and other events need no note.
use Rattle.std.proofs.Common.{◌∙◌, Result, Ok, Err, ap, subst, sym}
use Rattle.std.specs.Prelude.{OnOk}
use Rattle.keep_change.specs.declared.turn.Turn.TheVariants.{Make}
use Rattle.keep_journal.specs.Journal.{posted}
use Rattle.keep_journal.specs.declared.event.Entry.{Entry}
use Rattle.keep_journal.specs.declared.event.EventKind.{EventKind}
use Rattle.keep_touch.specs.Mentions.{AreNoted}
use Rattle.keep_ledger.specs.Entering.{CanTurn}
use Rattle.keep_ledger.proofs.entering.enter.Goals as goal

on_ok : {T E : Type 0} {A B : Type 0} (r : Result T E) → (A → B) → OnOk r A → OnOk r B
on_ok (Ok t) f a = f a
on_ok (Err e) f a = tt

in_any_case : {T E : Type 0} {A : Type 0} (r : Result T E) → A → OnOk r A
in_any_case (Ok t) a = a
in_any_case (Err e) a = tt

pub enter_noted-requires-clause-once : goal.enter_noted-requires-clause-once
enter_noted-requires-clause-once g c =
    let is = ap (λ (e : Entry). e.event.kind) (sym c.as_entry.ensures) ∙ c.in-Commit.is in
    let can : CanTurn Make c.in-Commit.change c.args.live.now = rw is at c.requires.can in
    rw c.as_change.ensures can.once

pub returns-in-Commit-clause-noted : goal.returns-in-Commit-clause-noted
returns-in-Commit-clause-noted g c =
    let j = c.args.history.now.journal in
    let entry = c.args.prepared.now.entry in
    let touch = c.enter_noted.new.touch in
    on_ok c.enter_noted.result
    (λ one. subst (λ (kind : EventKind). AreNoted touch (posted j entry.at (record { number = entry.event.number; kind = kind }))) (sym (ap (λ (e : Entry). e.event.kind) (sym c.as_entry.ensures) ∙ c.in-Commit.is))
    (c.notes_follow_events.ensures.commit c.args.touch.now touch j entry.at entry.event.number c.in-Commit.change c.requires.noted (rw c.as_change.ensures at one)))
    c.enter_noted.ensures.noted

pub returns-in-Undo-clause-noted : goal.returns-in-Undo-clause-noted
returns-in-Undo-clause-noted g c =
    let j = c.args.history.now.journal in
    let entry = c.args.prepared.now.entry in
    in_any_case c.enter_again.result
    (subst (λ (kind : EventKind). AreNoted c.args.touch.now (posted j entry.at (record { number = entry.event.number; kind = kind }))) (sym (ap (λ (e : Entry). e.event.kind) (sym c.as_entry.ensures) ∙ c.in-Undo.is))
    (c.notes_follow_events.ensures.undo c.args.touch.now j entry.at entry.event.number c.requires.noted))

pub returns-in-Redo-clause-noted : goal.returns-in-Redo-clause-noted
returns-in-Redo-clause-noted g c =
    let j = c.args.history.now.journal in
    let entry = c.args.prepared.now.entry in
    in_any_case c.enter_again-in-Redo.result
    (subst (λ (kind : EventKind). AreNoted c.args.touch.now (posted j entry.at (record { number = entry.event.number; kind = kind }))) (sym (ap (λ (e : Entry). e.event.kind) (sym c.as_entry.ensures) ∙ c.in-Redo.is))
    (c.notes_follow_events.ensures.redo c.args.touch.now j entry.at entry.event.number c.requires.noted))
