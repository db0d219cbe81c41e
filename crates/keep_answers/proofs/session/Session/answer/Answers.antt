use Rattle.keep_jobs.specs.Kits.{kit_view}
use Rattle.keep_answers.proofs.AnswerLemmas.{AnswersDue-bad, AnswersDue-meant, AnswersMeant-puts}
use Rattle.keep_answers.proofs.MeaningLemmas.{Arms-told, arm_there}
use Rattle.keep_answers.specs.Meaning as meaning
use Rattle.keep_answers.specs.Meaning.{meant_by}
use Rattle.keep_answers.specs.State.{state_of}
use Rattle.keep_answers.proofs.session.Session.answer.Goals as goal

pub arm-outcome-requires-clause-there : goal.arm-outcome-requires-clause-there
arm-outcome-requires-clause-there g c =
    let state = state_of (kit_view c.args.kit.now) c.args.self.now c.args.book.now in
    arm_there state c.args.command c.in-Ok-Arm.name.now c.in-Ok-Arm.place (rw c.in-Ok-Arm.field-0-is at c.in-Ok-Arm.ensures)

pub returns-in-Ok-Add-clause-answers : goal.returns-in-Ok-Add-clause-answers
returns-in-Ok-Add-clause-answers g c =
    let kit = kit_view c.args.kit.now in
    let state = state_of kit c.args.self.now c.args.book.now in
    AnswersDue-meant _ _ state (state_of kit c.add.new.self c.add.new.book) (meant_by state c.args.command) (meaning.Add c.in-Ok-Add.kind c.in-Ok-Add.bytes.items) _
    (rw c.in-Ok-Add.field-0-is at c.in-Ok-Add.ensures) (c.add.ensures.answers kit)

pub returns-in-Ok-Drop-clause-answers : goal.returns-in-Ok-Drop-clause-answers
returns-in-Ok-Drop-clause-answers g c =
    let kit = kit_view c.args.kit.now in
    let state = state_of kit c.args.self.now c.args.book.now in
    AnswersDue-meant _ _ state (state_of kit c.drop.new.self c.drop.new.book) (meant_by state c.args.command) (meaning.Drop c.in-Ok-Drop.name) _
    (rw c.in-Ok-Drop.field-0-is at c.in-Ok-Drop.ensures) (c.drop.ensures.answers kit)

pub returns-in-Ok-Revision-clause-answers : goal.returns-in-Ok-Revision-clause-answers
returns-in-Ok-Revision-clause-answers g c =
    let kit = kit_view c.args.kit.now in
    let state = state_of kit c.args.self.now c.args.book.now in
    AnswersDue-meant _ _ state (state_of kit c.revise.new.self c.revise.new.book) (meant_by state c.args.command) (meaning.Revise c.in-Ok-Revision.revision) _
    (rw c.in-Ok-Revision.field-0-is at c.in-Ok-Revision.ensures) (c.revise.ensures.answers kit)

pub returns-in-Ok-Cascade-clause-answers : goal.returns-in-Ok-Cascade-clause-answers
returns-in-Ok-Cascade-clause-answers g c =
    let kit = kit_view c.args.kit.now in
    let state = state_of kit c.args.self.now c.args.book.now in
    AnswersDue-meant _ _ state (state_of kit c.cascade.new.self c.cascade.new.book) (meant_by state c.args.command) (meaning.Cascade c.in-Ok-Cascade.number) _
    (rw c.in-Ok-Cascade.field-0-is at c.in-Ok-Cascade.ensures) (c.cascade.ensures.answers kit)

pub returns-in-Ok-Tell-clause-answers : goal.returns-in-Ok-Tell-clause-answers
returns-in-Ok-Tell-clause-answers g c =
    let kit = kit_view c.args.kit.now in
    let state = state_of kit c.args.self.now c.args.book.now in
    AnswersDue-meant _ _ state (state_of kit c.args.self.now c.args.book.now) (meant_by state c.args.command) (meaning.Tell c.in-Ok-Tell.topic) _
    (rw c.in-Ok-Tell.field-0-is at c.in-Ok-Tell.ensures) (c.answer_topic.ensures.answers kit)

pub returns-in-Ok-Compare-clause-answers : goal.returns-in-Ok-Compare-clause-answers
returns-in-Ok-Compare-clause-answers g c =
    let kit = kit_view c.args.kit.now in
    let state = state_of kit c.args.self.now c.args.book.now in
    AnswersDue-meant _ _ state (state_of kit c.args.self.now c.args.book.now) (meant_by state c.args.command) (meaning.Compare c.in-Ok-Compare.name.now c.in-Ok-Compare.noted.now) _
    (rw c.in-Ok-Compare.field-0-is at c.in-Ok-Compare.ensures) (c.compare.ensures.answers kit)

pub returns-in-Ok-Restore-clause-answers : goal.returns-in-Ok-Restore-clause-answers
returns-in-Ok-Restore-clause-answers g c =
    let kit = kit_view c.args.kit.now in
    let state = state_of kit c.args.self.now c.args.book.now in
    AnswersDue-meant _ _ state (state_of kit c.args.self.now c.args.book.now) (meant_by state c.args.command) (meaning.Restore c.in-Ok-Restore.snapshot) _
    (rw c.in-Ok-Restore.field-0-is at c.in-Ok-Restore.ensures) (c.restore.ensures.answers kit)

pub returns-in-Ok-Note-clause-answers : goal.returns-in-Ok-Note-clause-answers
returns-in-Ok-Note-clause-answers g c =
    let kit = kit_view c.args.kit.now in
    let state = state_of kit c.args.self.now c.args.book.now in
    AnswersDue-meant _ _ state (state_of kit c.note.new.self c.args.book.now) (meant_by state c.args.command) (meaning.Note c.in-Ok-Note.name.now) _
    (rw c.in-Ok-Note.field-0-is at c.in-Ok-Note.ensures) (c.note.ensures.answers kit)

pub returns-in-Ok-Arm-clause-answers : goal.returns-in-Ok-Arm-clause-answers
returns-in-Ok-Arm-clause-answers g c =
    let state = state_of (kit_view c.args.kit.now) c.args.self.now c.args.book.now in
    let after = state_of (kit_view c.arm-outcome.new.kit) c.args.self.now c.arm-outcome.new.book in
    let name = c.in-Ok-Arm.name.now in
    let place = c.in-Ok-Arm.place in
    AnswersDue-meant _ _ state after (meant_by state c.args.command) (meaning.Arm name place) _ (rw c.in-Ok-Arm.field-0-is at c.in-Ok-Arm.ensures)
    (AnswersMeant-puts _ _ state after (meaning.Arm name place) _ _ c.write_armed.ensures.puts
    (Arms-told state after name place c.arm-outcome.result (c.arm-outcome.ensures.arms c.args.self.now)))

pub returns-in-Err-clause-answers : goal.returns-in-Err-clause-answers
returns-in-Err-clause-answers g c =
    let state = state_of (kit_view c.args.kit.now) c.args.self.now c.args.book.now in
    AnswersDue-bad _ state (meant_by state c.args.command) c.in-Err.why c.in-Err.ensures
