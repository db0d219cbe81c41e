use Rattle.std.proofs.Common.{◌∙◌, rules}
use Rattle.std.proofs.lemmas.Slice.Zip.{zip_turn}
use Rattle.keep_catalog.proofs.HashNotes.{told_right}
use Rattle.keep_catalog.proofs.batches.note_ids.Goals as goal

pub loop-place-preserved : goal.loop-place-preserved
loop-place-preserved c =
    let turn = zip_turn c.args.places.now c.args.ids.now c.loop-place.yielded c.into_iter-place-iterator.result c.loop-place.place-iterator c.next.new.self c.next.result
    (search rules) (search rules) c.loop-place.yielded_by (c.in-Some.place, c.in-Some.id) c.in-Some.is c.next.ensures.steps in
    record {
      stored = λ r before. c.note.ensures.stored r (c.loop-place.invariant.stored r before);
      hashed = λ r have before.
          c.note.ensures.hashed r
          (c.eq.ensures ∙ told_right r c.args.places.now c.args.ids.now _ c.in-Some.place.now c.in-Some.id.now have turn.0 turn.1 (turn.2 _) (turn.3 _))
          (c.loop-place.invariant.hashed r have before);
    }

pub returns-in_err-note-clause-hashed : goal.returns-in_err-note-clause-hashed
returns-in_err-note-clause-hashed c r have before =
    let turn = zip_turn c.args.places.now c.args.ids.now c.loop-place.yielded c.into_iter-place-iterator.result c.loop-place.place-iterator c.next.new.self c.next.result
    (search rules) (search rules) c.loop-place.yielded_by (c.in-Some.place, c.in-Some.id) c.in-Some.is c.next.ensures.steps in
    c.note.ensures.hashed r
    (c.eq.ensures ∙ told_right r c.args.places.now c.args.ids.now _ c.in-Some.place.now c.in-Some.id.now have turn.0 turn.1 (turn.2 _) (turn.3 _))
    (c.loop-place.invariant.hashed r have before)
