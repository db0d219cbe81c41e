use Rattle.std.proofs.Common.{arith, option_map, rules}
use Rattle.std.proofs.lemmas.Result.{err_from_is_err_and}
use Rattle.keep_docs.proofs.Answered.{found_from_ok, none_from_err}
use Rattle.keep_entries.specs.Shape.{read_of}
use Rattle.keep_entries.specs.declared.misread.Misread.TheVariants.{OtherShape}
use Rattle.keep_entries.proofs.ReadExactly.{event_found, none_found, read_is}
use Rattle.keep_entries.proofs.Telling.{nothing_else, nothing_read}
use Rattle.keep_entries.proofs.entry.event_of.Goals as goal

pub returns-in_err-event-clause-nothing : goal.returns-in_err-event-clause-nothing
returns-in_err-event-clause-nothing c =
    let bytes = c.args.bytes.now in
    let due = err_from_is_err_and c.from_residual.result c.from_residual.ensures.1 in
    rw (due.1, due.2) (λ other. nothing_read c.args.k bytes (none_found (read_of bytes) (none_from_err (option_map (λ told. told.1) (read_of bytes)) OtherShape _ (c.in_err-event.ensures other)).0))

pub returns-then-event-eq0-clause-nothing : goal.returns-then-event-eq0-clause-nothing
returns-then-event-eq0-clause-nothing c =
    let bytes = c.args.bytes.now in
    let event = c.in_ok-event.event in
    let found = event_found bytes event (found_from_ok (option_map (λ told. told.1) (read_of bytes)) OtherShape event c.in_ok-event.ensures) in
    λ _. nothing_else c.args.k bytes found.0 event found.1 (λ is same. omega (arith, is.number, c.if-event-eq0.true))

pub returns-then-not-is_proper-clause-nothing : goal.returns-then-not-is_proper-clause-nothing
returns-then-not-is_proper-clause-nothing c =
    let bytes = c.args.bytes.now in
    let event = c.in_ok-event.event in
    let found = event_found bytes event (found_from_ok (option_map (λ told. told.1) (read_of bytes)) OtherShape event c.in_ok-event.ensures) in
    λ _. nothing_else c.args.k bytes found.0 event found.1 (λ is same. let passed = c.is_proper.ensures.1 is.proper in cc)

pub returns-clause-entry : goal.returns-clause-entry
returns-clause-entry c =
    let bytes = c.args.bytes.now in
    let event = c.in_ok-event.event in
    let found = event_found bytes event (found_from_ok (option_map (λ told. told.1) (read_of bytes)) OtherShape event c.in_ok-event.ensures) in
    record {
      at = omega (arith, c.if-k-eq0.false);
      number = omega (arith, c.if-event-eq0.false);
      fits = (read_is bytes found.0 event found.1).0;
      proper = c.is_proper.ensures.0 (search rules);
    }

pub returns-clause-spelled : goal.returns-clause-spelled
returns-clause-spelled c =
    let bytes = c.args.bytes.now in
    let event = c.in_ok-event.event in
    let found = event_found bytes event (found_from_ok (option_map (λ told. told.1) (read_of bytes)) OtherShape event c.in_ok-event.ensures) in
    let is = read_is bytes found.0 event found.1 in
    (found.0, is.1, is.2)
