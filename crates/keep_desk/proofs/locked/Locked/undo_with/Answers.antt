-- What the undos are, one after another, is said of the list of events.
use Rattle.std.proofs.Common.{◌<◌, ◌+◌, ℕ, List, Vec, Some, None, arith, inl, inr, length, subst, sym, take}
use Rattle.std.proofs.lemmas.List.{take_all}
use Rattle.std.specs.Global.{Global}
use mathlib.Core.List.{IsPrefix}
use Rattle.keep_journal.specs.declared.event.Event.{Event}
use Rattle.keep_touch.specs.Taken.{AreTaken}
use Rattle.keep_book.specs.Cascade.{count_at, taken_refusal}
use Rattle.keep_book.proofs.Cascading.{gives, refuses}
use Rattle.keep_chronicle.proofs.Prefixes.{prefix_self, prefix_trans}
use Rattle.keep_pages.specs.Histories.{state_of}
use Rattle.keep_desk.specs.Cascade.{GoesDown, refusal_of}
use Rattle.keep_desk.proofs.Answering.{held_up}
use Rattle.keep_desk.proofs.Cascading.{Going, all_taken, as_told, asks_nothing, goes_on, stops_there}
use Rattle.keep_desk.proofs.locked.Locked.undo_with.Goals as goal

-- anybody may ask for an undo
pub change_once-requires-clause-may : goal.change_once-requires-clause-may
change_once-requires-clause-may g c κs within = (c.loop-done.self.journal, prefix_self c.loop-done.self.journal, tt)

pub returns-in-Err-clause-taken_back : goal.returns-in-Err-clause-taken_back
returns-in-Err-clause-taken_back g c = record {
  on = c.args.pass.now.seen;
  begins = prefix_self c.args.pass.now.seen;
  tells = inr (
    c.refused.ensures.numbers,
    c.refused.ensures.stopped,
    c.in-Err.ensures.same,
    held_up g.B.Naming.hooks.vetoes g.B.Naming.opening c.args.pass.now.seen c.args.self.now c.catch_up.ensures.within c.in-Err.ensures.late,
  );
}

pub returns-in-Err-taken_with-clause-taken_back : goal.returns-in-Err-taken_with-clause-taken_back
returns-in-Err-taken_with-clause-taken_back g c =
    let opening = g.B.Naming.opening in
    let n = c.args.n in
    let on = c.catch_up.new.self.journal in
    let j = (state_of opening on).events in
    let asked = refuses (taken_refusal j n) (λ (numbers : Vec ℕ Global). AreTaken j n numbers.items) c.in-Err-taken_with.refusal c.in-Err-taken_with.ensures.taken in
    let told = c.refused-in-Err-taken_with.result in
    record {
      on = on;
      begins = subst (λ (es : List Event). IsPrefix c.args.pass.now.seen es) c.in_default.ensures.seen c.catch_up.ensures.begins;
      tells = inl (asks_nothing opening n on told.numbers.items told.stopped c.in-Err-taken_with.refusal c.catch_up.new.pass.seen
          c.refused-in-Err-taken_with.ensures.numbers c.refused-in-Err-taken_with.ensures.stopped asked c.in_default.ensures.seen);
    }

pub returns-in-Err-change_once-clause-taken_back : goal.returns-in-Err-change_once-clause-taken_back
returns-in-Err-change_once-clause-taken_back g c =
    let opening = g.B.Naming.opening in
    let n = c.args.n in
    let on = c.catch_up.new.self.journal in
    let all = c.in-Ok.numbers.items in
    let error = c.in-Err-change_once.error in
    let j = (state_of opening on).events in
    let took = gives (taken_refusal j n) (λ (numbers : Vec ℕ Global). AreTaken j n numbers.items) c.in-Ok.numbers c.in-Ok.ensures.taken in
    let within : c.loop-done.done < length all = omega (arith, c.in-Ok.numbers.ok.0, c.len-done-end.ensures) in
    let goes = stops_there g.B.Naming.hooks.vetoes opening n on c.in-Ok.ensures.history took.0 all took.1 c.loop-done.done c.index.result.now
    within c.index.ensures c.loop-done.self.journal c.loop-done.invariant.going error c.change_once.new.pass.seen
    c.in-Err-change_once.ensures.tells in
    record {
      on = on;
      begins = subst (λ (es : List Event). IsPrefix c.args.pass.now.seen es) c.in_default.ensures.seen c.catch_up.ensures.begins;
      tells = inl (as_told opening n on (take (count_at c.loop-done.done (refusal_of error)) all) (Some error) c.stopped_at.result.numbers.items
          c.stopped_at.result.stopped c.change_once.new.pass.seen c.stopped_at.ensures.numbers c.stopped_at.ensures.stopped goes);
    }

pub loop-done-preserved : goal.loop-done-preserved
loop-done-preserved g c =
    let opening = g.B.Naming.opening in
    let n = c.args.n in
    let on = c.catch_up.new.self.journal in
    let all = c.in-Ok.numbers.items in
    let j = (state_of opening on).events in
    let took = gives (taken_refusal j n) (λ (numbers : Vec ℕ Global). AreTaken j n numbers.items) c.in-Ok.numbers c.in-Ok.ensures.taken in
    let within : c.loop-done.done < length all = omega (arith, c.in-Ok.numbers.ok.0, c.len-done-end.ensures) in
    let going = goes_on g.B.Naming.hooks.vetoes opening n on c.in-Ok.ensures.history took.0 all took.1 c.loop-done.done c.index.result.now
    within c.index.ensures c.loop-done.self.journal c.loop-done.invariant.going c.in_default-change_once.field-0 c.change_once.new.pass.seen
    c.in_default-change_once.ensures.tells in
    record {
      going = subst (Going opening on (take (c.loop-done.done + 1) all)) c.in_default-change_once.ensures.told going;
      published = c.in_default-change_once.ensures.published;
      seen = c.in_default-change_once.ensures.told;
      begins = prefix_trans c.args.pass.now.seen c.loop-done.pass.seen c.change_once.new.pass.seen c.loop-done.invariant.begins
          c.change_once.ensures.begins;
      legal = c.change_once.ensures.legal;
      counted = omega (arith, c.in_default-change_once.ensures.counted, c.loop-done.invariant.counted);
    }

pub returns-clause-taken_back : goal.returns-clause-taken_back
returns-clause-taken_back g c =
    let opening = g.B.Naming.opening in
    let n = c.args.n in
    let on = c.catch_up.new.self.journal in
    let all = c.in-Ok.numbers.items in
    let j = (state_of opening on).events in
    let took = gives (taken_refusal j n) (λ (numbers : Vec ℕ Global). AreTaken j n numbers.items) c.in-Ok.numbers c.in-Ok.ensures.taken in
    let through = take_all c.loop-done.done all (omega (arith, c.in-Ok.numbers.ok.0, c.len-done-end.ensures)) in
    let now = c.loop-done.self.journal in
    let goes = all_taken g.B.Naming.hooks.vetoes opening n on c.in-Ok.ensures.history took.0 all now took.1
    (subst (λ ns. Going opening on ns now) through c.loop-done.invariant.going) in
    record {
      on = on;
      begins = subst (λ (es : List Event). IsPrefix c.args.pass.now.seen es) c.in_default.ensures.seen c.catch_up.ensures.begins;
      tells = inl (subst (GoesDown opening n on all None) (sym c.loop-done.invariant.seen) goes);
    }
