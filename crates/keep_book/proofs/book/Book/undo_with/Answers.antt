-- What the undos are, one after another, is said of the ledger on its shelf.
use Rattle.std.proofs.Common.{◌∙◌, ◌<◌, ℕ, Vec, Some, ap, arith, length, refl, subst}
use Rattle.std.proofs.lemmas.List.{take_all}
use Rattle.std.specs.Global.{Global}
use Rattle.keep_touch.specs.Taken.{AreTaken}
use Rattle.keep_book.specs.Armed.{hooks_of, on_shelf}
use Rattle.keep_book.specs.Cascade.{taken_refusal}
use Rattle.keep_book.proofs.Cascading.{Going, all_taken, as_told, gives, goes_on, next_is_free, nothing_asked, refuses, stops_there}
use Rattle.keep_book.proofs.book.Book.undo_with.Goals as goal

pub returns-in-Err : goal.returns-in-Err
returns-in-Err g c =
    let b = on_shelf c.args.self.now in
    let j = b.state.events in
    let n = c.args.n in
    let asked = refuses (taken_refusal j n) (λ (numbers : Vec ℕ Global). AreTaken j n numbers.items) c.in-Err.refusal c.in-Err.ensures.taken in
    let r = nothing_asked b n c.refused.result.numbers.items c.refused.result.stopped c.in-Err.ensures.open
    (c.refused.ensures.numbers, c.refused.ensures.stopped ∙ ap Some asked) in
    record {
      along = r.along;
      accepted = r.accepted;
      ledger = r.ledger;
      others = r.others;
      ends = r.ends;
      faults = r.faults;
      failures = r.failures;
      stops = r.stops;
      hooks = refl;
      sums = c.requires;
    }

-- nothing leans on the next one
pub take_back-requires-clause-free : goal.take_back-requires-clause-free
take_back-requires-clause-free g c =
    let b = on_shelf c.args.self.now in
    let n = c.args.n in
    let all = c.in-Ok.numbers.items in
    let took =
    gives (taken_refusal b.state.events n) (λ (numbers : Vec ℕ Global). AreTaken b.state.events n numbers.items) c.in-Ok.numbers
    c.in-Ok.ensures.taken in
    let within : c.loop-done.done < length all = omega (arith, c.in-Ok.numbers.ok.0, c.len-done-end.ensures) in
    next_is_free b n c.in-Ok.ensures.open took.0 all took.1 c.loop-done.done c.index.result.now within c.index.ensures
    (on_shelf c.loop-done.self) c.loop-done.invariant.going

pub returns-in-Err-take_back : goal.returns-in-Err-take_back
returns-in-Err-take_back g c =
    let b = on_shelf c.args.self.now in
    let j = b.state.events in
    let n = c.args.n in
    let all = c.in-Ok.numbers.items in
    let after = on_shelf c.take_back.new.self in
    let took = gives (taken_refusal j n) (λ (numbers : Vec ℕ Global). AreTaken j n numbers.items) c.in-Ok.numbers c.in-Ok.ensures.taken in
    let within : c.loop-done.done < length all = omega (arith, c.in-Ok.numbers.ok.0, c.len-done-end.ensures) in
    let responds = c.in-Err-take_back.ensures.responds in
    let stops = stops_there b n c.in-Ok.ensures.open took.0 all took.1 c.loop-done.done c.index.result.now within c.index.ensures
    (on_shelf c.loop-done.self) c.loop-done.invariant.going (hooks_of c.loop-done.self).vetoes after c.in-Err-take_back.refusal
    (record { replies = responds.replies; ledger = responds.ledger; ends = responds.ends; faults = responds.faults; stops = responds.stops }) in
    let r = as_told b n _ _ c.stopped_at.result.numbers.items c.stopped_at.result.stopped after c.stopped_at.ensures.numbers c.stopped_at.ensures.stopped stops in
    record {
      along = r.along;
      accepted = r.accepted;
      ledger = r.ledger;
      others = r.others;
      ends = r.ends;
      faults = r.faults;
      failures = r.failures;
      stops = r.stops;
      hooks = responds.hooks ∙ c.loop-done.invariant.hooks;
      sums = responds.sums;
    }

pub loop-done-preserved : goal.loop-done-preserved
loop-done-preserved g c =
    let b = on_shelf c.args.self.now in
    let j = b.state.events in
    let n = c.args.n in
    let all = c.in-Ok.numbers.items in
    let took = gives (taken_refusal j n) (λ (numbers : Vec ℕ Global). AreTaken j n numbers.items) c.in-Ok.numbers c.in-Ok.ensures.taken in
    let within : c.loop-done.done < length all = omega (arith, c.in-Ok.numbers.ok.0, c.len-done-end.ensures) in
    let responds = c.in_default.ensures.responds in
    record {
      going = goes_on b n c.in-Ok.ensures.open took.0 all took.1 c.loop-done.done c.index.result.now within c.index.ensures
          (on_shelf c.loop-done.self) c.loop-done.invariant.going (hooks_of c.loop-done.self).vetoes (on_shelf c.take_back.new.self) c.in_default.field-0
          (record { replies = responds.replies; ledger = responds.ledger; ends = responds.ends; faults = responds.faults; stops = responds.stops });
      hooks = responds.hooks ∙ c.loop-done.invariant.hooks;
      sums = responds.sums;
    }

pub returns : goal.returns
returns g c =
    let b = on_shelf c.args.self.now in
    let j = b.state.events in
    let n = c.args.n in
    let all = c.in-Ok.numbers.items in
    let now = on_shelf c.loop-done.self in
    let took = gives (taken_refusal j n) (λ (numbers : Vec ℕ Global). AreTaken j n numbers.items) c.in-Ok.numbers c.in-Ok.ensures.taken in
    let through = take_all c.loop-done.done all (omega (arith, c.in-Ok.numbers.ok.0, c.len-done-end.ensures)) in
    let r = all_taken b n c.in-Ok.ensures.open took.0 all now took.1 (subst (λ ns. Going b n ns now) through c.loop-done.invariant.going) in
    record {
      along = r.along;
      accepted = r.accepted;
      ledger = r.ledger;
      others = r.others;
      ends = r.ends;
      faults = r.faults;
      failures = r.failures;
      stops = r.stops;
      hooks = c.loop-done.invariant.hooks;
      sums = c.loop-done.invariant.sums;
    }
