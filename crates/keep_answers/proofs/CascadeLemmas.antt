-- What is written and what is left where a change is taken back with all that leans on it.
use Rattle.std.proofs.Common.{◌≡◌, ℕ, refl}
use Rattle.keep_book.specs.Cascade.{Cascades}
use Rattle.keep_book.specs.declared.book.Book.{Book}
use Rattle.keep_book.specs.declared.taken_back.TakenBack.{TakenBack}
use Rattle.keep_jobs.specs.Kits.{KitData}
use Rattle.keep_answers.specs.Cascading.{Cascaded}
use Rattle.keep_answers.specs.State.{session_stopped, state_of}
use Rattle.keep_answers.specs.Text.{taken_answer}
use Rattle.keep_answers.specs.declared.session.Session.{Session}

-- what came of it was answered
pub Cascaded-by : {S I F g J E h : _} (kit : KitData) (session session' : Session) (book book' : Book S I F g J E h) (n : ℕ) (back : TakenBack)
    → Cascades book n back book' → session' ≡ session_stopped session back.stopped
    → Cascaded (state_of kit session book) n (taken_answer back.numbers.items back.stopped) (state_of kit session' book')
Cascaded-by kit session session' book book' n back taken noted = record {
  numbers = back.numbers.items;
  stopped = back.stopped;
  along = taken.along;
  accepted = taken.accepted;
  text = refl;
  ends = taken.ends;
  faults = taken.faults;
  stops = taken.stops;
  left = rw (noted, taken.ledger, taken.hooks) refl;
}
