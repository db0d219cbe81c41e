-- What the first line of a run finds.
use Rattle.std.specs.Prelude.{false, []}
use Rattle.keep_book.specs.Armed.{hooks_of, on_shelf}
use Rattle.keep_book.specs.declared.book.Book.{Book}
use Rattle.keep_jobs.specs.Job.{SettingsData}
use Rattle.keep_jobs.specs.Kits.{KitData}
use Rattle.keep_ledger.specs.OnShelf.{OnShelf}
use Rattle.keep_answers.specs.State.{State, no_notes}

-- this ledger, nothing armed, no notes, and nothing answered yet
abbrev pub begun : SettingsData → KitData → OnShelf → State
begun settings kit ledger = record {
  settings = settings;
  filters = kit.filters;
  book = ledger.state;
  due = ledger.due;
  shelf = ledger.shelf;
  armed = record { vetoes = []; watches = [] };
  spare_vetoes = kit.vetoes;
  spare_watches = kit.watches;
  notes = no_notes;
  faulted = false;
}

-- a book with what is armed over it, no notes, and nothing answered yet
abbrev pub begun_over : {S I F g J E h : _} → SettingsData → KitData → Book S I F g J E h → State
begun_over settings kit book = record (begun settings kit (on_shelf book)) { armed = hooks_of book }
