-- What a run begins with that opens its shelf.
use Rattle.std.proofs.Common.{◌≡◌, [], ap}
use Rattle.keep_hooks.specs.Guards.{HooksData}
use Rattle.keep_book.specs.Armed.{hooks_of, on_shelf}
use Rattle.keep_book.specs.declared.book.Book.{Book}
use Rattle.keep_jobs.specs.Job.{SettingsData}
use Rattle.keep_jobs.specs.Kits.{KitData}
use Rattle.keep_script.specs.Begun.{begun, begun_over}

-- a book over which nothing is armed is one that a run begins with
pub begun_by : {S I F g J E h : _} (settings : SettingsData) (kit : KitData) (book : Book S I F g J E h) → hooks_of book ≡ record { vetoes = []; watches = [] }
    → begun_over settings kit book ≡ begun settings kit (on_shelf book)
begun_by settings kit book none =
    ap (λ (hooks : HooksData). record (begun settings kit (on_shelf book)) { armed = hooks }) none
