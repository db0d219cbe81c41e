-- What contracts see of what a run leaves of its shelf.
use Rattle.keep_hooks.specs.Guards.{HooksData}
use Rattle.keep_shelf.specs.Shelved.{Shelved}
use Rattle.keep_ledger.specs.OnShelf.{OnShelf}

-- the book that was opened of it, by its ledger on the shelf and what is armed over it; or the shelf, which wasn't opened
pub data LeftData : Type 0 where
  LeftBook : OnShelf → HooksData → LeftData
  LeftShelf : Shelved → LeftData
