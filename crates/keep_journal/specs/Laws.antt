-- The laws of what a journal still tells.
use Rattle.std.specs.Prelude.{◌≡◌, ℕ, ◌<◌, true, List}
use Rattle.keep_repo.specs.Repository.{Repository}
use Rattle.keep_change.specs.declared.change.PackMark.{PackMark}
use Rattle.keep_journal.specs.Event.{emptying}
use Rattle.keep_journal.specs.History.{change_of, final_number, is_in_force, last_change, last_marks, length_of, IsLegal}
use Rattle.keep_journal.specs.Journal.{Journal, posted}
use Rattle.keep_journal.specs.Kept.{kept}
use Rattle.keep_journal.specs.Opening.{IsOpen}
use Rattle.keep_journal.specs.declared.event.Entry.{Entry}
use Rattle.keep_journal.specs.declared.event.Event.{Event}
use Rattle.keep_journal.specs.Lasting.{Follow, lasts, lasting_among, lasting}

-- what a journal says of the changes that aren't final, it still tells
pub record IsKeptBy (j : Journal) : Type 0 where
  pub final_is : final_number (lasting j) ≡ final_number j
  pub last_is : last_change (lasting j) ≡ last_change j
  pub kept_are : kept (lasting j) ≡ kept j
  pub in_force : (m : ℕ) → final_number j < m → is_in_force (lasting j) m ≡ is_in_force j m
  pub changes : (m : ℕ) → final_number j < m → change_of (lasting j) m ≡ change_of j m
  pub length_is : length_of (lasting j) ≡ length_of j

abbrev pub WhatLastsIsKept : Type 0
WhatLastsIsKept = (j : Journal) → IsLegal j → IsKeptBy j

-- so what an open journal still tells is open, over the same opening and with the same live repository
abbrev pub LastingIsOpen : Type 0
LastingIsOpen = (opening : Repository) (j : Journal) (live : Repository) → IsOpen opening j live → IsOpen opening (lasting j) live

-- what is told already is all told
abbrev pub LastingLasts : Type 0
LastingLasts = (j : Journal) → lasting (lasting j) ≡ lasting j

-- an event that tells something, and makes nothing final, comes at the end of what is told
abbrev pub LastingGrows : Type 0
LastingGrows =
    (j : Journal) (k : ℕ) (e : Event) → lasts (final_number j) e ≡ true → final_number (posted j k e) ≡ final_number j
    → lasting (posted j k e) ≡ posted (lasting j) k e

-- and an emptying comes at the end of what tells something then
abbrev pub LastingShrinks : Type 0
LastingShrinks =
    (j : Journal) (k n : ℕ) (marks : List PackMark)
    → lasting (posted j k (emptying n marks)) ≡ posted (record { base = n; entries = lasting_among n j.entries }) k (emptying n marks)

-- entries that follow, from the first change on, end with one that tells something
abbrev pub LastingIsAsLong : Type 0
LastingIsAsLong =
    (es : List Entry) → Follow 0 es
    → length_of (lasting (record { base = 0; entries = es })) ≡ length_of (record { base = 0; entries = es })

-- and have the marks of the last emptying, as any entries do
abbrev pub LastingHasTheMarks : Type 0
LastingHasTheMarks = (j : Journal) → last_marks (lasting j) ≡ last_marks j
