-- A journal that is read leaf by leaf.
use Rattle.std.specs.Prelude.{◌≡◌, ℕ, ◌<◌, false, [], ◌∷◌, ◌++◌, fold, None, IfSome}
use Rattle.keep_journal.specs.History.{final_after, final_number, last_marks, length_of}
use Rattle.keep_journal.specs.Journal.{Journal}
use Rattle.keep_journal.specs.Lasting.{lasting_among}
use Rattle.keep_reading.specs.Bad.{is_wrong}
use Rattle.keep_reading.specs.Leaves.{entries_of}
use Rattle.keep_reading.specs.declared.leaf.Leaf.{Leaf}

-- the number up to which changes are final after the leaf
abbrev pub top_after : ℕ → Leaf → ℕ
top_after top leaf = fold (λ before e. final_after before e.event) top (entries_of (leaf ∷ []))

-- the journal with what the leaf tells, where changes up to f are final
abbrev pub journal_after : ℕ → Journal → Leaf → Journal
journal_after f j leaf = record j { entries = j.entries ++ lasting_among f (entries_of (leaf ∷ [])) }

-- a leaf can come after this journal, which tells of the changes after f: its number is above, and until the emptying
-- that made f final comes, no other is told
pub record CanCome (f top : ℕ) (j : Journal) (leaf : Leaf) : Type 0 where
  pub final : final_number j ≡ f
  pub first : top < f → last_marks j ≡ None
  pub above : IfSome leaf.event (λ e. length_of j < leaf.at)

-- nothing was wrong with the leaf, and the journal has what it tells
pub record WasAppended (f top : ℕ) (old : Journal) (leaf : Leaf) (up : ℕ) (new : Journal) : Type 0 where
  pub right : is_wrong f top old leaf ≡ false
  pub above : up ≡ top_after top leaf
  pub journal : new ≡ journal_after f old leaf
