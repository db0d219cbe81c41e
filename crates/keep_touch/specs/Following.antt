-- How notes follow the events of a journal.
use Rattle.std.specs.Prelude.{ℕ, List}
use Rattle.keep_change.specs.declared.change.Change.{Change}
use Rattle.keep_change.specs.declared.change.PackMark.{PackMark}
use Rattle.keep_journal.specs.Journal.{Journal, posted}
use Rattle.keep_journal.specs.Event.{committing, emptying, redoing, undoing}
use Rattle.keep_touch.specs.Mentions.{AreNoted, NotesOneMore}
use Rattle.keep_touch.specs.declared.touch.Touch.{Touch}

-- after each event just the committed changes are noted, if it was so before: a commit's change has to be noted, and for other events nothing
pub record NotesFollowEvents : Type 0 where
  pub commit : (old new : Touch) (j : Journal) (at n : ℕ) (c : Change) → AreNoted old j
      → NotesOneMore old new (record { number = n; change = c }) → AreNoted new (posted j at (committing n c))
  pub undo : (touch : Touch) (j : Journal) (at n : ℕ) → AreNoted touch j → AreNoted touch (posted j at (undoing n))
  pub redo : (touch : Touch) (j : Journal) (at n : ℕ) → AreNoted touch j → AreNoted touch (posted j at (redoing n))
  pub empty : (touch : Touch) (j : Journal) (at n : ℕ) (marks : List PackMark)
      → AreNoted touch j → AreNoted touch (posted j at (emptying n marks))
