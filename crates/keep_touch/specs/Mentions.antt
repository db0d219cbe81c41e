-- What is noted of each facet.
use Rattle.std.specs.Prelude.{◌≡◌, ℕ, nat_eq, Bool, List, ◌++◌, Option, Some, None, if◌then◌else◌}
use Rattle.std.specs.List.{filter_map}
use Rattle.std.specs.Option.{option_to_list}
use Rattle.indexmap.specs.IndexSet.{contains}
use Rattle.keep_repo.specs.declared.facet.Facet.{Facet}
use Rattle.keep_change.specs.Fold.{Numbered}
use Rattle.keep_change.specs.Touch.{touches, writes}
use Rattle.keep_journal.specs.History.{committed}
use Rattle.keep_journal.specs.Journal.{Journal}
use Rattle.keep_touch.specs.Followed.{list_of}
use Rattle.keep_touch.specs.declared.mention.Mention.{Mention}
use Rattle.keep_touch.specs.declared.touch.Touch.{Touch}

-- the mentions of the facet
unfoldable pub mentions : Touch → Facet → List Mention
mentions touch facet = list_of touch.lists facet

-- whether change n is among the followed
abbrev pub is_followed : Touch → ℕ → Bool
is_followed touch n = contains nat_eq touch.followed n

-- what is noted of the change at the facet, if it touches the facet
abbrev pub mention_of : Facet → Numbered → Option Mention
mention_of facet n =
    if touches n.change facet
    then Some (record { number = n.number; writes = writes n.change facet })
    else None

-- just these changes are noted, in their order
abbrev pub NotesAre : Touch → List Numbered → Type 0
NotesAre touch ns = (facet : Facet) → mentions touch facet ≡ filter_map (mention_of facet) ns

-- just the committed changes are noted
abbrev pub AreNoted : Touch → Journal → Type 0
AreNoted touch j = NotesAre touch (committed j)

-- the new one has the same notes
abbrev pub NoteTheSame : Touch → Touch → Type 0
NoteTheSame old new = (facet : Facet) → mentions new facet ≡ mentions old facet

-- the new one has a note of this change beside those of the old one, at the end
abbrev pub NotesOneMore : Touch → Touch → Numbered → Type 0
NotesOneMore old new n =
    (facet : Facet) → mentions new facet ≡ mentions old facet ++ option_to_list (mention_of facet n)
