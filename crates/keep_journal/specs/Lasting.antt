-- What events still tell once changes are final.
use Rattle.std.specs.Prelude.{ℕ, ◌<◌, ◌==◌, nat_lt, Bool, List, [], ◌∷◌, filter, Option}
use Rattle.std.specs.List.{find}
use Rattle.keep_journal.specs.History.{final_after, final_number}
use Rattle.keep_journal.specs.Journal.{Journal}
use Rattle.keep_journal.specs.declared.event.Entry.{Entry}
use Rattle.keep_journal.specs.declared.event.Event.{Event}
use Rattle.keep_journal.specs.declared.event.EventKind.{EventKind}
use Rattle.keep_journal.specs.declared.event.EventKind.TheVariants.{Empty}

-- whether the event still tells something where changes up to f are final: it is about a later one, or is the emptying
-- that made f final
abbrev pub lasts_by : ℕ → ℕ → EventKind → Bool
lasts_by f n (Empty marks) = n == f
lasts_by f n _ = nat_lt f n

abbrev pub lasts : ℕ → Event → Bool
lasts f e = lasts_by f e.number e.kind

-- those of the entries that still tell something
abbrev pub lasting_among : ℕ → List Entry → List Entry
lasting_among f es = filter (λ e. lasts f e.event) es

-- what the journal still tells: a history that begins with the final number
abbrev pub lasting : Journal → Journal
lasting j = record { base = final_number j; entries = lasting_among (final_number j) j.entries }

-- where changes up to top are final, each of the entries is about a change that isn't final when it comes
abbrev pub Follow : ℕ → List Entry → Type 0
Follow top [] = Unit {0}
Follow top (e ∷ es) = (top < e.event.number) × Follow (final_after top e.event) es

-- the entry of this number
abbrev pub entry_at : List Entry → ℕ → Option Entry
entry_at es k = find (λ e. e.at == k) es
