-- The texts of replies to what a line asks to be done, each without a line's end.
use Rattle.std.specs.Prelude.{ℕ, List, ◌++◌, length, codes}
use Rattle.std.specs.Fmt.{decimal}
use Rattle.std.specs.List.{flat_map}
use Rattle.keep_change.specs.declared.change.Change.{Change}
use Rattle.keep_journal.specs.declared.request.Told.{Told}
use Rattle.keep_replies.specs.declared.reply_lines.Committed.{Committed}
use Rattle.keep_replies.specs.declared.reply_lines.Sizes.{Sizes}

-- an accepted request: `ok N at K`
abbrev pub told_text : Told → List ℕ
told_text told = codes "ok " ++ (decimal told.number ++ (codes " at " ++ decimal told.at))

-- how many facets of each sort a change writes
abbrev pub sizes_of : Change → Sizes
sizes_of c = record {
  adds = length c.adds;
  drops = length c.drops;
  sets = length c.sets;
  clears = length c.clears;
}

-- these numbers: `+A -D *S ~C`
abbrev pub sizes_text : Sizes → List ℕ
sizes_text sizes =
    codes "+" ++ (decimal sizes.adds ++ (codes " -" ++ (decimal sizes.drops
    ++ (codes " *" ++ (decimal sizes.sets ++ (codes " ~" ++ decimal sizes.clears))))))

-- a change that was committed: `ok N at K +A -D *S ~C`
abbrev pub committed_text : Committed → List ℕ
committed_text committed = told_text committed.told ++ (codes " " ++ sizes_text committed.sizes)

-- a number, with a space before it
abbrev pub number_word : ℕ → List ℕ
number_word n = codes " " ++ decimal n

-- changes that were taken back: `taken`, and their numbers in this order
abbrev pub taken_text : List ℕ → List ℕ
taken_text numbers = codes "taken" ++ flat_map number_word numbers

-- what was refused, by how the refusal prints: `no WORD`, with its value where it has one
abbrev pub no_text : List ℕ → List ℕ
no_text refusal = codes "no " ++ refusal

-- a line that isn't of the language: `bad line K`
abbrev pub bad_line_text : ℕ → List ℕ
bad_line_text number = codes "bad line " ++ decimal number
