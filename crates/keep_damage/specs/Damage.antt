-- What is wrong with what stands on a shelf.
use Rattle.std.specs.Prelude.{◌≡◌, ℕ, ◌⊎◌, List, [], ◌∷◌, map, take, Option, Some, None}
use Rattle.std.specs.FinMap as finite
use Rattle.std.specs.List.{filter_map}
use Rattle.keep_journal.specs.Journal.{Journal}
use Rattle.keep_repo.specs.Repository.{Repository}
use Rattle.keep_shelf.specs.Shelved.{Content}
use Rattle.keep_moves.specs.Move.{Stand}
use Rattle.keep_reading.specs.Bad.{first_bad}
use Rattle.keep_reading.specs.Leaves.{AreLeaves, entries_of}
use Rattle.keep_reading.specs.Reads.{Reads, told}
use Rattle.keep_reading.specs.Settled.{settled}
use Rattle.keep_reading.specs.declared.leaf.Leaf.{Leaf}
use Rattle.keep_damage.specs.Asked.{IsAsked}
use Rattle.keep_damage.specs.Compared.{differences}
use Rattle.keep_damage.specs.Entries.{entry_finding, sign_of}
use Rattle.keep_damage.specs.declared.finding.Finding.{Finding}
use Rattle.keep_damage.specs.declared.finding.Finding.TheVariants.{Unmade}

-- what stands there is read
abbrev pub IsRead : Stand → Type 0
IsRead stand = (o : Repository) × (j : Journal) × Reads stand o j

-- where the files, with the last event's moves made, aren't as the journal asks, the first ten places
pub record AreDifferences (stand : Stand) (j : Journal) (found : List Finding) : Type 0 where
  pub there : Content
  pub made : finite.get there ≡ settled j stand
  pub asked : Content
  pub is_asked : IsAsked j there asked
  pub list : found ≡ take 10 (differences j there asked)

-- what is told where each file is as asked: nothing where there is a reading, and else that the changes can't be made
abbrev pub IsRest : Stand → List Finding → Type 0
IsRest stand found = ((found ≡ []) × IsRead stand) ⊎ ((found ≡ Unmade ∷ []) × ((o : Repository) (j : Journal) → Reads stand o j → ⊥))

-- what is told where the entries tell this journal: the differences, or, where there are none, the rest
abbrev pub IsLeft : Stand → Journal → List Finding → Type 0
IsLeft stand j found = ((found ≡ [] → ⊥) × AreDifferences stand j found) ⊎ (AreDifferences stand j [] × IsRest stand found)

-- what is told where this is the number of the first entry with which something is wrong, if there is one
abbrev pub FoundBy : Stand → List Leaf → Option ℕ → List Finding → Type 0
FoundBy stand leaves (Some first) found = found ≡ take 10 (filter_map (entry_finding first) (map sign_of leaves))
FoundBy stand leaves None found = IsLeft stand (told (entries_of leaves)) found

-- these are the findings on what stands there
pub record IsDamage (stand : Stand) (found : List Finding) : Type 0 where
  pub leaves : List Leaf
  pub are : AreLeaves stand leaves
  pub told : FoundBy stand leaves (first_bad leaves) found
