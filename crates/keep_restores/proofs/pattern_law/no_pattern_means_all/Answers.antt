use Rattle.std.proofs.Common.{◌≡◌, List, [], ◌∷◌, refl, ap}
use Rattle.keep_nodes.specs.Entries.{EntryData}
use Rattle.keep_restores.specs.Choosing.{included}
use Rattle.keep_restores.proofs.pattern_law.no_pattern_means_all.Goals as goal

all : (entries : List EntryData) → included [] entries ≡ entries
all [] = refl
all (entry ∷ entries) = ap (λ (behind : List EntryData). entry ∷ behind) (all entries)

pub returns : goal.returns
returns c = all
