-- What planners and readers are shown of a repository under its history.
use Rattle.std.specs.Prelude.{ℕ, List, ◌++◌, refl}
use Rattle.std.specs.Coded.{Coded, code_by, coded_ℕ, coded×}
use Rattle.std.specs.FinSet as set
use Rattle.std.specs.List.{flat_map}
use Rattle.keep_names.specs.Orders.{coded_id, id_cmp}
use Rattle.keep_names.specs.declared.file_name.Kind.TheVariants.{Snapshot}
use Rattle.keep_names.specs.declared.id.Id.{Id}
use Rattle.keep_repo.specs.Repository.{Repository, coded_repository}
use Rattle.keep_change.specs.Fold.{Numbered}
use Rattle.keep_change.specs.Lists.{file_names}
use Rattle.keep_journal.specs.History.{length_of}
use Rattle.keep_journal.specs.Journal.{Journal}
use Rattle.keep_journal.specs.Kept.{unfinal}
use Rattle.keep_repo.specs.Kinds.{ids_among}
use Rattle.keep_catalog.specs.Files.{ids_in}

-- the repository, the names of the snapshots that are known, and the number of the last event
pub record Shown : Type 0 where
  pub repo : Repository
  pub known : set.FinSet id_cmp
  pub length : ℕ

-- the snapshots that a change adds
abbrev pub added_by : Numbered → List Id
added_by n = ids_among Snapshot (file_names n.change.adds)

-- the snapshots of an opening, and those that one of these changes adds
abbrev pub known_of : Repository → List Numbered → set.FinSet id_cmp
known_of opening ns = set.from_list (ids_in opening Snapshot ++ flat_map added_by ns)

-- what is shown of a live repository whose events lie over this opening: a snapshot is known while it is one of the opening, or a change that isn't final adds it, be that one in force or undone
abbrev pub shown_of : Repository → Journal → Repository → Shown
shown_of opening j live = record { repo = live; known = known_of opening (unfinal j); length = length_of j }

-- what is shown of a repository without events: it knows its own snapshots
abbrev pub shown_alone : Repository → Shown
shown_alone repository = record { repo = repository; known = set.from_list (ids_in repository Snapshot); length = 0 }

-- what is shown is a repository, a set and a number
abbrev pub coded_shown : Coded Shown
coded_shown =
    code_by (Repository × (set.FinSet id_cmp × ℕ)) (coded× coded_repository (coded× (set.code coded_id) coded_ℕ))
    (λ s. (s.repo, (s.known, s.length))) (λ p. record { repo = p.0; known = p.1.0; length = p.1.1 }) (λ _. refl)
