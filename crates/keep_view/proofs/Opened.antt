-- A repository under a history without events.
use Rattle.std.proofs.Common.{◌≡◌, ℕ, List, [], refl, sym, ap, subst, arith}
use Rattle.std.specs.FinSet as set
use Rattle.std.proofs.lemmas.List.{append-nil}
use Rattle.std.proofs.lemmas.List.Elements.{All-nil}
use Rattle.keep_names.specs.declared.file_name.Kind.TheVariants.{Snapshot}
use Rattle.keep_names.specs.declared.id.Id.{Id}
use Rattle.keep_repo.specs.Repository.{Repository}
use Rattle.keep_journal.specs.Journal.{Journal}
use Rattle.keep_journal.specs.Opening.{IsOpen, opening_under}
use Rattle.keep_journal.specs.declared.event.Entry.{Entry}
use Rattle.keep_catalog.specs.Files.{ids_in}
use Rattle.keep_view.specs.Shown.{Shown, shown_alone, shown_of}

abbrev begun : ℕ → List Entry → Journal
begun base entries = record { base = base; entries = entries }

-- it is its own opening
pub open_alone : (j : Journal) (r : Repository) → j.entries ≡ [] → IsOpen (opening_under j r) j r
open_alone j r none =
    let P : List Entry → Type 0 = λ es. IsOpen (opening_under (begun j.base es) r) (begun j.base es) r in
    subst P (sym none) (record {
      numbered = record { events = tt; commits = tt; first_final = omega arith; last_final = omega arith };
      legal = tt;
      formed = All-nil _;
      within = All-nil _;
      unbroken = refl;
      state = refl;
      marks = tt;
    })

-- and its snapshots are known
pub shown-alone : (j : Journal) (r : Repository) → j.entries ≡ [] → shown_of (opening_under j r) j r ≡ shown_alone r
shown-alone j r none =
    let P : List Entry → Type 0 = λ es. shown_of (opening_under (begun j.base es) r) (begun j.base es) r ≡ shown_alone r in
    let own : List Id → Shown = λ ids. record { repo = r; known = set.from_list ids; length = 0 } in
    subst P (sym none) (ap own (append-nil (ids_in r Snapshot)))
