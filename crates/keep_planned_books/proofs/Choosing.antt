-- Planned changes keep a whole repository whole, each where the snapshots before it are known.
use Rattle.std.proofs.Common.{◌≡◌, inl, inr, Bool, List, [], ◌∷◌, ◌++◌, refl, sym, subst}
use Rattle.std.specs.FinSet as set
use Rattle.keep_names.specs.declared.id.Id.{Id}
use Rattle.keep_repo.specs.Repository.{Repository}
use Rattle.keep_change.specs.Fold.{Numbered}
use Rattle.keep_change.specs.declared.change.Change.{Change}
use Rattle.keep_sound.specs.Careful.{Keeps}
use Rattle.keep_sound.specs.Selection.{AllKeep, has_snapshot, known_by, known_in, with_added}
use Rattle.keep_view.specs.Shown.{known_of}
use Rattle.keep_planned_books.specs.SoundBooks.{ViewsKnow}
use Rattle.keep_sound.specs.Restic.{restic}
use Rattle.keep_sound.specs.Selected.{SelectionsAreWhole}
use Rattle.keep_sound.specs.Whole.{IsWhole}
use Rattle.keep_planned_books.specs.History.{BeginsWhole}
use Rattle.keep_planned_books.specs.Jobs.{KeepsFor, PlannedChangesKeep}
use Rattle.keep_planned_books.specs.Selected.{ArePlanned, IsPlannedWhere, PlannedSelectionsAreWhole}

-- one more change makes what it adds known
known_push : (known : Id → Bool) (ms : List Numbered) (n : Numbered) → known_by known (ms ++ n ∷ []) ≡ with_added (known_by known ms) n
known_push known [] n = refl
known_push known (m ∷ ms) n = known_push (with_added known m) ms n

module _ (keep : PlannedChangesKeep (IsWhole restic)) (know : ViewsKnow) (all opening : Repository) (begins : BeginsWhole all opening) where
  known_so : (before : List Numbered) → known_in opening before ≡ set.contains (known_of opening before)
  known_so before i snapshot = know opening before snapshot i

  one_keeps : (before : List Numbered) (c : Change) → IsPlannedWhere all (known_of opening before) c → Keeps (IsWhole restic) all (known_in opening before) c
  one_keeps before c planned =
      by (keep all planned.shown _ begins.files (record { one_text = begins.met.one_text; part = planned.part }) planned.of_job)
    where
      by : KeepsFor (IsWhole restic) all planned.shown c → Keeps (IsWhole restic) all (known_in opening before) c
      by (inl any) = any (known_in opening before)
      by (inr (strict, kept)) =
          subst (λ (known : Id → Bool). Keeps (IsWhole restic) all known c) (sym (known_so before))
          (subst (λ known. Keeps (IsWhole restic) all (set.contains known) c) (planned.strict strict) kept)

  all_keep : (before ns : List Numbered) → ArePlanned all opening before ns → AllKeep (IsWhole restic) all (known_in opening before) ns
  all_keep before [] planned = tt
  all_keep before (n ∷ ns) planned = (
    planned.0.once,
    planned.0.of_job.adds,
    one_keeps before n.change planned.0,
    subst (λ (known : Id → Bool). AllKeep (IsWhole restic) all known ns) (known_push (has_snapshot opening) before n) (all_keep (before ++ n ∷ []) ns planned.1),
  )

pub planned_selections_are_whole : PlannedChangesKeep (IsWhole restic) → ViewsKnow → SelectionsAreWhole → PlannedSelectionsAreWhole
planned_selections_are_whole keep know selections all opening changes chosen begins planned selection none =
    selections restic all opening changes chosen begins.met.part begins.whole (all_keep keep know all opening begins [] changes planned) selection none
