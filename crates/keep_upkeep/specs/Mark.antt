-- What a mark changes.
use Rattle.std.specs.Prelude.{ℤ, Bool, true, not, ◌&&◌, List, [], ◌∷◌, filter, map, Option, Result, Ok, Err}
use Rattle.std.specs.FinSet as set
use Rattle.std.specs.Option.{option_or}
use Rattle.keep_names.specs.FileName.{named}
use Rattle.keep_names.specs.Orders.{id_cmp}
use Rattle.keep_names.specs.declared.file_name.FileName.{FileName}
use Rattle.keep_names.specs.declared.file_name.Kind.TheVariants.{Pack, Snapshot}
use Rattle.keep_names.specs.declared.id.Id.{Id}
use Rattle.keep_repo.specs.Repository.{Repository}
use Rattle.keep_change.specs.Change.{no_change}
use Rattle.keep_change.specs.Filling.{has_pack}
use Rattle.keep_change.specs.declared.change.Change.{Change}
use Rattle.keep_change.specs.declared.change.PackMark.{PackMark}
use Rattle.keep_catalog.specs.Files.{ids_in}
use Rattle.keep_catalog.specs.Ordered.{in_order}
use Rattle.keep_catalog.specs.Places.{is_unmarked}
use Rattle.keep_reach.specs.Snapshots.{broken_in}
use Rattle.keep_reach.specs.Used.{used_in}
use Rattle.keep_plan.specs.Refusal.{unless, unreached_first, unread_first}
use Rattle.keep_plan.specs.Reuse.{reused_packs}
use Rattle.keep_plan.specs.Storing.{is_there, stored_built}
use Rattle.keep_plan.specs.declared.plan_error.PlanError.{PlanError}
use Rattle.keep_plan.specs.declared.plan_error.PlanError.TheVariants.{NothingToDo}
use Rattle.keep_plan.specs.declared.stored.Stored.{Stored}

-- ---- what is marked

-- the packs that are there, have no mark, and aren't needed
abbrev pub unneeded_but : Repository → (Id → Bool) → List Id
unneeded_but r is_needed = filter (λ pack. is_unmarked r pack && not (is_needed pack)) (ids_in r Pack)

-- the packs that are there, have no mark, and hold no chosen place of a blob that a snapshot reaches
unfoldable pub unneeded_packs : Repository → List Id
unneeded_packs r = unneeded_but r (has_pack (reused_packs r (used_in r)))

-- the mark of this moment on the pack
abbrev pub mark_at : ℤ → Id → PackMark
mark_at moment pack = record { pack = pack; mark = record { moment = moment } }

-- ---- what that rests on

-- what the uses of all blobs that snapshots reach rest on, where they are; nothing is built
abbrev pub needed_in : Repository → Stored
needed_in r = stored_built r (used_in r) []

-- those of the snapshots that aren't there
abbrev pub not_there : Repository → List Id → List Id
not_there r snapshots = filter (λ snapshot. not (is_there r (named Snapshot snapshot))) snapshots

-- those of the known snapshots, in order
unfoldable pub gone_snapshots : Repository → set.FinSet id_cmp → List Id
gone_snapshots r known = in_order id_cmp (not_there r (set.items known))

-- ---- the change

-- These packs are marked. What is needed stays, and the gone snapshots stay away. It may be committed only where
-- nothing happened since: a snapshot that came in between isn't known.
abbrev pub marking : List PackMark → Stored → List FileName → Change
marking marks needed gone = record no_change {
  sets = marks;
  present = needed.present;
  absent = gone;
  unmarked = needed.unmarked;
  strict = true;
}

-- the packs are marked at this moment, if there are any
abbrev pub marking_of : Repository → set.FinSet id_cmp → ℤ → List Id → Result Change PlanError
marking_of r known moment [] = Err NothingToDo
marking_of r known moment (pack ∷ packs) =
    Ok (marking (map (mark_at moment) (pack ∷ packs)) (needed_in r) (map (named Snapshot) (gone_snapshots r known)))

-- the first file that can't be read; else the first refusal of the first snapshot by name that doesn't reach all that
-- it names
abbrev pub why_unknown : Repository → Option PlanError
why_unknown r = option_or (unread_first r) (unreached_first (map (λ b. b.1) (broken_in r)))

-- the change that marks, at this moment, the packs that no snapshot needs, or the first refusal
unfoldable pub mark_change : Repository → set.FinSet id_cmp → ℤ → Result Change PlanError
mark_change r known moment = unless (why_unknown r) (marking_of r known moment (unneeded_packs r))
