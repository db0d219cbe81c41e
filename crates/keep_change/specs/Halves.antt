-- A change in two halves: what it puts, and what it takes away then.
use Rattle.std.specs.Prelude.{◌≡◌, true}
use Rattle.keep_repo.specs.Repository.{Repository, held}
use Rattle.keep_change.specs.Change.{is_ready}
use Rattle.keep_change.specs.Result.{put_files, put_marks, reverse_of, remove_files, remove_marks}
use Rattle.keep_change.specs.declared.change.Change.{Change}
use Rattle.keep_change.specs.declared.turn.Turn.{Turn}
use Rattle.keep_change.specs.declared.turn.Turn.TheVariants.{Make, TakeBack}

-- the change that is made by turning this one so: itself, or the one that takes it back
abbrev pub turned : Turn → Change → Change
turned Make c = c
turned TakeBack c = reverse_of c

-- the repository with all that the change puts, and nothing taken away yet
abbrev pub begun_of : Change → Repository → Repository
begun_of c repository = record {
  files = put_files c.adds repository.files;
  marks = put_marks c.sets repository.marks;
}

-- the repository without all that the change takes away
abbrev pub completed_of : Change → Repository → Repository
completed_of c repository = record {
  files = remove_files c.drops repository.files;
  marks = remove_marks c.clears repository.marks;
}

-- the repository stands between the halves of the change, which was begun where it is ready
pub record IsBegun (c : Change) (r : Repository) : Type 0 where
  pub before : Repository
  pub ready : is_ready (held before) c ≡ true
  pub begun : r ≡ begun_of c before
