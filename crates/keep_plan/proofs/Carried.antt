-- What a repository's snapshot says can be written.
use Rattle.std.proofs.Common.{◌≡◌, ℕ, List, Option, None, Some, Result, Ok, Err, refl, subst}
use Rattle.std.specs.Result.{result_ok}
use Rattle.keep_names.specs.declared.file_name.Kind.TheVariants.{Snapshot}
use Rattle.keep_names.specs.declared.id.Id.{Id}
use Rattle.keep_repo.specs.Repository.{Repository}
use Rattle.keep_snap.proofs.Standing.{IsCarried-IsSnap}
use Rattle.keep_snap.specs.Shape.{IsSnap}
use Rattle.keep_snap.specs.Snap as reading
use Rattle.keep_snap.specs.Snap.{SnapData}
use Rattle.keep_snap.specs.Written.{IsCarried}
use Rattle.keep_snap.specs.declared.snap.SnapError.{SnapError}
use Rattle.keep_catalog.specs.Files.{file_in, snap_in, snap_of, snap_read}

-- what is read of any bytes is a snapshot that a document can hold
abbrev pub ReadIsSnap : Type 0
ReadIsSnap = (bytes : List ℕ) (s : SnapData) → reading.snap_of bytes ≡ Ok s → IsSnap s

bytes_read : ReadIsSnap → (bytes : List ℕ) (s : SnapData) → snap_of bytes ≡ Ok s → IsSnap s
unfolding snap_of
bytes_read law bytes s h = law bytes s h

found_read : ReadIsSnap → (found : Option (List ℕ)) (s : SnapData) → snap_read found ≡ Some s → IsSnap s
found_read law None s h = (cc h)
found_read law (Some bytes) s h = cases (snap_of bytes) refl h where
  cases : (o : Result SnapData SnapError) → snap_of bytes ≡ o → result_ok o ≡ Some s → IsSnap s
  cases (Err refusal) is g = (cc g)
  cases (Ok t) is g =
      let same : t ≡ s = cc g in
      subst IsSnap same (bytes_read law bytes t is)

pub snap_so : ReadIsSnap → (r : Repository) (name : Id) (s : SnapData) → snap_in r name ≡ Some s → IsSnap s
unfolding snap_in
snap_so law r name s h = found_read law (file_in r Snapshot name) s h

pub snap_carried : ReadIsSnap → (r : Repository) (name : Id) (s : SnapData) → snap_in r name ≡ Some s → IsCarried s
snap_carried law r name s h = IsCarried-IsSnap s (snap_so law r name s h)
