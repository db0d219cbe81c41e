-- What isn't read as a snapshot says nothing.
use Rattle.std.proofs.Common.{◌≡◌, ◌≢◌, ℕ, Bool, true, false, List, None, Err, refl}
use Rattle.keep_docs.specs.declared.doc.DocError.TheVariants.{Memory}
use Rattle.keep_snap.specs.Snap.{snap_of}
use Rattle.keep_snap.specs.declared.snap.SnapError.{SnapError}
use Rattle.keep_snap.specs.declared.snap.SnapError.TheVariants.{Doc}
use Rattle.keep_events.specs.Deeds.{is_memory, taken_from}

not_memory : (e : SnapError) → is_memory e ≡ false → e ≢ Doc Memory
not_memory e h same = let k : true ≡ false = rw same at h in cc k

pub no_snapshot : (bytes : List ℕ) (e : SnapError) → is_memory e ≡ false → (e ≢ Doc Memory → snap_of bytes ≡ Err e) → None ≡ taken_from bytes
no_snapshot bytes e h due = rw (due (not_memory e h)) refl
