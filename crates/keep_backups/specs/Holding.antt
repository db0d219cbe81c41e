-- How much an intake holds.
use Rattle.std.specs.Prelude.{ℕ, ◌-◌, ◌^◌, Option, None, Some, min}
use Rattle.keep_archive.specs.Archive.{ArchiveData}
use Rattle.keep_build.specs.Packs.{bytes_in}

-- how many bytes of an archive wait to be stored, as it says so
abbrev pub held_of : Option ArchiveData → ℕ
held_of None = 0
held_of (Some a) = min (2 ^ 64 - 1) (bytes_in a.blobs.held)
