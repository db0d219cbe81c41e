-- What the program tells of a pack.
use Rattle.std.specs.Prelude.{ℕ, List, length, Result, Ok, Err}
use Rattle.keep_names.specs.Sha256.{sha256}
use Rattle.keep_pack.specs.Reading.{header_of}
use Rattle.keep_names.specs.declared.blob.Blob.{Blob}
use Rattle.keep_pack.specs.declared.pack_error.PackError.{PackError}
use Rattle.keep_bench.specs.declared.pack.Summary.{Summary}

-- the SHA-256 of the pack, and how many entries its header has
abbrev pub summary_with : List ℕ → Result (List Blob) PackError → Result Summary PackError
summary_with pack (Ok entries) = Ok (record { id = record { 0 = sha256 pack }; entries = length entries })
summary_with pack (Err refusal) = Err refusal

-- the SHA-256 of the pack, and how many entries its header has, or why it can't be read
abbrev pub summary_of : List ℕ → Result Summary PackError
summary_of pack = summary_with pack (header_of pack)
