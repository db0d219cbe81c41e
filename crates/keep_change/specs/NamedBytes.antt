-- A file that a change adds or drops: a name, and bytes.
use Rattle.std.specs.Prelude.{ℕ, List}
use Rattle.keep_names.specs.FileName.{named}
use Rattle.keep_names.specs.Sha256.{sha256}
use Rattle.keep_names.specs.declared.file_name.FileName.{FileName}
use Rattle.keep_names.specs.declared.file_name.Kind.{Kind}

pub record NamedBytes : Type 0 where
  pub name : FileName
  pub bytes : List ℕ

-- the file that is named by its bytes' SHA-256
abbrev pub file_of : Kind → List ℕ → NamedBytes
file_of kind bytes = record { name = named kind (record { 0 = sha256 bytes }); bytes = bytes }
