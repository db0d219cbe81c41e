-- What the operators of the trials ask for.
use Rattle.std.specs.Prelude.{ℕ, [], ◌∷◌}
use Rattle.keep_names.specs.declared.file_name.Kind.TheVariants.{Index}
use Rattle.keep_change.specs.Change.{no_change}
use Rattle.keep_change.specs.NamedBytes.{file_of}
use Rattle.keep_change.specs.declared.change.Change.{Change}

-- an index of this one byte is added
abbrev pub adding : ℕ → Change
adding byte = record no_change { adds = file_of Index (byte ∷ []) ∷ [] }
