-- The config of a new repository.
use Rattle.std.specs.Prelude.{◌≡◌, ℕ, List, IsOkAnd}
use Rattle.keep_docs.specs.Config.{config_of}
use Rattle.keep_docs.specs.declared.config.ConfigError.{ConfigError}
use Rattle.keep_docs.specs.declared.config.ConfigError.TheVariants.{Doc}
use Rattle.keep_docs.specs.declared.doc.DocError.TheVariants as doc
use Rattle.keep_disk.specs.declared.folder_error.FolderError.{FolderError}
use Rattle.keep_disk.specs.declared.folder_error.FolderError.TheVariants.{BadConfig, Memory}
use Rattle.keep_names.specs.declared.id.Id.{Id}

-- these bytes are read as a config of this id
abbrev pub IsConfigOf : List ℕ → Id → Type 0
IsConfigOf bytes id = IsOkAnd (config_of bytes) (λ config. config.id ≡ id)

-- how a beginning ends where the config that was made isn't read
abbrev pub end_of_config : ConfigError → FolderError
end_of_config (Doc doc.Memory) = Memory
end_of_config _ = BadConfig
