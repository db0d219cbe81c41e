-- The shape of a repository's config (restic's design document, "Config File").
use Rattle.std.specs.Prelude.{ℕ, ◌==◌, List, Option, None, Some, Result, ok_or, codes, if◌then◌else◌}
use Rattle.std.specs.String.{string_bytes}
use Rattle.serde_json.specs.Data.{Data}
use Rattle.serde_json.specs.Find.{as_str}
use Rattle.keep_names.specs.declared.id.Id.{Id}
use Rattle.keep_docs.specs.Doc.{doc_of, shaped}
use Rattle.keep_docs.specs.Fields.{◌>>=◌, as_id, as_whole, field}
use Rattle.keep_docs.specs.declared.config.Config.{Config}
use Rattle.keep_docs.specs.declared.config.ConfigError.{ConfigError}
use Rattle.keep_docs.specs.declared.config.ConfigError.TheVariants.{Doc, BadConfig}

-- what a config says
pub record ConfigData : Type 0 where
  pub id : Id
  pub chunker_polynomial : List ℕ

-- what a `Config` says
abbrev pub config_view : Config → ConfigData
config_view config = record { id = config.id; chunker_polynomial = string_bytes config.chunker_polynomial }

-- the config that a document holds: of version 1, with an id and the text of a polynomial
abbrev pub config_in : Data → Option ConfigData
config_in d = do
  version ← field (codes "version") as_whole d
  id ← field (codes "id") as_id d
  polynomial ← field (codes "chunker_polynomial") as_str d
  if version == 1 then Some (record { id = id; chunker_polynomial = polynomial }) else None

-- what the bytes of a config are to be read as
abbrev pub config_of : List ℕ → Result ConfigData ConfigError
config_of bytes = shaped Doc (λ d. ok_or (config_in d) BadConfig) (doc_of bytes)
