-- What is listed of packs, while it is gathered.
use Rattle.std.specs.Prelude.{◌≡◌, List, []}
use Rattle.std.specs.BTreeMap.{BTreeMap, get}
use Rattle.std.specs.Global.{Vec}
use Rattle.std.specs.Option.{option_map_or}
use Rattle.keep_names.specs.Orders.{id_cmp}
use Rattle.keep_names.specs.declared.blob.Blob.{Blob}
use Rattle.keep_names.specs.declared.id.Id.{Id}
use Rattle.keep_index.specs.Index.{PackData}
use Rattle.keep_index.specs.Joining.{blobs_of, ids_of}
use Rattle.keep_index.specs.declared.joining.Listed.{Listed}

-- the blobs that are kept of the pack of this id
abbrev pub kept_blobs : BTreeMap Id (Vec Blob) → Id → List Blob
kept_blobs blobs id = option_map_or (λ kept. kept.items) (get id_cmp blobs id) []

-- what is gathered is what these packs list: their ids in order, and the blobs of each id
pub record Gathers (packs : List PackData) (listed : Listed) : Type 0 where
  pub ids : listed.ids.items ≡ ids_of packs
  pub blobs : (id : Id) → kept_blobs listed.blobs id ≡ blobs_of packs id
