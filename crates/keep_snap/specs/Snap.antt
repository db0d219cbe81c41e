-- The shape of a snapshot (restic's design document, "Snapshots").
use Rattle.std.specs.Prelude.{ℕ, List, [], ◌∷◌, map, Option, Some, option_map, option_and_then, ok_or, Result, Ok, Err, codes, string_bytes, if◌then◌else◌}
use Rattle.std.specs.Option.{is_none, is_some}
use Rattle.serde_json.specs.Data.{Data, Members}
use Rattle.serde_json.specs.Find.{as_str, get}
use Rattle.serde_json.specs.View.{members_view, view}
use Rattle.keep_names.specs.declared.id.Id.{Id}
use Rattle.keep_docs.specs.Doc.{doc_of, shaped}
use Rattle.keep_docs.specs.Fields.{◌>>=◌, as_id, as_list, field, list_field, optional, other_members}
use Rattle.keep_docs.specs.Lists.{texts_in}
use Rattle.keep_snap.specs.Time.{time_in}
use Rattle.keep_snap.specs.declared.snap.Snap.{Snap}
use Rattle.keep_snap.specs.declared.snap.SnapError.{SnapError}
use Rattle.keep_snap.specs.declared.snap.SnapError.TheVariants.{BadSnapshot, BadTime, Doc}

-- what a snapshot says: a field for each of its keys, and its other members, which are carried
pub record SnapData : Type 0 where
  pub time : List ℕ
  pub tree : Id
  pub paths : List (List ℕ)
  pub hostname : Option (List ℕ)
  pub username : Option (List ℕ)
  pub tags : List (List ℕ)
  pub original : Option Id
  pub dir : Option Data
  pub others : Members

-- what a `Snap` says
abbrev pub snap_view : Snap → SnapData
snap_view snap = record {
  time = string_bytes snap.time;
  tree = snap.tree;
  paths = map string_bytes snap.paths.items;
  hostname = option_map string_bytes snap.hostname;
  username = option_map string_bytes snap.username;
  tags = map string_bytes snap.tags.items;
  original = snap.original;
  dir = option_map view snap.dir;
  others = members_view snap.others.entries;
}

-- the keys that a snapshot has fields for; all others are carried
abbrev pub named : List (List ℕ)
named =
    codes "dir" ∷ codes "hostname" ∷ codes "original" ∷ codes "paths" ∷ codes "tags" ∷ codes "time"
    ∷ codes "tree" ∷ codes "username" ∷ []

-- the paths: a list of texts, or where it is missing the one text `dir`, as early snapshots have it
abbrev pub paths_in : Data → Option (List (List ℕ))
paths_in d =
    if is_none (get (codes "paths") d)
    then option_map (λ dir. dir ∷ []) (field (codes "dir") as_str d)
    else option_and_then texts_in (field (codes "paths") as_list d)

-- the tags: a list of texts, which may be null or missing and is empty then
abbrev pub tags_in : Data → Option (List (List ℕ))
tags_in d = option_and_then texts_in (list_field (codes "tags") d)

-- the snapshot that a document holds; its time is any text yet
abbrev pub snap_in : Data → Option SnapData
snap_in d = do
  time ← field (codes "time") as_str d
  tree ← field (codes "tree") as_id d
  paths ← paths_in d
  hostname ← optional (codes "hostname") as_str d
  username ← optional (codes "username") as_str d
  tags ← tags_in d
  original ← optional (codes "original") as_id d
  Some (record {
    time = time;
    tree = tree;
    paths = paths;
    hostname = hostname;
    username = username;
    tags = tags;
    original = original;
    dir = get (codes "dir") d;
    others = other_members named d;
  })

-- what the bytes of a snapshot are to be read as, before its time is looked at
abbrev pub shape_of : List ℕ → Result SnapData SnapError
shape_of bytes = shaped Doc (λ d. ok_or (snap_in d) BadSnapshot) (doc_of bytes)

-- a snapshot whose time is one
abbrev pub timed : Result SnapData SnapError → Result SnapData SnapError
timed (Ok s) = if is_some (time_in s.time) then Ok s else Err BadTime
timed (Err refusal) = Err refusal

-- what the bytes of a snapshot are to be read as
abbrev pub snap_of : List ℕ → Result SnapData SnapError
snap_of bytes = timed (shape_of bytes)
