-- The snapshots that a document can hold.
use Rattle.std.specs.Prelude.{◌≡◌, ◌<◌, All, IfSome, IsSome, IsUtf8}
use Rattle.serde_json.specs.Data.{depth, members_depth}
use Rattle.serde_json.specs.Read.{max_depth}
use Rattle.keep_names.specs.Id.{IsDigest}
use Rattle.keep_docs.specs.Fields.{others}
use Rattle.keep_docs.specs.Readable.{HasReadable, IsReadable}
use Rattle.keep_snap.specs.Snap.{SnapData, named}
use Rattle.keep_snap.specs.Time.{time_in}

-- A snapshot that a document can hold: its time is one, its texts are UTF-8 and its ids digests. None of the
-- members that it carries has the key of a field, and they and `dir` nest to at most 126 levels: a document nests
-- to 127, of which the snapshot is one.
pub record IsSnap (s : SnapData) : Type 0 where
  pub timed : IsSome (time_in s.time)
  pub time : IsUtf8 s.time
  pub tree : IsDigest s.tree
  pub paths : All IsUtf8 s.paths
  pub hostname : IfSome s.hostname IsUtf8
  pub username : IfSome s.username IsUtf8
  pub tags : All IsUtf8 s.tags
  pub original : IfSome s.original IsDigest
  pub dir : IfSome s.dir (λ d. IsReadable d × (depth d < max_depth))
  pub carried : HasReadable s.others
  pub nests : members_depth s.others < max_depth
  pub apart : others named s.others ≡ s.others
