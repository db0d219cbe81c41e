-- A snapshot under other tags, or with another tree, can be written, if it could.
use Rattle.std.proofs.Common.{ℕ, All, Bool, true, false, cond, IfSome, IsUtf8, List, [], ◌∷◌, ◌++◌, Option, None, Some, codes, refl, unwrap_or}
use Rattle.std.proofs.lemmas.List.Elements.{All-append, All-cons, All-nil}
use Rattle.json.proofs.Printed.Utf8.{IsUtf8-are_ascii}
use Rattle.keep_names.specs.Id.{IsDigest}
use Rattle.keep_names.specs.declared.id.Id.{Id}
use Rattle.keep_snap.specs.Relabel.{has_rewrite, retagged, retreed, rewritten_tags}
use Rattle.keep_snap.specs.Shape.{IsSnap}
use Rattle.keep_snap.specs.Snap.{SnapData}

-- the name that stays or is put there is a digest
digest_kept : (original : Option Id) (old : Id) → IfSome original IsDigest → IsDigest old → IsDigest (unwrap_or original old)
digest_kept None old kept put = put
digest_kept (Some id) old kept put = kept

-- all else is the old snapshot's
pub IsSnap-retagged : (s : SnapData) (old : Id) (tags : List (List ℕ)) → IsSnap s → IsDigest old → All IsUtf8 tags → IsSnap (retagged s old tags)
IsSnap-retagged s old tags can_stand digest texts = record {
  timed = can_stand.timed;
  time = can_stand.time;
  tree = can_stand.tree;
  paths = can_stand.paths;
  hostname = can_stand.hostname;
  username = can_stand.username;
  tags = texts;
  original = digest_kept s.original old can_stand.original digest;
  dir = can_stand.dir;
  carried = can_stand.carried;
  nests = can_stand.nests;
  apart = can_stand.apart;
}

-- ---- with another tree

all_one : (text : List ℕ) → IsUtf8 text → All IsUtf8 (text ∷ [])
all_one text h = All-cons IsUtf8 text [] h (All-nil IsUtf8)

texts_behind : (b : Bool) (tags : List (List ℕ)) → All IsUtf8 tags → All IsUtf8 (cond b tags (tags ++ codes "rewrite" ∷ []))
texts_behind true tags texts = texts
texts_behind false tags texts = All-append IsUtf8 tags (codes "rewrite" ∷ []) texts (all_one (codes "rewrite") (IsUtf8-are_ascii _ refl))

rewritten_texts : (tagged : Bool) (tags : List (List ℕ)) → All IsUtf8 tags → All IsUtf8 (rewritten_tags tagged tags)
rewritten_texts false tags texts = texts
rewritten_texts true tags texts = texts_behind (has_rewrite tags) tags texts

pub IsSnap-retreed : (s : SnapData) (old tree : Id) (tagged : Bool) → IsSnap s → IsDigest old → IsDigest tree → IsSnap (retreed s old tree tagged)
IsSnap-retreed s old tree tagged can_stand digest root = record {
  timed = can_stand.timed;
  time = can_stand.time;
  tree = root;
  paths = can_stand.paths;
  hostname = can_stand.hostname;
  username = can_stand.username;
  tags = rewritten_texts tagged s.tags can_stand.tags;
  original = digest;
  dir = can_stand.dir;
  carried = can_stand.carried;
  nests = can_stand.nests;
  apart = can_stand.apart;
}
