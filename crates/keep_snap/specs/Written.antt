-- A snapshot as a document.
use Rattle.std.specs.Prelude.{◌≡◌, ◌<◌, ℕ, false, List, [], ◌∷◌, fold, Option, None, Some, option_map, IfSome, codes}
use Rattle.serde_json.specs.Data.{Data, string, object, Members, put, depth, members_depth}
use Rattle.serde_json.specs.Read.{max_depth}
use Rattle.serde_json.specs.Written.{has_float, members_have_float}
use Rattle.keep_docs.specs.Fields.{id_data, others}
use Rattle.keep_docs.specs.Lists.{texts_data}
use Rattle.keep_snap.specs.Snap.{SnapData, named}

-- with a member at a key, if there is one to write
abbrev pub put_if : List ℕ → Option Data → Members → Members
put_if key None members = members
put_if key (Some d) members = put key d members

-- a list of tags, of which an empty one isn't written
abbrev pub tags_data : List (List ℕ) → Option Data
tags_data [] = None
tags_data (tag ∷ tags) = Some (texts_data (tag ∷ tags))

-- a text, as a value
abbrev pub text_data : Option (List ℕ) → Option Data
text_data = option_map (λ text. string text)

-- what is written of each field, by its key
abbrev pub fields : SnapData → List (List ℕ × Option Data)
fields s =
    (codes "dir", s.dir) ∷ (codes "hostname", text_data s.hostname)
    ∷ (codes "original", option_map id_data s.original) ∷ (codes "paths", Some (texts_data s.paths))
    ∷ (codes "tags", tags_data s.tags) ∷ (codes "time", Some (string s.time))
    ∷ (codes "tree", Some (id_data s.tree)) ∷ (codes "username", text_data s.username) ∷ []

-- members, with those of fields among them, the keys in byte order
abbrev pub with_fields : List (List ℕ × Option Data) → Members → Members
with_fields written members = fold (λ ms field. put_if field.0 field.1 ms) members written

-- a snapshot as a value: its fields among the others
abbrev pub snap_data : SnapData → Data
snap_data s = object (with_fields (fields s) s.others)

-- ---- what can be written

-- a value that can stand in an object that is written: its numbers are whole, it nests to at most 126 levels
abbrev pub CanStand : Data → Type 0
CanStand d = (has_float d ≡ false) × (depth d < max_depth)

-- and members that can
abbrev pub CanStandAmong : Members → Type 0
CanStandAmong members = (members_have_float members ≡ false) × (members_depth members < max_depth)

-- what is carried can be written: none of the other members has the key of a field, and all can stand there
pub record IsCarried (s : SnapData) : Type 0 where
  pub apart : others named s.others ≡ s.others
  pub dir_stands : IfSome s.dir CanStand
  pub others_stand : CanStandAmong s.others
