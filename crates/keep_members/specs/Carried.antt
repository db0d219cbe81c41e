-- What a node says, as the members that it carries.
use Rattle.std.specs.Prelude.{◌≡◌, ℕ, ◌==◌, List, [], ◌∷◌, ◌++◌, Option, None, Some, IsTrue, IsUtf8, codes, if◌then◌else◌}
use Rattle.serde_json.specs.Data.{Data, string, number, unsigned, Members, no_members}
use Rattle.keep_snap.specs.Written.{text_data, with_fields}
use Rattle.keep_tree.specs.Names.{is_name}
use Rattle.keep_tree.specs.Shape.{IsKind, IsNode}
use Rattle.keep_tree.specs.Tree.{KindData}
use Rattle.keep_members.specs.Members.{MembersData}
use Rattle.keep_members.specs.Stamp.{IsStampText}

-- a number, as a value
abbrev pub whole_data : ℕ → Data
whole_data n = number (unsigned n)

-- a number that is written only where it isn't 0
abbrev pub counted_data : ℕ → Option Data
counted_data n = if n == 0 then None else Some (whole_data n)

-- the texts of a node's times
pub record TimeTexts : Type 0 where
  pub modified : List ℕ
  pub accessed : List ℕ
  pub changed : List ℕ

-- what is written of a node's mode and its times, by the keys
abbrev pub state_fields : MembersData → TimeTexts → List (List ℕ × Option Data)
state_fields m t =
    (codes "mode", counted_data m.mode) ∷ (codes "mtime", Some (string t.modified))
    ∷ (codes "atime", Some (string t.accessed)) ∷ (codes "ctime", Some (string t.changed)) ∷ []

-- of its owner
abbrev pub owner_fields : MembersData → List (List ℕ × Option Data)
owner_fields m =
    (codes "uid", Some (whole_data m.uid)) ∷ (codes "gid", Some (whole_data m.gid))
    ∷ (codes "user", text_data m.user) ∷ (codes "group", text_data m.group) ∷ []

-- of where it lies, how long it is and what it leads to
abbrev pub place_fields : MembersData → List (List ℕ × Option Data)
place_fields m =
    (codes "inode", counted_data m.inode) ∷ (codes "device_id", counted_data m.device_id)
    ∷ (codes "size", counted_data m.size) ∷ (codes "links", counted_data m.links)
    ∷ (codes "linktarget", text_data m.link_target) ∷ (codes "device", counted_data m.device) ∷ []

-- all of these, in restic's order
abbrev pub fields : MembersData → TimeTexts → List (List ℕ × Option Data)
fields m t = state_fields m t ++ owner_fields m ++ place_fields m

-- each time is written as its text
pub record AreTimes (m : MembersData) (t : TimeTexts) : Type 0 where
  pub modified : IsStampText m.mtime t.modified
  pub accessed : IsStampText m.atime t.accessed
  pub changed : IsStampText m.ctime t.changed

-- the members are just what is written, the keys in byte order
abbrev pub IsCarried : MembersData → Members → Type 0
IsCarried m members = (t : TimeTexts) × AreTimes m t × (members ≡ with_fields (fields m t) no_members)

-- a node of any kind, under any name that it can have, can carry these members
abbrev pub StandsAnywhere : Members → Type 0
StandsAnywhere members =
    (name : List ℕ) (kind : KindData) → IsTrue (is_name name) → IsUtf8 name → IsKind kind
    → IsNode (record { name = name; kind = kind; others = members })
