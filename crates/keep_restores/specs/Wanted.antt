-- What a node is to be put back as.
use Rattle.std.specs.Prelude.{◌≡◌, ◌%◌, ℕ, Bool, true, false, Option, None, Some, List, option_map, string_bytes, codes}
use Rattle.std.specs.Str.{bytes_eq}
use Rattle.std.specs.declared.alloc.Global.{Global}
use Rattle.std.specs.declared.string.String.{String}
use Rattle.serde_json.specs.View.{members_view}
use Rattle.keep_members.specs.Found.{found_in, found_view}
use Rattle.keep_members.specs.Mode.{unix_mode}
use Rattle.keep_members.specs.declared.found_members.FoundMembers.{FoundMembers}
use Rattle.keep_nodes.specs.declared.path_node.PathNode.{PathNode}
use Rattle.keep_putting.specs.declared.wanted.Wanted.{Wanted}
use Rattle.keep_putting.specs.declared.wanted.What.{What}
use Rattle.keep_putting.specs.declared.wanted.What.TheVariants.{File, Folder, Link, Other}
use Rattle.keep_quoted.specs.Unquote.{unquoted}
use Rattle.keep_tree.specs.declared.node.NodeKind.{NodeKind}
use Rattle.keep_tree.specs.declared.node.NodeKind.TheVariants as kind
use Rattle.keep_restores.specs.Attributes.{owner_in, times_in}

-- a link that says where to; one that doesn't is no link
abbrev pub IsLink : Option (String Global) → What → Type 0
IsLink (Some to) (Link text) = string_bytes text ≡ string_bytes to
IsLink None Other = Unit {0}
IsLink _ _ = ⊥

-- of a type of its own: a link where the type says so
abbrev pub IsOther : Bool → Option (String Global) → What → Type 0
IsOther true to what = IsLink to what
IsOther false to what = what ≡ Other

-- a folder, a file of the same pieces, or of another type
abbrev pub IsWhat : NodeKind → Option (String Global) → What → Type 0
IsWhat (kind.Dir subtree) to Folder = Unit {0}
IsWhat (kind.File content) to (File ids) = ids.items ≡ content.items
IsWhat (kind.Other type_name) to what = IsOther (bytes_eq (string_bytes type_name) (codes "symlink")) to what
IsWhat _ _ _ = ⊥

-- the name as it is read back, where it is UTF-8
abbrev pub IsName : List ℕ → Option (String Global) → Type 0
IsName quoted (Some name) = unquoted quoted ≡ Some (string_bytes name)
IsName quoted None = (name : String Global) → unquoted quoted ≡ Some (string_bytes name) → ⊥

-- at its path, under its name, what it is, and what its members say of owner, mode and times
pub record IsWantedOf (entry : PathNode) (wanted : Wanted) : Type 0 where
  pub found : FoundMembers
  pub said : found_view found ≡ found_in (members_view entry.node.others.entries)
  pub same_path : string_bytes wanted.path ≡ string_bytes entry.path
  pub named : IsName (string_bytes entry.node.name) wanted.name
  pub is_what : IsWhat entry.node.kind found.link_target wanted.what
  pub owned : wanted.owner ≡ owner_in found.uid found.gid
  pub moded : wanted.mode ≡ option_map (λ mode. unix_mode mode % 4096) found.mode
  pub timed : wanted.times ≡ times_in found.mtime found.atime
