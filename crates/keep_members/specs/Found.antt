-- What the members say that a node carries.
use Rattle.std.specs.Prelude.{ℕ, ◌==◌, ◌^◌, List, Option, None, Some, option_map, option_and_then, codes, if◌then◌else◌}
use Rattle.serde_json.specs.Data.{Data, Members, object}
use Rattle.serde_json.specs.Find.{as_str}
use Rattle.keep_docs.specs.Fields.{as_below, as_whole, field}
use Rattle.keep_members.specs.Members.{MembersData, stamp_view, text_view}
use Rattle.keep_members.specs.Stamp.{StampData, stamp_in}
use Rattle.keep_members.specs.declared.found_members.FoundMembers.{FoundMembers}

-- what was found of each: nothing where it is missing or of another shape
pub record FoundData : Type 0 where
  pub mode : Option ℕ
  pub mtime : Option StampData
  pub atime : Option StampData
  pub ctime : Option StampData
  pub uid : Option ℕ
  pub gid : Option ℕ
  pub user : Option (List ℕ)
  pub group : Option (List ℕ)
  pub inode : Option ℕ
  pub device_id : Option ℕ
  pub size : Option ℕ
  pub links : Option ℕ
  pub link_target : Option (List ℕ)
  pub device : Option ℕ

abbrev pub found_view : FoundMembers → FoundData
found_view found = record {
  mode = found.mode;
  mtime = option_map stamp_view found.mtime;
  atime = option_map stamp_view found.atime;
  ctime = option_map stamp_view found.ctime;
  uid = found.uid;
  gid = found.gid;
  user = text_view found.user;
  group = text_view found.group;
  inode = found.inode;
  device_id = found.device_id;
  size = found.size;
  links = found.links;
  link_target = text_view found.link_target;
  device = found.device;
}

-- the instant that a value's text writes
abbrev pub as_stamp : Data → Option StampData
as_stamp d = option_and_then stamp_in (as_str d)

-- a whole number below 2^32
abbrev pub as_short : Data → Option ℕ
as_short = as_below (2 ^ 32)

-- what members say, each by its key
abbrev pub found_in : Members → FoundData
found_in members =
    let d = object members in
    record {
      mode = field (codes "mode") as_short d;
      mtime = field (codes "mtime") as_stamp d;
      atime = field (codes "atime") as_stamp d;
      ctime = field (codes "ctime") as_stamp d;
      uid = field (codes "uid") as_short d;
      gid = field (codes "gid") as_short d;
      user = field (codes "user") as_str d;
      group = field (codes "group") as_str d;
      inode = field (codes "inode") as_whole d;
      device_id = field (codes "device_id") as_whole d;
      size = field (codes "size") as_whole d;
      links = field (codes "links") as_whole d;
      link_target = field (codes "linktarget") as_str d;
      device = field (codes "device") as_whole d;
    }

-- a number that is not written where it is 0
abbrev pub counted : ℕ → Option ℕ
counted n = if n == 0 then None else Some n

-- what is found of what a node says: all of it, but for numbers that are 0
abbrev pub found_of : MembersData → FoundData
found_of m = record {
  mode = counted m.mode;
  mtime = Some m.mtime;
  atime = Some m.atime;
  ctime = Some m.ctime;
  uid = Some m.uid;
  gid = Some m.gid;
  user = m.user;
  group = m.group;
  inode = counted m.inode;
  device_id = counted m.device_id;
  size = counted m.size;
  links = counted m.links;
  link_target = m.link_target;
  device = counted m.device;
}
