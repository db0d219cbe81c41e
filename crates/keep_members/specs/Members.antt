-- What a node says beside its name and what it is (restic's design document, "Trees and Data", and the nodes of
-- restic's trees).
use Rattle.std.specs.Prelude.{ℕ, ◌<◌, ◌^◌, List, Option, option_map, IfSome, IsUtf8, String, string_bytes}
use Rattle.std.specs.declared.alloc.Global.{Global}
use Rattle.keep_members.specs.Stamp.{IsInstant, StampData}
use Rattle.keep_members.specs.declared.stamp.Stamp.{Stamp}
use Rattle.keep_members.specs.declared.members.Members.{Members}

-- what is said of every node, where a number that is 0 may not be written
pub record MembersData : Type 0 where
  pub mode : ℕ
  pub mtime : StampData
  pub atime : StampData
  pub ctime : StampData
  pub uid : ℕ
  pub gid : ℕ
  pub user : Option (List ℕ)
  pub group : Option (List ℕ)
  pub inode : ℕ
  pub device_id : ℕ
  pub size : ℕ
  pub links : ℕ
  pub link_target : Option (List ℕ)
  pub device : ℕ

-- what can be said: numbers that fit their places, instants of the range, and texts
pub record IsSaid (m : MembersData) : Type 0 where
  pub mode : m.mode < 2 ^ 32
  pub mtime : IsInstant m.mtime.seconds m.mtime.nanoseconds
  pub atime : IsInstant m.atime.seconds m.atime.nanoseconds
  pub ctime : IsInstant m.ctime.seconds m.ctime.nanoseconds
  pub uid : m.uid < 2 ^ 32
  pub gid : m.gid < 2 ^ 32
  pub user : IfSome m.user IsUtf8
  pub group : IfSome m.group IsUtf8
  pub inode : m.inode < 2 ^ 64
  pub device_id : m.device_id < 2 ^ 64
  pub size : m.size < 2 ^ 64
  pub links : m.links < 2 ^ 64
  pub link_target : IfSome m.link_target IsUtf8
  pub device : m.device < 2 ^ 64

-- ---- what the types of the code say

abbrev pub stamp_view : Stamp → StampData
stamp_view stamp = record { seconds = stamp.seconds; nanoseconds = stamp.nanoseconds }

abbrev pub text_view : Option (String Global) → Option (List ℕ)
text_view text = option_map string_bytes text

abbrev pub members_data : Members → MembersData
members_data members = record {
  mode = members.mode;
  mtime = stamp_view members.mtime;
  atime = stamp_view members.atime;
  ctime = stamp_view members.ctime;
  uid = members.uid;
  gid = members.gid;
  user = text_view members.user;
  group = text_view members.group;
  inode = members.inode;
  device_id = members.device_id;
  size = members.size;
  links = members.links;
  link_target = text_view members.link_target;
  device = members.device;
}
