-- What was seen, as a node of restic says it (its design document, "Trees and Data", and what restic 0.14 writes).
use Rattle.std.specs.Prelude.{ℕ, Option, None, Some, List, codes, string_bytes}
use Rattle.keep_members.specs.Members.{MembersData, text_view}
use Rattle.keep_members.specs.Mode.{go_mode}
use Rattle.keep_members.specs.Stamp.{StampData, nearest}
use Rattle.keep_sources.specs.declared.stat.StatKind.{StatKind}
use Rattle.keep_sources.specs.declared.stat.StatKind.TheVariants.{File, Folder, Link, Fifo, Socket, Device, CharDevice}
use Rattle.keep_sources.specs.declared.stat.Moment.{Moment}
use Rattle.keep_sources.specs.declared.stat.Stat.{Stat}

-- the word for a kind
abbrev pub type_name_of : StatKind → List ℕ
type_name_of File = codes "file"
type_name_of Folder = codes "dir"
type_name_of (Link target) = codes "symlink"
type_name_of Fifo = codes "fifo"
type_name_of Socket = codes "socket"
type_name_of Device = codes "dev"
type_name_of CharDevice = codes "chardev"

-- the nearest instant that a node can say
abbrev pub stamp_of : Moment → StampData
stamp_of moment = nearest moment.seconds moment.nanoseconds

-- a size is said of files alone
abbrev pub size_of : StatKind → ℕ → ℕ
size_of File size = size
size_of _ size = 0

-- how many names lead there is said of what can have several
abbrev pub links_of : StatKind → ℕ → ℕ
links_of Folder links = 0
links_of Fifo links = 0
links_of Socket links = 0
links_of _ links = links

-- the device that it stands for is said of devices alone
abbrev pub device_of : StatKind → ℕ → ℕ
device_of Device number = number
device_of CharDevice number = number
device_of _ number = 0

-- where a link leads
abbrev pub target_of : StatKind → Option (List ℕ)
target_of (Link target) = Some (string_bytes target)
target_of _ = None

-- What a node says of what was seen. A backup reads what it takes, so the moment of access is said as that of the last
-- modification, as restic does.
abbrev pub sighted : Stat → MembersData
sighted sight = record {
  mode = go_mode sight.mode;
  mtime = stamp_of sight.mtime;
  atime = stamp_of sight.mtime;
  ctime = stamp_of sight.ctime;
  uid = sight.uid;
  gid = sight.gid;
  user = text_view sight.user;
  group = text_view sight.group;
  inode = sight.inode;
  device_id = sight.device;
  size = size_of sight.kind sight.size;
  links = links_of sight.kind sight.links;
  link_target = target_of sight.kind;
  device = device_of sight.kind sight.stands_for;
}
