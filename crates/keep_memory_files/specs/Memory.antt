-- A tree in memory as a value.
use Rattle.std.specs.Prelude.{[], ◌∷◌, ◌++◌, map, string_bytes}
use Rattle.std.specs.BTreeMap.{BTreeMap, get_by_text}
use Rattle.std.specs.declared.alloc.Global.{Global}
use Rattle.std.specs.declared.string.String.{String}
use Rattle.keep_files.specs.Act.{Act, Seen, Wrote, Renamed, Removed, Made, Synced}
use Rattle.keep_files.specs.Stands.{Stands}
use Rattle.keep_files.specs.declared.node.Node.{Node}
use Rattle.keep_memory_files.specs.declared.done_act.DoneAct.{DoneAct}
use Rattle.keep_memory_files.specs.declared.done_act.DoneAct.TheVariants.{Write, Rename, Remove, Make, Sync}
use Rattle.keep_memory_files.specs.declared.memory.MemoryTree.{MemoryTree}

-- what was done, by the bytes of the paths
abbrev pub act_of : DoneAct → Act
act_of (Write path bytes) = Wrote (string_bytes path) bytes
act_of (Rename from to) = Renamed (string_bytes from) (string_bytes to)
act_of (Remove path) = Removed (string_bytes path)
act_of (Make path) = Made (string_bytes path)
act_of (Sync path) = Synced (string_bytes path)

-- what stands at each path
abbrev pub standing : BTreeMap (String Global) Node → Stands
standing nodes = get_by_text nodes

abbrev pub seen_in : MemoryTree → Seen
seen_in t = record { stands = standing t.nodes; acts = map act_of t.deeds.items; failures = t.failures }

-- this stands there now
abbrev pub changed : Seen → Stands → Seen
changed s stands = record s { stands = stands }

-- one more act is noted
abbrev pub noted : Seen → Act → Seen
noted s act = record s { acts = s.acts ++ act ∷ [] }
