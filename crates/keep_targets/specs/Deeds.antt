-- What is noted of a target.
use Rattle.std.specs.Prelude.{string_bytes}
use Rattle.keep_targets.specs.Call.{Append, Call, Cut, Did, MakeFile, MakeFolder, MakeLink, Refused, SetLinkOwner, SetMode, SetOwner, SetTimes}
use Rattle.keep_targets.specs.declared.noted_call.NotedCall.{NotedCall}
use Rattle.keep_targets.specs.declared.noted_call.NotedCall.TheVariants as deed

-- the call that was noted, by the bytes of the paths
abbrev pub call_of : NotedCall → Call
call_of (deed.MakeFolder path) = Did (MakeFolder (string_bytes path))
call_of (deed.MakeFile path) = Did (MakeFile (string_bytes path))
call_of (deed.Append path bytes) = Did (Append (string_bytes path) bytes.items)
call_of (deed.MakeLink path to) = Did (MakeLink (string_bytes path) (string_bytes to))
call_of (deed.SetOwner path owner) = Did (SetOwner (string_bytes path) owner)
call_of (deed.SetLinkOwner path owner) = Did (SetLinkOwner (string_bytes path) owner)
call_of (deed.SetMode path mode) = Did (SetMode (string_bytes path) mode)
call_of (deed.SetTimes path times) = Did (SetTimes (string_bytes path) times)
call_of (deed.Refuse refusal) = Refused refusal
call_of (deed.Stop path bytes short) = Cut (string_bytes path) bytes.items short
