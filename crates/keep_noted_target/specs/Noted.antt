-- What was asked of a store.
use Rattle.std.specs.Prelude.{Bool, List, Result, Ok, Err, map}
use Rattle.keep_targets.specs.Call.{Call, Refused}
use Rattle.keep_targets.specs.Deeds.{call_of}
use Rattle.keep_targets.specs.declared.target_error.TargetError.{TargetError}
use Rattle.keep_noted_target.specs.declared.noted.NotedTarget.{NotedTarget}

abbrev pub calls_in : {S : Type 0} → NotedTarget S → List Call
calls_in target = map call_of target.calls.items

-- whether nothing was in its root
abbrev pub is_new_in : {S : Type 0} → NotedTarget S → Bool
is_new_in target = target.is_new

-- a call that was to end as this one, or that was refused
abbrev pub as_noted : Result (Unit {0}) TargetError → Call → Call
as_noted (Ok _) call = call
as_noted (Err refusal) call = Refused refusal
