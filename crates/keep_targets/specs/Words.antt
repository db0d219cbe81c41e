-- Refusals in words.
use Rattle.std.specs.Prelude.{ℕ, List, codes}
use Rattle.keep_targets.specs.declared.target_error.TargetError.{TargetError}
use Rattle.keep_targets.specs.declared.target_error.TargetError.TheVariants.{Denied, Failed, Full, Memory, Taken, Unknown, Unsayable}

abbrev pub refusal_text : TargetError → List ℕ
refusal_text Taken = codes "something is there already"
refusal_text Denied = codes "permission denied"
refusal_text Full = codes "no space left"
refusal_text Unsayable = codes "the system can't take it"
refusal_text Unknown = codes "the file system can't do it"
refusal_text Memory = codes "out of memory"
refusal_text Failed = codes "the file system failed"
