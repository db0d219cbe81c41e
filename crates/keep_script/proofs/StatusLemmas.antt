-- A run that stops for another cause than a bad line.
use Rattle.std.proofs.Common.{◌≡◌, ℕ, List, Option, refl}
use Rattle.std.specs.Io.KnownBytes.{Keeps}
use Rattle.keep_lines.specs.declared.mistake.Mistake.{Mistake}
use Rattle.keep_script.specs.Run.{StopsAt}
use Rattle.keep_script.specs.Status.{status_at}
use Rattle.keep_script.specs.declared.status.RunStatus.{RunStatus}
use Rattle.keep_script.specs.declared.status.Stop.{Stop}
use Rattle.keep_script.specs.declared.status.Stop.TheVariants.{BadLine, ReadFailed, ScriptTooLong, WriteFailed, NoMemory, Untold}

pub StopsAt-other : (a b : Option (List ℕ)) (number : ℕ) (stop : Stop) (status : RunStatus) → ((why : Mistake) → stop ≡ BadLine why → ⊥) → Keeps a b → status ≡ status_at stop number → StopsAt a b number stop status
StopsAt-other a b number (BadLine why) status other kept same = absurd (other why refl)
StopsAt-other a b number ReadFailed status other kept same = (same, kept)
StopsAt-other a b number ScriptTooLong status other kept same = (same, kept)
StopsAt-other a b number WriteFailed status other kept same = (same, kept)
StopsAt-other a b number NoMemory status other kept same = (same, kept)
StopsAt-other a b number Untold status other kept same = (same, kept)
