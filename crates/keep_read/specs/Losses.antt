-- What no audit of a sound repository finds.
use Rattle.std.specs.Prelude.{All}
use Rattle.keep_repo.specs.Repository.{Repository}
use Rattle.keep_reach.specs.Sound.{IsOfTree, IsSound}
use Rattle.keep_read.specs.Findings.{findings_in}
use Rattle.keep_read.specs.declared.finding.Finding.{Finding}
use Rattle.keep_read.specs.declared.finding.Finding.TheVariants.{Broken, Unreadable, WrongBlob, WrongName}

-- if it is of a broken snapshot, a tree is why: no blob is missing, and none has another hash
abbrev pub LosesNoBlob : Finding → Type 0
LosesNoBlob (Broken snapshot why) = IsOfTree why
LosesNoBlob (WrongName name) = Unit {0}
LosesNoBlob (Unreadable file) = Unit {0}
LosesNoBlob (WrongBlob pack blob) = Unit {0}

-- an audit of a sound repository finds no snapshot broken for a missing blob, or for one with another hash
abbrev pub SoundLosesNoBlob : Type 0
SoundLosesNoBlob = (r : Repository) → IsSound r → All LosesNoBlob (findings_in r)
