-- What the operators of a crew back up.
use Rattle.std.specs.Prelude.{ℕ, List, [], ◌∷◌, ◌++◌, codes}
use Rattle.std.specs.Fmt.{decimal}
use Rattle.keep_jobs.specs.Job.{JobData, Backup}
use Rattle.keep_jobs.specs.Resolving.{facts_of}

-- the file of operator i: its path ends with i, and its bytes are i, in decimal
abbrev pub file_of : ℕ → List ℕ × List ℕ
file_of i = (codes "/crew-" ++ decimal i, decimal i)

-- its job: to back that file up at this time, as the host `crew`
abbrev pub backup_of : (time : List ℕ) → ℕ → JobData
backup_of time i = Backup (facts_of (codes "crew") time) (file_of i ∷ [])
