use Rattle.std.proofs.Common.{◌≡◌, ℕ, ◌+◌, ◌<◌, false, get_or}
use Rattle.keep_backup.specs.Files.{paths_seen}
use Rattle.keep_backup.specs.Paths.{Path, is_front}
use Rattle.keep_backup.proofs.paths.have_clash.Given as goal

abbrev pub invariant-loop-i : goal.invariant-loop-i
invariant-loop-i l =
    (k : ℕ) (d : Path) → k + 1 < l.i → is_front (get_or (paths_seen 0 l.files) k d) (get_or (paths_seen 0 l.files) (k + 1) d) ≡ false
