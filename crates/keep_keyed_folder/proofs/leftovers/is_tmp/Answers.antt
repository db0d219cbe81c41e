use Rattle.std.proofs.Common.{subst}
use Rattle.std.proofs.lemmas.Bool.{false≢true}
use Rattle.std.specs.Str.Iter.{LacksByte}
use Rattle.keep_files.proofs.Cut.{has_it}
use Rattle.keep_keyed_folder.proofs.leftovers.is_tmp.Goals as goal

pub returns-in-Some : goal.returns-in-Some
returns-in-Some c =
    let home = c.in-Some.ensures.home in
    (λ e. absurd (false≢true e), λ h. absurd (has_it _ home.0 (subst (LacksByte 47) home.2 h.0)))
