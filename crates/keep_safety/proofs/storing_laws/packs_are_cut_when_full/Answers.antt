use Rattle.keep_safety.proofs.CutPacks.{are_cut}
use Rattle.keep_safety.proofs.storing_laws.packs_are_cut_when_full.Goals as goal

pub returns : goal.returns
returns c = are_cut
