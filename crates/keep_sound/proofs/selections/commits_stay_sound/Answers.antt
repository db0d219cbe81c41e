use Rattle.keep_sound.proofs.Selected as lemmas
use Rattle.keep_sound.proofs.selections.commits_stay_sound.Goals as goal

pub returns : goal.returns
returns c = lemmas.commits_stay_sound
