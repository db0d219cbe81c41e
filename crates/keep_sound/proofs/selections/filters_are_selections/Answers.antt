use Rattle.keep_sound.proofs.Selected as lemmas
use Rattle.keep_sound.proofs.selections.filters_are_selections.Goals as goal

pub returns : goal.returns
returns c = lemmas.filters_are_selections
