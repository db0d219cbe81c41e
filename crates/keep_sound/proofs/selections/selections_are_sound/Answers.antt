use Rattle.keep_sound.proofs.Selected as lemmas
use Rattle.keep_sound.proofs.selections.selections_are_sound.Goals as goal

pub returns : goal.returns
returns c = lemmas.selections_are_sound c.results_follow_the_lists.ensures.facets c.results_follow_the_lists.ensures.files
