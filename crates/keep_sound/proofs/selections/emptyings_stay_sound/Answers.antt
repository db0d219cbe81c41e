use Rattle.keep_sound.proofs.Selected as lemmas
use Rattle.keep_sound.proofs.selections.emptyings_stay_sound.Goals as goal

pub returns : goal.returns
returns c = lemmas.emptyings_stay_sound c.results_follow_the_lists.ensures.facets c.results_follow_the_lists.ensures.files
