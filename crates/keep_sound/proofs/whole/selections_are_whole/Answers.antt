use Rattle.keep_sound.proofs.KeepingWhole as lemmas
use Rattle.keep_sound.proofs.whole.selections_are_whole.Goals as goal

pub returns : goal.returns
returns c = lemmas.selections_are_whole c.results_follow_the_lists.ensures.facets c.results_follow_the_lists.ensures.files
