use Rattle.keep_sound.proofs.Keeping.{careful_is_safe}
use Rattle.keep_sound.proofs.careful.careful_changes_are_safe.Goals as goal

pub returns : goal.returns
returns c = careful_is_safe c.soundness_is_by_names.ensures c.results_follow_the_lists.ensures.facets c.results_follow_the_lists.ensures.files
