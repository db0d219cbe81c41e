use Rattle.keep_sound.proofs.KeepingWhole.{safe_keeps_whole}
use Rattle.keep_sound.proofs.whole.safe_changes_keep_whole.Goals as goal

pub returns : goal.returns
returns c = safe_keeps_whole c.results_follow_the_lists.ensures.files c.sound_repositories_are_whole.ensures
