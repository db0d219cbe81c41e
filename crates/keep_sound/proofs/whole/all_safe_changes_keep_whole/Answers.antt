use Rattle.keep_sound.proofs.KeepingWhole.{all_safe_keep_whole}
use Rattle.keep_sound.proofs.whole.all_safe_changes_keep_whole.Goals as goal

pub returns : goal.returns
returns c = all_safe_keep_whole c.safe_changes_keep_whole.ensures
