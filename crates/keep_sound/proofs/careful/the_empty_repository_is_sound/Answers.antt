use Rattle.keep_sound.proofs.Empty.{empty_is_sound}
use Rattle.keep_sound.proofs.careful.the_empty_repository_is_sound.Goals as goal

pub returns : goal.returns
returns c = empty_is_sound
