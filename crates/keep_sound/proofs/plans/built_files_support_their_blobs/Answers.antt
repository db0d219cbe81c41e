use Rattle.keep_sound.proofs.Giving.{built_supports}
use Rattle.keep_sound.proofs.plans.built_files_support_their_blobs.Goals as goal

pub returns : goal.returns
returns c = built_supports
