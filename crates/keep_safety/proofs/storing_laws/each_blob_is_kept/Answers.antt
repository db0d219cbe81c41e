use Rattle.keep_safety.proofs.KeptBlobs.{kept_so}
use Rattle.keep_safety.proofs.storing_laws.each_blob_is_kept.Goals as goal

pub returns : goal.returns
returns c = kept_so
