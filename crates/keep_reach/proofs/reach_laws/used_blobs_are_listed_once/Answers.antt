use Rattle.keep_reach.proofs.UsedBlobs.{used_distinct, used_listed, used_sorted}
use Rattle.keep_reach.proofs.reach_laws.used_blobs_are_listed_once.Goals as goal

pub returns : goal.returns
returns c = record { used = used_listed; once = used_distinct; ordered = used_sorted }
