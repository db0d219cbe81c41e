use Rattle.keep_index.proofs.Left.{blobs_left, fits_left}
use Rattle.keep_index.proofs.leaving.what_is_left_is_listed.Goals as goal

pub returns-clause-listed : goal.returns-clause-listed
returns-clause-listed c = blobs_left

pub returns-clause-fits : goal.returns-clause-fits
returns-clause-fits c = fits_left
