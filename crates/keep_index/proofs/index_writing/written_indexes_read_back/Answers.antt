use Rattle.keep_index.proofs.ReadFits.{index_of_fits}
use Rattle.keep_index.proofs.RoundTrip.{index_of-index_text}
use Rattle.keep_index.proofs.index_writing.written_indexes_read_back.Goals as goal

pub returns-clause-written : goal.returns-clause-written
returns-clause-written c = index_of-index_text

pub returns-clause-read : goal.returns-clause-read
returns-clause-read c = index_of_fits
