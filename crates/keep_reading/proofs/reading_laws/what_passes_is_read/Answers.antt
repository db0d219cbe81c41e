use Rattle.keep_reading.proofs.Checked.{what_passes_is_read_lem, what_reads_passes_lem}
use Rattle.keep_reading.proofs.reading_laws.what_passes_is_read.Goals as goal

pub returns : goal.returns
returns c = record { passes = what_passes_is_read_lem; reads = what_reads_passes_lem }
