use Rattle.keep_index.proofs.index_writing.pack_value.Goals as goal

pub returns-in-Ok-json-4-clause-fits : goal.returns-in-Ok-json-4-clause-fits
returns-in-Ok-json-4-clause-fits c = (c.id_fits.ensures, c.in_ok-blobs.ensures.fits)
