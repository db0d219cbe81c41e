use Rattle.std.proofs.Common.{◌≢◌, sym, ap, rules}
use Rattle.std.specs.Option.{option_map}
use Rattle.std.specs.Result.{result_err, result_ok}
use Rattle.keep_docs.specs.declared.doc.DocError.TheVariants.{Memory}
use Rattle.keep_index.specs.declared.index_error.IndexError.TheVariants.{Doc}
use Rattle.keep_catalog.specs.Files.{index_of}
use Rattle.keep_catalog.specs.declared.unread.FileError.TheVariants.{Index}
use Rattle.keep_catalog.proofs.file_reading.read_listed.Goals as goal

pub returns-in-Ok-clause-packs : goal.returns-in-Ok-clause-packs
unfolding index_of
returns-in-Ok-clause-packs c = sym (ap result_ok c.in-Ok.ensures)

pub returns-in-Ok-clause-why : goal.returns-in-Ok-clause-why
unfolding index_of
returns-in-Ok-clause-why c = sym (ap (λ read. option_map Index (result_err read)) c.in-Ok.ensures)

pub returns-else-is_index_memory-clause-packs : goal.returns-else-is_index_memory-clause-packs
unfolding index_of
returns-else-is_index_memory-clause-packs c =
    let other : c.in-Err.refusal ≢ Doc Memory = λ h. search (rules) in
    sym (ap result_ok (c.in-Err.ensures other))

pub returns-else-is_index_memory-clause-why : goal.returns-else-is_index_memory-clause-why
unfolding index_of
returns-else-is_index_memory-clause-why c =
    let other : c.in-Err.refusal ≢ Doc Memory = λ h. search (rules) in
    sym (ap (λ read. option_map Index (result_err read)) (c.in-Err.ensures other))
