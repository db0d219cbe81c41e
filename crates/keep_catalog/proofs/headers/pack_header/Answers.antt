use Rattle.std.proofs.Common.{◌≢◌, sym, ap, rules}
use Rattle.keep_names.specs.declared.file_name.Kind.TheVariants.{Pack}
use Rattle.keep_pack.specs.Reading.{header_of}
use Rattle.keep_pack.specs.declared.pack_error.PackError.TheVariants.{Memory}
use Rattle.keep_catalog.specs.Files.{readable}
use Rattle.keep_catalog.proofs.Noted.{not_there, read_as, refused}
use Rattle.keep_catalog.proofs.headers.pack_header.Goals as goal

pub returns-in_default : goal.returns-in_default
returns-in_default c =
    sym (ap (readable c.args.pack) (not_there c.args.repo.now Pack c.args.pack header_of _ c.pack.ensures c.in_default.ensures))

pub returns-in-Ok : goal.returns-in-Ok
returns-in-Ok c =
    sym (ap (readable c.args.pack) (read_as c.args.repo.now Pack c.args.pack header_of _ c.in-Some.bytes.now c.as_slice.result.now _ c.pack.ensures c.in-Some.ensures c.as_slice.ensures c.in-Ok.ensures.exact))

pub returns-else-is_pack_memory : goal.returns-else-is_pack_memory
returns-else-is_pack_memory c =
    let other : c.in-Err.refusal ≢ Memory = λ h. search (rules) in
    sym (ap (readable c.args.pack) (read_as c.args.repo.now Pack c.args.pack header_of _ c.in-Some.bytes.now c.as_slice.result.now _ c.pack.ensures c.in-Some.ensures c.as_slice.ensures (refused _ _ other c.in-Err.ensures.exact)))
