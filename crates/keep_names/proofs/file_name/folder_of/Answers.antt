use Rattle.std.proofs.Common.{rules}
use Rattle.keep_names.proofs.Paths.{first_byte-take}
use Rattle.keep_names.proofs.file_name.folder_of.Goals as goal

pub returns : goal.returns
returns c =
    let folder = first_byte-take c.args.id.0 (search rules) (search rules) in
    rw (c.laid_out.ensures, c.in_radix.ensures, folder) at c.format.ensures.ok
