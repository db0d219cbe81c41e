use Rattle.std.proofs.lemmas.Str.{IsUtf8-string_bytes}
use Rattle.keep_archive.proofs.archive_node.kind_of_other.Goals as goal

pub returns-clause-stands : goal.returns-clause-stands
returns-clause-stands c = (IsUtf8-string_bytes c.args.type_name, c.requires.folder, c.requires.file)
