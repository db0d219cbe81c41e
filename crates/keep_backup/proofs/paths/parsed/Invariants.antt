use Rattle.std.proofs.Common.{map}
use Rattle.keep_docs.proofs.Each.{ReadUpTo}
use Rattle.keep_backup.specs.Files.{file_view, given_view}
use Rattle.keep_backup.specs.Paths.{given_file}
use Rattle.keep_backup.proofs.paths.parsed.Given as goal

abbrev pub invariant-loop-path : goal.invariant-loop-path
invariant-loop-path l = ReadUpTo given_view given_file l.given l.path-index (map file_view l.files.items)
