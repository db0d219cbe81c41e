-- The lines about an earlier change.
use Rattle.std.specs.Prelude.{ℕ, List, ◌++◌, codes}
use Rattle.std.specs.Fmt.{decimal}
use Rattle.keep_journal.specs.declared.request.Request.{Request}
use Rattle.keep_journal.specs.declared.request.Request.TheVariants as request
use Rattle.keep_names.specs.Number.{IsNumber}
use Rattle.keep_lines.specs.declared.revision.Revision.{Revision}
use Rattle.keep_lines.specs.declared.revision.Revision.TheVariants.{Undo, Redo, Empty}

-- `undo N`, `redo N` or `empty N`
abbrev pub revision_text : Revision → List ℕ
revision_text (Undo n) = codes "undo " ++ decimal n
revision_text (Redo n) = codes "redo " ++ decimal n
revision_text (Empty n) = codes "empty " ++ decimal n

-- what a book is asked by it
abbrev pub request_of : Revision → Request
request_of (Undo n) = request.Undo n
request_of (Redo n) = request.Redo n
request_of (Empty n) = request.Empty n

-- its number has 64 bits
abbrev pub IsRevision : Revision → Type 0
IsRevision (Undo n) = IsNumber n
IsRevision (Redo n) = IsNumber n
IsRevision (Empty n) = IsNumber n
