use Rattle.std.proofs.lemmas.Slice.Eq.{strip_prefix_is}
use Rattle.std.specs.Cmp.{unsigned_Decides}
use Rattle.keep_docs.proofs.Behind.{behind_found}
use Rattle.keep_docs.proofs.text_of.behind_piece.Goals as goal

pub returns : goal.returns
returns c =
    let piece = c.args.piece.now in
    let bytes = c.args.bytes.now in
    behind_found piece bytes c.strip_prefix.result
    (strip_prefix_is unsigned_Decides bytes piece c.strip_prefix.result c.strip_prefix.ensures.cases)
