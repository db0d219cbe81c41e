use Rattle.std.proofs.Common.{sym, ◌∙◌}
use Rattle.keep_catalog.proofs.UnreadKept.{least_first, no_first}
use Rattle.keep_catalog.proofs.tables.first_of.Goals as goal

pub returns-in_err-name : goal.returns-in_err-name
returns-in_err-name c r kept =
    c.from_residual.ensures ∙ sym (no_first r c.args.unread.now.entries kept c.in_err-name.ensures.none)

pub returns : goal.returns
returns c r kept =
    c.unread_file.ensures r kept
    ∙ sym (least_first r c.args.unread.now.entries kept c.in_ok-name.name c.in_ok-name.ensures.among c.in_ok-name.ensures.least)
