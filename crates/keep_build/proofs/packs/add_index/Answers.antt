use Rattle.keep_build.proofs.Building.{some_items, with_index}
use Rattle.std.proofs.Common.{sym, ◌∙◌}
use Rattle.keep_build.proofs.packs.add_index.Goals as goal

pub returns : goal.returns
returns c packs files_are listed_are =
    c.in_ok-push.ensures.items
    ∙ with_index c.args.built.files.items c.args.built.listed.items c.in_ok-text.text.items c.in_ok-file.file packs
    (some_items c.args.built.listed (sym c.is_empty.ensures ∙ c.if-is_empty.false)) c.in_ok-text.ensures.text
    c.in_ok-file.ensures files_are listed_are
