use Rattle.std.proofs.Common.{◌∙◌}
use Rattle.keep_backing.proofs.Texts.{same_texts}
use Rattle.keep_backing.proofs.unchanged.are_same.Goals as goal

pub returns : goal.returns
returns c = c.eq.ensures ∙ same_texts c.args.paths.now.items c.args.others.now.items
