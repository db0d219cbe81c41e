use Rattle.std.proofs.Common.{Ok, ◌∙◌}
use Rattle.std.proofs.lemmas.Iterator.{YieldsList-from_chars, items_from_collect}
use Rattle.std.specs.declared.alloc.AllocError.{AllocError}
use Rattle.keep_patterns.proofs.letters.letters_of.Goals as goal

pub returns : goal.returns
returns c = c.from_vec.ensures ∙ items_from_collect {E = AllocError} (Ok c.in_ok-letters.letters) c.in_ok-letters.ensures.ran (YieldsList-from_chars c.args.text.now c.utf8.text c.chars.ensures.rest)
