use Rattle.std.proofs.Common.{Ok, ◌∙◌, ap}
use Rattle.std.proofs.lemmas.Iterator.{YieldsList-from_chars, items_from_collect}
use Rattle.std.proofs.lemmas.Result.{IfOk-weaker}
use Rattle.std.specs.declared.alloc.AllocError.{AllocError}
use Rattle.keep_tables.specs.Shown.{shown_chars}
use Rattle.keep_tables.proofs.shown_text.shown.Goals as goal

pub returns : goal.returns
returns c =
    let letters = items_from_collect {E = AllocError} (Ok c.in_ok-letters.letters) c.in_ok-letters.ensures.ran (YieldsList-from_chars c.args.text.now c.utf8.text c.chars.ensures.rest) in
    IfOk-weaker c.shown_letters.result _ _ (λ made e. e ∙ ap shown_chars (c.deref.ensures.value ∙ letters)) c.shown_letters.ensures
