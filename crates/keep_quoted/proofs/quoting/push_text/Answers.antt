use Rattle.std.proofs.Common.{append-nil, append_assoc, sym, ◌∙◌}
use Rattle.std.proofs.lemmas.Str.{IsUtf8-past_char, chars_past_char}
use Rattle.keep_quoted.proofs.Chunks.{text_quoted_empty}
use Rattle.keep_quoted.proofs.quoting.push_text.Goals as goal

pub loop-letter-preserved : goal.loop-letter-preserved
loop-letter-preserved c =
    let steps = c.in-Some.ensures.steps in
    let is_text = c.loop-letter.invariant.0 in
    let past = chars_past_char _ _ _ is_text steps.0 in
    (IsUtf8-past_char _ _ _ is_text steps.0, rw (c.in_ok-push_letter.ensures, append_assoc) (rw past at c.loop-letter.invariant.1))

pub returns : goal.returns
returns c = sym (append-nil _) ∙ rw (text_quoted_empty _ c.in-None.ensures.steps.0.0) at c.loop-letter.invariant.1
