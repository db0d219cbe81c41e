use Rattle.std.proofs.Common.{append-nil, append_assoc, sym, ◌∙◌}
use Rattle.keep_quoted.proofs.Chunks.{quoted_chunk, quoted_empty}
use Rattle.keep_quoted.proofs.quoting.quote.Goals as goal

pub loop-chunk-preserved : goal.loop-chunk-preserved
loop-chunk-preserved c =
    let steps = c.in-Some.ensures.steps in
    let text = quoted_chunk _ _ _ _ steps.0 steps.3.0 steps.3.1 steps.2 in
    rw (c.in_ok-push_bytes.ensures, c.in_ok-push_text.ensures, c.invalid.ensures, c.valid.ensures)
    (simp append_assoc (rw text at c.loop-chunk.invariant))

pub returns : goal.returns
returns c = sym (append-nil _) ∙ rw (quoted_empty _ c.in-None.ensures.steps.0) at c.loop-chunk.invariant
