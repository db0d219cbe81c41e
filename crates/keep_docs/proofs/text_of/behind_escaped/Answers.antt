use Rattle.std.proofs.Common.{◌+◌, drop, get_or, ℕ, List, sym, ap, ◌∙◌, arith}
use Rattle.std.proofs.lemmas.List.{drop_all}
use Rattle.json.specs.Print.{escape, escape_byte}
use Rattle.keep_docs.specs.Behind.{behind}
use Rattle.keep_docs.proofs.Behind.{behind_none, behind_one, escape_here, nothing_found}
use Rattle.keep_docs.proofs.text_of.behind_escaped.Goals as goal

pub returns-in_err-rest : goal.returns-in_err-rest
returns-in_err-rest c =
    let text = c.args.text.now in
    let i = c.loop-byte.byte-index in
    let rest = c.loop-byte.rest.now in
    nothing_found c.from_residual.result c.from_residual.ensures
    ∙ behind_none (escape_byte (get_or text i 0)) (escape (drop (i + 1) text)) rest c.in_err-rest.ensures
    ∙ ap (λ (t : List ℕ). behind t rest) (escape_here text i (omega arith))
    ∙ sym c.loop-byte.invariant

pub loop-byte-preserved : goal.loop-byte-preserved
loop-byte-preserved c =
    let text = c.args.text.now in
    let i = c.loop-byte.byte-index in
    let rest = c.loop-byte.rest.now in
    c.loop-byte.invariant
    ∙ sym (ap (λ (t : List ℕ). behind t rest) (escape_here text i (omega arith)))
    ∙ sym (behind_one (escape_byte (get_or text i 0)) (escape (drop (i + 1) text)) rest c.in_ok-rest.rest.now c.in_ok-rest.ensures)

pub returns : goal.returns
unfolding behind
returns c =
    sym (c.loop-byte.invariant ∙ ap (λ (text : List ℕ). behind (escape text) c.loop-byte.rest.now) (drop_all c.loop-byte.byte-index c.args.text.now (omega arith)))
