use Rattle.std.proofs.Common.{◌≡◌, ℕ, List, [], ◌∷◌, ◌++◌, None, Some, ap, ◌∙◌}
use Rattle.json.specs.Print.{escape}
use Rattle.keep_docs.specs.Behind.{behind}
use Rattle.keep_docs.proofs.Behind.{behind_none, behind_one_alone, behind_two, nothing_found}
use Rattle.keep_docs.proofs.text_of.behind_quoted.Goals as goal

pub returns-in_err-rest : goal.returns-in_err-rest
returns-in_err-rest c =
    nothing_found c.from_residual.result c.from_residual.ensures
    ∙ behind_none (34 ∷ []) (escape c.args.text.now ++ 34 ∷ []) c.args.bytes.now c.in_err-rest.ensures

pub returns-in_err-rest-2 : goal.returns-in_err-rest-2
returns-in_err-rest-2 c =
    let text = c.args.text.now in
    let rest = c.in_ok-rest.rest.now in
    let none : None ≡ behind (escape text) rest = c.in_err-rest-2.ensures ∙ ap (λ (t : List ℕ). behind (escape t) rest) c.as_bytes.ensures.value in
    nothing_found c.from_residual-in_err-rest-2.result c.from_residual-in_err-rest-2.ensures
    ∙ behind_one_alone (34 ∷ []) (escape text) (34 ∷ []) c.args.bytes.now rest c.in_ok-rest.ensures none

pub returns : goal.returns
returns c =
    let text = c.args.text.now in
    let rest = c.in_ok-rest.rest.now in
    let last = c.in_ok-rest-2.rest.now in
    let some : Some last ≡ behind (escape text) rest = c.in_ok-rest-2.ensures ∙ ap (λ (t : List ℕ). behind (escape t) rest) c.as_bytes.ensures.value in
    c.behind_piece-2.ensures ∙ behind_two (34 ∷ []) (escape text) (34 ∷ []) c.args.bytes.now rest last c.in_ok-rest.ensures some
