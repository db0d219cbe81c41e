use Rattle.std.proofs.Common.{[], ◌∷◌, ◌++◌, ◌∙◌}
use Rattle.json.specs.Print.{quoted}
use Rattle.serde_json.specs.Written.{comma_if}
use Rattle.keep_docs.proofs.Behind.{behind_none, behind_one_alone, behind_two, nothing_found}
use Rattle.keep_docs.proofs.text_of.behind_key.Goals as goal

pub returns-in_err-rest : goal.returns-in_err-rest
returns-in_err-rest c =
    nothing_found c.from_residual.result c.from_residual.ensures
    ∙ behind_none (comma_if c.args.later) (quoted c.args.key.now ++ 58 ∷ []) c.args.bytes.now c.in_err-rest.ensures

pub returns-in_err-rest-2 : goal.returns-in_err-rest-2
returns-in_err-rest-2 c =
    nothing_found c.from_residual-in_err-rest-2.result c.from_residual-in_err-rest-2.ensures
    ∙ behind_one_alone (comma_if c.args.later) (quoted c.args.key.now) (58 ∷ []) c.args.bytes.now c.in_ok-rest.rest.now c.in_ok-rest.ensures c.in_err-rest-2.ensures

pub returns : goal.returns
returns c =
    c.behind_piece.ensures
    ∙ behind_two (comma_if c.args.later) (quoted c.args.key.now) (58 ∷ []) c.args.bytes.now c.in_ok-rest.rest.now c.in_ok-rest-2.rest.now c.in_ok-rest.ensures c.in_ok-rest-2.ensures
