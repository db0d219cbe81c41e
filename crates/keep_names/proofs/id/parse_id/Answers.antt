use Rattle.std.proofs.Common.{Ok, ap, ◌∙◌}
use Rattle.keep_names.proofs.IdText.{digest-exact}
use Rattle.keep_names.proofs.id.parse_id.Goals as goal

pub returns-clause-printed : goal.returns-clause-printed
returns-clause-printed c = λ id whole e.
    let good = c.if-not-decode_into.false in
    let read = c.decode_into.ensures.written good ∙ c.as_bytes.ensures.value in
    ap Ok (digest-exact c.args.text.now c.decode_into.new.bytes c.if-text-ne64.false (c.decode_into.ensures.are_bytes good) read id whole e)
