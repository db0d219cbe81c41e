use Rattle.std.proofs.Common.{rules, ◌<◌, ◌^◌, refl, arith}
use Rattle.keep_options.proofs.NumberLemmas.{number-in, number-unread}
use Rattle.keep_options.proofs.options.Numbers.read.Goals as goal

pub returns-in_default-parse : goal.returns-in_default-parse
returns-in_default-parse c =
    let small : c.args.self.most < 2 ^ 32 = search rules in
    rw (c.in-Some.is, number-unread c.args.self.least c.args.self.most c.in-Some.text.now c.parse.result c.in_default-parse.field-0 small c.parse.ensures.value.0 c.in_default-parse.is) refl

pub returns : goal.returns
returns c =
    rw (c.in-Some.is, number-in c.args.self.least c.args.self.most c.in-Ok.number c.in-Some.text.now c.parse.result c.parse.ensures.value.0 c.in-Ok.is (omega arith) (omega arith)) refl
