use Rattle.std.proofs.Common.{◌∙◌, None, ap, map, sym}
use Rattle.std.proofs.lemmas.Iterator.{YieldsList-from_zip}
use Rattle.std.proofs.lemmas.Iterator.Adapters.{YieldsList-from_vec}
use Rattle.std.proofs.lemmas.Iterator.Consumers.{YieldsList-end}
use Rattle.std.proofs.lemmas.List.{map-id}
use Rattle.keep_threads.proofs.desk_crew.operators_of.Goals as goal

pub returns : goal.returns
returns g c =
    let all = YieldsList-end (YieldsList-from_zip (YieldsList-from_vec c.args.passes.items (cc) (cc)) (YieldsList-from_vec c.args.works.items (cc) (cc)))
    c.loop-pass.yielded c.loop-pass.pass-iterator c.loop-pass.yielded_by c.next.result c.next.new.self c.in-None.is c.next.ensures.steps in
    c.loop-pass.invariant.2
    ∙ ap (map (λ given. record { pass = given.0; work = given.1; answer = None })) (sym (map-id c.loop-pass.yielded) ∙ all.0)
