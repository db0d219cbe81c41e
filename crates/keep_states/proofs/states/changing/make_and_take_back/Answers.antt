-- What was begun and abandoned is as it was, and what the change wrote is still there, since nothing came in between.
use Rattle.std.proofs.Common.{◌≡◌, true, ap, ◌∙◌, rules}
use Rattle.keep_repo.specs.Repository.{Repository, held}
use Rattle.keep_change.specs.Change.{is_ready}
use Rattle.keep_change.specs.Result.{reverse_of}
use Rattle.keep_change.proofs.History.{ready_to_take_back}
use Rattle.keep_states.proofs.states.changing.make_and_take_back.Goals as goal

pub apply-requires : goal.apply-requires
apply-requires c =
    let ready : is_ready (held c.args.repo.now) c.args.change.now ≡ true = search rules in
    ap (λ (r : Repository). is_ready (held r) c.args.change.now) (c.abandon.ensures c.args.repo.now ready c.in_ok-begin.ensures.ok) ∙ ready

pub begin-requires-2 : goal.begin-requires-2
begin-requires-2 c =
    ap (λ (r : Repository). is_ready (held r) (reverse_of c.args.change.now)) c.in_ok-apply.ensures.ok
    ∙ ready_to_take_back c.args.change.now c.abandon.new.repo (c.well_formed-2.ensures.0 c.if-not-well_formed.false)

pub unapply-requires : goal.unapply-requires
unapply-requires c =
    let ready : is_ready (held c.apply.new.repo) (reverse_of c.args.change.now) ≡ true =
    ap (λ (r : Repository). is_ready (held r) (reverse_of c.args.change.now)) c.in_ok-apply.ensures.ok
    ∙ ready_to_take_back c.args.change.now c.abandon.new.repo (c.well_formed-2.ensures.0 c.if-not-well_formed.false) in
    ap (λ (r : Repository). is_ready (held r) (reverse_of c.args.change.now)) (c.abandon-2.ensures c.apply.new.repo ready c.in_ok-begin-2.ensures.ok) ∙ ready
