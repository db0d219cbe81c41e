use Rattle.keep_names.proofs.Orders.{id_total, name_total}
use Rattle.keep_plan.proofs.Sets.{one_more, two_more}
use Rattle.keep_plan.proofs.Used.{one_more_used}
use Rattle.keep_plan.proofs.reuses.Reuses.rest_on.Goals as goal

pub returns : goal.returns
returns c r blobs blob is =
    one_more_used r blobs blob (c.args.pack, c.args.index) c.args.self.now (record { present = c.insert-2.new.self; unmarked = c.insert-3.new.self }) c.files_used.result.0 c.files_used.result.1 c.files_used.ensures is
    (two_more name_total c.args.self.now.present c.insert.new.self c.files_used.result.0 c.in_ok-insert.ensures.updates.0
    c.insert-2.new.self c.files_used.result.1 c.in_ok-insert-2.ensures.updates.0)
    (one_more id_total c.args.self.now.unmarked c.insert-3.new.self c.args.pack c.in_ok-insert-3.ensures.updates.0)
