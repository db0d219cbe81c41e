use Rattle.std.proofs.Common.{arith}
use Rattle.keep_plan.proofs.Taken.{none_taken, some_taken}
use Rattle.keep_plan.proofs.built_files.split_new.Goals as goal

pub returns-then-len-count-clause-taken : goal.returns-then-len-count-clause-taken
returns-then-len-count-clause-taken c =
    some_taken c.args.repo.now c.args.files.items c.in_ok-adds.adds.items c.in_ok-adds.ensures.adds
    (omega (arith, c.if-len-count.true, c.len.ensures, c.len-count.ensures))

pub returns-clause-taken : goal.returns-clause-taken
returns-clause-taken c =
    none_taken c.args.repo.now c.args.files.items c.in_ok-adds.adds.items c.in_ok-adds.ensures.adds
    (omega (arith, c.if-len-count.false, c.len.ensures, c.len-count.ensures))
