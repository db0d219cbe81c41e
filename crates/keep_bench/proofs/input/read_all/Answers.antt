use Rattle.std.proofs.Common.{rules}
use Rattle.keep_bench.proofs.Whole.{whole_if_short}
use Rattle.keep_bench.proofs.input.read_all.Goals as goal

pub returns-clause-all : goal.returns-clause-all
returns-clause-all g c =
    whole_if_short 268435456 (g.R.Read.remaining c.args.reader) c.new-bytes.result.items c.read_to_end.new.buf.items
    c.new-bytes.ensures.items
    (rw (← c.take-reader.ensures.limit, ← c.take-reader.ensures.inner) c.in_ok-read_to_end.ensures.bytes)
    (search rules)
