use Rattle.std.proofs.Common.{arith}
use Rattle.keep_pack.proofs.Grammar.{is_found, is_only, is_within}
use Rattle.keep_pack.proofs.header.read_header.Goals as goal

pub returns-clause-found : goal.returns-clause-found
returns-clause-found c =
    is_found c.args.pack.now c.entries_in.result (λ i. omega (
      arith,
      c.type_inv.pack i,
    )) c.entries_in.ensures

pub returns-clause-only : goal.returns-clause-only
returns-clause-only c = is_only c.args.pack.now c.entries_in.result c.entries_in.ensures

pub returns-clause-within : goal.returns-clause-within
returns-clause-within c =
    is_within c.args.pack.now c.entries_in.result (λ i. omega (
      arith,
      c.type_inv.pack i,
    )) c.entries_in.ensures
