-- The last change follows the parts.
use Rattle.std.proofs.Common.{map, string_bytes, rules}
use Rattle.std.proofs.lemmas.Result.{IfOk-at_ok}
use Rattle.keep_backup.specs.Backup.{facts_view}
use Rattle.keep_book.specs.Armed.{ledger_of}
use Rattle.keep_backups.proofs.Storing.{backs_up}
use Rattle.keep_backups.proofs.backing_up.back_up.Goals as goal

pub returns-clause-backed_up : goal.returns-clause-backed_up
returns-clause-backed_up g c =
    let wish = c.args.wish.now in
    let tree = IfOk-at_ok _ c.in_ok-filled.was c.filled-given.ensures.tree in
    let all = backs_up g.R.Source.told wish.job.now wish.cut.bytes (facts_view wish.facts.now) (map string_bytes wish.tags.now)
    (ledger_of c.args.book.now) (ledger_of c.filled-given.result.0.book.now) (ledger_of c.add_snapshot.new.book) c.in_ok-filled.filled c.add_snapshot.result
    c.filled-given.ensures.parts tree c.add_snapshot.ensures.added c.add_snapshot.ensures.skipped in
    search (rules, all)
