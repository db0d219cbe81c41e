use Rattle.std.proofs.Common.{◌++◌, option_to_list, ap, ◌∙◌}
use Rattle.keep_catalog.specs.Wrong.{wrong_at}
use Rattle.keep_catalog.proofs.Growing.{no_entry}
use Rattle.keep_catalog.proofs.Hashes.{more_wrong}
use Rattle.keep_catalog.proofs.wrong.hash_entries.Goals as goal

pub loop-entry-preserved : goal.loop-entry-preserved
loop-entry-preserved c =
    more_wrong c.args.repo.now c.args.pack c.args.entries.now c.loop-entry.entry-index no_entry _ _ c.loop-entry-test.true c.loop-entry.invariant (c.in_ok-hash_place.ensures ∙ ap (λ place. c.loop-entry.blobs.items ++ option_to_list (wrong_at c.args.repo.now place)) c.of.ensures)
