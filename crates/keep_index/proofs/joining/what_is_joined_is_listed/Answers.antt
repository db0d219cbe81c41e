use Rattle.keep_index.proofs.Entries.{entries_told_apart}
use Rattle.keep_index.proofs.Joined.{entries_apart, entries_joined, joined_fits, packs_apart, packs_joined}
use Rattle.keep_index.proofs.joining.what_is_joined_is_listed.Goals as goal

pub returns-clause-packs : goal.returns-clause-packs
returns-clause-packs c = packs_joined

pub returns-clause-entries : goal.returns-clause-entries
returns-clause-entries c = entries_joined

pub returns-clause-packs_once : goal.returns-clause-packs_once
returns-clause-packs_once c = packs_apart

pub returns-clause-entries_once : goal.returns-clause-entries_once
returns-clause-entries_once c = entries_apart

pub returns-clause-exact : goal.returns-clause-exact
returns-clause-exact c = entries_told_apart

pub returns-clause-fits : goal.returns-clause-fits
returns-clause-fits c = joined_fits
