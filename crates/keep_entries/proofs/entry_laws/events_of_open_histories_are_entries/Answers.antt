use Rattle.keep_entries.proofs.OpenHistories.{events_are_entries}
use Rattle.keep_entries.proofs.entry_laws.events_of_open_histories_are_entries.Goals as goal

pub returns : goal.returns
returns c = events_are_entries
