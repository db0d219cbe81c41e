use Rattle.keep_entries.proofs.Telling.{forms_differ, one_event}
use Rattle.keep_entries.proofs.entry_laws.one_event_is_spelled.Goals as goal

pub returns-clause-events : goal.returns-clause-events
returns-clause-events c = one_event

pub returns-clause-forms : goal.returns-clause-forms
returns-clause-forms c = forms_differ
