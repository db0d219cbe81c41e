use Rattle.keep_planned_books.proofs.Sound as lemmas
use Rattle.keep_planned_books.proofs.sound_books.books_stay_sound.Goals as goal

pub returns : goal.returns
returns c =
    lemmas.books_stay_sound c.accepted_requests_leave_open_ledgers.ensures c.commits_stay_sound.ensures c.emptyings_stay_sound.ensures
    c.filters_are_selections.ensures
