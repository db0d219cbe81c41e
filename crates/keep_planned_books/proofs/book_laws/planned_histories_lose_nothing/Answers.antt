use Rattle.keep_planned_books.proofs.Histories.{answers_lose_nothing, books_lose_nothing, cascades_lose_nothing, openings_lose_nothing, selections_lose_nothing}
use Rattle.keep_planned_books.proofs.Keeping.{Laws}
use Rattle.keep_planned_books.proofs.book_laws.planned_histories_lose_nothing.Goals as goal

pub returns : goal.returns
returns c =
    let laws : Laws = record {
      plans = c.planned_changes_keep_whole.ensures.sound;
      know = c.views_know_what_books_know.ensures;
      begin = c.books_begin_sound.ensures;
      stay = c.books_stay_sound.ensures;
      sound = c.books_are_sound.ensures;
      whole = c.sound_repositories_are_whole.ensures;
    } in
    let audits = c.sound_repositories_lose_no_blob.ensures in
    let stays = c.what_lasts_is_kept.ensures.stays in
    record {
      selections = selections_lose_nothing laws audits stays c.selections_of_books_are_sound.ensures;
      books = books_lose_nothing laws audits stays;
      answers = answers_lose_nothing laws audits stays;
      cascades = cascades_lose_nothing laws audits stays;
      openings = openings_lose_nothing laws audits stays c.one_reading.ensures;
    }
