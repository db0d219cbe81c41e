use Rattle.keep_planned_books.proofs.Going.{jobs_lose_nothing, revisions_lose_nothing, taken_lose_nothing}
use Rattle.keep_planned_books.proofs.lines.planned_lines_lose_nothing.Goals as goal

pub returns : goal.returns
returns c =
    let books = c.planned_histories_lose_nothing.ensures.books in
    record {
      jobs = jobs_lose_nothing books;
      revisions = revisions_lose_nothing books;
      cascades = taken_lose_nothing c.planned_histories_lose_nothing.ensures.cascades;
    }
