use Rattle.keep_planned_books.proofs.Said.{job_said}
use Rattle.keep_planned_books.proofs.book_laws.jobs_are_said_in_texts.Goals as goal

pub returns : goal.returns
returns g c = job_said c.a_planned_backup_is_safe.ensures.texts c.a_planned_tagging_is_safe.ensures.texts _ c.args.job.now
