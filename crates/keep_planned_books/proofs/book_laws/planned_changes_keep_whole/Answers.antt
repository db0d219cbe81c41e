use Rattle.keep_planned_books.proofs.JobSafe.{planned_safe, planned_whole}
use Rattle.keep_planned_books.proofs.book_laws.planned_changes_keep_whole.Goals as goal

pub returns : goal.returns
returns c =
    let sound = planned_safe (record {
      blobs = c.orders_tell_apart.ensures.blobs;
      backup = c.a_planned_backup_is_safe.ensures.safe;
      tagging = c.a_planned_tagging_is_safe.ensures.safe;
      forget = c.a_planned_forget_is_safe.ensures;
      rewrite = c.plan_rewrite_is_safe.ensures;
      repair = c.a_planned_repair_is_safe.ensures;
      mark = c.a_planned_mark_is_safe.ensures.safe;
      strict = c.a_planned_mark_is_safe.ensures.strict;
      sweep = c.a_planned_sweep_is_safe.ensures;
    }) in
    record { sound = sound; whole = planned_whole c.safe_changes_keep_whole.ensures sound }
