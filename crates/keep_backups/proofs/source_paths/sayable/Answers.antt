use Rattle.std.proofs.Common.{Some, sym, ap, ◌∙◌}
use Rattle.keep_backups.proofs.Names.{name_said, no_name, no_text}
use Rattle.keep_backups.proofs.source_paths.sayable.Goals as goal
use Rattle.keep_backups.proofs.source_paths.sayable.Goals.{in_default-via-in-Ok+else-is_name, in_default-via-in_default}

pub returns-in_ok-from_str-in-Ok : goal.returns-in_ok-from_str-in-Ok
returns-in_ok-from_str-in-Ok c =
    ap Some c.in_ok-from_str-in-Ok.ensures.ok
    ∙ name_said c.args.bytes.now c.in-Ok.name.now c.in-Ok.ensures.cases.0 c.in-Ok.ensures.cases.1 (sym c.if-is_name.ensures)

pub returns-in_default : goal.returns-in_default
returns-in_default c =
    elim c.in_default.branch [
      | in_default-via-in-Ok+else-is_name w ↦ no_name c.args.bytes.now w.in-Ok.name.now w.in-Ok.ensures.cases.0 (sym w.if-is_name.ensures)
      | in_default-via-in_default w ↦ no_text c.args.bytes.now w.in_default.ensures.cases.0
    ]
