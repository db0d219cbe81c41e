use Rattle.keep_lines.proofs.OneCommand.{one_command}
use Rattle.keep_lines.proofs.line_law.a_line_has_one_command.Goals as goal

pub returns : goal.returns
returns c = one_command
