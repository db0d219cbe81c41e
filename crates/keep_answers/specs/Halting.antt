-- Why a line isn't answered to its end.
use Rattle.keep_answers.specs.declared.halt.Halt.{Halt}
use Rattle.keep_answers.specs.declared.halt.Halt.TheVariants.{BadLine, NoMemory}
use Rattle.keep_lines.specs.declared.command.LineError.{LineError}
use Rattle.keep_lines.specs.declared.command.LineError.TheVariants.{Bad, Memory}

-- it isn't parsed
abbrev pub halt_of : LineError → Halt
halt_of (Bad why) = BadLine why
halt_of Memory = NoMemory
