-- The command so far has the arguments so far.
use Rattle.std.proofs.Common.{take}
use Rattle.clap.specs.Words.{app_of}
use Rattle.keep_forms.specs.Form.{Becomes, with_arguments}
use Rattle.keep_forms.proofs.clap_forms.with_arguments.Given as goal

abbrev pub invariant-loop-argument : goal.invariant-loop-argument
invariant-loop-argument l = Becomes (with_arguments (app_of l.fn.command) (take l.argument-index l.arguments)) l.fn.command l.more
