-- The command so far has the forms so far.
use Rattle.std.proofs.Common.{take}
use Rattle.clap.specs.Words.{app_of}
use Rattle.keep_forms.specs.Form.{Becomes, with_forms}
use Rattle.keep_forms.proofs.clap_forms.with_forms.Given as goal

abbrev pub invariant-loop-form : goal.invariant-loop-form
invariant-loop-form l = Becomes (with_forms l.common (app_of l.fn.command) (take l.form-index l.forms)) l.fn.command l.more
