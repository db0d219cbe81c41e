use Rattle.std.proofs.Common.{◌≡◌, length}
use Rattle.keep_quoted.specs.Unquote.{unquoted}
use Rattle.keep_quoted.proofs.Skipped.{before}
use Rattle.keep_quoted.proofs.unquoting.unquote.Given as goal

abbrev pub invariant-loop-first : goal.invariant-loop-first
invariant-loop-first l = before l.bytes.items (unquoted l.rest) ≡ unquoted l.text

abbrev pub decreases-loop-first : goal.decreases-loop-first
decreases-loop-first l = length l.rest
