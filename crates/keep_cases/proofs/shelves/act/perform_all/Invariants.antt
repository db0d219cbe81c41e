use Rattle.std.proofs.Common.{◌≡◌, drop}
use Rattle.keep_cases.specs.Acts.{content_after}
use Rattle.keep_cases.proofs.shelves.act.perform_all.Given as goal

abbrev pub invariant-loop-act : goal.invariant-loop-act
invariant-loop-act l = content_after l.shelf.content (drop l.act-index l.acts) ≡ content_after l.initial.shelf.content l.acts
