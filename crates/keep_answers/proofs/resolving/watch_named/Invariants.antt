use Rattle.std.proofs.Common.{◌≡◌, drop, map}
use Rattle.std.specs.List.{position_from}
use Rattle.std.specs.Str.{bytes_eq}
use Rattle.keep_hooks.specs.Guards.{WatchData}
use Rattle.keep_hooks.specs.Rules.{watch_of}
use Rattle.keep_answers.proofs.resolving.watch_named.Given as goal

abbrev pub invariant-loop-place : goal.invariant-loop-place
invariant-loop-place g l =
    position_from (λ (it : WatchData). bytes_eq it.name l.name) l.place (map watch_of (drop l.place l.watches))
    ≡ position_from (λ (it : WatchData). bytes_eq it.name l.name) 0 (map watch_of l.watches)
