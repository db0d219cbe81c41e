use Rattle.std.proofs.Common.{◌≡◌, drop, map}
use Rattle.std.specs.List.{list_any}
use Rattle.keep_hooks.specs.Rules.{armed_of}
use Rattle.keep_book.specs.Names.{names_watch}
use Rattle.keep_book.proofs.hooks.has_watch.Given as goal

abbrev pub invariant-loop-watch : goal.invariant-loop-watch
invariant-loop-watch g l =
    list_any (names_watch l.name) (map armed_of (drop l.watch-index l.watches))
    ≡ list_any (names_watch l.name) (map armed_of l.watches)
