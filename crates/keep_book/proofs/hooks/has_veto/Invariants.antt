use Rattle.std.proofs.Common.{◌≡◌, drop, map}
use Rattle.std.specs.List.{list_any}
use Rattle.keep_hooks.specs.Rules.{rule_of}
use Rattle.keep_book.specs.Names.{names_veto}
use Rattle.keep_book.proofs.hooks.has_veto.Given as goal

abbrev pub invariant-loop-veto : goal.invariant-loop-veto
invariant-loop-veto g l =
    list_any (names_veto l.name) (map rule_of (drop l.veto-index l.vetoes))
    ≡ list_any (names_veto l.name) (map rule_of l.vetoes)
