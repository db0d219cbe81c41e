use Rattle.std.proofs.Common.{◌≡◌, [], drop}
use Rattle.keep_damage.specs.Compared.{difference_at, keys_of_both, noted}
use Rattle.keep_damage.proofs.comparing.compare.Given as goal

abbrev pub invariant-loop-key : goal.invariant-loop-key
invariant-loop-key l =
    noted (difference_at l.history.journal l.there l.asked) (drop l.key-index l.key-items) l.found.items
    ≡ noted (difference_at l.history.journal l.there l.asked) (keys_of_both l.there l.asked) []
