use Rattle.std.proofs.Common.{◌≡◌, ◌++◌, drop, filter, is_none}
use Rattle.std.specs.FinMap as finite
use Rattle.keep_damage.specs.Compared.{keys_of_both}
use Rattle.keep_damage.proofs.comparing.keys_of_both.Given as goal

abbrev pub invariant-loop-key : goal.invariant-loop-key
invariant-loop-key l =
    l.keys.items ++ filter (λ q. is_none (finite.get l.there q)) (drop l.key-index l.key-items) ≡ keys_of_both l.there l.asked
