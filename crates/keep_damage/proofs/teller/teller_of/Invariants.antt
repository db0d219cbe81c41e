use Rattle.std.proofs.Common.{◌≡◌, drop}
use Rattle.keep_damage.specs.Teller.{last_teller, teller_of}
use Rattle.keep_damage.proofs.teller.teller_of.Given as goal

-- with the events that are left, it is the last one
abbrev pub invariant-loop-notice : goal.invariant-loop-notice
invariant-loop-notice l = last_teller l.history.journal l.key (drop l.notice-index l.notice-items) l.teller ≡ teller_of l.history.journal l.key
