-- The words of refusals.
use Rattle.std.specs.Prelude.{ℕ, List, ◌++◌, codes}
use Rattle.std.specs.Fmt.{decimal}
use Rattle.keep_repo.specs.Facet.{facet_text}
use Rattle.keep_ledger.specs.declared.reply.Refusal.{Refusal}
use Rattle.keep_ledger.specs.declared.reply.Refusal.TheVariants.{Malformed, Unknown, Final, NotInForce, InForce, Full, Stale, Vetoed, Unmet, LeanedOn, Blocked, Memory, Fault, Unsettled}

-- how a refusal prints: its word, and its value where it has one
abbrev pub refusal_text : Refusal → List ℕ
refusal_text Malformed = codes "Malformed"
refusal_text Unknown = codes "Unknown"
refusal_text Final = codes "Final"
refusal_text NotInForce = codes "NotInForce"
refusal_text InForce = codes "InForce"
refusal_text Full = codes "Full"
refusal_text (Stale length) = codes "Stale " ++ decimal length
refusal_text (Vetoed name) = codes "Vetoed " ++ name
refusal_text (Unmet facet) = codes "Unmet " ++ facet_text facet
refusal_text (LeanedOn n) = codes "LeanedOn " ++ decimal n
refusal_text (Blocked n) = codes "Blocked " ++ decimal n
refusal_text Memory = codes "Memory"
refusal_text Fault = codes "Fault"
refusal_text (Unsettled n) = codes "Unsettled " ++ decimal n
