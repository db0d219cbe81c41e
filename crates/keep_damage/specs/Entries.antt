-- What is wrong with entries.
use Rattle.std.specs.Prelude.{ℕ, ◌==◌, Option, Some, None, is_some, if◌then◌else◌}
use Rattle.keep_reading.specs.declared.leaf.Leaf.{Leaf}
use Rattle.keep_damage.specs.declared.finding.Finding.{Finding}
use Rattle.keep_damage.specs.declared.finding.Finding.TheVariants.{NoEntry, Misplaced}
use Rattle.keep_damage.specs.declared.sign.Sign.{Sign}

-- the number of a leaf, and whether it is an entry
abbrev pub sign_of : Leaf → Sign
sign_of leaf = record { at = leaf.at; is_entry = is_some leaf.event }

-- what is wrong with a leaf: it is no entry, or it is the first that can't follow those before it
abbrev pub entry_finding : ℕ → Sign → Option Finding
entry_finding first sign =
    if sign.is_entry then (if sign.at == first then Some (Misplaced sign.at) else None)
    else Some (NoEntry sign.at)
