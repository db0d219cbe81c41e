-- That planned marks keep every sound repository sound whose snapshots are known.
use Rattle.std.specs.Prelude.{◌≡◌, ℤ, true, Ok}
use Rattle.std.specs.FinSet as set
use Rattle.keep_names.specs.Orders.{id_cmp}
use Rattle.keep_repo.specs.Repository.{Repository}
use Rattle.keep_change.specs.declared.change.Change.{Change}
use Rattle.keep_sound.specs.Careful.{IsSafe}
use Rattle.keep_upkeep.specs.Mark.{mark_change}
use Rattle.keep_safety.specs.Met.{IsMet}

-- the change of a mark is safe, where no other snapshots are known than when it was planned
abbrev pub MarkIsSafe : Type 0
MarkIsSafe =
    (r all : Repository) (known : set.FinSet id_cmp) (moment : ℤ) (c : Change)
    → mark_change r known moment ≡ Ok c → IsMet all r → IsSafe all (set.contains known) c

-- it is strict: it may be committed only where no event came since it was planned
abbrev pub MarkIsStrict : Type 0
MarkIsStrict =
    (r : Repository) (known : set.FinSet id_cmp) (moment : ℤ) (c : Change)
    → mark_change r known moment ≡ Ok c → c.strict ≡ true
