-- Owner and times that a node says.
use Rattle.std.specs.Prelude.{ℕ, Option, None, Some, option_map, unwrap_or}
use Rattle.keep_members.specs.declared.stamp.Stamp.{Stamp}
use Rattle.keep_targets.specs.declared.attributes.Instant.{Instant}
use Rattle.keep_targets.specs.declared.attributes.Owner.{Owner}
use Rattle.keep_targets.specs.declared.attributes.Times.{Times}

-- the owner, where user and group are said
abbrev pub owner_in : Option ℕ → Option ℕ → Option Owner
owner_in (Some uid) (Some gid) = Some (record { uid = uid; gid = gid })
owner_in _ _ = None

abbrev pub instant_in : Stamp → Instant
instant_in stamp = record { seconds = stamp.seconds; nanoseconds = stamp.nanoseconds }

-- when it was written, and when it was read, which is when it was written where it isn't said
abbrev pub times_in : Option Stamp → Option Stamp → Option Times
times_in modified accessed =
    option_map (λ (at : Stamp). record { accessed = instant_in (unwrap_or accessed at); modified = instant_in at }) modified
