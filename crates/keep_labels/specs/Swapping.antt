-- Changes that drop snapshots, and put others in their place.
use Rattle.std.specs.Prelude.{List}
use Rattle.keep_change.specs.Change.{no_change}
use Rattle.keep_change.specs.NamedBytes.{NamedBytes}
use Rattle.keep_change.specs.declared.change.Change.{Change}

-- these files are dropped and these added, and nothing else is done
abbrev pub swapping : List NamedBytes → List NamedBytes → Change
swapping drops adds = record no_change { adds = adds; drops = drops }
