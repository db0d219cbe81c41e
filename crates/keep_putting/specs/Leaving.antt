-- What isn't as the snapshot says is named.
use Rattle.std.specs.Prelude.{◌≡◌, List, [], ◌∷◌, ◌++◌, string_bytes, Contains}
use Rattle.keep_putting.specs.declared.left_out.LeftOut.{LeftOut}
use Rattle.keep_putting.specs.declared.left_out.Why.{Why}
use Rattle.keep_putting.specs.declared.wanted.Wanted.{Wanted}

-- it is the last one named, and why
abbrev pub IsNamedNext : List LeftOut → List LeftOut → Wanted → Why → Type 0
IsNamedNext before after wanted why =
    (named : LeftOut) × (after ≡ before ++ named ∷ []) × (string_bytes named.path ≡ string_bytes wanted.path) × (named.why ≡ why)

-- it is named, and why
abbrev pub IsNamed : List LeftOut → Wanted → Why → Type 0
IsNamed left wanted why =
    (named : LeftOut) × Contains left named × (string_bytes named.path ≡ string_bytes wanted.path) × (named.why ≡ why)
