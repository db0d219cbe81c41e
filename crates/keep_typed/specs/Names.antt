-- The names of commands.
use Rattle.std.specs.Prelude.{◌||◌, Bool, List, [], ◌∷◌, codes}
use Rattle.std.specs.List.{list_any}
use Rattle.std.specs.Str.{bytes_eq}
use Rattle.clap.specs.Words.{Text}

-- it is one of these names
abbrev pub is_among : List Text → Text → Bool
is_among names name = list_any (λ known. bytes_eq name known) names

-- those that tell of the repository
abbrev pub is_showing : Text → Bool
is_showing = is_among (codes "check" ∷ codes "history" ∷ codes "show" ∷ codes "graph" ∷ [])

-- those that only read
abbrev pub is_reading : Text → Bool
is_reading name =
    is_among (codes "snapshots" ∷ codes "ls" ∷ codes "dump" ∷ codes "diff" ∷ codes "find" ∷ codes "restore" ∷ []) name || is_showing name

-- those that go by numbers of changes, or by folders
abbrev pub is_counting : Text → Bool
is_counting = is_among (codes "init" ∷ codes "undo" ∷ codes "redo" ∷ codes "empty" ∷ codes "script" ∷ codes "rescue" ∷ [])

-- those that make or change something
abbrev pub is_changing : Text → Bool
is_changing name =
    is_among (codes "backup" ∷ codes "forget" ∷ codes "tag" ∷ codes "rewrite" ∷ codes "repair" ∷ codes "mark" ∷ codes "sweep" ∷ codes "prune" ∷ []) name
    || is_counting name
