-- What is made of a stock by the last event's moves, and of its keys by a walk.
use Rattle.std.specs.Prelude.{ℕ, nat_le, Bool, false, List, [], ◌∷◌, Option, if◌then◌else◌}
use Rattle.std.specs.FinMap as map
use Rattle.std.specs.Option.{option_map_or}
use Rattle.keep_change.specs.declared.change.Change.{Change}
use Rattle.keep_change.specs.declared.outline.What.{What}
use Rattle.keep_change.specs.declared.outline.What.TheVariants.{Commit, Undo, Redo, Empty}
use Rattle.keep_moves.specs.Lists.{commit_moves, redo_moves, undo_moves}
use Rattle.keep_moves.specs.declared.moves.Move.{Move}
use Rattle.keep_shelf.specs.Shelved.{Content}
use Rattle.keep_shelf.specs.declared.key.Key.{Key}
use Rattle.keep_shelf.specs.declared.key.Key.TheVariants.{Live, Trash, Entry}

-- the moves of an event that did this to change n; an emptying's aren't told by a change
abbrev pub moves_what : What → ℕ → Change → List Move
moves_what Commit n c = commit_moves n c
moves_what Undo n c = undo_moves n c
moves_what Redo n c = redo_moves n c
moves_what Empty n c = []

-- the moves of an event that did this to change n, and none where the change is missing
abbrev pub moves_for : What → ℕ → Option Change → List Move
moves_for what n change = option_map_or (moves_what what n) change []

-- whether it is the key of trash of a change up to n
abbrev pub is_old : ℕ → Key → Bool
is_old n (Live name) = false
is_old n (Trash m name) = nat_le m n
is_old n (Entry k) = false

-- the content without what is under these keys, where they are of such trash
abbrev pub swept_in : ℕ → List Key → Content → Content
swept_in n [] content = content
swept_in n (key ∷ keys) content = swept_in n keys (if is_old n key then map.remove content key else content)
