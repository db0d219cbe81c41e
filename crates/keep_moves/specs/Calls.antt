-- Calls of a shelf, and what they leave there.
use Rattle.std.specs.Prelude.{ℕ, List, fold, replicate}
use Rattle.std.specs.FinMap as map
use Rattle.keep_shelf.specs.Shelved.{Content, Shelved, called, shifted}
use Rattle.keep_moves.specs.declared.moves.Move.{Move}
use Rattle.keep_moves.specs.declared.moves.Move.TheVariants.{Put, Shift, Erase}

-- what the move leaves of a shelf's content
abbrev pub made_in : Move → Content → Content
made_in (Put key bytes) content = map.insert content key bytes
made_in (Shift from to) content = shifted content from to
made_in (Erase key) content = map.remove content key

-- a call: something is read, or a move is made
pub data Call : Type 0 where
  Look : Call
  Make : Move → Call

-- what the call leaves
abbrev pub left_by : Content → Call → Content
left_by content Look = content
left_by content (Make m) = made_in m content

-- the shelf after these calls, none of which failed
abbrev pub played : List Call → Shelved → Shelved
played calls shelf = fold (λ s call. called s (left_by s.content call)) shelf calls

-- so many reads
abbrev pub looks : ℕ → List Call
looks k = replicate k Look
