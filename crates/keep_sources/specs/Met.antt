-- What was met of a folder's names, one behind another, and what became of each.
use Rattle.std.specs.Prelude.{ℕ, ◌+◌, ◌==◌, Option, None, Some, List, [], ◌∷◌, ◌++◌, map, length, codes, if◌then◌else◌, nat_lt}
use Rattle.keep_names.specs.declared.id.Id.{Id}
use Rattle.keep_sources.specs.Given.{Given, ClosedFolder, DroppedFile, EndedFile, GotOther, GotSame, OpenedFolder, Wrote}
use Rattle.keep_sources.specs.declared.stat.Stat.{Stat}
use Rattle.keep_sources.specs.declared.skipped.Why.{Why}
use Rattle.keep_sources.specs.declared.skipped.Why.TheVariants.{Grew, Shrank, Unsayable}

-- what became of a name that isn't a folder's
pub data Leaf : Type 0 where
  -- it isn't asked for
  Excluded : Leaf
  -- it couldn't be seen, opened or listed
  Missed : Why → Leaf
  -- it is neither a file nor a folder
  Other : Stat → Leaf
  -- it is a file that an earlier backup has
  Same : Stat → List Id → Leaf
  -- it is a file that was read, in these pieces
  Whole : Stat → List (List ℕ) → Leaf
  -- it is a file of which no more than these pieces could be read
  Broken : Stat → List (List ℕ) → Why → Leaf

-- what was met in a folder
pub data Met : Type 0 where
  -- there are no more names
  End : Met
  -- this became of a name, and then come the other names
  Then : List ℕ → Leaf → Met → Met
  -- a folder of this name was seen so, with so many names that can't be said, and in it was met this; then come the other names
  Inside : List ℕ → Stat → ℕ → Met → Met → Met

abbrev pub names_of : Met → List (List ℕ)
names_of End = []
names_of (Then name leaf rest) = name ∷ names_of rest
names_of (Inside name sight unsayable inside rest) = name ∷ names_of rest

-- the path of a name in a folder, which may be the root
abbrev pub below : List ℕ → List ℕ → List ℕ
below [] name = name
below (b ∷ folder) name = (b ∷ folder) ++ (codes "/" ++ name)

-- how many bytes the pieces have
abbrev pub total : List (List ℕ) → ℕ
total [] = 0
total (piece ∷ pieces) = length piece + total pieces

-- a file as it was seen, with the size that was read
abbrev pub sized : Stat → ℕ → Stat
sized sight size = record sight { size = size }

-- what is given of a name that isn't a folder's
abbrev pub given_of_leaf : List ℕ → Leaf → List Given
given_of_leaf name Excluded = []
given_of_leaf name (Missed why) = []
given_of_leaf name (Other sight) = GotOther name sight ∷ []
given_of_leaf name (Same sight content) = GotSame name content sight ∷ []
given_of_leaf name (Whole sight pieces) = map Wrote pieces ++ EndedFile name (sized sight (total pieces)) ∷ []
given_of_leaf name (Broken sight pieces why) = map Wrote pieces ++ DroppedFile ∷ []

-- what is given of all that was met, in order
abbrev pub given_of : Met → List Given
given_of End = []
given_of (Then name leaf rest) = given_of_leaf name leaf ++ given_of rest
given_of (Inside name sight unsayable inside rest) = OpenedFolder name ∷ (given_of inside ++ ClosedFolder sight ∷ given_of rest)

-- why a file that was read isn't as it was seen, if so: by its bytes and those that were seen
abbrev pub change_of : ℕ → ℕ → Option Why
change_of read seen = if nat_lt read seen then Some Shrank else (if nat_lt seen read then Some Grew else None)

-- what is named of a path, and why
abbrev pub named : List ℕ → Option Why → List (List ℕ × Why)
named path None = []
named path (Some why) = (path, why) ∷ []

-- what is named where so many names can't be said
abbrev pub unsaid : List ℕ → ℕ → List (List ℕ × Why)
unsaid path count = if count == 0 then [] else ((path, Unsayable count) ∷ [])

-- what is named of a path that isn't a folder's
abbrev pub skips_of_leaf : List ℕ → Leaf → List (List ℕ × Why)
skips_of_leaf path Excluded = []
skips_of_leaf path (Missed why) = (path, why) ∷ []
skips_of_leaf path (Other sight) = []
skips_of_leaf path (Same sight content) = []
skips_of_leaf path (Whole sight pieces) = named path (change_of (total pieces) sight.size)
skips_of_leaf path (Broken sight pieces why) = (path, why) ∷ []

-- what is named of all that was met in a folder, in order
abbrev pub skips_of : List ℕ → Met → List (List ℕ × Why)
skips_of folder End = []
skips_of folder (Then name leaf rest) = skips_of_leaf (below folder name) leaf ++ skips_of folder rest
skips_of folder (Inside name sight unsayable inside rest) =
    (unsaid (below folder name) unsayable ++ skips_of (below folder name) inside) ++ skips_of folder rest
