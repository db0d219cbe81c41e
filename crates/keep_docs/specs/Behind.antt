-- What of bytes stands behind a text with which they begin.
use Rattle.std.specs.Prelude.{ℕ, ◌==◌, Bool, List, [], ◌∷◌, ◌++◌, Option, Some, None, if◌then◌else◌}
use Rattle.json.specs.Print.{quoted}
use Rattle.serde_json.specs.Written.{comma_if}

-- the bytes behind the text, if they begin with it
unfoldable pub behind : List ℕ → List ℕ → Option (List ℕ)
behind [] bytes = Some bytes
behind (c ∷ text) [] = None
behind (c ∷ text) (b ∷ bytes) = if b == c then behind text bytes else None

-- a key as an object has it: with its colon, and a comma before it where a member stands before
abbrev pub key_text : Bool → List ℕ → List ℕ
key_text later key = comma_if later ++ (quoted key ++ 58 ∷ [])
