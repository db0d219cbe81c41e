-- What reading lower case hex answers.
use Rattle.std.specs.Prelude.{◌≡◌, ◌≢◌, ℕ, List, Option, Some, None}
use Rattle.std.specs.Global.{Vec}
use Rattle.hex.specs.Hex.{IsBytes, encode_lower}

-- what was found is the bytes whose lower case hex is the text, or the text is that of no bytes
abbrev pub Reads : List ℕ → Option (Vec ℕ) → Type 0
Reads text (Some bytes) = IsBytes bytes.items × (encode_lower bytes.items ≡ text)
Reads text None = (bytes : List ℕ) → IsBytes bytes → encode_lower bytes ≢ text
