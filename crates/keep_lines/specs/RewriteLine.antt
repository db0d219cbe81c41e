-- What a line says that makes snapshots anew.
use Rattle.std.specs.Prelude.{◌≡◌, ◌≢◌, ℕ, ⊤, Bool, true, false, List, [], ◌∷◌, codes, map, string_bytes, if◌then◌else◌}
use Rattle.std.specs.List.{AllByRecursion, join_with_byte}
use Rattle.keep_lines.specs.declared.rewrite_line.RewriteLine.{RewriteLine}
use Rattle.keep_lines.specs.WordList.{IsWord}

-- these words, behind the word `forget` where the flag is set
abbrev pub flagged : Bool → List (List ℕ) → List (List ℕ)
flagged forget words = if forget then (codes "forget" ∷ words) else words

-- the first of these words, if there is one, isn't `forget`
abbrev pub BeginsPlain : List (List ℕ) → Type 0
BeginsPlain [] = ⊤
BeginsPlain (word ∷ words) = word ≢ codes "forget"

-- behind a filter these words are read with just this flag: where it isn't set, the first one isn't `forget`
abbrev pub IsClear : Bool → List (List ℕ) → Type 0
IsClear true words = ⊤
IsClear false words = BeginsPlain words

-- the words are those of the rest, behind `forget` where the flag is set, and no others are cut so
abbrev pub CutsFlag : List (List ℕ) → Bool → List (List ℕ) → Type 0
CutsFlag words forget rest = (words ≡ flagged forget rest) × IsClear forget rest

-- `FILTER PATTERN ..`, or `FILTER forget PATTERN ..` where the old snapshots go
abbrev pub rewrite_text : RewriteLine → List ℕ
rewrite_text rewrite =
    join_with_byte 32
    (string_bytes rewrite.filter ∷ flagged rewrite.forget (map string_bytes rewrite.patterns.items))

-- the filter and the patterns are words; a first pattern `forget` would be the flag
abbrev pub IsRewrite : RewriteLine → Type 0
IsRewrite rewrite =
    IsWord (string_bytes rewrite.filter)
    × AllByRecursion (λ pattern. IsWord (string_bytes pattern)) rewrite.patterns.items
    × IsClear rewrite.forget (map string_bytes rewrite.patterns.items)
