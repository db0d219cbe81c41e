-- What long work says of how far it is.
use Rattle.std.specs.Prelude.{ℕ, ◌+◌, ◌*◌, ◌/◌, ◌^◌, ◌-◌, List, ◌++◌, Option, None, Some, codes, max, min}
use Rattle.std.specs.Fmt.{decimal}
use Rattle.keep_tables.specs.Sizes.{size_text}
use Rattle.keep_progress.specs.declared.counts.Counts.{Counts}

-- as many as 64 bits can say
abbrev pub most : ℕ → ℕ
most count = min count (2 ^ 64 - 1)

-- one more item
abbrev pub with_item : Counts → Counts
with_item counts = record { items = most (counts.items + 1); bytes = counts.bytes; total = counts.total }

-- so many more bytes
abbrev pub with_bytes : Counts → ℕ → Counts
with_bytes counts more = record { items = counts.items; bytes = most (counts.bytes + more); total = counts.total }

-- how many bytes in a second, where so many came in so many milliseconds, of which there is one at least
abbrev pub rate : ℕ → ℕ → ℕ
rate bytes millis = most (bytes * 1000) / max millis 1

-- of how many bytes in all, where that is known, and what follows
abbrev pub behind_total : Option ℕ → List ℕ → List ℕ
behind_total None rest = rest
behind_total (Some total) rest = codes " of " ++ (size_text total ++ rest)

-- what is done, how many items and bytes it has come to, and how many bytes in a second
abbrev pub line : List ℕ → List ℕ → Counts → ℕ → List ℕ
line verb unit counts millis =
    verb ++ (codes ": " ++ (decimal counts.items ++ (codes " " ++ (unit ++ (codes ", " ++ (size_text counts.bytes
    ++ behind_total counts.total (codes ", " ++ (size_text (rate counts.bytes millis) ++ codes "/s"))))))))
