-- How a backup cuts files.
use Rattle.std.specs.Prelude.{ℕ}

-- how many bytes each piece of a file has but the last
abbrev pub piece_length : ℕ
piece_length = 1048576
