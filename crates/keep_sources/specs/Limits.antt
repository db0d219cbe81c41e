-- How much is taken at most.
use Rattle.std.specs.Prelude.{ℕ, ◌+◌, ◌^◌, min}

-- how many bytes are held at most before more is written: 64 MiB
abbrev pub most_held : ℕ
most_held = 67108864

-- how many folders lead to a node at most
abbrev pub most_levels : ℕ
most_levels = 256

-- from how many bytes on a file of this size isn't read further, if it doesn't end: 1 GiB more than were seen
abbrev pub read_limit : ℕ → ℕ
read_limit size = min size (2 ^ 62) + 2 ^ 30
