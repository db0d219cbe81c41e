-- The mode of a node as `ls -l` writes it (POSIX, ls), told from the bits of Go's os.FileMode, as trees carry it.
use Rattle.std.specs.Prelude.{ℕ, ◌+◌, ◌/◌, ◌%◌, ◌^◌, ◌==◌, Bool, if◌then◌else◌, List, [], ◌∷◌, ◌++◌}

-- whether bit k is set
abbrev pub has_bit : ℕ → ℕ → Bool
has_bit mode k = (mode / 2 ^ k) % 2 == 1

-- the letter of the type: directory, link, character and block device, pipe, socket
abbrev pub type_letter : ℕ → ℕ
type_letter mode =
    if has_bit mode 31 then 100
    else (if has_bit mode 27 then 108
    else (if has_bit mode 26 then (if has_bit mode 21 then 99 else 98)
    else (if has_bit mode 25 then 112
    else (if has_bit mode 24 then 115
    else 45))))

-- a letter where the bit is set, else a dash
abbrev pub letter : ℕ → ℕ → ℕ → ℕ
letter mode k c = if has_bit mode k then c else 45

-- whether it may be run, and a special bit: `s` or `t` beside `x`, `S` or `T` without it
abbrev pub run_letter : ℕ → ℕ → ℕ → ℕ → ℕ → ℕ
run_letter mode k special both alone =
    if has_bit mode special then (if has_bit mode k then both else alone) else letter mode k 120

-- what the owner, the group or others may do, by the lowest of three bits
abbrev pub triple : ℕ → ℕ → ℕ → ℕ → ℕ → List ℕ
triple mode k special both alone =
    letter mode (k + 2) 114 ∷ letter mode (k + 1) 119 ∷ run_letter mode k special both alone ∷ []

-- the ten letters: setuid is bit 23, setgid 22, sticky 20
abbrev pub mode_text : ℕ → List ℕ
mode_text mode =
    type_letter mode ∷ (triple mode 6 23 115 83 ++ (triple mode 3 22 115 83 ++ triple mode 0 20 116 84))
