-- What a stock holds: files by their keys, and beside them entries by their numbers.
use Rattle.std.specs.Prelude.{◌≡◌, ℕ, None, List, ◌++◌, map}
use Rattle.std.specs.FinMap as finite
use Rattle.keep_shelf.specs.Key.{key_cmp}
use Rattle.keep_shelf.specs.Shelved.{Content}
use Rattle.keep_shelf.specs.declared.key.Key.{Key}
use Rattle.keep_shelf.specs.declared.key.Key.TheVariants.{Entry}

-- entries under their keys
abbrev pub under_keys : List (ℕ × List ℕ) → List (Key × List ℕ)
under_keys entries = map (λ e. (Entry e.0, e.1)) entries

-- what is under each key, be it a file or an entry
abbrev pub files_and_entries : List (Key × List ℕ) → List (ℕ × List ℕ) → Content
files_and_entries files entries = finite.from_entries (files ++ under_keys entries)

-- among the files nothing is under an entry's key
abbrev pub HasNoEntry : List (Key × List ℕ) → Type 0
HasNoEntry files = (n : ℕ) → finite.get (finite.from_entries {R = key_cmp} files) (Entry n) ≡ None
