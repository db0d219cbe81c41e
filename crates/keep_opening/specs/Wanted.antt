-- What has to stand under the keys of files, and whether it does.
use Rattle.std.specs.Prelude.{◌≡◌, ℕ, Bool, true, false, List, [], Option, Some, None, if◌then◌else◌}
use Rattle.std.specs.FinMap as map
use Rattle.std.specs.Option.{option_map_or}
use Rattle.std.specs.Str.{bytes_eq}
use Rattle.keep_change.specs.NamedBytes.{NamedBytes}
use Rattle.keep_journal.specs.History.{change_of}
use Rattle.keep_journal.specs.Journal.{Journal}
use Rattle.keep_journal.specs.Kept.{is_kept}
use Rattle.keep_shelf.specs.Shelved.{Content}
use Rattle.keep_shelf.specs.declared.key.Key.{Key}
use Rattle.keep_shelf.specs.declared.key.Key.TheVariants.{Live, Trash, Entry}

-- the files that change n left in the trash: what it dropped, while it is kept, or else what it added
abbrev pub out_of_trash : Journal → ℕ → List NamedBytes
out_of_trash j n = option_map_or (λ c. if is_kept j n then c.drops else c.adds) (change_of j n) []

-- whether it is the key of a file
abbrev pub is_files : Key → Bool
is_files (Live name) = true
is_files (Trash n name) = true
is_files (Entry k) = false

-- whether the two are the same bytes, or none both
abbrev pub same_bytes : Option (List ℕ) → Option (List ℕ) → Bool
same_bytes (Some a) (Some b) = bytes_eq a b
same_bytes None None = true
same_bytes _ _ = false

-- whether the two have the same under the key, if it is a file's
abbrev pub is_same_at : Content → Content → Key → Bool
is_same_at one other q = if is_files q then same_bytes (map.get one q) (map.get other q) else true

-- they have the same under each key of a file
abbrev pub AgreeOnFiles : Content → Content → Type 0
AgreeOnFiles one other = (q : Key) → is_files q ≡ true → map.get one q ≡ map.get other q
