-- Where what stands under the keys of files isn't what is asked.
use Rattle.std.specs.Prelude.{ℕ, nat_lt, List, [], ◌∷◌, ◌++◌, length, filter, Option, Some, None, is_none, if◌then◌else◌}
use Rattle.std.specs.FinMap as map
use Rattle.std.specs.List.{filter_map}
use Rattle.std.specs.Str.{bytes_eq}
use Rattle.keep_journal.specs.Journal.{Journal}
use Rattle.keep_shelf.specs.Shelved.{Content}
use Rattle.keep_shelf.specs.declared.key.Key.{Key}
use Rattle.keep_opening.specs.Wanted.{is_files}
use Rattle.keep_damage.specs.Teller.{teller_of}
use Rattle.keep_damage.specs.declared.finding.Finding.{Finding}
use Rattle.keep_damage.specs.declared.finding.Finding.TheVariants.{OtherBytes, Untold, Missing}

-- what is wrong where this stands under the key, and that is asked
abbrev pub difference_between : Journal → Key → Option (List ℕ) → Option (List ℕ) → Option Finding
difference_between j q (Some there) (Some asked) = if bytes_eq there asked then None else Some (OtherBytes q (teller_of j q))
difference_between j q (Some there) None = Some (Untold q)
difference_between j q None (Some asked) = Some (Missing q)
difference_between j q None None = None

-- what is wrong under the key between what stands there and what is asked, where the key is a file's
abbrev pub difference_at : Journal → Content → Content → Key → Option Finding
difference_at j there asked q =
    if is_files q then difference_between j q (map.get there q) (map.get asked q) else None

-- the keys of what stands there, in order, and then those of what is asked and isn't there
abbrev pub keys_of_both : Content → Content → List Key
keys_of_both there asked = map.keys there ++ filter (λ q. is_none (map.get there q)) (map.keys asked)

-- all differences, in the order of these keys
abbrev pub differences : Journal → Content → Content → List Finding
differences j there asked = filter_map (difference_at j there asked) (keys_of_both there asked)

-- what was found with one more, if there is one, up to ten
abbrev pub topped : List Finding → Option Finding → List Finding
topped found None = found
topped found (Some finding) = if nat_lt (length found) 10 then found ++ finding ∷ [] else found

-- and with what is found in each of these, in turn
abbrev pub noted : {X : Type 0} → (X → Option Finding) → List X → List Finding → List Finding
noted at [] found = found
noted at (x ∷ xs) found = noted at xs (topped found (at x))
