-- What is said of findings.
use Rattle.std.specs.Prelude.{ℕ, List, [], ◌∷◌, ◌++◌, codes}
use Rattle.std.specs.Fmt.{decimal}
use Rattle.keep_shelf.specs.declared.key.Key.{Key}
use Rattle.keep_shelf.specs.declared.key.Key.TheVariants.{Live, Trash, Entry}
use Rattle.keep_paths.specs.KeyPath.{key_path}
use Rattle.keep_damage.specs.declared.finding.Finding.{Finding}
use Rattle.keep_damage.specs.declared.finding.Finding.TheVariants.{NoEntry, Misplaced, OtherBytes, Untold, Missing, Unmade}

-- what an entry did to the bytes of a file there: it added a live one, and tells what is in the trash
abbrev pub deed_text : Key → List ℕ
deed_text (Live name) = codes "added"
deed_text (Trash n name) = codes "tells"
deed_text (Entry k) = codes "tells"

-- what a finding says: where what it is about lies, and what is wrong with it
abbrev pub finding_text : Finding → List ℕ
finding_text (NoEntry k) = codes "journal/" ++ (decimal k ++ codes " is no entry")
finding_text (Misplaced k) = codes "journal/" ++ (decimal k ++ codes " can't follow the entries before it")
finding_text (OtherBytes q e) = key_path q ++ (codes " has other bytes than entry " ++ (decimal e ++ (codes " " ++ deed_text q)))
finding_text (Untold q) = key_path q ++ codes " is there and no entry tells it"
finding_text (Missing q) = key_path q ++ codes " is missing"
finding_text Unmade = codes "the changes of the entries can't be made in turn"

-- what all of them say, each behind a semicolon and a space
abbrev pub findings_text : List Finding → List ℕ
findings_text [] = []
findings_text (finding ∷ findings) = (codes "; " ++ finding_text finding) ++ findings_text findings
