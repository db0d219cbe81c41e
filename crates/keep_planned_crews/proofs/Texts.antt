-- What the operators of a crew back up is said in texts.
use Rattle.std.proofs.Common.{◌≡◌, ℕ, zero, suc, ◌+◌, ◌^◌, ◌<◌, List, [], ◌∷◌, ◌++◌, arith, length, rules}
use Rattle.std.specs.Prelude.{IsAscii, IsUtf8, codes}
use Rattle.std.specs.Fmt.{decimal}
use Rattle.std.specs.List.{All, slice_index_or}
use Rattle.std.proofs.lemmas.Fmt.{IsAscii-decimal}
use Rattle.std.proofs.lemmas.Str.{IsUtf8-append, IsUtf8-from_ascii}
use Rattle.keep_operators.specs.Backups.{backup_of, file_of}
use Rattle.keep_planned_books.specs.Jobs.{IsText}

-- what holds of the one element of a list holds of each
all_one : {A : Type 0} (P : A → Type 0) (x : A) → P x → All P (x ∷ [])
all_one P x is zero d within = is
all_one P x is (suc k) d within = absurd (omega arith)

crew_text : IsUtf8 (codes "crew")
crew_text = IsUtf8-from_ascii (codes "crew") (search rules)

keep_text : IsUtf8 (codes "keep")
keep_text = IsUtf8-from_ascii (codes "keep") (search rules)

root_text : IsUtf8 (codes "/")
root_text = IsUtf8-from_ascii (codes "/") (search rules)

path_begins : IsUtf8 (codes "/crew-")
path_begins = IsUtf8-from_ascii (codes "/crew-") (search rules)

pub backup_said : (time : List ℕ) → IsUtf8 time → (i : ℕ) → i < 2 ^ 64 → IsText (backup_of time i)
backup_said time said i fits =
    let path : IsUtf8 (codes "/crew-" ++ decimal i) =
    IsUtf8-append (codes "/crew-") (decimal i) path_begins (IsUtf8-from_ascii (decimal i) (IsAscii-decimal i fits)) in (
      record { host = crew_text; user = keep_text; paths = all_one IsUtf8 (codes "/") root_text; time = said },
      all_one (λ (file : List ℕ × List ℕ). IsUtf8 file.0) (file_of i) path,
    )
