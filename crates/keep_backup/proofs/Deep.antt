-- Paths that are too deep, as the code finds them, and the folder at the root.
use Rattle.std.proofs.Common.{◌≡◌, ℕ, ◌-◌, Bool, true, false, ◌||◌, ltb, List, [], ◌∷◌, length, map, vec_len, refl, sym, ap, ap₂, true≢false, arith}
use Rattle.std.proofs.lemmas.Bool.{ltb-false}
use Rattle.std.specs.List.{list_any}
use Rattle.keep_reach.specs.Reach.{most_levels}
use Rattle.keep_backup.specs.Files.{file_view, paths_seen, seen}
use Rattle.keep_backup.specs.Folders.{folder_at, root_folder}
use Rattle.keep_backup.specs.Paths.{AreNamed, HaveNames, Path, is_too_deep}
use Rattle.keep_backup.specs.declared.paths.PathFile.{PathFile}
use Rattle.keep_backup.proofs.Turns.{count_of}

pub deep_files : (files : List PathFile) → list_any (λ file. ltb 256 (vec_len file.names)) files ≡ list_any is_too_deep (paths_seen 0 files)
unfolding most_levels
deep_files [] = refl
deep_files (f ∷ files) = ap₂ (λ a b. a || b) (ap (ltb 256) (sym (count_of f.names))) (deep_files files)

both_false : (a b : Bool) → (a || b) ≡ false → (a ≡ false) × (b ≡ false)
both_false true b h = absurd (true≢false h)
both_false false b h = (refl, h)

pub names_within : (paths : List Path) → AreNamed paths → list_any is_too_deep paths ≡ false → HaveNames most_levels paths
names_within [] named within = tt
names_within (p ∷ paths) named within =
    let here = both_false (is_too_deep p) (list_any is_too_deep paths) within in
    ((named.0, ltb-false most_levels (length p) here.0), names_within paths named.1 here.1)

pub no_less : (n : ℕ) → n - 0 ≡ n
no_less n = omega arith

pub root_is : (files : List PathFile) → folder_at (most_levels - 0) (seen 0 files) ≡ root_folder (map file_view files)
unfolding root_folder
root_is files = ap (λ n. folder_at n (seen 0 files)) (no_less most_levels)
