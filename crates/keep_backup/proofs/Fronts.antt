-- Neighbours among files, as the code compares them.
use Rattle.std.proofs.Common.{◌≡◌, ℕ, zero, suc, ◌+◌, ◌-◌, ◌<◌, Bool, false, List, [], ◌∷◌, length, drop, get_or, Bor, bytes_eq, is_lt, refl, sym, ap, ap₂, ◌∙◌, arith}
use Rattle.std.proofs.lemmas.List.{length-map}
use Rattle.std.specs.List.{starts_with}
use Rattle.std.specs.List.Sorted.{IsSortedBy}
use Rattle.keep_backup.specs.Files.{names_view, paths_seen, seen}
use Rattle.keep_backup.specs.Paths.{Path, StandInOrder, is_front, path_cmp, path_of}
use Rattle.keep_backup.specs.declared.paths.PathFile.{PathFile}
use Rattle.keep_backup.proofs.Components.{front_texts, texts}
use Rattle.keep_backup.proofs.Neighbours.{in_order_from_steps, stands_from_sorted, steps_from_index}

-- the path at an index
pub path_at : (depth : ℕ) (files : List PathFile) (k : ℕ) (d : Path) (e : PathFile) → k < length files → get_or (paths_seen depth files) k d ≡ drop depth (names_view (get_or files k e).names)
path_at depth [] k d e lt = absurd (omega arith)
path_at depth (f ∷ files) zero d e lt = refl
path_at depth (f ∷ files) (suc k) d e lt = path_at depth files k d e (omega arith)

pub length-paths_seen : (depth : ℕ) (files : List PathFile) → length (paths_seen depth files) ≡ length files
length-paths_seen depth files = length-map (seen depth files) path_of ∙ length-map files (λ f. (drop depth (names_view f.names), f.bytes.now))

-- what the comparison of two neighbours answered
pub front_at : (files : List PathFile) (i : ℕ) (d : Path) (e f : PathFile) (xs ys : List (Bor (List ℕ))) (b : Bool) → 0 < i → i < length files → xs ≡ (get_or files (i - 1) e).names.items → ys ≡ (get_or files i f).names.items → b ≡ starts_with (λ x y. bytes_eq x.now y.now) ys xs
    → is_front (get_or (paths_seen 0 files) (i - 1) d) (get_or (paths_seen 0 files) i d) ≡ b
front_at files i d e f xs ys b pos lt front behind is =
    ap₂ is_front (path_at 0 files (i - 1) d e (omega arith) ∙ ap texts (sym front)) (path_at 0 files i d f lt ∙ ap texts (sym behind))
    ∙ sym (front_texts xs ys) ∙ sym is

sorted_paths : (files : List PathFile) → IsSortedBy (λ a b. is_lt (path_cmp (names_view a.names) (names_view b.names))) files → (i : ℕ) (d : Path) → i + 1 < length files → is_lt (path_cmp (get_or (paths_seen 0 files) (i + 1) d) (get_or (paths_seen 0 files) i d)) ≡ false
sorted_paths [] sorted i d lt = absurd (omega arith)
sorted_paths (f ∷ files) sorted i d lt =
    ap₂ (λ a b. is_lt (path_cmp a b)) (path_at 0 (f ∷ files) (i + 1) d f lt) (path_at 0 (f ∷ files) i d f (omega arith)) ∙ sorted i f (omega arith) lt

-- sorted files of which no neighbours clash stand in order
pub stand_in_order : (files : List PathFile) → IsSortedBy (λ a b. is_lt (path_cmp (names_view a.names) (names_view b.names))) files → ((k : ℕ) (d : Path) → k + 1 < length files → is_front (get_or (paths_seen 0 files) k d) (get_or (paths_seen 0 files) (k + 1) d) ≡ false) → StandInOrder (paths_seen 0 files)
stand_in_order files sorted apart =
    in_order_from_steps (paths_seen 0 files) (steps_from_index (paths_seen 0 files) (λ i d lt.
    let within : i + 1 < length files = omega (arith, length-paths_seen 0 files) in
    stands_from_sorted (get_or (paths_seen 0 files) i d) (get_or (paths_seen 0 files) (i + 1) d) (sorted_paths files sorted i d within) (apart i d within)))
