-- What a turn of the walk needs, and what a call of it does.
use Rattle.std.proofs.Common.{◌≡◌, ◌≢◌, ℕ, zero, suc, ◌+◌, ◌-◌, ◌<◌, ◌≤◌, List, [], ◌∷◌, ◌++◌, length, map, take, drop, get_or, slice_get, Some, Bor, vec_len, refl, sym, ap, ap₂, subst, ◌∙◌, append_assoc, arith}
use Rattle.std.proofs.lemmas.List.{drop-drop, drop_all, drop_more, get_or-map, length-drop, length-map, length-take-le, take_rest}
use Rattle.std.specs.Global.{Vec}
use Rattle.std.specs.List.{AllByRecursion}
use Rattle.serde_json.specs.Data.{no_members}
use Rattle.keep_tree.specs.Tree.{dir, file, NodeData}
use Rattle.keep_backup.specs.Files.{names_view, paths_seen, seen}
use Rattle.keep_backup.specs.Folders.{no_nodes, folder_at}
use Rattle.keep_backup.specs.Paths.{FileData, HasOtherName, HaveNames, HaveOneName, Path, StandInOrder, path_of}
use Rattle.keep_build.specs.Blobs.{id_of}
use Rattle.keep_backup.specs.Walk.{blobs_below, blobs_of, nodes_of, pieces_of, root_tree}
use Rattle.keep_backup.specs.declared.paths.PathFile.{PathFile}
use Rattle.keep_backup.proofs.Components.{texts}
use Rattle.keep_backup.proofs.Fronts.{path_at}
use Rattle.keep_backup.proofs.Groups.{Begins, Name, no_files, tail_of}
use Rattle.keep_backup.proofs.Seen.{ComesTo, begin_all, names_parts, one_file, one_folder, order_parts, split_seen, tails_names, tails_order}

-- ---- by an index

pub named_at : (levels depth : ℕ) (files : List PathFile) (k : ℕ) (e : PathFile) → HaveNames levels (paths_seen depth files) → k < length files → depth < length (names_view (get_or files k e).names)
named_at levels depth [] k e names lt = absurd (omega arith)
named_at levels depth (f ∷ files) zero e names lt = omega (arith, length-drop depth (names_view f.names), (names.0).0)
named_at levels depth (f ∷ files) (suc k) e names lt = named_at levels depth files k e names.1 (omega arith)

-- the name that a path has at a depth
name_of : (names : List (Bor (List ℕ))) (depth : ℕ) (r : Bor (List ℕ)) → depth < length (texts names) → r ≡ get_or names depth r → get_or (texts names) depth [] ≡ r.now
name_of names depth r lt is =
    let within : depth < length names = omega (arith, length-map names (λ (n : Bor (List ℕ)). n.now)) in
    get_or-map (λ n. n.now) names depth r [] within ∙ ap (λ (n : Bor (List ℕ)). n.now) (sym is)

pub first_at : (levels depth : ℕ) (files : List PathFile) (k : ℕ) (d : Path) (e : PathFile) (r : Bor (List ℕ)) → HaveNames levels (paths_seen depth files) → k < length files → r ≡ get_or (get_or files k e).names.items depth r → slice_get (get_or (paths_seen depth files) k d) 0 ≡ Some r.now
first_at levels depth files k d e r names lt is =
    let p = names_view (get_or files k e).names in
    let within = named_at levels depth files k e names lt in
    ap (λ q. slice_get q 0) (path_at depth files k d e lt ∙ drop_more p depth [] within)
    ∙ ap (λ n. Some n) (name_of (get_or files k e).names.items depth r within is)

all_one_more : (P : Path → Type 0) (depth j : ℕ) (files : List PathFile) (d : Path) → AllByRecursion P (paths_seen depth (take j files)) → j < length files → P (get_or (paths_seen depth files) j d) → AllByRecursion P (paths_seen depth (take (j + 1) files))
all_one_more P depth j [] d all lt here = absurd (omega arith)
all_one_more P depth zero (f ∷ files) d all lt here = (here, tt)
all_one_more P depth (suc j) (f ∷ files) d all lt here =
    let e : suc (j + 1) ≡ suc j + 1 = omega arith in
    let A : ℕ → Type 0 = λ n. AllByRecursion P (paths_seen depth (take n (f ∷ files))) in
    subst A e (all.0, all_one_more P depth j files d all.1 (omega arith) here)

pub one_more : (depth i : ℕ) (files : List PathFile) (d : Path) → HaveOneName (paths_seen depth (take i files)) → i < length files → slice_get (get_or (paths_seen depth files) i d) 0 ≡ slice_get (get_or (paths_seen depth files) 0 d) 0 → HaveOneName (paths_seen depth (take (i + 1) files))
one_more depth i [] d one lt same = absurd (omega arith)
one_more depth zero (f ∷ files) d one lt same = tt
one_more depth (suc j) (f ∷ files) d one lt same =
    let e : suc (j + 1) ≡ suc j + 1 = omega arith in
    let H : ℕ → Type 0 = λ n. HaveOneName (paths_seen depth (take n (f ∷ files))) in
    subst H e (all_one_more (λ q. slice_get q 0 ≡ slice_get (drop depth (names_view f.names)) 0) depth j files d one (omega arith) same)

pub other_at : (depth i : ℕ) (files : List PathFile) (d : Path) (e : PathFile) → 0 < i → i < length files → slice_get (get_or (paths_seen depth files) i d) 0 ≢ slice_get (get_or (paths_seen depth files) 0 d) 0 → HasOtherName (paths_seen depth files) (paths_seen depth (drop i files))
other_at depth i [] d e pos lt other = absurd (omega arith)
other_at depth zero (f ∷ files) d e pos lt other = absurd (omega arith)
other_at depth (suc j) (f ∷ files) d e pos lt other =
    let within : j < length files = omega arith in
    let H : List PathFile → Type 0 = λ fs. HasOtherName (paths_seen depth (f ∷ files)) (paths_seen depth fs) in
    subst H (sym (drop_more files j e within)) (λ same. other (ap (λ q. slice_get q 0) (path_at depth files j d e within) ∙ same))

-- ---- the files of one name

tails_seen : (x : Name) (depth : ℕ) (files : List PathFile) → map (tail_of x) (seen depth files) ≡ seen (depth + 1) files
tails_seen x depth [] = refl
tails_seen x depth (f ∷ files) = ap₂ (λ g gs. g ∷ gs) (ap (λ q. (q, f.bytes.now)) (drop-drop 1 depth (names_view f.names))) (tails_seen x depth files)

pub file_here : (cut levels depth : ℕ) (files : List PathFile) (e : PathFile) (r : Bor (List ℕ)) → 0 < length files → StandInOrder (paths_seen depth files) → HaveNames levels (paths_seen depth files) → HaveOneName (paths_seen depth files)
    → length (names_view (get_or files 0 e).names) ≡ depth + 1 → r ≡ get_or (get_or files 0 e).names.items depth r
    → ComesTo cut levels (seen depth files) (record { name = r.now; kind = file (map id_of (pieces_of cut (get_or files 0 e).bytes.now)); others = no_members }) (pieces_of cut (get_or files 0 e).bytes.now)
file_here cut levels depth [] e r some order names one ends is = absurd (omega arith)
file_here cut levels depth (f ∷ files) e r some order names one ends is =
    let p = names_view f.names in
    let within : depth < length p = omega arith in
    let path : drop depth p ≡ r.now ∷ [] = drop_more p depth [] within ∙ ap₂ (λ n q. n ∷ q) (name_of f.names.items depth r within is) (drop_all (depth + 1) p (omega arith)) in
    let C : Path → Type 0 = λ q. StandInOrder (q ∷ paths_seen depth files) → HaveNames levels (q ∷ paths_seen depth files) → HaveOneName (q ∷ paths_seen depth files)
    → ComesTo cut levels ((q, f.bytes.now) ∷ seen depth files) (record { name = r.now; kind = file (map id_of (pieces_of cut f.bytes.now)); others = no_members }) (pieces_of cut f.bytes.now) in
    subst C (sym path) (one_file cut levels r.now f.bytes.now (seen depth files)) order names one

-- what a folder comes to, and that its files can be walked over
pub record IsFolder (cut levels depth : ℕ) (files : List PathFile) (name : Name) : Type 0 where
  pub comes : ComesTo cut (suc levels) (seen depth files) (record { name = name; kind = dir (id_of (root_tree cut (folder_at levels (seen (depth + 1) files)))); others = no_members }) (blobs_of cut (folder_at levels (seen (depth + 1) files)))
  pub order : StandInOrder (paths_seen (depth + 1) files)
  pub names : HaveNames levels (paths_seen (depth + 1) files)

pub folder_here : (cut levels depth : ℕ) (files : List PathFile) (e : PathFile) (r : Bor (List ℕ)) → 0 < length files → StandInOrder (paths_seen depth files) → HaveNames (suc levels) (paths_seen depth files) → HaveOneName (paths_seen depth files)
    → length (names_view (get_or files 0 e).names) ≢ depth + 1 → r ≡ get_or (get_or files 0 e).names.items depth r → IsFolder cut levels depth files r.now
folder_here cut levels depth [] e r some order names one goes is = absurd (omega arith)
folder_here cut levels depth (f ∷ files) e r some order names one goes is =
    let p = names_view f.names in
    let within : depth < length p = named_at (suc levels) depth (f ∷ files) 0 e names (omega arith) in
    let more : depth + 1 < length p = omega arith in
    let path : drop depth p ≡ r.now ∷ get_or p (depth + 1) [] ∷ drop (depth + 1 + 1) p =
    drop_more p depth [] within ∙ ap₂ (λ n q. n ∷ q) (name_of f.names.items depth r within is) (drop_more p (depth + 1) [] more) in
    subst C (sym path) (λ o n h.
    let tails : map (tail_of r.now) ((r.now ∷ get_or p (depth + 1) [] ∷ drop (depth + 1 + 1) p, f.bytes.now) ∷ seen depth files) ≡ seen (depth + 1) (f ∷ files) =
    ap (λ q. map (tail_of r.now) ((q, f.bytes.now) ∷ seen depth files)) (sym path) ∙ tails_seen r.now depth (f ∷ files) in
    let begin : AllByRecursion (Begins r.now) ((r.now ∷ get_or p (depth + 1) [] ∷ drop (depth + 1 + 1) p, f.bytes.now) ∷ seen depth files) = (refl, begin_all r.now (seen depth files) h) in
    let sorted = tails_order r.now ((r.now ∷ get_or p (depth + 1) [] ∷ drop (depth + 1 + 1) p, f.bytes.now) ∷ seen depth files) o begin in
    let fit = tails_names r.now levels (get_or p (depth + 1) []) (drop (depth + 1 + 1) p) f.bytes.now (seen depth files) sorted n in
    let comes = one_folder cut levels r.now (get_or p (depth + 1) []) (drop (depth + 1 + 1) p) f.bytes.now (seen depth files) h in
    made ((r.now ∷ get_or p (depth + 1) [] ∷ drop (depth + 1 + 1) p, f.bytes.now) ∷ seen depth files) (map (tail_of r.now) ((r.now ∷ get_or p (depth + 1) [] ∷ drop (depth + 1 + 1) p, f.bytes.now) ∷ seen depth files)) tails path comes sorted fit)
    order names one
  where
    C : Path → Type 0
    C q = StandInOrder (q ∷ paths_seen depth files) → HaveNames (suc levels) (q ∷ paths_seen depth files) → HaveOneName (q ∷ paths_seen depth files) → IsFolder cut levels depth (f ∷ files) r.now

    made : (gs tails : List FileData) → tails ≡ seen (depth + 1) (f ∷ files) → drop depth (names_view f.names) ≡ r.now ∷ get_or (names_view f.names) (depth + 1) [] ∷ drop (depth + 1 + 1) (names_view f.names)
        → ComesTo cut (suc levels) ((r.now ∷ get_or (names_view f.names) (depth + 1) [] ∷ drop (depth + 1 + 1) (names_view f.names), f.bytes.now) ∷ seen depth files) (record { name = r.now; kind = dir (id_of (root_tree cut (folder_at levels tails))); others = no_members }) (blobs_of cut (folder_at levels tails))
        → StandInOrder (map path_of tails) → HaveNames levels (map path_of tails) → IsFolder cut levels depth (f ∷ files) r.now
    made gs tails e path comes sorted fit = record {
      comes =
          let D : Path → Type 0 = λ q. ComesTo cut (suc levels) ((q, f.bytes.now) ∷ seen depth files) (record { name = r.now; kind = dir (id_of (root_tree cut (folder_at levels (seen (depth + 1) (f ∷ files))))); others = no_members }) (blobs_of cut (folder_at levels (seen (depth + 1) (f ∷ files)))) in
          let E : List FileData → Type 0 = λ ts. ComesTo cut (suc levels) ((r.now ∷ get_or (names_view f.names) (depth + 1) [] ∷ drop (depth + 1 + 1) (names_view f.names), f.bytes.now) ∷ seen depth files) (record { name = r.now; kind = dir (id_of (root_tree cut (folder_at levels ts))); others = no_members }) (blobs_of cut (folder_at levels ts)) in
          subst D (sym path) (subst E e comes);
      order = let O : List FileData → Type 0 = λ ts. StandInOrder (map path_of ts) in subst O e sorted;
      names = let N : List FileData → Type 0 = λ ts. HaveNames levels (map path_of ts) in subst N e fit;
    }

-- ---- what a turn of the walk and a call of it need, as the code has them

-- the files from an index on
abbrev pub from_index : ℕ → List PathFile → List PathFile
from_index start files = take (length files - start) (drop start files)

-- what is left after a turn
pub record Turn (cut levels depth start n : ℕ) (files : List PathFile) : Type 0 where
  pub nodes : nodes_of cut (folder_at levels (seen depth (drop start files))) ≡ nodes_of cut (folder_at levels (seen depth (take n (from_index start files)))) ++ nodes_of cut (folder_at levels (seen depth (drop (start + n) files)))
  pub blobs : blobs_below cut (folder_at levels (seen depth (drop start files))) ≡ blobs_below cut (folder_at levels (seen depth (take n (from_index start files)))) ++ blobs_below cut (folder_at levels (seen depth (drop (start + n) files)))

pub rest_order : (depth start : ℕ) (files : List PathFile) → StandInOrder (paths_seen depth files) → StandInOrder (paths_seen depth (from_index start files))
rest_order depth start files order =
    let O : List PathFile → Type 0 = λ fs. StandInOrder (paths_seen depth fs) in
    subst O (sym (take_rest files start)) (order_parts depth start files order).1

pub rest_names : (levels depth start : ℕ) (files : List PathFile) → HaveNames levels (paths_seen depth files) → HaveNames levels (paths_seen depth (from_index start files))
rest_names levels depth start files names =
    let N : List PathFile → Type 0 = λ fs. HaveNames levels (paths_seen depth fs) in
    subst N (sym (take_rest files start)) (names_parts levels depth start files names).1

pub some_files : (n : ℕ) (files : List PathFile) → 0 < n → n ≤ length files → 0 < length (take n files)
some_files n files pos le = omega (arith, length-take-le n files le)

pub turn : (cut levels depth start n : ℕ) (files : List PathFile) → 0 < n → n ≤ length (from_index start files) → StandInOrder (paths_seen depth files) → HaveNames levels (paths_seen depth files)
    → HaveOneName (paths_seen depth (take n (from_index start files))) → HasOtherName (paths_seen depth (from_index start files)) (paths_seen depth (drop n (from_index start files))) → Turn cut levels depth start n files
turn cut levels depth start n files pos le order names one other =
    let rest = from_index start files in
    let split = split_seen cut levels depth n rest pos le (rest_order depth start files order) (rest_names levels depth start files names) one other in
    let same : rest ≡ drop start files = take_rest files start in
    let later : drop n rest ≡ drop (start + n) files = ap (drop n) same ∙ drop-drop n start files in
    record {
      nodes =
          ap (λ fs. nodes_of cut (folder_at levels (seen depth fs))) (sym same) ∙ split.nodes
          ∙ ap (λ fs. nodes_of cut (folder_at levels (seen depth (take n rest))) ++ nodes_of cut (folder_at levels (seen depth fs))) later;
      blobs =
          ap (λ fs. blobs_below cut (folder_at levels (seen depth fs))) (sym same) ∙ split.blobs
          ∙ ap (λ fs. blobs_below cut (folder_at levels (seen depth (take n rest))) ++ blobs_below cut (folder_at levels (seen depth fs))) later;
    }

-- no files are left
pub none_left : (levels depth start : ℕ) (files : List PathFile) → length files ≤ start → folder_at levels (seen depth (drop start files)) ≡ no_nodes
none_left levels depth start files le = ap (λ fs. folder_at levels (seen depth fs)) (drop_all start files le) ∙ no_files levels

-- the nodes so far, with one more
pub nodes_more : (all done one rest left pushed : List NodeData) → done ++ left ≡ all → left ≡ one ++ rest → pushed ≡ done ++ one → pushed ++ rest ≡ all
nodes_more all done one rest left pushed so_far e push =
    ap (λ ns. ns ++ rest) push ∙ append_assoc done one rest ∙ ap (λ ns. done ++ ns) (sym e) ∙ so_far

-- how many names a path has, as the code counts them
pub count_of : (names : Vec (Bor (List ℕ))) → length (names_view names) ≡ vec_len names
count_of names = length-map names.items (λ (n : Bor (List ℕ)). n.now) ∙ sym names.ok.0

some_levels : (levels depth : ℕ) (files : List PathFile) → 0 < length files → HaveNames levels (paths_seen depth files) → 0 < levels
some_levels levels depth [] some names = absurd (omega arith)
some_levels levels depth (f ∷ files) some names = omega (arith, (names.0).0, (names.0).1)

-- a folder, with the levels that are left counted from the root
pub record IsFolderBelow (cut most depth : ℕ) (files : List PathFile) (name : Name) : Type 0 where
  pub comes : ComesTo cut (most - depth) (seen depth files) (record { name = name; kind = dir (id_of (root_tree cut (folder_at (most - (depth + 1)) (seen (depth + 1) files)))); others = no_members }) (blobs_of cut (folder_at (most - (depth + 1)) (seen (depth + 1) files)))
  pub order : StandInOrder (paths_seen (depth + 1) files)
  pub names : HaveNames (most - (depth + 1)) (paths_seen (depth + 1) files)
  pub deeper : most - depth ≡ suc (most - (depth + 1))

pub folder_below : (cut most depth : ℕ) (files : List PathFile) (e : PathFile) (r : Bor (List ℕ)) → 0 < length files → StandInOrder (paths_seen depth files) → HaveNames (most - depth) (paths_seen depth files) → HaveOneName (paths_seen depth files)
    → vec_len (get_or files 0 e).names ≢ depth + 1 → r ≡ get_or (get_or files 0 e).names.items depth r → IsFolderBelow cut most depth files r.now
folder_below cut most depth files e r some order names one goes is =
    let deeper : most - depth ≡ suc (most - (depth + 1)) = omega (arith, some_levels (most - depth) depth files some names) in
    let N : ℕ → Type 0 = λ n. HaveNames n (paths_seen depth files) in
    let folder = folder_here cut (most - (depth + 1)) depth files e r some order (subst N deeper names) one (λ h. goes (sym (count_of (get_or files 0 e).names) ∙ h)) is in
    let C : ℕ → Type 0 = λ n. ComesTo cut n (seen depth files) (record { name = r.now; kind = dir (id_of (root_tree cut (folder_at (most - (depth + 1)) (seen (depth + 1) files)))); others = no_members }) (blobs_of cut (folder_at (most - (depth + 1)) (seen (depth + 1) files))) in
    record { comes = subst C (sym deeper) folder.comes; order = folder.order; names = folder.names; deeper = deeper }

-- the first file comes next, where its path ends at this depth
pub file_first : (cut levels depth : ℕ) (files : List PathFile) (e : PathFile) (r : Bor (List ℕ)) → 0 < length files → StandInOrder (paths_seen depth files) → HaveNames levels (paths_seen depth files) → HaveOneName (paths_seen depth files)
    → e ≡ get_or files 0 e → vec_len e.names ≡ depth + 1 → r ≡ get_or e.names.items depth r
    → ComesTo cut levels (seen depth files) (record { name = r.now; kind = file (map id_of (pieces_of cut e.bytes.now)); others = no_members }) (pieces_of cut e.bytes.now)
file_first cut levels depth files e r some order names one first ends is =
    let C : PathFile → Type 0 = λ f. ComesTo cut levels (seen depth files) (record { name = r.now; kind = file (map id_of (pieces_of cut f.bytes.now)); others = no_members }) (pieces_of cut f.bytes.now) in
    let L : PathFile → Type 0 = λ f. vec_len f.names ≡ depth + 1 in
    let N : PathFile → Type 0 = λ f. r ≡ get_or f.names.items depth r in
    subst C (sym first) (file_here cut levels depth files e r some order names one (count_of (get_or files 0 e).names ∙ subst L first ends) (subst N first is))

pub folder_first : (cut most depth : ℕ) (files : List PathFile) (e : PathFile) (r : Bor (List ℕ)) → 0 < length files → StandInOrder (paths_seen depth files) → HaveNames (most - depth) (paths_seen depth files) → HaveOneName (paths_seen depth files)
    → e ≡ get_or files 0 e → vec_len e.names ≢ depth + 1 → r ≡ get_or e.names.items depth r → IsFolderBelow cut most depth files r.now
folder_first cut most depth files e r some order names one first goes is =
    let G : PathFile → Type 0 = λ f. vec_len f.names ≢ depth + 1 in
    let N : PathFile → Type 0 = λ f. r ≡ get_or f.names.items depth r in
    folder_below cut most depth files e r some order names one (subst G first goes) (subst N first is)
