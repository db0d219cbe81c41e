-- Files as they are seen from a folder: their parts, and what they come to there.
use Rattle.std.proofs.Common.{◌≡◌, ◌≢◌, ℕ, zero, suc, ◌<◌, ◌≤◌, Bool, true, false, List, [], ◌∷◌, ◌++◌, length, map, take, drop, slice_get, None, Some, Ordering, Less, Equal, Greater, refl, sym, ap, subst, ◌∙◌, append-nil, true≢false, arith}
use Rattle.std.proofs.lemmas.List.{map-append, take-append-drop}
use Rattle.std.specs.Cmp.{tied_itself}
use Rattle.std.specs.Cmp.Lexicographic.{nat_list_cmp_total}
use Rattle.std.specs.List.{AllByRecursion}
use Rattle.std.specs.Ordering.{match_ordering}
use Rattle.serde_json.specs.Data.{no_members}
use Rattle.keep_tree.specs.Tree.{dir, file, NodeData}
use Rattle.keep_build.specs.Blobs.{BlobData, id_of}
use Rattle.keep_backup.specs.Files.{names_view, paths_seen, seen}
use Rattle.keep_backup.specs.Folders.{folder_at}
use Rattle.keep_backup.specs.Paths.{FileData, HasOtherName, HaveNames, HaveOneName, Path, StandInOrder, path_of, stands_before}
use Rattle.keep_backup.specs.Walk.{blobs_below, blobs_of, nodes_of, pieces_of, root_tree}
use Rattle.keep_backup.specs.declared.paths.PathFile.{PathFile}
use Rattle.keep_backup.proofs.Groups.{Begins, BeginsAfter, Name, blobs_split, group_alone, name_cmp, nodes_split, same_name, tail_of}

-- ---- parts of lists

module _ {X : Type 0} (P : X → Type 0) where
  pub all_left : (xs ys : List X) → AllByRecursion P (xs ++ ys) → AllByRecursion P xs
  all_left [] ys all = tt
  all_left (x ∷ xs) ys all = (all.0, all_left xs ys all.1)

  pub all_right : (xs ys : List X) → AllByRecursion P (xs ++ ys) → AllByRecursion P ys
  all_right [] ys all = all
  all_right (x ∷ xs) ys all = all_right xs ys all.1

pub order_left : (ps qs : List Path) → StandInOrder (ps ++ qs) → StandInOrder ps
order_left [] qs h = tt
order_left (p ∷ ps) qs h = (all_left (λ q. stands_before p q ≡ true) ps qs h.0, order_left ps qs h.1)

pub order_right : (ps qs : List Path) → StandInOrder (ps ++ qs) → StandInOrder qs
order_right [] qs h = h
order_right (p ∷ ps) qs h = order_right ps qs h.1

-- ---- by the first name

pub begin_all : (x : Name) (fs : List FileData) → AllByRecursion (λ q. slice_get q 0 ≡ Some x) (map path_of fs) → AllByRecursion (Begins x) fs
begin_all x [] all = tt
begin_all x (f ∷ fs) all = (all.0, begin_all x fs all.1)

less_by : (o : Ordering) (x y : Name) (b : Bool) → name_cmp x y ≡ o → match_ordering o true b false ≡ true → x ≢ y → name_cmp x y ≡ Less
less_by Less x y b is h other = is
less_by Equal x y b is h other = absurd (other (same_name x y is))
less_by Greater x y b is h other = absurd (true≢false (sym h))

-- the first of the others comes after
first_after : (x : Name) (p q : Path) (c : List ℕ) → stands_before (x ∷ p) q ≡ true → slice_get q 0 ≢ Some x → BeginsAfter x (q, c)
first_after x p [] c h other = absurd (true≢false (sym h))
first_after x p (y ∷ q) c h other =
    record { name = y; begins = refl; after = less_by (name_cmp x y) x y (stands_before p q) refl h (λ e. other (ap (λ n. Some n) (sym e))) }

still_by : (o : Ordering) (x y z : Name) (b : Bool) → name_cmp y z ≡ o → name_cmp x y ≡ Less → match_ordering o true b false ≡ true → name_cmp x z ≡ Less
still_by Less x y z b is less h = nat_list_cmp_total.trans x y z less is
still_by Equal x y z b is less h = ap (name_cmp x) (sym (same_name y z is)) ∙ less
still_by Greater x y z b is less h = absurd (true≢false (sym h))

-- and so do those behind it
then_after : (x y : Name) (p : Path) (fs : List FileData) → name_cmp x y ≡ Less → AllByRecursion (λ q. stands_before (y ∷ p) q ≡ true) (map path_of fs) → AllByRecursion (BeginsAfter x) fs
then_after x y p [] less all = tt
then_after x y p (([], c) ∷ fs) less all = absurd (true≢false (sym all.0))
then_after x y p ((z ∷ q, c) ∷ fs) less all =
    (record { name = z; begins = refl; after = still_by (name_cmp y z) x y z (stands_before p q) refl less all.0 }, then_after x y p fs less all.1)

after_all : (x : Name) (p : Path) (hs : List FileData) → AllByRecursion (λ q. stands_before (x ∷ p) q ≡ true) (map path_of hs) → StandInOrder (map path_of hs) → HasOtherName ((x ∷ p) ∷ []) (map path_of hs) → AllByRecursion (BeginsAfter x) hs
after_all x p [] all order other = tt
after_all x p (([], c) ∷ hs) all order other = absurd (true≢false (sym all.0))
after_all x p ((y ∷ q, c) ∷ hs) all order other =
    let first = first_after x p (y ∷ q) c all.0 other in
    let less : name_cmp x y ≡ Less = less_by (name_cmp x y) x y (stands_before p q) refl all.0 (λ e. other (ap (λ n. Some n) (sym e))) in
    (first, then_after x y q hs less order.0)

all_across : (P : Path → Type 0) (xs ys : List FileData) → AllByRecursion P (map path_of (xs ++ ys)) → AllByRecursion P (map path_of ys)
all_across P [] ys all = all
all_across P (x ∷ xs) ys all = all_across P xs ys all.1

order_across : (xs ys : List FileData) → StandInOrder (map path_of (xs ++ ys)) → StandInOrder (map path_of ys)
order_across [] ys h = h
order_across (x ∷ xs) ys h = order_across xs ys h.1

-- ---- what files come to, those of the first name and then the others

pub record SplitsAt (cut levels : ℕ) (all group others : List FileData) : Type 0 where
  pub nodes : nodes_of cut (folder_at levels all) ≡ nodes_of cut (folder_at levels group) ++ nodes_of cut (folder_at levels others)
  pub blobs : blobs_below cut (folder_at levels all) ≡ blobs_below cut (folder_at levels group) ++ blobs_below cut (folder_at levels others)

split_files : (cut levels : ℕ) (gs hs : List FileData) → 0 < length gs → StandInOrder (map path_of (gs ++ hs)) → HaveNames levels (map path_of (gs ++ hs)) → HaveOneName (map path_of gs) → HasOtherName (map path_of (gs ++ hs)) (map path_of hs)
    → SplitsAt cut levels (gs ++ hs) gs hs
split_files cut levels [] hs some order names one other = absurd (omega arith)
split_files cut levels (([], b) ∷ gs) hs some order names one other = absurd (omega (arith, (names.0).0))
split_files cut zero ((x ∷ p, b) ∷ gs) hs some order names one other = absurd (omega (arith, (names.0).1))
split_files cut (suc levels) ((x ∷ p, b) ∷ gs) hs some order names one other =
    let begin : AllByRecursion (Begins x) ((x ∷ p, b) ∷ gs) = (refl, begin_all x gs one) in
    let after : AllByRecursion (BeginsAfter x) hs = after_all x p hs (all_across (λ q. stands_before (x ∷ p) q ≡ true) gs hs order.0) (order_across gs hs order.1) (as_first x p (map path_of (gs ++ hs)) (map path_of hs) other) in
    record {
      nodes = nodes_split levels x (x ∷ p, b) gs hs begin after cut;
      blobs = blobs_split levels x (x ∷ p, b) gs hs begin after cut;
    }
  where
    as_first : (x : Name) (p : Path) (ps qs : List Path) → HasOtherName ((x ∷ p) ∷ ps) qs → HasOtherName ((x ∷ p) ∷ []) qs
    as_first x p ps [] h = tt
    as_first x p ps (q ∷ qs) h = h

some_taken : (n : ℕ) (fs : List PathFile) → 0 < n → n ≤ length fs → (depth : ℕ) → 0 < length (seen depth (take n fs))
some_taken zero fs pos le depth = absurd (omega arith)
some_taken (suc n) [] pos le depth = absurd (omega arith)
some_taken (suc n) (f ∷ fs) pos le depth = omega arith

pub split_seen : (cut levels depth n : ℕ) (files : List PathFile) → 0 < n → n ≤ length files → StandInOrder (paths_seen depth files) → HaveNames levels (paths_seen depth files) → HaveOneName (paths_seen depth (take n files)) → HasOtherName (paths_seen depth files) (paths_seen depth (drop n files))
    → SplitsAt cut levels (seen depth files) (seen depth (take n files)) (seen depth (drop n files))
split_seen cut levels depth n files pos le order names one other =
    let whole : seen depth files ≡ seen depth (take n files) ++ seen depth (drop n files) =
    ap (seen depth) (sym (take-append-drop n files)) ∙ map-append (λ f. (drop depth (names_view f.names), f.bytes.now)) (take n files) (drop n files) in
    let O : List FileData → Type 0 = λ fs. StandInOrder (map path_of fs) in
    let N : List FileData → Type 0 = λ fs. HaveNames levels (map path_of fs) in
    let H : List FileData → Type 0 = λ fs. HasOtherName (map path_of fs) (paths_seen depth (drop n files)) in
    let S : List FileData → Type 0 = λ fs. SplitsAt cut levels fs (seen depth (take n files)) (seen depth (drop n files)) in
    subst S (sym whole)
    (split_files cut levels (seen depth (take n files)) (seen depth (drop n files)) (some_taken n files pos le depth) (subst O whole order) (subst N whole names) one (subst H whole other))

parts_of : (depth n : ℕ) (files : List PathFile) → paths_seen depth files ≡ paths_seen depth (take n files) ++ paths_seen depth (drop n files)
parts_of depth n files =
    ap (paths_seen depth) (sym (take-append-drop n files))
    ∙ ap (map path_of) (map-append (λ f. (drop depth (names_view f.names), f.bytes.now)) (take n files) (drop n files))
    ∙ map-append path_of (seen depth (take n files)) (seen depth (drop n files))

-- the parts keep what is asked of files
pub order_parts : (depth n : ℕ) (files : List PathFile) → StandInOrder (paths_seen depth files) → StandInOrder (paths_seen depth (take n files)) × StandInOrder (paths_seen depth (drop n files))
order_parts depth n files order =
    let O : List Path → Type 0 = λ ps. StandInOrder ps in
    let whole : paths_seen depth files ≡ paths_seen depth (take n files) ++ paths_seen depth (drop n files) = parts_of depth n files in
    let h = subst O whole order in
    (order_left (paths_seen depth (take n files)) (paths_seen depth (drop n files)) h, order_right (paths_seen depth (take n files)) (paths_seen depth (drop n files)) h)

pub names_parts : (levels depth n : ℕ) (files : List PathFile) → HaveNames levels (paths_seen depth files) → HaveNames levels (paths_seen depth (take n files)) × HaveNames levels (paths_seen depth (drop n files))
names_parts levels depth n files names =
    let N : List Path → Type 0 = λ ps. HaveNames levels ps in
    let whole : paths_seen depth files ≡ paths_seen depth (take n files) ++ paths_seen depth (drop n files) = parts_of depth n files in
    let h = subst N whole names in
    (all_left (λ path. (0 < length path) × (length path ≤ levels)) (paths_seen depth (take n files)) (paths_seen depth (drop n files)) h, all_right (λ path. (0 < length path) × (length path ≤ levels)) (paths_seen depth (take n files)) (paths_seen depth (drop n files)) h)

-- ---- one file, and one folder

same_begin : (x : Name) (p q : Path) → stands_before (x ∷ p) (x ∷ q) ≡ stands_before p q
same_begin x p q = ap (λ o. match_ordering o true (stands_before p q) false) (tied_itself nat_list_cmp_total x)

-- nothing stands behind a file of the same name
file_alone : (x : Name) (fs : List FileData) → AllByRecursion (λ q. stands_before (x ∷ []) q ≡ true) (map path_of fs) → AllByRecursion (Begins x) fs → fs ≡ []
file_alone x [] all begin = refl
file_alone x (([], c) ∷ fs) all begin = absurd (true≢false (sym all.0))
file_alone x ((y ∷ q, c) ∷ fs) all begin =
    let same : y ≡ x = some_same y x begin.0 in
    let S : Name → Type 0 = λ n. stands_before (x ∷ []) (n ∷ q) ≡ true in
    absurd (true≢false (sym (subst S same all.0) ∙ same_begin x [] q))
  where
    some_same : (y x : Name) → Some y ≡ Some x → y ≡ x
    some_same y x e = cc

pub record ComesTo (cut levels : ℕ) (files : List FileData) (node : NodeData) (blobs : List BlobData) : Type 0 where
  pub nodes : nodes_of cut (folder_at levels files) ≡ node ∷ []
  pub below : blobs_below cut (folder_at levels files) ≡ blobs

pub one_file : (cut levels : ℕ) (x : Name) (b : List ℕ) (gs : List FileData) → StandInOrder (map path_of ((x ∷ [], b) ∷ gs)) → HaveNames levels (map path_of ((x ∷ [], b) ∷ gs)) → HaveOneName (map path_of ((x ∷ [], b) ∷ gs))
    → ComesTo cut levels ((x ∷ [], b) ∷ gs) (record { name = x; kind = file (map id_of (pieces_of cut b)); others = no_members }) (pieces_of cut b)
one_file cut zero x b gs order names one = absurd (omega (arith, (names.0).1))
one_file cut (suc levels) x b gs order names one =
    let begin : AllByRecursion (Begins x) gs = begin_all x gs one in
    let none : gs ≡ [] = file_alone x gs order.0 begin in
    let alone = group_alone levels x (x ∷ [], b) [] [] (refl, tt) tt in
    record {
      nodes = ap (λ fs. nodes_of cut (folder_at (suc levels) ((x ∷ [], b) ∷ fs))) none ∙ ap (nodes_of cut) alone;
      below = ap (λ fs. blobs_below cut (folder_at (suc levels) ((x ∷ [], b) ∷ fs))) none ∙ ap (blobs_below cut) alone ∙ append-nil (pieces_of cut b);
    }

pub one_folder : (cut levels : ℕ) (x y : Name) (p : Path) (b : List ℕ) (gs : List FileData) → HaveOneName (map path_of ((x ∷ y ∷ p, b) ∷ gs))
    → ComesTo cut (suc levels) ((x ∷ y ∷ p, b) ∷ gs) (record { name = x; kind = dir (id_of (root_tree cut (folder_at levels (map (tail_of x) ((x ∷ y ∷ p, b) ∷ gs))))); others = no_members }) (blobs_of cut (folder_at levels (map (tail_of x) ((x ∷ y ∷ p, b) ∷ gs))))
one_folder cut levels x y p b gs one =
    let alone = group_alone levels x (x ∷ y ∷ p, b) gs [] (refl, begin_all x gs one) tt in
    record {
      nodes = ap (nodes_of cut) alone;
      below = ap (blobs_below cut) alone ∙ append-nil (blobs_of cut (folder_at levels (map (tail_of x) ((x ∷ y ∷ p, b) ∷ gs))));
    }

tails_before : (x : Name) (p : Path) (fs : List FileData) → AllByRecursion (λ q. stands_before (x ∷ p) q ≡ true) (map path_of fs) → AllByRecursion (Begins x) fs → AllByRecursion (λ q. stands_before p q ≡ true) (map path_of (map (tail_of x) fs))
tails_before x p [] all begin = tt
tails_before x p (([], c) ∷ fs) all begin = absurd (true≢false (sym all.0))
tails_before x p ((y ∷ q, c) ∷ fs) all begin =
    let same : y ≡ x = some_same y x begin.0 in
    let S : Name → Type 0 = λ n. stands_before (x ∷ p) (n ∷ q) ≡ true in
    (sym (same_begin x p q) ∙ subst S same all.0, tails_before x p fs all.1 begin.1)
  where
    some_same : (y x : Name) → Some y ≡ Some x → y ≡ x
    some_same y x e = cc

pub tails_order : (x : Name) (fs : List FileData) → StandInOrder (map path_of fs) → AllByRecursion (Begins x) fs → StandInOrder (map path_of (map (tail_of x) fs))
tails_order x [] order begin = tt
tails_order x (([], c) ∷ fs) order begin = absurd (none_some x begin.0) where
  none_some : (x : Name) → None ≡ Some x → ⊥
  none_some x e = cc
tails_order x ((y ∷ q, c) ∷ fs) order begin =
    let same : y ≡ x = some_same y x begin.0 in
    let S : Name → Type 0 = λ n. AllByRecursion (λ r. stands_before (n ∷ q) r ≡ true) (map path_of fs) in
    (tails_before x q fs (subst S same order.0) begin.1, tails_order x fs order.1 begin.1)
  where
    some_same : (y x : Name) → Some y ≡ Some x → y ≡ x
    some_same y x e = cc

shorter : (x : Name) (levels : ℕ) (y : Name) (p : Path) (fs : List FileData) → AllByRecursion (λ q. stands_before (y ∷ p) q ≡ true) (map path_of (map (tail_of x) fs)) → HaveNames (suc levels) (map path_of fs) → HaveNames levels (map path_of (map (tail_of x) fs))
shorter x levels y p [] all names = tt
shorter x levels y p (([], c) ∷ fs) all names = absurd (true≢false (sym all.0))
shorter x levels y p ((z ∷ [], c) ∷ fs) all names = absurd (true≢false (sym all.0))
shorter x levels y p ((z ∷ w ∷ q, c) ∷ fs) all names =
    ((omega arith, omega (arith, (names.0).1)), shorter x levels y p fs all.1 names.1)

pub tails_names : (x : Name) (levels : ℕ) (y : Name) (p : Path) (b : List ℕ) (fs : List FileData) → StandInOrder (map path_of (map (tail_of x) ((x ∷ y ∷ p, b) ∷ fs))) → HaveNames (suc levels) (map path_of ((x ∷ y ∷ p, b) ∷ fs)) → HaveNames levels (map path_of (map (tail_of x) ((x ∷ y ∷ p, b) ∷ fs)))
tails_names x levels y p b fs order names = ((omega arith, omega (arith, (names.0).1)), shorter x levels y p fs order.0 names.1)
