-- Files in order, and the folder that they come to: those of the first name, and then the others.
use Rattle.std.proofs.Common.{◌≡◌, ℕ, zero, suc, Bool, true, false, cond, List, [], ◌∷◌, ◌++◌, length, map, filter_map, drop, slice_get, Option, Some, None, Ordering, Less, Equal, bytes_eq, nat_cmp, refl, sym, ap, ap₂, subst, ◌∙◌, append-nil, arith}
use Rattle.std.proofs.lemmas.List.{map-append}
use Rattle.std.proofs.lemmas.List.Elements.{filter_map-append}
use Rattle.std.proofs.lemmas.Slice.Eq.{bytes_eq-Decides}
use Rattle.std.specs.Cmp.{tied_itself}
use Rattle.std.specs.Cmp.Lexicographic.{lists_total, nat_list_cmp_total, slice_cmp}
use Rattle.std.specs.FinMap.{entries, entries-insert, from_entries, keys, nat_cmp-IsAntisymmetric, put, slice_cmp-IsAntisymmetric}
use Rattle.std.specs.FinMap.Entries.{by_order}
use Rattle.std.specs.List.{AllByRecursion, cons_option}
use Rattle.keep_catalog.specs.Ordered.{in_order, keyed}
use Rattle.keep_plan.proofs.Ordered.{All-entries}
use Rattle.keep_repo.proofs.Maps.{no_entries}
use Rattle.keep_backup.specs.Folders.{Folder, no_nodes, first_name, first_names, folder_at, node_at, nodes_at, seen_from}
use Rattle.keep_backup.specs.Paths.{FileData, by_path, path_of}
use Rattle.keep_backup.specs.Walk.{blobs_below, nodes_of}

abbrev pub Name : Type 0
Name = List ℕ

abbrev pub name_cmp : Name → Name → Ordering
name_cmp = slice_cmp nat_cmp

pub same_name : (x y : Name) → name_cmp x y ≡ Equal → x ≡ y
same_name = slice_cmp-IsAntisymmetric nat_cmp-IsAntisymmetric

-- ---- keys in order

abbrev pub Key : Type 0
Key = Name × Unit {0}

abbrev After : Name → Key → Type 0
After x e = name_cmp x e.0 ≡ Less

module _ (x : Name) where
  put_least : (v : Unit {0}) (es : List Key) → AllByRecursion (After x) es → put name_cmp x v es ≡ (x, v) ∷ es
  put_least v [] all = refl
  put_least v (e ∷ es) all = ap (λ o. by_order o ((x, v) ∷ e ∷ es) ((e.0, v) ∷ es) (e ∷ put name_cmp x v es)) all.0

  put_first : (v : Unit {0}) (es : List Key) (ks : List Name) → map (λ e. e.0) es ≡ x ∷ ks → map (λ e. e.0) (put name_cmp x v es) ≡ x ∷ ks
  put_first v [] ks h = absurd (not_cons (sym (ap length h))) where
    not_cons : suc (length ks) ≡ 0 → ⊥
    not_cons e = omega arith
  put_first v (e ∷ es) ks h =
      let head : e.0 ≡ x = head_of (e.0) x (map (λ k. k.0) es) ks h in
      let tie : name_cmp x e.0 ≡ Equal = ap (name_cmp x) head ∙ tied_itself nat_list_cmp_total x in
      ap (λ o. map (λ k. k.0) (by_order o ((x, v) ∷ e ∷ es) ((e.0, v) ∷ es) (e ∷ put name_cmp x v es))) tie ∙ h
    where
      head_of : (a b : Name) (xs ys : List Name) → a ∷ xs ≡ b ∷ ys → a ≡ b
      head_of a b xs ys e = cc

after_entries : (x : Name) (es : List Key) → AllByRecursion (After x) es → AllByRecursion (After x) (entries (from_entries {R = name_cmp} es))
after_entries x = All-entries nat_list_cmp_total same_name (After x)

keys_grouped : (x : Name) (e : Key) (es ls : List Key) → e.0 ≡ x → AllByRecursion (λ k. k.0 ≡ x) es → AllByRecursion (After x) ls → keys (from_entries {R = name_cmp} ((e ∷ es) ++ ls)) ≡ x ∷ keys (from_entries {R = name_cmp} ls)
keys_grouped x e [] ls here all later =
    ap (map (λ k. k.0)) (entries-insert nat_list_cmp_total (from_entries ls) e.0 e.1
    ∙ ap (λ k. put name_cmp k e.1 (entries (from_entries {R = name_cmp} ls))) here ∙ put_least x e.1 (entries (from_entries {R = name_cmp} ls)) (after_entries x ls later))
keys_grouped x e (f ∷ es) ls here all later =
    ap (map (λ k. k.0)) (entries-insert nat_list_cmp_total (from_entries ((f ∷ es) ++ ls)) e.0 e.1
    ∙ ap (λ k. put name_cmp k e.1 (entries (from_entries {R = name_cmp} ((f ∷ es) ++ ls)))) here)
    ∙ put_first x e.1 (entries (from_entries {R = name_cmp} ((f ∷ es) ++ ls))) (keys (from_entries {R = name_cmp} ls)) (keys_grouped x f es ls all.0 all.1 later)

-- what all names are, those in order are
module _ (P : Name → Type 0) where
  keyed_so : (ks : List Name) → AllByRecursion P ks → AllByRecursion (λ (e : Key). P e.0) (map keyed ks)
  keyed_so [] all = tt
  keyed_so (k ∷ ks) all = (all.0, keyed_so ks all.1)

  keys_so : (es : List Key) → AllByRecursion (λ (e : Key). P e.0) es → AllByRecursion P (map (λ (e : Key). e.0) es)
  keys_so [] all = tt
  keys_so (e ∷ es) all = (all.0, keys_so es all.1)

  pub in_order_so : (ks : List Name) → AllByRecursion P ks → AllByRecursion P (in_order name_cmp ks)
  in_order_so ks all = keys_so (entries (from_entries {R = name_cmp} (map keyed ks))) (All-entries nat_list_cmp_total same_name (λ (e : Key). P e.0) (map keyed ks) (keyed_so ks all))

-- and what all files are, those in the order of their paths are
pub by_path_so : (P : FileData → Type 0) (fs : List FileData) → AllByRecursion P fs → AllByRecursion P (by_path fs)
unfolding by_path
by_path_so P fs all = All-entries (lists_total nat_list_cmp_total) (slice_cmp-IsAntisymmetric same_name) P fs all

-- ---- files by their first name

-- the path begins with this name; with one that comes after it
abbrev pub Begins : Name → FileData → Type 0
Begins x file = slice_get (path_of file) 0 ≡ Some x

pub record BeginsAfter (x : Name) (file : FileData) : Type 0 where
  pub name : Name
  pub begins : Begins name file
  pub after : name_cmp x name ≡ Less

names_begin : (x : Name) (fs : List FileData) → AllByRecursion (Begins x) fs → AllByRecursion (λ k. k.0 ≡ x) (map keyed (filter_map first_name fs))
names_begin x [] all = tt
names_begin x (f ∷ fs) all =
    let K : Option Name → Type 0 = λ o. AllByRecursion (λ k. k.0 ≡ x) (map keyed (cons_option o (filter_map first_name fs))) in
    subst K (sym all.0) (refl, names_begin x fs all.1)

names_after : (x : Name) (fs : List FileData) → AllByRecursion (BeginsAfter x) fs → AllByRecursion (After x) (map keyed (filter_map first_name fs))
names_after x [] all = tt
names_after x (f ∷ fs) all =
    let K : Option Name → Type 0 = λ o. AllByRecursion (After x) (map keyed (cons_option o (filter_map first_name fs))) in
    subst K (sym (all.0).begins) ((all.0).after, names_after x fs all.1)

first_entry : (x : Name) (f : FileData) (fs : List FileData) → Begins x f → map keyed (filter_map first_name (f ∷ fs)) ≡ (x, tt) ∷ map keyed (filter_map first_name fs)
first_entry x f fs is = ap (λ o. map keyed (cons_option o (filter_map first_name fs))) is

module _ (x : Name) where
  names_grouped : (g : FileData) (gs hs : List FileData) → AllByRecursion (Begins x) (g ∷ gs) → AllByRecursion (BeginsAfter x) hs → first_names ((g ∷ gs) ++ hs) ≡ x ∷ first_names hs
  unfolding first_names
  names_grouped g gs hs begin after =
      ap (λ es. keys (from_entries {R = name_cmp} es)) (ap (map keyed) (filter_map-append first_name (g ∷ gs) hs)
      ∙ map-append keyed (filter_map first_name (g ∷ gs)) (filter_map first_name hs)
      ∙ ap (λ es. es ++ map keyed (filter_map first_name hs)) (first_entry x g gs begin.0))
      ∙ keys_grouped x (x, tt) (map keyed (filter_map first_name gs)) (map keyed (filter_map first_name hs)) refl (names_begin x gs begin.1) (names_after x hs after)

  names_stay : (hs : List FileData) → AllByRecursion (BeginsAfter x) hs → AllByRecursion (λ y. name_cmp x y ≡ Less) (first_names hs)
  unfolding first_names
  names_stay hs after = of_keys (entries (from_entries {R = name_cmp} (map keyed (filter_map first_name hs)))) (after_entries x (map keyed (filter_map first_name hs)) (names_after x hs after)) where
    of_keys : (es : List Key) → AllByRecursion (After x) es → AllByRecursion (λ y. name_cmp x y ≡ Less) (map (λ e. e.0) es)
    of_keys [] all = tt
    of_keys (e ∷ es) all = (all.0, of_keys es all.1)

-- ---- what is seen from a name

other_name : (x y : Name) → name_cmp x y ≡ Less → (bytes_eq y x ≡ false) × (bytes_eq x y ≡ false)
other_name x y less = (not_so (bytes_eq y x) (λ e. clash (sym ((bytes_eq-Decides y x).0 e))), not_so (bytes_eq x y) (λ e. clash ((bytes_eq-Decides x y).0 e))) where
  clash : x ≡ y → ⊥
  clash e = unequal (sym less ∙ ap (name_cmp x) (sym e) ∙ tied_itself nat_list_cmp_total x) where
    unequal : Less ≡ Equal → ⊥
    unequal e = cc

  not_so : (b : Bool) → (b ≡ true → ⊥) → b ≡ false
  not_so true h = absurd (h refl)
  not_so false h = refl

pub itself : (x : Name) → bytes_eq x x ≡ true
itself x = (bytes_eq-Decides x x).1 refl

module _ (x : Name) where
  -- a file of a path that begins with the name
  abbrev pub tail_of : FileData → FileData
  tail_of file = (drop 1 (path_of file), file.1)

  seen_tail : (f : FileData) → Begins x f → seen_from x f ≡ Some (tail_of f)
  seen_tail ([], b) is = absurd (none_some is) where
    none_some : None ≡ Some x → ⊥
    none_some e = cc
  seen_tail (y ∷ p, b) is =
      let same : y ≡ x = some_same is in
      ap (λ t. cond t (Some (p, b)) None) (ap (bytes_eq x) same ∙ itself x)
    where
      some_same : Some y ≡ Some x → y ≡ x
      some_same e = cc

  pub seen_group : (gs : List FileData) → AllByRecursion (Begins x) gs → filter_map (seen_from x) gs ≡ map tail_of gs
  seen_group [] all = refl
  seen_group (g ∷ gs) all = ap₂ cons_option (seen_tail g all.0) (seen_group gs all.1)

  unseen : (y : Name) (f : FileData) → Begins y f → bytes_eq x y ≡ false → seen_from x f ≡ None
  unseen y ([], b) is other = refl
  unseen y (z ∷ p, b) is other =
      let same : z ≡ y = some_same is in
      ap (λ t. cond t (Some (p, b)) None) (ap (bytes_eq x) same ∙ other)
    where
      some_same : Some z ≡ Some y → z ≡ y
      some_same e = cc

  unseen_after : (hs : List FileData) → AllByRecursion (BeginsAfter x) hs → filter_map (seen_from x) hs ≡ []
  unseen_after [] all = refl
  unseen_after (h ∷ hs) all =
      ap₂ cons_option (unseen (all.0).name h (all.0).begins (other_name x (all.0).name (all.0).after).1) (unseen_after hs all.1)

unseen_group : (x y : Name) (gs : List FileData) → name_cmp x y ≡ Less → AllByRecursion (Begins x) gs → filter_map (seen_from y) gs ≡ []
unseen_group x y [] less all = refl
unseen_group x y (g ∷ gs) less all = ap₂ cons_option (unseen y x g all.0 (other_name x y less).0) (unseen_group x y gs less all.1)

-- ---- the folder of the files

module _ (x : Name) (inner : List FileData → Folder) (gs hs : List FileData) (begin : AllByRecursion (Begins x) gs) where
  nodes_stay : (ys : List Name) → AllByRecursion (λ y. name_cmp x y ≡ Less) ys → nodes_at inner (gs ++ hs) ys ≡ nodes_at inner hs ys
  nodes_stay [] all = refl
  nodes_stay (y ∷ ys) all =
      let same : filter_map (seen_from y) (gs ++ hs) ≡ filter_map (seen_from y) hs =
      filter_map-append (seen_from y) gs hs ∙ ap (λ fs. fs ++ filter_map (seen_from y) hs) (unseen_group x y gs all.0 begin) in
      ap₂ (λ fs more. node_at y fs (inner fs) more) same (nodes_stay ys all.1)

-- the first name's node comes first
pub grouped : (levels : ℕ) (x : Name) (g : FileData) (gs hs : List FileData) → AllByRecursion (Begins x) (g ∷ gs) → AllByRecursion (BeginsAfter x) hs
    → folder_at (suc levels) ((g ∷ gs) ++ hs) ≡ node_at x (map (tail_of x) (g ∷ gs)) (folder_at levels (map (tail_of x) (g ∷ gs))) (folder_at (suc levels) hs)
grouped levels x g gs hs begin after =
    let inner = folder_at levels in
    let seen_so : filter_map (seen_from x) ((g ∷ gs) ++ hs) ≡ map (tail_of x) (g ∷ gs) =
    filter_map-append (seen_from x) (g ∷ gs) hs ∙ ap₂ (λ us vs. us ++ vs) (seen_group x (g ∷ gs) begin) (unseen_after x hs after) ∙ append-nil (map (tail_of x) (g ∷ gs)) in
    ap (nodes_at (folder_at levels) ((g ∷ gs) ++ hs)) (names_grouped x g gs hs begin after)
    ∙ ap₂ (λ fs more. node_at x fs (folder_at levels fs) more) seen_so (nodes_stay x (folder_at levels) (g ∷ gs) hs begin (first_names hs) (names_stay x hs after))

no_names : first_names [] ≡ []
unfolding first_names
no_names = ap (map (λ e. e.0)) (no_entries name_cmp)

pub no_files : (levels : ℕ) → folder_at levels [] ≡ no_nodes
no_files zero = refl
no_files (suc levels) = ap (nodes_at (folder_at levels) []) no_names

-- ---- what a folder comes to, its first node and then the others

nodes_first : (cut : ℕ) (x : Name) (fs : List FileData) (inner more : Folder) → nodes_of cut (node_at x fs inner more) ≡ nodes_of cut (node_at x fs inner no_nodes) ++ nodes_of cut more
nodes_first cut x [] inner more = refl
nodes_first cut x (([], b) ∷ []) inner more = refl
nodes_first cut x (([], b) ∷ f ∷ fs) inner more = refl
nodes_first cut x ((y ∷ p, b) ∷ fs) inner more = refl

blobs_first : (cut : ℕ) (x : Name) (fs : List FileData) (inner more : Folder) → blobs_below cut (node_at x fs inner more) ≡ blobs_below cut (node_at x fs inner no_nodes) ++ blobs_below cut more
blobs_first cut x [] inner more = ap (λ bs. bs ++ blobs_below cut more) (sym (append-nil _))
blobs_first cut x (([], b) ∷ []) inner more = ap (λ bs. bs ++ blobs_below cut more) (sym (append-nil _))
blobs_first cut x (([], b) ∷ f ∷ fs) inner more = ap (λ bs. bs ++ blobs_below cut more) (sym (append-nil _))
blobs_first cut x ((y ∷ p, b) ∷ fs) inner more = ap (λ bs. bs ++ blobs_below cut more) (sym (append-nil _))

module _ (levels : ℕ) (x : Name) (g : FileData) (gs hs : List FileData) (begin : AllByRecursion (Begins x) (g ∷ gs)) (after : AllByRecursion (BeginsAfter x) hs) where
  -- the files of the first name alone
  pub group_alone : folder_at (suc levels) (g ∷ gs) ≡ node_at x (map (tail_of x) (g ∷ gs)) (folder_at levels (map (tail_of x) (g ∷ gs))) no_nodes
  group_alone =
      ap (folder_at (suc levels)) (sym (append-nil (g ∷ gs)))
      ∙ grouped levels x g gs [] begin tt
      ∙ ap (node_at x (map (tail_of x) (g ∷ gs)) (folder_at levels (map (tail_of x) (g ∷ gs)))) (no_files (suc levels))

  pub nodes_split : (cut : ℕ) → nodes_of cut (folder_at (suc levels) ((g ∷ gs) ++ hs)) ≡ nodes_of cut (folder_at (suc levels) (g ∷ gs)) ++ nodes_of cut (folder_at (suc levels) hs)
  nodes_split cut =
      ap (nodes_of cut) (grouped levels x g gs hs begin after)
      ∙ nodes_first cut x (map (tail_of x) (g ∷ gs)) (folder_at levels (map (tail_of x) (g ∷ gs))) (folder_at (suc levels) hs)
      ∙ ap (λ f. nodes_of cut f ++ nodes_of cut (folder_at (suc levels) hs)) (sym group_alone)

  pub blobs_split : (cut : ℕ) → blobs_below cut (folder_at (suc levels) ((g ∷ gs) ++ hs)) ≡ blobs_below cut (folder_at (suc levels) (g ∷ gs)) ++ blobs_below cut (folder_at (suc levels) hs)
  blobs_split cut =
      ap (blobs_below cut) (grouped levels x g gs hs begin after)
      ∙ blobs_first cut x (map (tail_of x) (g ∷ gs)) (folder_at levels (map (tail_of x) (g ∷ gs))) (folder_at (suc levels) hs)
      ∙ ap (λ f. blobs_below cut f ++ blobs_below cut (folder_at (suc levels) hs)) (sym group_alone)
