-- The names of paths that are given as texts are texts, and nodes can have them.
use Rattle.std.proofs.Common.{◌≡◌, ℕ, ◌+◌, ◌<◌, Bool, true, false, ◌&&◌, cond, List, [], ◌∷◌, ◌++◌, length, map, drop, get_or, filter_map, Option, None, Some, option_map, Ok, Err, IsUtf8, refl, sym, ap, subst, ◌∙◌, append_assoc, append-nil, arith}
use Rattle.std.proofs.lemmas.Bool.Decides.{nat_tests}
use Rattle.std.proofs.lemmas.List.{drop_at, length-append, take_at}
use Rattle.std.proofs.lemmas.List.Elements.{recursion_from_All}
use Rattle.std.proofs.lemmas.Str.{IsCharBoundary-after_ascii, IsCharBoundary-before_ascii, IsUtf8-drop, IsUtf8-take}
use Rattle.std.specs.List.{AllByRecursion, list_all, onto_first, slice_split, cons_option}
use Rattle.std.specs.Option.{option_and_then}
use Rattle.std.specs.Str.{bytes_eq}
use Rattle.keep_tree.specs.Names.{is_name}
use Rattle.keep_docs.specs.Lists.{each}
use Rattle.keep_plan.specs.declared.plan_error.PlanError.TheVariants.{SamePathTwice}
use Rattle.keep_backup.specs.Folders.{first_name, first_names, seen_from}
use Rattle.keep_backup.specs.Paths.{FileData, Path, any_clash, by_path, components_of, files_in_order, given_file, is_slash, names_between, path_of, without_clash}
use Rattle.keep_backup.proofs.Groups.{by_path_so, in_order_so}
use Rattle.keep_safety.specs.SafeBackup.{HaveTextPaths}

-- a text that a node can have as its name
pub record IsGood (name : List ℕ) : Type 0 where
  pub text : IsUtf8 name
  pub fits : is_name name ≡ true

abbrev pub HasGoodNames : FileData → Type 0
HasGoodNames file = AllByRecursion IsGood (path_of file)

abbrev pub HaveGoodNames : List FileData → Type 0
HaveGoodNames files = AllByRecursion HasGoodNames files

-- ---- the parts of a text

at_seam : (done : List ℕ) (x : ℕ) (rest : List ℕ) → get_or (done ++ x ∷ rest) (length done) 0 ≡ x
at_seam [] x rest = refl
at_seam (y ∷ ys) x rest = at_seam ys x rest

seam_within : (done : List ℕ) (x : ℕ) (rest : List ℕ) → length done < length (done ++ x ∷ rest)
seam_within [] x rest = omega arith
seam_within (y ∷ ys) x rest =
    let later : length ys < length (ys ++ x ∷ rest) = seam_within ys x rest in
    omega arith

-- a text is cut at a slash
module _ (done : List ℕ) (x : ℕ) (rest : List ℕ) (slash : x ≡ 47) (text : IsUtf8 (done ++ x ∷ rest)) where
  at_slash : get_or (done ++ x ∷ rest) (length done) 0 < 128
  at_slash =
      let is : get_or (done ++ x ∷ rest) (length done) 0 ≡ x = at_seam done x rest in
      omega arith

  front_text : IsUtf8 done
  front_text =
      subst IsUtf8 (take_at done (x ∷ rest) (length done) refl)
      (IsUtf8-take (done ++ x ∷ rest) (length done) text (IsCharBoundary-before_ascii (done ++ x ∷ rest) (length done) (seam_within done x rest) at_slash))

  rest_text : IsUtf8 rest
  rest_text =
      let count : length (done ++ x ∷ []) ≡ length done + 1 = length-append done (x ∷ []) in
      let back : drop (length done + 1) (done ++ x ∷ rest) ≡ rest =
      ap (drop (length done + 1)) (sym (append_assoc done (x ∷ []) rest)) ∙ drop_at (done ++ x ∷ []) rest (length done + 1) count in
      subst IsUtf8 back
      (IsUtf8-drop (done ++ x ∷ rest) (length done + 1) text (IsCharBoundary-after_ascii (done ++ x ∷ rest) (length done) text (seam_within done x rest) at_slash))

is_47 : (x : ℕ) → is_slash x ≡ true → x ≡ 47
is_47 x h = grind (arith, nat_tests)

-- each of the parts is a text, where this stands before the first
abbrev AreTexts : List ℕ → List (List ℕ) → Type 0
AreTexts done [] = IsUtf8 done
AreTexts done (part ∷ parts) = IsUtf8 (done ++ part) × AllByRecursion IsUtf8 parts

with_none : (parts : List (List ℕ)) → AreTexts [] parts → AllByRecursion IsUtf8 parts
with_none [] all = tt
with_none (part ∷ parts) all = all

with_more : (done : List ℕ) (x : ℕ) (parts : List (List ℕ)) → AreTexts (done ++ x ∷ []) parts → AreTexts done (onto_first x parts)
with_more done x [] all = (all, tt)
with_more done x (part ∷ parts) all = (subst IsUtf8 (append_assoc done (x ∷ []) part) all.0, all.1)

-- the parts of a text, the first with what stands before it
parts_so : (done rest : List ℕ) → IsUtf8 (done ++ rest) → AreTexts done (slice_split is_slash rest)
parts_so done [] text = (text, tt)
parts_so done (x ∷ xs) text = cases (parts_so [] xs) (parts_so (done ++ x ∷ []) xs) (is_slash x) refl where
  cases : (IsUtf8 xs → AreTexts [] (slice_split is_slash xs)) → (IsUtf8 ((done ++ x ∷ []) ++ xs) → AreTexts (done ++ x ∷ []) (slice_split is_slash xs))
      → (b : Bool) → is_slash x ≡ b → AreTexts done (cond b ([] ∷ slice_split is_slash xs) (onto_first x (slice_split is_slash xs)))
  cases later more true is = (
    subst IsUtf8 (sym (append-nil done)) (front_text done x xs (is_47 x is) text),
    with_none (slice_split is_slash xs) (later (rest_text done x xs (is_47 x is) text)),
  )
  cases later more false is = with_more done x (slice_split is_slash xs) (more (subst IsUtf8 (sym (append_assoc done (x ∷ []) xs)) text))

-- ---- the names of a path

each_good : (names : Path) → AllByRecursion IsUtf8 names → list_all is_name names ≡ true → AllByRecursion IsGood names
each_good [] texts fit = tt
each_good (x ∷ xs) texts fit = cases (is_name x) refl fit (each_good xs texts.1) where
  cases : (b : Bool) → is_name x ≡ b → (b && list_all is_name xs) ≡ true → (list_all is_name xs ≡ true → AllByRecursion IsGood xs) → AllByRecursion IsGood (x ∷ xs)
  cases true is rest later = (record { text = texts.0; fits = is }, later rest)
  cases false is rest later = cc rest

names_good : (text : List ℕ) (path : Path) → IsUtf8 text → names_between text ≡ Some path → AllByRecursion IsGood path
names_good text path utf is = cases (list_all is_name (slice_split is_slash text)) refl is where
  cases : (b : Bool) → list_all is_name (slice_split is_slash text) ≡ b → cond b (Some (slice_split is_slash text)) None ≡ Some path → AllByRecursion IsGood path
  cases true fit some =
      let same : slice_split is_slash text ≡ path = cc some in
      subst (λ (names : Path). AllByRecursion IsGood names) same (each_good (slice_split is_slash text) (with_none (slice_split is_slash text) (parts_so [] text utf)) fit)
  cases false fit none = cc none

path_good : (text : List ℕ) (path : Path) → IsUtf8 text → components_of text ≡ Some path → AllByRecursion IsGood path
path_good [] path utf is = cc is
path_good (c ∷ text) path utf is = cases (is_slash c) refl is where
  cases : (b : Bool) → is_slash c ≡ b → cond b (names_between text) None ≡ Some path → AllByRecursion IsGood path
  cases true slash some = names_good text path (rest_text [] c text (is_47 c slash) utf) some
  cases false other none = cc none

-- ---- files

file_good : (given : List ℕ × List ℕ) (file : FileData) → IsUtf8 given.0 → given_file given ≡ Some file → HasGoodNames file
file_good given file utf is = cases (components_of given.0) refl is where
  cases : (o : Option Path) → components_of given.0 ≡ o → option_map (λ (path : Path). (path, given.1)) o ≡ Some file → HasGoodNames file
  cases None none h = cc h
  cases (Some path) some h =
      let same : (path, given.1) ≡ file = cc h in
      subst HasGoodNames same (path_good given.0 path utf some)

files_good : (given : List (List ℕ × List ℕ)) (files : List FileData) → AllByRecursion (λ (g : List ℕ × List ℕ). IsUtf8 g.0) given → each given_file given ≡ Some files → HaveGoodNames files
files_good [] files utf is =
    let same : [] ≡ files = cc is in
    subst HaveGoodNames same tt
files_good (g ∷ gs) files utf is = cases (files_good gs) (given_file g) refl (each given_file gs) refl is where
  cases : ((fs : List FileData) → AllByRecursion (λ (h : List ℕ × List ℕ). IsUtf8 h.0) gs → each given_file gs ≡ Some fs → HaveGoodNames fs)
      → (o : Option FileData) → given_file g ≡ o → (rest : Option (List FileData)) → each given_file gs ≡ rest
      → option_and_then (λ (y : FileData). option_map (λ (ys : List FileData). y ∷ ys) rest) o ≡ Some files → HaveGoodNames files
  cases later None none rest rest_is h = cc h
  cases later (Some file) some None rest_is h = cc h
  cases later (Some file) some (Some fs) rest_is h =
      let same : file ∷ fs ≡ files = cc h in
      subst HaveGoodNames same (file_good g file utf.0 some, later fs utf.1 rest_is)

-- the files of a backup have good names
pub ordered_good : (given : List (List ℕ × List ℕ)) (files : List FileData) → HaveTextPaths given → files_in_order given ≡ Ok files → HaveGoodNames files
unfolding files_in_order
ordered_good given files texts is = cases (each given_file given) refl is where
  clashes : (fs : List FileData) → HaveGoodNames fs → (b : Bool) → cond b (Err SamePathTwice) (Ok (by_path fs)) ≡ Ok files → HaveGoodNames files
  clashes fs good true h = cc h
  clashes fs good false h =
      let same : by_path fs ≡ files = cc h in
      subst HaveGoodNames same (by_path_so HasGoodNames fs good)

  cases : (o : Option (List FileData)) → each given_file given ≡ o → without_clash o ≡ Ok files → HaveGoodNames files
  cases None none h = cc h
  cases (Some fs) some h = clashes fs (files_good given fs (recursion_from_All (λ (g : List ℕ × List ℕ). IsUtf8 g.0) given texts) some) (any_clash (map path_of fs)) h

-- ---- files as they are seen from a folder

firsts_good : (files : List FileData) → HaveGoodNames files → AllByRecursion IsGood (filter_map first_name files)
firsts_good [] good = tt
firsts_good (([], bytes) ∷ files) good = firsts_good files good.1
firsts_good ((x ∷ path, bytes) ∷ files) good = (good.0.0, firsts_good files good.1)

-- so their first names are good, and the names below a folder
pub first_names_good : (files : List FileData) → HaveGoodNames files → AllByRecursion IsGood (first_names files)
unfolding first_names
first_names_good files good = in_order_so IsGood (filter_map first_name files) (firsts_good files good)

pub seen_good : (name : List ℕ) (files : List FileData) → HaveGoodNames files → HaveGoodNames (filter_map (seen_from name) files)
seen_good name [] good = tt
seen_good name (([], bytes) ∷ files) good = seen_good name files good.1
seen_good name ((x ∷ path, bytes) ∷ files) good = cases (seen_good name files good.1) (bytes_eq name x) where
  cases : HaveGoodNames (filter_map (seen_from name) files) → (b : Bool) → HaveGoodNames (cons_option (cond b (Some (path, bytes)) None) (filter_map (seen_from name) files))
  cases later true = (good.0.1, later)
  cases later false = later
