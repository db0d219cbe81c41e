-- A content that is made of files and of entries: what it has at a key, what a change of one of them is, and its keys.
use Rattle.std.proofs.Common.{◌≡◌, ℕ, false, ◌||◌, cond, List, [], ◌∷◌, ◌++◌, map, Option, Some, None, IsPermutation, Less, is_some, refl, sym, ap, ◌∙◌}
use Rattle.std.proofs.lemmas.Bool.{or_parts}
use Rattle.std.proofs.lemmas.List.{map-append}
use Rattle.std.proofs.lemmas.List.Folds.{list_any-append}
use Rattle.std.proofs.lemmas.List.Sorted.{list_any-IsPermutation}
use Rattle.std.specs.BTreeMap.{is_at}
use Rattle.std.specs.Cmp.{eq_by_cmp_equiv, tied_itself}
use Rattle.std.specs.FinMap as finite
use Rattle.std.specs.FinMap.{get-insert, get-remove, same_map}
use Rattle.std.specs.List.{AllByRecursion, IsDistinct, list_any}
use Rattle.std.specs.List.Sorted.{IsSorted, IsStrictlySortedBy}
use Rattle.std.specs.Map.{keys_of, lookup}
use Rattle.std.specs.Ordering.{eq_by_cmp, is_eq, nat_cmp}
use Rattle.keep_names.specs.declared.file_name.FileName.{FileName}
use Rattle.keep_repo.proofs.Hashed.{contains_made, sorted_rise}
use Rattle.keep_repo.proofs.Maps.{get_made, past_first, within_first}
use Rattle.keep_repo.proofs.Rising.{both_rise, rising_keys}
use Rattle.keep_shelf.proofs.Hashed.{content_of, same_as_order, same_key}
use Rattle.keep_shelf.proofs.Orders.{key_exact, key_total}
use Rattle.keep_shelf.specs.Key.{key_cmp}
use Rattle.keep_shelf.specs.Shelved.{Content}
use Rattle.keep_shelf.specs.Stocked.{HasNoEntry, files_and_entries, under_keys}
use Rattle.keep_shelf.specs.declared.key.Key.{Key}
use Rattle.keep_shelf.specs.declared.key.Key.TheVariants.{Live, Trash, Entry}

-- the key is no entry's
abbrev pub IsFile : Key → Type 0
IsFile key = (at : ℕ) → key ≡ Entry at → ⊥

live_IsFile : (name : FileName) → IsFile (Live name)
live_IsFile name at is = cc is

trash_IsFile : (m : ℕ) (name : FileName) → IsFile (Trash m name)
trash_IsFile m name at is = cc is

file_apart : (key : Key) (n : ℕ) → IsFile key → eq_by_cmp key_cmp key (Entry n) ≡ false
file_apart (Live name) n file = refl
file_apart (Trash m name) n file = refl
file_apart (Entry m) n file = absurd (file m refl)

entry_apart : (n : ℕ) (key : Key) → IsFile key → eq_by_cmp key_cmp (Entry n) key ≡ false
entry_apart n key file = (eq_by_cmp_equiv key_total).symm (Entry n) key ∙ file_apart key n file

-- ---- what is at a key

-- among entries no file is found
no_file : (entries : List (ℕ × List ℕ)) (key : Key) → IsFile key → lookup (is_at (key_cmp key)) (under_keys entries) ≡ None
no_file [] key file = refl
no_file (e ∷ es) key file =
    ap (λ b. cond b (Some e.1) (lookup (is_at (key_cmp key)) (under_keys es))) (file_apart key e.0 file)
    ∙ no_file es key file

-- and an entry is found by its number
by_number : (entries : List (ℕ × List ℕ)) (n : ℕ) → lookup (is_at (key_cmp (Entry n))) (under_keys entries) ≡ lookup (is_at (nat_cmp n)) entries
by_number [] n = refl
by_number (e ∷ es) n = ap (cond (is_at (nat_cmp n) e.0) (Some e.1)) (by_number es n)

module _ (files : List (Key × List ℕ)) (entries : List (ℕ × List ℕ)) where
  pub get_entry : HasNoEntry files → (n : ℕ) → finite.get (files_and_entries files entries) (Entry n) ≡ lookup (is_at (nat_cmp n)) entries
  get_entry none n =
      get_made key_total (files ++ under_keys entries) (Entry n)
      ∙ past_first (is_at (key_cmp (Entry n))) files (under_keys entries) (sym (get_made key_total files (Entry n)) ∙ none n)
      ∙ by_number entries n

  pub get_file : (key : Key) → IsFile key → finite.get (files_and_entries files entries) key ≡ finite.get (content_of files) key
  get_file key file =
      get_made key_total (files ++ under_keys entries) key
      ∙ within_first (is_at (key_cmp key)) files (under_keys entries) (no_file entries key file)
      ∙ sym (get_made key_total files key)

-- ---- a change at one key

-- the second content differs from the first at one key alone, where it has this
abbrev pub Differs : Content → Key → Option (List ℕ) → Content → Type 0
Differs before key held after = (q : Key) → finite.get after q ≡ cond (eq_by_cmp key_cmp key q) held (finite.get before q)

pub put_there : (before after : Content) (key : Key) (bytes : List ℕ) → Differs before key (Some bytes) after → after ≡ finite.insert before key bytes
put_there before after key bytes h = same_map key_total key_exact _ _ (λ q.
    h q ∙ ap (λ same. cond same (Some bytes) (finite.get before q)) ((eq_by_cmp_equiv key_total).symm key q)
    ∙ sym (get-insert key_total before key bytes q))

pub taken_away : (before after : Content) (key : Key) → Differs before key None after → after ≡ finite.remove before key
taken_away before after key h = same_map key_total key_exact _ _ (λ q.
    h q ∙ ap (λ same. cond same None (finite.get before q)) ((eq_by_cmp_equiv key_total).symm key q)
    ∙ sym (get-remove key_total before key q))

module _ (files new : List (Key × List ℕ)) (key : Key) (held : Option (List ℕ)) (file : IsFile key) (change : Differs (content_of files) key held (content_of new)) (none : HasNoEntry files) where
  -- no entry comes among the files where one of them changes
  pub still_none : HasNoEntry new
  still_none n =
      change (Entry n)
      ∙ ap (λ same. cond same held (finite.get (content_of files) (Entry n))) (file_apart key n file)
      ∙ none n

  module _ (entries : List (ℕ × List ℕ)) where
    at_file : (q : Key) → IsFile q → finite.get (files_and_entries new entries) q ≡ cond (eq_by_cmp key_cmp key q) held (finite.get (files_and_entries files entries) q)
    at_file q other =
        get_file new entries q other ∙ change q
        ∙ ap (cond (eq_by_cmp key_cmp key q) held) (sym (get_file files entries q other))

    -- a change of a file
    pub file_differs : Differs (files_and_entries files entries) key held (files_and_entries new entries)
    file_differs (Live name) = at_file (Live name) (live_IsFile name)
    file_differs (Trash m name) = at_file (Trash m name) (trash_IsFile m name)
    file_differs (Entry n) =
        get_entry new entries still_none n ∙ sym (get_entry files entries none n)
        ∙ sym (ap (λ same. cond same held (finite.get (files_and_entries files entries) (Entry n))) (file_apart key n file))

module _ (files : List (Key × List ℕ)) (none : HasNoEntry files) (entries new : List (ℕ × List ℕ)) (n : ℕ) (held : Option (List ℕ))
    (change : (m : ℕ) → lookup (is_at (nat_cmp m)) new ≡ cond (is_at (nat_cmp n) m) held (lookup (is_at (nat_cmp m)) entries)) where
  beside_entry : (q : Key) → IsFile q → finite.get (files_and_entries files new) q ≡ cond (eq_by_cmp key_cmp (Entry n) q) held (finite.get (files_and_entries files entries) q)
  beside_entry q file =
      get_file files new q file ∙ sym (get_file files entries q file)
      ∙ sym (ap (λ same. cond same held (finite.get (files_and_entries files entries) q)) (entry_apart n q file))

  -- a change of an entry
  pub entry_differs : Differs (files_and_entries files entries) (Entry n) held (files_and_entries files new)
  entry_differs (Live name) = beside_entry (Live name) (live_IsFile name)
  entry_differs (Trash m name) = beside_entry (Trash m name) (trash_IsFile m name)
  entry_differs (Entry m) =
      get_entry files new none m ∙ change m
      ∙ ap (cond (is_at (nat_cmp n) m) held) (sym (get_entry files entries none m))

-- ---- the keys

-- a key that ties with no entry's comes before each entry's
before_entry : (key : Key) → ((n : ℕ) → eq_by_cmp key_cmp (Entry n) key ≡ false) → (n : ℕ) → key_cmp key (Entry n) ≡ Less
before_entry (Live name) apart n = refl
before_entry (Trash m name) apart n = refl
before_entry (Entry m) apart n = cc (sym (ap is_eq (tied_itself key_total (Entry m))) ∙ apart m)

before_entries : (key : Key) (ns : List ℕ) → ((n : ℕ) → key_cmp key (Entry n) ≡ Less) → AllByRecursion (λ k. key_cmp key k ≡ Less) (map Entry ns)
before_entries key [] less = tt
before_entries key (n ∷ ns) less = (less n, before_entries key ns less)

above_number : (n : ℕ) (ns : List ℕ) → AllByRecursion (λ m. nat_cmp n m ≡ Less) ns → AllByRecursion (λ k. key_cmp (Entry n) k ≡ Less) (map Entry ns)
above_number n [] above = tt
above_number n (m ∷ ns) above = (above.0, above_number n ns above.1)

entries_rise : (ns : List ℕ) → IsStrictlySortedBy nat_cmp ns → IsStrictlySortedBy key_cmp (map Entry ns)
unfolding IsStrictlySortedBy
entries_rise [] rises = tt
entries_rise (n ∷ ns) rises = (above_number n ns rises.0, entries_rise ns rises.1)

-- keys that are no entry's come before each of the entries'
all_before : (ks : List Key) (ns : List ℕ) → ((n : ℕ) → list_any (is_at (key_cmp (Entry n))) ks ≡ false) → AllByRecursion (λ key. AllByRecursion (λ other. key_cmp key other ≡ Less) (map Entry ns)) ks
all_before [] ns none = tt
all_before (k ∷ ks) ns none =
    let apart = λ (n : ℕ). or_parts (is_at (key_cmp (Entry n)) k) (list_any (is_at (key_cmp (Entry n))) ks) (none n) in
    (before_entries k ns (before_entry k (λ n. (apart n).0)), all_before ks ns (λ n. (apart n).1))

keys_under : (entries : List (ℕ × List ℕ)) → keys_of (under_keys entries) ≡ map Entry (keys_of entries)
keys_under [] = refl
keys_under (e ∷ es) = ap (λ ks. Entry e.0 ∷ ks) (keys_under es)

-- the sorted keys of the files, and then the entries', are those of the content
pub keys_stocked : (files : List (Key × List ℕ)) (entries : List (ℕ × List ℕ)) (ks : List Key) → HasNoEntry files → IsDistinct same_key (keys_of files) → IsPermutation (keys_of files) ks → IsSorted key_cmp ks
    → IsStrictlySortedBy nat_cmp (keys_of entries) → ks ++ map Entry (keys_of entries) ≡ finite.keys (files_and_entries files entries)
keys_stocked files entries ks none distinct moved sorted rises =
    let none_there = λ (n : ℕ). sym (same (Entry n)) ∙ sym (contains_made key_total same_as_order files (Entry n)) ∙ ap is_some (none n) in
    rising_keys key_total key_exact (files_and_entries files entries) (ks ++ map Entry (keys_of entries))
    (both_rise key_cmp ks (map Entry (keys_of entries)) (sorted_rise key_total same_as_order (keys_of files) ks distinct moved sorted) (entries_rise (keys_of entries) rises)
    (all_before ks (keys_of entries) none_there))
    (λ q.
    list_any-append (is_at (key_cmp q)) ks (map Entry (keys_of entries))
    ∙ ap (λ found. found || list_any (is_at (key_cmp q)) (map Entry (keys_of entries))) (sym (same q))
    ∙ sym (list_any-append (is_at (key_cmp q)) (keys_of files) (map Entry (keys_of entries)))
    ∙ ap (λ js. list_any (is_at (key_cmp q)) (keys_of files ++ js)) (sym (keys_under entries))
    ∙ ap (list_any (is_at (key_cmp q))) (sym (map-append (λ (e : Key × List ℕ). e.0) files (under_keys entries)))
    ∙ sym (contains_made key_total same_as_order (files ++ under_keys entries) q))
  where
    same : (q : Key) → list_any (is_at (key_cmp q)) (keys_of files) ≡ list_any (is_at (key_cmp q)) ks
    same q = list_any-IsPermutation (is_at (key_cmp q)) (keys_of files) ks moved
