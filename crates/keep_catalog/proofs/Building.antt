-- The repository that tables follow, one file after another.
use Rattle.std.proofs.Common.{◌≡◌, ℕ, ◌+◌, ◌<◌, Bool, true, false, ◌||◌, cond, List, [], ◌∷◌, drop, length, get_or, Option, None, Some, is_some, refl, sym, ap, subst, ◌∙◌, Less}
use Rattle.std.proofs.lemmas.List.{drop_more}
use Rattle.std.proofs.lemmas.Map.Views.{tells_apart}
use Rattle.std.specs.BTreeMap.{IsOrdered, is_at}
use Rattle.std.specs.FinMap as finite
use Rattle.std.specs.List.{AllByRecursion, list_any}
use Rattle.std.specs.List.Sorted.{IsStrictlySortedBy}
use Rattle.std.specs.Map.{lookup}
use Rattle.std.specs.Option.{option_and_then, option_map}
use Rattle.std.specs.Ordering.{is_eq}
use Rattle.keep_change.specs.NamedBytes.{NamedBytes}
use Rattle.keep_names.proofs.Orders.{name_exact, name_total}
use Rattle.keep_names.specs.FileName.{named}
use Rattle.keep_names.specs.Orders.{blob_cmp, id_cmp, name_cmp}
use Rattle.keep_names.specs.declared.file_name.FileName.{FileName}
use Rattle.keep_names.specs.declared.file_name.Kind.TheVariants.{Pack}
use Rattle.keep_repo.specs.Repository.{Repository, empty_repository}
use Rattle.keep_snap.specs.Snap.{snap_view}
use Rattle.keep_catalog.specs.Files.{why_of, why_unread}
use Rattle.keep_catalog.specs.Kept.{AreNew, AreThere, IsKept, has, said_view, with_file, with_files, without_file, without_files}
use Rattle.keep_catalog.specs.Orders.{name_eq, packed_blob_cmp, same_name}
use Rattle.keep_catalog.specs.declared.tables.Tables.{Tables}
use Rattle.keep_catalog.proofs.Coming.{re_marked}
use Rattle.keep_catalog.proofs.Growing.{no_id}
use Rattle.keep_catalog.proofs.Ids.{id_refl}
use Rattle.keep_repo.proofs.Rising.{keys_in_order}
use Rattle.keep_catalog.proofs.Replaced.{file_put, lists_own, name_eq_refl, said_by, snap_by, stored_own}

-- the tables are of a repository from which putting the rest makes what putting all makes of the first
pub record LeftNew (all rest : List NamedBytes) (r : Repository) (t : Tables) : Type 0 where
  pub now : Repository
  pub new : AreNew rest now.files
  pub kept : IsKept now t
  pub same : with_files rest now ≡ with_files all r

pub record LeftThere (all rest : List NamedBytes) (r : Repository) (t : Tables) : Type 0 where
  pub now : Repository
  pub there : AreThere rest now.files
  pub kept : IsKept now t
  pub same : without_files rest now ≡ without_files all r

module _ (all : List NamedBytes) (i : ℕ) (f : NamedBytes) (name : FileName) (bytes : List ℕ) (r : Repository) (t later : Tables) (lt : i < length all) (is : f ≡ get_or all i f) (named_so : name ≡ f.name) (same_bytes : bytes ≡ f.bytes) where
  left : drop i all ≡ f ∷ drop (i + 1) all
  left = drop_more all i f lt ∙ ap (λ x. x ∷ drop (i + 1) all) (sym is)

  -- the next file is put
  pub next_new : ((s : Repository) → finite.get s.files name ≡ None → IsKept s t → IsKept (with_file s name bytes) later) → LeftNew all (drop i all) r t → LeftNew all (drop (i + 1) all) r later
  next_new step before =
      let P : List NamedBytes → Type 0 = λ xs. LeftNew all xs r t in
      let first : LeftNew all (f ∷ drop (i + 1) all) r t = subst P left before in
      let absent : finite.get first.now.files name ≡ None = ap (finite.get first.now.files) named_so ∙ first.new.0 in
      let K : FileName × List ℕ → Type 0 = λ p. IsKept (with_file first.now p.0 p.1) later in
      record {
        now = with_file first.now f.name f.bytes;
        new = first.new.1;
        kept = subst K (λ j. (named_so j, same_bytes j)) (step first.now absent first.kept);
        same = first.same;
      }

  -- the next file is taken
  pub next_there : ((s : Repository) → finite.get s.files name ≡ Some bytes → IsKept s t → IsKept (without_file s name) later) → LeftThere all (drop i all) r t → LeftThere all (drop (i + 1) all) r later
  next_there step before =
      let P : List NamedBytes → Type 0 = λ xs. LeftThere all xs r t in
      let first : LeftThere all (f ∷ drop (i + 1) all) r t = subst P left before in
      let present : finite.get first.now.files name ≡ Some bytes = ap (finite.get first.now.files) named_so ∙ first.there.0 ∙ ap Some (sym same_bytes) in
      let K : FileName → Type 0 = λ n. IsKept (without_file first.now n) later in
      record {
        now = without_file first.now f.name;
        there = first.there.1;
        kept = subst K named_so (step first.now present first.kept);
        same = first.same;
      }

-- ---- the tables of a repository that has nothing

none_unread : (q : FileName) → None ≡ why_unread empty_repository q
unfolding why_unread
none_unread q = sym (ap (option_and_then (why_of q.kind)) (finite.get-empty name_cmp q))

pub none_kept : (t : Tables) → t.stored.entries ≡ [] → t.listed.entries ≡ [] → t.indexes.entries ≡ [] → t.snaps.entries ≡ [] → t.unread.entries ≡ [] → IsOrdered id_cmp t.indexes → IsOrdered id_cmp t.snaps → IsKept empty_repository t
none_kept t stored listed indexes snaps unread indexes_ordered ordered = record {
  stored = λ p. ap (λ es. is_some (lookup (is_at (packed_blob_cmp p)) es)) stored
      ∙ sym (stored_own empty_repository p.spot.pack None (finite.get-empty name_cmp _) p (id_refl p.spot.pack));
  hashed = λ p honest got. cc (rw stored at got);
  listed = λ blob l. ap (λ es. has (lookup (is_at (blob_cmp blob)) es) l) listed
      ∙ sym (lists_own empty_repository l.index None (finite.get-empty name_cmp _) blob l (id_refl l.index));
  indexes = λ q. ap (λ es. option_map said_view (lookup (is_at (id_cmp q)) es)) indexes
      ∙ sym (said_by empty_repository q None (finite.get-empty name_cmp _));
  indexes_ordered = indexes_ordered;
  snaps = λ q. ap (λ es. option_map snap_view (lookup (is_at (id_cmp q)) es)) snaps
      ∙ sym (snap_by empty_repository q None (finite.get-empty name_cmp _));
  ordered = ordered;
  unread = λ q. ap (λ es. lookup (same_name q) es) unread ∙ none_unread q;
}

-- ---- the tables of a repository, one file after another

-- the tables are of a repository that has all files of the first but those whose names are left
pub record Reading (rest : List FileName) (r : Repository) (t : Tables) : Type 0 where
  pub now : Repository
  pub kept : IsKept now t
  pub sorted : IsStrictlySortedBy name_cmp rest
  pub read : (q : FileName) → finite.get now.files q ≡ cond (list_any (name_eq q) rest) None (finite.get r.files q)

pub none_read : (r : Repository) (names : List FileName) (t : Tables) → names ≡ finite.keys r.files → IsKept empty_repository t → Reading names r t
none_read r names t are kept = record {
  now = empty_repository;
  kept = kept;
  sorted = let P : List FileName → Type 0 = λ xs. IsStrictlySortedBy name_cmp xs in subst P (sym are) (keys_in_order name_cmp r.files);
  read = λ q. finite.get-empty name_cmp q
      ∙ absent (finite.get r.files q) (list_any (name_eq q) names) (finite.contains_key-keys r.files q ∙ ap (list_any (name_eq q)) (sym are));
} where
  absent : (o : Option (List ℕ)) (b : Bool) → is_some o ≡ b → None ≡ cond b None o
  absent None true h = cc h
  absent None false h = refl
  absent (Some bytes) true h = refl
  absent (Some bytes) false h = cc h

pub all_read : (r : Repository) (names : List FileName) (t : Tables) → names ≡ [] → Reading names r t → IsKept r t
all_read r names t none reading =
    let same : reading.now.files ≡ r.files =
    finite.same_map name_total name_exact _ _ (λ q. reading.read q ∙ ap (λ xs. cond (list_any (name_eq q) xs) None (finite.get r.files q)) none) in
    let P : finite.FinMap name_cmp (List ℕ) → Type 0 = λ files. IsKept (record { files = files; marks = r.marks }) t in
    subst P same (re_marked reading.now t r.marks reading.kept)

-- what plain data is where a list has none
abbrev pub no_name : FileName
no_name = named Pack no_id

module _ (r : Repository) (names : List FileName) (i : ℕ) (name : FileName) (t later : Tables) (lt : i < length names) (is : name ≡ get_or names i no_name) where
  abbrev others : List FileName
  others = drop (i + 1) names

  above : (x : FileName) (xs : List FileName) → AllByRecursion (λ y. name_cmp x y ≡ Less) xs → list_any (name_eq x) xs ≡ false
  above x [] below = refl
  above x (y ∷ xs) below = ap (λ o. is_eq o || list_any (name_eq x) xs) below.0 ∙ above x xs below.1

  first : Reading (drop i names) r t → Reading (name ∷ others) r t
  first before =
      let P : List FileName → Type 0 = λ xs. Reading xs r t in
      subst P (drop_more names i no_name lt ∙ ap (λ x. x ∷ others) (sym is)) before

  first_above : IsStrictlySortedBy name_cmp (name ∷ others) → list_any (name_eq name) others ≡ false
  unfolding IsStrictlySortedBy
  first_above sorted = above name others sorted.0

  rest_sorted : IsStrictlySortedBy name_cmp (name ∷ others) → IsStrictlySortedBy name_cmp others
  unfolding IsStrictlySortedBy
  rest_sorted sorted = sorted.1

  -- what a file of another name holds, and this one
  others_read : (o : Option (List ℕ)) (before : Reading (name ∷ others) r t) → finite.get r.files name ≡ o → (q : FileName) → cond (name_eq q name) o (finite.get before.now.files q) ≡ cond (list_any (name_eq q) others) None (finite.get r.files q)
  others_read o before there q = cases (name_eq q name) refl where
    cases : (b : Bool) → name_eq q name ≡ b → cond b o (finite.get before.now.files q) ≡ cond (list_any (name_eq q) others) None (finite.get r.files q)
    cases true same =
        let at : q ≡ name = tells_apart name_exact q name same in
        sym (ap (λ n. cond (list_any (name_eq n) others) None (finite.get r.files n)) at
        ∙ ap (λ b. cond b None (finite.get r.files name)) (first_above before.sorted) ∙ there)
    cases false other = before.read q ∙ ap (λ b. cond (b || list_any (name_eq q) others) None (finite.get r.files q)) other

  -- the next file is there, and is put
  pub next_read : (bytes lent : List ℕ) → finite.get r.files name ≡ Some bytes → lent ≡ bytes → ((s : Repository) → finite.get s.files name ≡ None → IsKept s t → IsKept (with_file s name lent) later) → Reading (drop i names) r t → Reading others r later
  next_read bytes lent there same step before =
      let left = first before in
      let absent : finite.get left.now.files name ≡ None = left.read name ∙ ap (λ b. cond (b || list_any (name_eq name) others) None (finite.get r.files name)) (name_eq_refl name) in
      let K : List ℕ → Type 0 = λ bs. IsKept (with_file left.now name bs) later in
      record {
        now = with_file left.now name bytes;
        kept = subst K same (step left.now absent left.kept);
        sorted = rest_sorted left.sorted;
        read = λ q. file_put left.now name bytes q ∙ others_read (Some bytes) left there q;
      }

  -- there is no such file
  pub none_next : finite.get r.files name ≡ None → Reading (drop i names) r t → Reading others r t
  none_next absent before =
      let left = first before in
      record {
        now = left.now;
        kept = left.kept;
        sorted = rest_sorted left.sorted;
        read = λ q. unread left q ∙ others_read None left absent q;
      } where
        unread : (left : Reading (name ∷ others) r t) (q : FileName) → finite.get left.now.files q ≡ cond (name_eq q name) None (finite.get left.now.files q)
        unread left q = cases (name_eq q name) refl where
          cases : (b : Bool) → name_eq q name ≡ b → finite.get left.now.files q ≡ cond b None (finite.get left.now.files q)
          cases true same = left.read q ∙ ap (λ b. cond (b || list_any (name_eq q) others) None (finite.get r.files q)) same
          cases false other = refl
