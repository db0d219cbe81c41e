-- Files that are kept by id, those of each kind apart: what there is under a name, what a change of one kind is, and
-- whether two are the same.
use Rattle.std.proofs.Common.{◌≡◌, ℕ, ◌+◌, Bool, true, false, ◌&&◌, cond, List, [], ◌∷◌, ◌++◌, ◌-◌, ◌^◌, ◌<◌, ◌≤◌, OnErr, OnOk, Option, Some, None, Result, Ok, Err, refl, sym, ap, ◌∙◌, arith}
use Rattle.std.specs.BTreeMap.{is_at}
use Rattle.std.specs.Bool.{Decides}
use Rattle.std.specs.FinMap.{FinMap, contains_key, get, get-insert, get-remove, insert, len, len-empty, len-insert, len-remove, remove, same_map}
use Rattle.std.specs.Map.{lookup}
use Rattle.std.specs.Ordering.{eq_by_cmp}
use Rattle.keep_names.proofs.Orders.{id_exact, id_total, name_exact, name_total}
use Rattle.keep_names.specs.FileName.{named}
use Rattle.keep_names.specs.Orders.{id_cmp, name_cmp}
use Rattle.keep_names.specs.declared.file_name.FileName.{FileName}
use Rattle.keep_names.specs.declared.file_name.Kind.{Kind}
use Rattle.keep_names.specs.declared.file_name.Kind.TheVariants.{Pack, Index, Snapshot}
use Rattle.keep_names.specs.contracts.id.IdOrd.TheImpl.Laws as the_id_laws
use Rattle.keep_names.specs.contracts.id.IdPartialEq.TheImpl as the_id_eq
use Rattle.keep_names.specs.declared.id.Id.{Id}
use Rattle.keep_repo.proofs.Maps.{get_made, past_first, within_first}
use Rattle.keep_repo.specs.Files.{AreCounted, by_id, by_name, of_kind}
use Rattle.keep_repo.specs.Kinds.{kind_eq}

-- what is kept of one kind, and the files of all
abbrev pub Held : Type 0
Held = List (Id × List ℕ)

abbrev pub Files : Type 0
Files = FinMap name_cmp (List ℕ)

-- `==` of ids is the one that their order gives
pub same_ids : (the_id_eq.ghosts).eq ≡ eq_by_cmp id_cmp
same_ids i a b = the_id_laws.matches_eq-law a b i

-- ---- names of kinds

-- names of two kinds aren't one
pub apart : (k j : Kind) (a b : Id) → kind_eq k j ≡ false → is_at (name_cmp (named k a)) (named j b) ≡ false
apart Pack Pack a b h = cc h
apart Pack Index a b h = refl
apart Pack Snapshot a b h = refl
apart Index Pack a b h = refl
apart Index Index a b h = cc h
apart Index Snapshot a b h = refl
apart Snapshot Pack a b h = refl
apart Snapshot Index a b h = refl
apart Snapshot Snapshot a b h = cc h

-- names of one kind are in the order of their ids
pub by_ids : (k : Kind) (a b : Id) → name_cmp (named k a) (named k b) ≡ id_cmp a b
by_ids Pack a b = refl
by_ids Index a b = refl
by_ids Snapshot a b = refl

-- ---- what there is under a name

none_found : (k j : Kind) → kind_eq k j ≡ false → (id : Id) (files : Held) → lookup (is_at (name_cmp (named k id))) (of_kind j files) ≡ None
none_found k j other id [] = refl
none_found k j other id (e ∷ es) =
    ap (λ b. cond b (Some e.1) (lookup (is_at (name_cmp (named k id))) (of_kind j es))) (apart k j id e.0 other)
    ∙ none_found k j other id es

found : (k : Kind) (id : Id) (files : Held) → lookup (is_at (name_cmp (named k id))) (of_kind k files) ≡ get (by_id files) id
found Pack id files = go files ∙ sym (get_made id_total files id) where
  go : (es : Held) → lookup (is_at (name_cmp (named Pack id))) (of_kind Pack es) ≡ lookup (is_at (id_cmp id)) es
  go [] = refl
  go (e ∷ es) = ap (cond (is_at (id_cmp id) e.0) (Some e.1)) (go es)
found Index id files = go files ∙ sym (get_made id_total files id) where
  go : (es : Held) → lookup (is_at (name_cmp (named Index id))) (of_kind Index es) ≡ lookup (is_at (id_cmp id)) es
  go [] = refl
  go (e ∷ es) = ap (cond (is_at (id_cmp id) e.0) (Some e.1)) (go es)
found Snapshot id files = go files ∙ sym (get_made id_total files id) where
  go : (es : Held) → lookup (is_at (name_cmp (named Snapshot id))) (of_kind Snapshot es) ≡ lookup (is_at (id_cmp id)) es
  go [] = refl
  go (e ∷ es) = ap (cond (is_at (id_cmp id) e.0) (Some e.1)) (go es)

module _ (packs indexes snapshots : Held) where
  abbrev later : List (FileName × List ℕ)
  later = of_kind Index indexes ++ of_kind Snapshot snapshots

  abbrev all : List (FileName × List ℕ)
  all = of_kind Pack packs ++ later

  -- the files of a kind
  abbrev pub those_of : Kind → Held
  those_of Pack = packs
  those_of Index = indexes
  those_of Snapshot = snapshots

  -- under a name is what its kind has under its id
  pub get_by_name : (k : Kind) (id : Id) → get (by_name packs indexes snapshots) (named k id) ≡ get (by_id (those_of k)) id
  get_by_name Pack id =
      let test = is_at (name_cmp (named Pack id)) in
      get_made name_total all (named Pack id)
      ∙ within_first test (of_kind Pack packs) later
      (past_first test (of_kind Index indexes) (of_kind Snapshot snapshots) (none_found Pack Index refl id indexes)
      ∙ none_found Pack Snapshot refl id snapshots)
      ∙ found Pack id packs
  get_by_name Index id =
      let test = is_at (name_cmp (named Index id)) in
      get_made name_total all (named Index id)
      ∙ past_first test (of_kind Pack packs) later (none_found Index Pack refl id packs)
      ∙ within_first test (of_kind Index indexes) (of_kind Snapshot snapshots) (none_found Index Snapshot refl id snapshots)
      ∙ found Index id indexes
  get_by_name Snapshot id =
      let test = is_at (name_cmp (named Snapshot id)) in
      get_made name_total all (named Snapshot id)
      ∙ past_first test (of_kind Pack packs) later (none_found Snapshot Pack refl id packs)
      ∙ past_first test (of_kind Index indexes) (of_kind Snapshot snapshots) (none_found Snapshot Index refl id indexes)
      ∙ found Snapshot id snapshots

-- ---- a change of one kind

module _ (packs indexes snapshots : Held) where
  -- the files, with these of the kind
  abbrev pub replaced : Kind → Held → Files
  replaced Pack new = by_name new indexes snapshots
  replaced Index new = by_name packs new snapshots
  replaced Snapshot new = by_name packs indexes new

  -- under another kind's names there is what was
  differ : (k : Kind) (new : Held) (id : Id) (held : Option (List ℕ)) → ((q : Id) → get (by_id new) q ≡ cond (eq_by_cmp id_cmp q id) held (get (by_id (those_of packs indexes snapshots k)) q))
      → (j : Kind) (a : Id) → get (replaced k new) (named j a) ≡ cond (eq_by_cmp name_cmp (named j a) (named k id)) held (get (by_name packs indexes snapshots) (named j a))
  differ Pack new id held h Pack a = get_by_name new indexes snapshots Pack a ∙ h a ∙ ap (cond (eq_by_cmp id_cmp a id) held) (sym (get_by_name packs indexes snapshots Pack a))
  differ Pack new id held h Index a = get_by_name new indexes snapshots Index a ∙ sym (get_by_name packs indexes snapshots Index a)
  differ Pack new id held h Snapshot a = get_by_name new indexes snapshots Snapshot a ∙ sym (get_by_name packs indexes snapshots Snapshot a)
  differ Index new id held h Pack a = get_by_name packs new snapshots Pack a ∙ sym (get_by_name packs indexes snapshots Pack a)
  differ Index new id held h Index a = get_by_name packs new snapshots Index a ∙ h a ∙ ap (cond (eq_by_cmp id_cmp a id) held) (sym (get_by_name packs indexes snapshots Index a))
  differ Index new id held h Snapshot a = get_by_name packs new snapshots Snapshot a ∙ sym (get_by_name packs indexes snapshots Snapshot a)
  differ Snapshot new id held h Pack a = get_by_name packs indexes new Pack a ∙ sym (get_by_name packs indexes snapshots Pack a)
  differ Snapshot new id held h Index a = get_by_name packs indexes new Index a ∙ sym (get_by_name packs indexes snapshots Index a)
  differ Snapshot new id held h Snapshot a = get_by_name packs indexes new Snapshot a ∙ h a ∙ ap (cond (eq_by_cmp id_cmp a id) held) (sym (get_by_name packs indexes snapshots Snapshot a))

  -- bytes that are put under an id of a kind are put under its name
  pub put_there : (k : Kind) (new : Held) (id : Id) (bytes : List ℕ) → by_id new ≡ insert (by_id (those_of packs indexes snapshots k)) id bytes → replaced k new ≡ insert (by_name packs indexes snapshots) (named k id) bytes
  put_there k new id bytes put_is = same_map name_total name_exact _ _ (λ q.
      differ k new id (Some bytes) (λ a. ap (λ files. get files a) put_is ∙ get-insert id_total (by_id (those_of packs indexes snapshots k)) id bytes a) q.kind q.id
      ∙ sym (get-insert name_total (by_name packs indexes snapshots) (named k id) bytes q))

  -- what is taken away under an id of a kind is taken away under its name
  pub taken_away : (k : Kind) (new : Held) (id : Id) → by_id new ≡ remove (by_id (those_of packs indexes snapshots k)) id → replaced k new ≡ remove (by_name packs indexes snapshots) (named k id)
  taken_away k new id gone = same_map name_total name_exact _ _ (λ q.
      differ k new id None (λ a. ap (λ files. get files a) gone ∙ get-remove id_total (by_id (those_of packs indexes snapshots k)) id a) q.kind q.id
      ∙ sym (get-remove name_total (by_name packs indexes snapshots) (named k id) q))

-- ---- their number

module _ (before after : Files) (name : FileName) where
  no_more : (there : Bool) (n : ℕ) → cond there n (n + 1) ≤ n + 1
  no_more true n = omega arith
  no_more false n = omega arith

  no_less : (there : Bool) (n : ℕ) → cond there (n - 1) n ≤ n
  no_less true n = omega arith
  no_less false n = omega arith

  -- one more can be counted, where there aren't the most yet
  pub put_counted : {A E : Type 0} (bytes : List ℕ) (r : Result A E) (n : ℕ) → OnOk r (after ≡ insert before name bytes) → OnErr r (after ≡ before)
      → n ≡ len before → n < 2 ^ 64 → (n ≡ 18446744073709551615 → ⊥) → AreCounted after
  put_counted bytes (Ok x) n put_is same counts fits less =
      let most = no_more (contains_key before name) (len before) in
      let now = ap len put_is ∙ len-insert name_total before name bytes in
      omega (arith, most, now, counts, fits, less)
  put_counted bytes (Err e) n put_is same counts fits less = let now = ap len same in omega (arith, now, counts, fits)

  pub gone_counted : after ≡ remove before name → AreCounted before → AreCounted after
  gone_counted gone fits =
      let most = no_less (contains_key before name) (len before) in
      let now = ap len gone ∙ len-remove name_total before name in
      omega (arith, most, now, fits)

-- no files can be counted
pub none_counted : (packs indexes snapshots : Held) → packs ≡ [] → indexes ≡ [] → snapshots ≡ [] → AreCounted (by_name packs indexes snapshots)
none_counted packs indexes snapshots no_packs no_indexes no_snapshots =
    let none = ap (λ es. len (by_name es indexes snapshots)) no_packs ∙ ap (λ es. len (by_name [] es snapshots)) no_indexes ∙ ap (λ es. len (by_name [] [] es)) no_snapshots ∙ len-empty name_cmp (List ℕ) in
    omega (arith, none)

-- ---- whether two are the same

first_true : (a b : Bool) → (a && b) ≡ true → a ≡ true
first_true true b h = refl
first_true false b h = cc h

second_true : (a b : Bool) → (a && b) ≡ true → b ≡ true
second_true true b h = h
second_true false b h = cc h

both_true : (a b : Bool) → a ≡ true → b ≡ true → (a && b) ≡ true
both_true true b one two = two
both_true false b one two = cc one

module _ (packs indexes snapshots packs' indexes' snapshots' : Held) where
  same_ids_of : by_name packs indexes snapshots ≡ by_name packs' indexes' snapshots' → (k : Kind) → by_id (those_of packs indexes snapshots k) ≡ by_id (those_of packs' indexes' snapshots' k)
  same_ids_of same k = same_map id_total id_exact _ _ (λ id.
      sym (get_by_name packs indexes snapshots k id) ∙ ap (λ (files : Files). get files (named k id)) same
      ∙ get_by_name packs' indexes' snapshots' k id)

  same_names : ((k : Kind) → by_id (those_of packs indexes snapshots k) ≡ by_id (those_of packs' indexes' snapshots' k)) → by_name packs indexes snapshots ≡ by_name packs' indexes' snapshots'
  same_names same = same_map name_total name_exact _ _ (λ q.
      get_by_name packs indexes snapshots q.kind q.id ∙ ap (λ files. get files q.id) (same q.kind)
      ∙ sym (get_by_name packs' indexes' snapshots' q.kind q.id))

  module _ (a b c : Bool) (packs_same : Decides a (by_id packs ≡ by_id packs')) (indexes_same : Decides b (by_id indexes ≡ by_id indexes')) (snapshots_same : Decides c (by_id snapshots ≡ by_id snapshots')) where
    all_same : a ≡ true → b ≡ true → c ≡ true → (k : Kind) → by_id (those_of packs indexes snapshots k) ≡ by_id (those_of packs' indexes' snapshots' k)
    all_same one two three Pack = packs_same.0 one
    all_same one two three Index = indexes_same.0 two
    all_same one two three Snapshot = snapshots_same.0 three

    -- they are where those of each kind are
    pub same-Decides : Decides ((a && b) && c) (by_name packs indexes snapshots ≡ by_name packs' indexes' snapshots')
    same-Decides = (
      λ h. same_names (all_same (first_true a b (first_true (a && b) c h)) (second_true a b (first_true (a && b) c h)) (second_true (a && b) c h)),
      λ same. both_true (a && b) c (both_true a b (packs_same.1 (same_ids_of same Pack)) (indexes_same.1 (same_ids_of same Index))) (snapshots_same.1 (same_ids_of same Snapshot)),
    )
