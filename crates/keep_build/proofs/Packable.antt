-- New blobs of a type can be packed, and so can parts of them.
use Rattle.std.proofs.Common.{◌≡◌, ℕ, suc, ◌+◌, ◌<◌, ◌≤◌, ◌==◌, ◌^◌, Bool, true, false, ◌||◌, ◌&&◌, not, cond, nat_le, List, [], ◌∷◌, length, map, filter, take, drop, refl, sym, ap, subst, ◌∙◌, arith}
use Rattle.std.specs.List.{AllByRecursion, count_by, list_any}
use Rattle.std.proofs.lemmas.Bool.Decides.{nat_tests}
use Rattle.std.proofs.lemmas.List.Elements.{All-drop, All-from_recursion, All-take}
use Rattle.std.proofs.lemmas.List.Sums.{sum_by-cons, sum_by-take-drop, sum_by-take-le}
use Rattle.keep_names.specs.declared.blob.BlobId.{BlobId}
use Rattle.keep_names.specs.declared.blob.BlobType.{BlobType}
use Rattle.keep_names.specs.declared.blob.BlobType.TheVariants.{Content, Tree}
use Rattle.keep_repo.specs.Repository.{Repository}
use Rattle.keep_pack.specs.Pack.{HasOwnId}
use Rattle.keep_catalog.specs.Orders.{blob_eq}
use Rattle.keep_index.specs.Joining.{first_of_each}
use Rattle.keep_catalog.proofs.SpotOrders.{blob_eq_refl}
use Rattle.keep_build.specs.Blobs.{BlobData, blob_id_of, is_full, is_new, is_of, is_same, is_tree_type, new_of}
use Rattle.keep_build.specs.Storing.{AreKept, CanBePacked, Text, blob_view, text_bytes}
use Rattle.keep_build.proofs.Cutting.{is_empty}

abbrev empty_kept : BlobId × Text → Bool
empty_kept kept = length (text_bytes kept.1) == 0

abbrev IsShort : BlobId × Text → Type 0
IsShort kept = length (text_bytes kept.1) < 2 ^ 32

counted : {X : Type 0} (p : X → Bool) (x : X) (xs : List X) → count_by p (x ∷ xs) ≡ cond (p x) 1 0 + count_by p xs
counted p x xs = sum_by-cons (λ y. cond (p y) 1 0) x xs

-- parts of what can be packed
pub can_take : (n : ℕ) (blobs : List (BlobId × Text)) → CanBePacked blobs → CanBePacked (take n blobs)
can_take n blobs can = record {
  ids = All-take (HasOwnId text_bytes) n blobs can.ids;
  lengths = All-take IsShort n blobs can.lengths;
  few =
      let part : count_by empty_kept (take n blobs) ≤ count_by empty_kept blobs = sum_by-take-le (λ x. cond (empty_kept x) 1 0) blobs n in
      let whole : count_by empty_kept blobs ≤ 1 = can.few in
      omega arith;
}

pub can_drop : (n : ℕ) (blobs : List (BlobId × Text)) → CanBePacked blobs → CanBePacked (drop n blobs)
can_drop n blobs can = record {
  ids = All-drop (HasOwnId text_bytes) n blobs can.ids;
  lengths = All-drop IsShort n blobs can.lengths;
  few =
      let parts : count_by empty_kept (take n blobs) + count_by empty_kept (drop n blobs) ≡ count_by empty_kept blobs = sum_by-take-drop (λ x. cond (empty_kept x) 1 0) blobs n in
      let whole : count_by empty_kept blobs ≤ 1 = can.few in
      omega arith;
}

pub empties_kept : (kept : List (BlobId × Text)) → count_by is_empty (map blob_view kept) ≡ count_by empty_kept kept
empties_kept [] = refl
empties_kept (k ∷ ks) =
    counted is_empty (blob_view k) (map blob_view ks) ∙ ap (λ n. cond (empty_kept k) 1 0 + n) (empties_kept ks)
    ∙ sym (counted empty_kept k ks)

-- ---- short blobs

pub no_or : (a b : Bool) → (a || b) ≡ false → (a ≡ false) × (b ≡ false)
no_or true b h = cc h
no_or false b h = (refl, h)

none_left : (p q : BlobData → Bool) (bs : List BlobData) → list_any p bs ≡ false → list_any p (filter q bs) ≡ false
none_left p q [] none = refl
none_left p q (b ∷ bs) none =
    let parts = no_or (p b) (list_any p bs) none in
    cases parts.0 (none_left p q bs parts.1) (q b) where
      cases : p b ≡ false → list_any p (filter q bs) ≡ false → (t : Bool) → list_any p (cond t (b ∷ filter q bs) (filter q bs)) ≡ false
      cases here later true = (λ i. here i || later i)
      cases here later false = later

none_first : (p : BlobData → Bool) (bs : List BlobData) → list_any p bs ≡ false → list_any p (first_of_each is_same bs) ≡ false
none_first p [] none = refl
none_first p (b ∷ bs) none =
    let parts = no_or (p b) (list_any p bs) none in
    ap (λ t. t || list_any p (filter (λ y. not (is_same b y)) (first_of_each is_same bs))) parts.0
    ∙ none_left p (λ y. not (is_same b y)) (first_of_each is_same bs) (none_first p bs parts.1)

pub none_full : (t : BlobType) (r : Repository) (offered : List BlobData) → list_any is_full offered ≡ false → list_any is_full (new_of t r offered) ≡ false
unfolding new_of
none_full t r offered none =
    none_left is_full (is_of t) (filter (is_new r) (first_of_each is_same offered))
    (none_left is_full (is_new r) (first_of_each is_same offered) (none_first is_full offered none))

pub is_short : (n : ℕ) → nat_le (2 ^ 32) n ≡ false → n < 2 ^ 32
is_short n h = grind (arith, nat_tests)

short_kept : (kept : List (BlobId × Text)) → list_any is_full (map blob_view kept) ≡ false → AllByRecursion IsShort kept
short_kept [] none = tt
short_kept (k ∷ ks) none =
    let parts = no_or (is_full (blob_view k)) (list_any is_full (map blob_view ks)) none in
    (is_short (length (text_bytes k.1)) parts.0, short_kept ks parts.1)

-- ---- one empty blob of a type at most

fewer_left : (p q : BlobData → Bool) (bs : List BlobData) → count_by p (filter q bs) ≤ count_by p bs
fewer_left p q [] = omega arith
fewer_left p q (b ∷ bs) = cases (fewer_left p q bs) (q b) where
  all : count_by p (b ∷ bs) ≡ cond (p b) 1 0 + count_by p bs
  all = counted p b bs

  part : count_by p (b ∷ filter q bs) ≡ cond (p b) 1 0 + count_by p (filter q bs)
  part = counted p b (filter q bs)

  cases : count_by p (filter q bs) ≤ count_by p bs → (t : Bool) → count_by p (cond t (b ∷ filter q bs) (filter q bs)) ≤ count_by p (b ∷ bs)
  cases ih true = omega (arith, ih, all, part)
  cases ih false = omega (arith, ih, all)

-- an empty blob of the type
abbrev is_nil : BlobType → BlobData → Bool
is_nil t b = is_of t b && is_empty b

nat_is : (n : ℕ) → (n == 0) ≡ true → n ≡ 0
nat_is n h = grind (arith, nat_tests)

nil_bytes : (xs : List ℕ) → (length xs == 0) ≡ true → xs ≡ []
nil_bytes [] h = refl
nil_bytes (x ∷ xs) h =
    let none : suc (length xs) ≡ 0 = nat_is (suc (length xs)) h in
    absurd (omega arith)

both : (a b : Bool) → (a && b) ≡ true → (a ≡ true) × (b ≡ true)
both true b h = (refl, h)
both false b h = cc h

of_type : (t : BlobType) (b : BlobData) → is_of t b ≡ true → b.0 ≡ t
of_type Content b h = cases b.0 h where
  cases : (u : BlobType) → not (is_tree_type u) ≡ true → u ≡ Content
  cases Content h = refl
  cases Tree h = cc h
of_type Tree b h = cases b.0 h where
  cases : (u : BlobType) → is_tree_type u ≡ true → u ≡ Tree
  cases Content h = cc h
  cases Tree h = refl

-- two empty blobs of a type have one name
nil_same : (t : BlobType) (a b : BlobData) → is_nil t a ≡ true → is_nil t b ≡ true → is_same a b ≡ true
nil_same t a b p q =
    let x = both (is_of t a) (is_empty a) p in
    let y = both (is_of t b) (is_empty b) q in
    let types : a.0 ≡ b.0 = of_type t a x.0 ∙ sym (of_type t b y.0) in
    let bytes : a.1 ≡ b.1 = nil_bytes a.1 x.1 ∙ sym (nil_bytes b.1 y.1) in
    ap (λ (c : BlobData). blob_eq (blob_id_of a) (blob_id_of c)) (λ i. ((sym types) i, (sym bytes) i)) ∙ blob_eq_refl (blob_id_of a)

no_nil_left : (t : BlobType) (a : BlobData) → is_nil t a ≡ true → (bs : List BlobData) → count_by (is_nil t) (filter (λ y. not (is_same a y)) bs) ≡ 0
no_nil_left t a nil [] = refl
no_nil_left t a nil (b ∷ bs) = cases (no_nil_left t a nil bs) (is_same a b) refl (is_nil t b) refl where
  rest : List BlobData
  rest = filter (λ y. not (is_same a y)) bs

  cases : count_by (is_nil t) rest ≡ 0 → (s : Bool) → is_same a b ≡ s → (n : Bool) → is_nil t b ≡ n → count_by (is_nil t) (cond (not s) (b ∷ rest) rest) ≡ 0
  cases ih true same n is = ih
  cases ih false other true is =
      let same : is_same a b ≡ true = nil_same t a b nil is in
      absurd (cc (same, other))
  cases ih false other false is = counted (is_nil t) b rest ∙ (λ i. cond (is i) 1 0 + ih i)

one_nil : (t : BlobType) (bs : List BlobData) → count_by (is_nil t) (first_of_each is_same bs) ≤ 1
one_nil t [] = omega arith
one_nil t (b ∷ bs) = cases (one_nil t bs) (is_nil t b) refl where
  rest : List BlobData
  rest = filter (λ y. not (is_same b y)) (first_of_each is_same bs)

  all : count_by (is_nil t) (b ∷ rest) ≡ cond (is_nil t b) 1 0 + count_by (is_nil t) rest
  all = counted (is_nil t) b rest

  fewer : count_by (is_nil t) rest ≤ count_by (is_nil t) (first_of_each is_same bs)
  fewer = fewer_left (is_nil t) (λ y. not (is_same b y)) (first_of_each is_same bs)

  cases : count_by (is_nil t) (first_of_each is_same bs) ≤ 1 → (n : Bool) → is_nil t b ≡ n → count_by (is_nil t) (b ∷ rest) ≤ 1
  cases ih true is =
      let e : count_by (is_nil t) (b ∷ rest) ≡ 1 + count_by (is_nil t) rest = all ∙ ap (λ n. cond n 1 0 + count_by (is_nil t) rest) is in
      let z : count_by (is_nil t) rest ≡ 0 = no_nil_left t b is (first_of_each is_same bs) in
      omega arith
  cases ih false is =
      let e : count_by (is_nil t) (b ∷ rest) ≡ 0 + count_by (is_nil t) rest = all ∙ ap (λ n. cond n 1 0 + count_by (is_nil t) rest) is in
      let f : count_by (is_nil t) rest ≤ count_by (is_nil t) (first_of_each is_same bs) = fewer in
      omega arith

-- those of a type that are empty
of_nil : (t : BlobType) (bs : List BlobData) → count_by is_empty (filter (is_of t) bs) ≡ count_by (is_nil t) bs
of_nil t [] = refl
of_nil t (b ∷ bs) = cases (of_nil t bs) (is_of t b) refl where
  zero_more : (n : ℕ) → n ≡ 0 + n
  zero_more n = omega arith

  cases : count_by is_empty (filter (is_of t) bs) ≡ count_by (is_nil t) bs → (o : Bool) → is_of t b ≡ o → count_by is_empty (cond o (b ∷ filter (is_of t) bs) (filter (is_of t) bs)) ≡ count_by (is_nil t) (b ∷ bs)
  cases ih true is =
      counted is_empty b (filter (is_of t) bs) ∙ ap (λ n. cond (is_empty b) 1 0 + n) ih
      ∙ ap (λ o. cond (o && is_empty b) 1 0 + count_by (is_nil t) bs) (sym is) ∙ sym (counted (is_nil t) b bs)
  cases ih false is =
      ih ∙ zero_more (count_by (is_nil t) bs) ∙ ap (λ o. cond (o && is_empty b) 1 0 + count_by (is_nil t) bs) (sym is) ∙ sym (counted (is_nil t) b bs)

pub few_new : (t : BlobType) (r : Repository) (offered : List BlobData) → count_by is_empty (new_of t r offered) ≤ 1
unfolding new_of
few_new t r offered =
    let a : count_by is_empty (filter (is_of t) (filter (is_new r) (first_of_each is_same offered))) ≡ count_by (is_nil t) (filter (is_new r) (first_of_each is_same offered)) = of_nil t (filter (is_new r) (first_of_each is_same offered)) in
    let b : count_by (is_nil t) (filter (is_new r) (first_of_each is_same offered)) ≤ count_by (is_nil t) (first_of_each is_same offered) = fewer_left (is_nil t) (is_new r) (first_of_each is_same offered) in
    let c : count_by (is_nil t) (first_of_each is_same offered) ≤ 1 = one_nil t offered in
    omega arith

-- the new blobs of a type that are kept can be packed
pub can_pack : (t : BlobType) (r : Repository) (offered : List BlobData) (kept : List (BlobId × Text)) → list_any is_full offered ≡ false → AreKept (new_of t r offered) kept → CanBePacked kept
can_pack t r offered kept none are = record {
  ids = are.ids_are;
  lengths = All-from_recursion IsShort kept (short_kept kept (ap (list_any is_full) are.blobs_are ∙ none_full t r offered none));
  few =
      let a : count_by empty_kept kept ≡ count_by is_empty (new_of t r offered) = sym (empties_kept kept) ∙ ap (count_by is_empty) are.blobs_are in
      let b : count_by is_empty (new_of t r offered) ≤ 1 = few_new t r offered in
      omega arith;
}

pub can_same : (blobs others : List (BlobId × Text)) → blobs ≡ others → CanBePacked blobs → CanBePacked others
can_same blobs others same can = subst CanBePacked same can
