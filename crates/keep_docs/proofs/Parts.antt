-- Parts of a readable value: each is readable, and nests less.
use Rattle.std.proofs.Common.{◌≡◌, ℕ, suc, ◌^◌, ◌<◌, ◌≤◌, Bool, true, false, cond, nat_lt, ltb-true, List, [], ◌∷◌, Option, None, Some, option_map, option_and_then, Ordering, Less, Equal, Greater, IsUtf8, refl, subst, arith}
use Rattle.std.specs.Cmp.Lexicographic.{slice_cmp}
use Rattle.std.specs.List.{AllByRecursion, list_any}
use Rattle.std.specs.Ordering.{nat_cmp, match_ordering}
use Rattle.std.specs.Str.{bytes_eq}
use Rattle.serde_json.specs.Data.{Data, null, boolean, number, string, array, object, Items, no_items, item, Members, no_members, member, put, unsigned, negative, float, depth, items_depth, members_depth}
use Rattle.serde_json.specs.Find.{as_str, get, get_member}
use Rattle.keep_names.specs.Id.{IsDigest}
use Rattle.keep_names.specs.declared.id.Id.{Id}
use Rattle.keep_docs.specs.Fields.{as_below, as_id, as_list, as_list_or_null, as_whole, field, id_of_text, if_below, list_field, or_null, other_members, others, values_of}
use Rattle.keep_docs.specs.Lists.{each}
use Rattle.keep_docs.specs.Readable.{AreReadable, HasReadable, IsReadable, StandsBefore}
use Rattle.keep_docs.proofs.Built.{others-others}
use Rattle.keep_docs.proofs.IdTexts.{id_text-id_of_text}

-- ---- what a chain was made of

module _ {A B : Type 0} where
  pub then_parts : (o : Option A) (f : A → Option B) (b : B) → option_and_then f o ≡ Some b → (a : A) × (o ≡ Some a) × (f a ≡ Some b)
  then_parts None f b is = let no : ⊥ = cc in absurd no
  then_parts (Some a) f b is = (a, refl, is)

  pub map_parts : (o : Option A) (f : A → B) (b : B) → option_map f o ≡ Some b → (a : A) × (o ≡ Some a) × (f a ≡ b)
  map_parts None f b is = let no : ⊥ = cc in absurd no
  map_parts (Some a) f b is = (a, refl, cc)

-- what passed a test
pub passed : {A : Type 0} (b : Bool) (x y : A) → cond b (Some x) None ≡ Some y → (b ≡ true) × (x ≡ y)
passed true x y e = (refl, cc)
passed false x y e = cc

-- what holds of each that was read
pub each_read : {A B : Type 0} (P : A → Type 0) (Q : B → Type 0) (read : A → Option B) → ((x : A) (y : B) → P x → read x ≡ Some y → Q y)
    → (xs : List A) (ys : List B) → AllByRecursion P xs → each read xs ≡ Some ys → AllByRecursion Q ys
each_read P Q read one [] ys h e = let none : [] ≡ ys = cc in subst (AllByRecursion Q) none tt
each_read P Q read one (x ∷ xs) ys h e =
    let first = then_parts (read x) (λ y. option_map (λ zs. y ∷ zs) (each read xs)) ys e in
    let rest = map_parts (each read xs) (λ zs. first.0 ∷ zs) ys first.2 in
    subst (AllByRecursion Q) rest.2 (one x first.0 h.0 first.1, each_read P Q read one xs rest.0 h.1 rest.1)

-- ---- values

found_readable : (o : Ordering) (r : Option Data) (d x : Data) → IsReadable d → ((y : Data) → r ≡ Some y → IsReadable y) → match_ordering o r (Some d) r ≡ Some x → IsReadable x
found_readable Less r d x here later e = later x e
found_readable Equal r d x here later e = let same : d ≡ x = cc in subst IsReadable same here
found_readable Greater r d x here later e = later x e

member_readable : (k : List ℕ) (ms : Members) (x : Data) → HasReadable ms → get_member k ms ≡ Some x → IsReadable x
member_readable k no_members x h e = cc
member_readable k (member l d ms) x h e = found_readable (slice_cmp nat_cmp k l) (get_member k ms) d x h.1 (λ y is. member_readable k ms y h.3 is) e

pub IsReadable-get : (k : List ℕ) (d x : Data) → IsReadable d → get k d ≡ Some x → IsReadable x
IsReadable-get k null x h e = cc
IsReadable-get k (boolean b) x h e = cc
IsReadable-get k (number n) x h e = cc
IsReadable-get k (string s) x h e = cc
IsReadable-get k (array ds) x h e = cc
IsReadable-get k (object ms) x h e = member_readable k ms x h e

pub IsUtf8-as_str : (d : Data) (text : List ℕ) → IsReadable d → as_str d ≡ Some text → IsUtf8 text
IsUtf8-as_str null text h e = cc
IsUtf8-as_str (boolean b) text h e = cc
IsUtf8-as_str (number n) text h e = cc
IsUtf8-as_str (string s) text h e = let same : s ≡ text = cc in subst IsUtf8 same h
IsUtf8-as_str (array ds) text h e = cc
IsUtf8-as_str (object ms) text h e = cc

-- the text at a key
pub IsUtf8-field : (k : List ℕ) (d : Data) (text : List ℕ) → IsReadable d → field k as_str d ≡ Some text → IsUtf8 text
IsUtf8-field k d text h e =
    let parts = then_parts (get k d) as_str text e in
    IsUtf8-as_str parts.0 text (IsReadable-get k d parts.0 h parts.1) parts.2

-- the id that a value's text is, and that at a key
pub IsDigest-as_id : (d : Data) (id : Id) → as_id d ≡ Some id → IsDigest id
IsDigest-as_id d id e =
    let parts = then_parts (as_str d) id_of_text id e in
    (id_text-id_of_text parts.0 id parts.2).0

pub IsDigest-field : (k : List ℕ) (d : Data) (id : Id) → field k as_id d ≡ Some id → IsDigest id
IsDigest-field k d id e =
    let parts = then_parts (get k d) as_id id e in
    IsDigest-as_id parts.0 id parts.2

whole_below : (d : Data) (n : ℕ) → IsReadable d → as_whole d ≡ Some n → n < 2 ^ 64
whole_below null n h e = cc
whole_below (boolean b) n h e = cc
whole_below (number (unsigned m)) n h e = let same : m ≡ n = cc in let P : ℕ → Type 0 = λ k. k < 2 ^ 64 in subst P same h
whole_below (number (negative z)) n h e = cc
whole_below (number (float x)) n h e = cc
whole_below (string s) n h e = cc
whole_below (array ds) n h e = cc
whole_below (object ms) n h e = cc

-- the number at a key
pub whole-field : (k : List ℕ) (d : Data) (n : ℕ) → IsReadable d → field k as_whole d ≡ Some n → n < 2 ^ 64
whole-field k d n h e =
    let parts = then_parts (get k d) as_whole n e in
    whole_below parts.0 n (IsReadable-get k d parts.0 h parts.1) parts.2

limited : (limit m n : ℕ) (b : Bool) → nat_lt m limit ≡ b → cond b (Some m) None ≡ Some n → n < limit
limited limit m n true below e = let same : m ≡ n = cc in let P : ℕ → Type 0 = λ k. k < limit in subst P same (ltb-true m limit below)
limited limit m n false below e = cc

pub below-field : (k : List ℕ) (limit : ℕ) (d : Data) (n : ℕ) → field k (as_below limit) d ≡ Some n → n < limit
below-field k limit d n e =
    let parts = then_parts (get k d) (as_below limit) n e in
    let found = then_parts (as_whole parts.0) (if_below limit) n parts.2 in
    limited limit found.0 n (nat_lt found.0 limit) refl found.2

-- ---- lists

readable_values : (ds : Items) → AreReadable ds → AllByRecursion IsReadable (values_of ds)
readable_values no_items h = tt
readable_values (item d ds) h = (h.0, readable_values ds h.1)

pub readable-list_or_null : (d : Data) (items : List Data) → IsReadable d → as_list_or_null d ≡ Some items → AllByRecursion IsReadable items
readable-list_or_null null items h e = let none : [] ≡ items = cc in subst (AllByRecursion IsReadable) none tt
readable-list_or_null (boolean b) items h e = cc
readable-list_or_null (number n) items h e = cc
readable-list_or_null (string s) items h e = cc
readable-list_or_null (array ds) items h e = let same : values_of ds ≡ items = cc in subst (AllByRecursion IsReadable) same (readable_values ds h)
readable-list_or_null (object ms) items h e = cc

pub readable-list : (d : Data) (items : List Data) → IsReadable d → as_list d ≡ Some items → AllByRecursion IsReadable items
readable-list null items h e = cc
readable-list (boolean b) items h e = cc
readable-list (number n) items h e = cc
readable-list (string s) items h e = cc
readable-list (array ds) items h e = let same : values_of ds ≡ items = cc in subst (AllByRecursion IsReadable) same (readable_values ds h)
readable-list (object ms) items h e = cc

readable_or_null : (o : Option Data) → ((d : Data) → o ≡ Some d → IsReadable d) → IsReadable (or_null o)
readable_or_null None h = tt
readable_or_null (Some d) h = h d refl

-- the list at a key that may be null or missing
pub readable-list_field : (k : List ℕ) (d : Data) (items : List Data) → IsReadable d → list_field k d ≡ Some items → AllByRecursion IsReadable items
readable-list_field k d items h e = readable-list_or_null (or_null (get k d)) items (readable_or_null (get k d) (λ x. IsReadable-get k d x h)) e

-- ---- the other members

module _ (named : List (List ℕ)) where
  before_either : (b : Bool) (q k : List ℕ) (d : Data) (rest : Members) → StandsBefore q (member k d rest) → StandsBefore q (cond b rest (member k d rest))
  before_either true q k d rest h = h.1
  before_either false q k d rest h = h

  before_others : (q : List ℕ) (ms : Members) → StandsBefore q ms → StandsBefore q (others named ms)
  before_others q no_members h = tt
  before_others q (member k d ms) h = before_either (list_any (λ name. bytes_eq name k) named) q k d (others named ms) (h.0, before_others q ms h.1)

  readable_either : (b : Bool) (k : List ℕ) (d : Data) (rest : Members) → HasReadable (member k d rest) → HasReadable (cond b rest (member k d rest))
  readable_either true k d rest h = h.3
  readable_either false k d rest h = h

  readable_others : (ms : Members) → HasReadable ms → HasReadable (others named ms)
  readable_others no_members h = tt
  readable_others (member k d ms) h = readable_either (list_any (λ name. bytes_eq name k) named) k d (others named ms) (h.0, h.1, before_others k ms h.2, readable_others ms h.3)

  pub HasReadable-other_members : (d : Data) → IsReadable d → HasReadable (other_members named d)
  HasReadable-other_members null h = tt
  HasReadable-other_members (boolean b) h = tt
  HasReadable-other_members (number n) h = tt
  HasReadable-other_members (string s) h = tt
  HasReadable-other_members (array ds) h = tt
  HasReadable-other_members (object ms) h = readable_others ms h

  -- none has a named key
  pub others-other_members : (d : Data) → others named (other_members named d) ≡ other_members named d
  others-other_members null = refl
  others-other_members (boolean b) = refl
  others-other_members (number n) = refl
  others-other_members (string s) = refl
  others-other_members (array ds) = refl
  others-other_members (object ms) = others-others named ms

-- ---- depth

found_depth : (o : Ordering) (r : Option Data) (d x : Data) (n : ℕ) → depth d ≤ n → ((y : Data) → r ≡ Some y → depth y ≤ n) → match_ordering o r (Some d) r ≡ Some x → depth x ≤ n
found_depth Less r d x n here later e = later x e
found_depth Equal r d x n here later e = let same : d ≡ x = cc in subst (λ y. depth y ≤ n) same here
found_depth Greater r d x n here later e = later x e

member_depth : (k : List ℕ) (ms : Members) (x : Data) (n : ℕ) → members_depth ms ≤ n → get_member k ms ≡ Some x → depth x ≤ n
member_depth k no_members x n h e = cc
member_depth k (member l d ms) x n h e =
    let rest : members_depth ms ≤ n = omega arith in
    found_depth (slice_cmp nat_cmp k l) (get_member k ms) d x n (omega arith) (λ y is. member_depth k ms y n rest is) e

-- a member nests less than its object
pub depth-get : (k : List ℕ) (d x : Data) (n : ℕ) → depth d ≤ suc n → get k d ≡ Some x → depth x ≤ n
depth-get k null x n h e = cc
depth-get k (boolean b) x n h e = cc
depth-get k (number z) x n h e = cc
depth-get k (string s) x n h e = cc
depth-get k (array ds) x n h e = cc
depth-get k (object ms) x n h e = member_depth k ms x n (omega arith) e

values_depth : (ds : Items) (n : ℕ) → items_depth ds ≤ n → AllByRecursion (λ x. depth x ≤ n) (values_of ds)
values_depth no_items n h = tt
values_depth (item d ds) n h = (omega arith, values_depth ds n (omega arith))

-- a value of a list nests less than the list
pub depth-list : (d : Data) (items : List Data) (n : ℕ) → depth d ≤ suc n → as_list_or_null d ≡ Some items → AllByRecursion (λ x. depth x ≤ n) items
depth-list null items n h e = let none : [] ≡ items = cc in subst (AllByRecursion (λ x. depth x ≤ n)) none tt
depth-list (boolean b) items n h e = cc
depth-list (number z) items n h e = cc
depth-list (string s) items n h e = cc
depth-list (array ds) items n h e = let same : values_of ds ≡ items = cc in subst (AllByRecursion (λ x. depth x ≤ n)) same (values_depth ds n (omega arith))
depth-list (object ms) items n h e = cc

module _ (named : List (List ℕ)) where
  either_depth : (b : Bool) (k : List ℕ) (d : Data) (rest : Members) (n : ℕ) → depth d ≤ n → members_depth rest ≤ n → members_depth (cond b rest (member k d rest)) ≤ n
  either_depth true k d rest n here below = below
  either_depth false k d rest n here below = omega arith

  others_depth : (ms : Members) (n : ℕ) → members_depth ms ≤ n → members_depth (others named ms) ≤ n
  others_depth no_members n h = h
  others_depth (member k d ms) n h = either_depth (list_any (λ name. bytes_eq name k) named) k d (others named ms) n (omega arith) (others_depth ms n (omega arith))

  -- what is carried nests less than the object
  pub depth-other_members : (d : Data) (n : ℕ) → depth d ≤ suc n → members_depth (other_members named d) ≤ n
  depth-other_members null n h = omega arith
  depth-other_members (boolean b) n h = omega arith
  depth-other_members (number z) n h = omega arith
  depth-other_members (string s) n h = omega arith
  depth-other_members (array ds) n h = omega arith
  depth-other_members (object ms) n h = others_depth ms n (omega arith)

-- ---- objects that are written

put_depth_at : (o : Ordering) (k l : List ℕ) (d e : Data) (ms : Members) (n : ℕ) → depth d ≤ n → depth e ≤ n → members_depth ms ≤ n → members_depth (put k d ms) ≤ n
    → members_depth (match_ordering o (member k d (member l e ms)) (member l d ms) (member l e (put k d ms))) ≤ n
put_depth_at Less k l d e ms n here there rest later = omega arith
put_depth_at Equal k l d e ms n here there rest later = omega arith
put_depth_at Greater k l d e ms n here there rest later = omega arith

pub depth-put : (k : List ℕ) (d : Data) (ms : Members) (n : ℕ) → depth d ≤ n → members_depth ms ≤ n → members_depth (put k d ms) ≤ n
depth-put k d no_members n here rest = omega arith
depth-put k d (member l e ms) n here rest =
    let there : depth e ≤ n = omega arith in
    let below : members_depth ms ≤ n = omega arith in
    put_depth_at (slice_cmp nat_cmp k l) k l d e ms n here there below (depth-put k d ms n here below)
