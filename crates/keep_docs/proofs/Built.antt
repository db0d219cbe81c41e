-- Objects and lists that are built, and what is read of them.
use Rattle.std.proofs.Common.{◌≡◌, ◌↔◌, ℕ, zero, suc, nat_lt, ltb-true, arith, Bool, true, false, cond, List, [], ◌∷◌, map, Option, Some, Ordering, Less, Equal, Greater, IsUtf8, refl, sym, ap, ◌∙◌}
use Rattle.std.proofs.lemmas.Cmp.{nat_list_cmp_total}
use Rattle.std.proofs.lemmas.Map.Text.{is_eq-slice_cmp}
use Rattle.std.proofs.lemmas.Slice.Eq.{bytes_eq-Decides}
use Rattle.std.proofs.lemmas.Str.{IsUtf8-from_ascii}
use Rattle.std.specs.Cmp.Lexicographic.{slice_cmp}
use Rattle.std.specs.List.{AllByRecursion, list_all, list_any}
use Rattle.std.specs.Ordering.{nat_cmp, match_ordering, ordering_reverse, is_eq}
use Rattle.std.specs.Str.{bytes_eq, IsAscii}
use Rattle.std.proofs.lemmas.Bool.{and_parts}
use Rattle.hex.specs.Hex.{lower_digits}
use Rattle.hex.proofs.HexLemmas.{IsAscii-encode_with}
use Rattle.serde_json.specs.Data.{Data, Members, no_members, member, put}
use Rattle.serde_json.specs.Find.{get_member}
use Rattle.serde_json.specs.View.{items_of}
use Rattle.serde_json.proofs.Views.{get_member-put, get_member-put_other}
use Rattle.keep_names.specs.Id.{IsDigest}
use Rattle.keep_names.specs.declared.id.Id.{Id}
use Rattle.keep_docs.specs.Fields.{as_id, as_list, id_data, others, values_of}
use Rattle.keep_docs.specs.Lists.{each, list_data}
use Rattle.keep_docs.specs.Readable.{IsReadable, AreReadable, HasReadable, StandsBefore}
use Rattle.keep_docs.proofs.IdTexts.{id_of_text-id_text}

-- ---- what is read back

-- the values of a list that was built
pub values_of-items_of : (ds : List Data) → values_of (items_of ds) ≡ ds
values_of-items_of [] = refl
values_of-items_of (d ∷ ds) = ap (λ es. d ∷ es) (values_of-items_of ds)

pub as_list-list_data : (ds : List Data) → as_list (list_data ds) ≡ Some ds
as_list-list_data ds = ap (λ es. Some es) (values_of-items_of ds)

pub as_id-id_data : (id : Id) → IsDigest id → as_id (id_data id) ≡ Some id
as_id-id_data = id_of_text-id_text

-- values that are each read back are read back from a list
pub each-map : {A B : Type 0} (read : A → Option B) (write : B → A) (xs : List B) → AllByRecursion (λ x. read (write x) ≡ Some x) xs → each read (map write xs) ≡ Some xs
each-map read write [] h = refl
each-map read write (x ∷ xs) h = rw (h.0, each-map read write xs h.1)

-- the member of a key, after one was put: for keys that are written out, the test computes
pub get_member-put_at : (q k : List ℕ) (d : Data) (ms : Members) → get_member q (put k d ms) ≡ cond (bytes_eq q k) (Some d) (get_member q ms)
get_member-put_at q k d ms = by_test (bytes_eq q k) refl
  where
    by_test : (b : Bool) → bytes_eq q k ≡ b → get_member q (put k d ms) ≡ cond b (Some d) (get_member q ms)
    by_test true same = ap (λ name. get_member name (put k d ms)) ((bytes_eq-Decides q k).0 same) ∙ get_member-put k d ms
    by_test false other = get_member-put_other q k d ms (λ same. let h = (bytes_eq-Decides q k).1 same in cc)

-- ---- the other members

module _ (named : List (List ℕ)) where
  abbrev IsNamed : List ℕ → Bool
  IsNamed k = list_any (λ name. bytes_eq name k) named

  others-put_at : (o : Ordering) (k l : List ℕ) (d e : Data) (ms : Members) → slice_cmp nat_cmp k l ≡ o → IsNamed k ≡ true → others named (put k d ms) ≡ others named ms
      → others named (match_ordering o (member k d (member l e ms)) (member l d ms) (member l e (put k d ms))) ≡ others named (member l e ms)
  others-put_at Less k l d e ms is in_it later = rw in_it
  others-put_at Equal k l d e ms is in_it later =
      let same : k ≡ l = (bytes_eq-Decides k l).0 (sym (is_eq-slice_cmp k l) ∙ ap is_eq is) in
      let too : IsNamed l ≡ true = ap IsNamed (sym same) ∙ in_it in
      rw too
  others-put_at Greater k l d e ms is in_it later = ap (λ rest. cond (IsNamed l) rest (member l e rest)) later

  -- a named key that is put leaves the others
  pub others-put : (k : List ℕ) (d : Data) (ms : Members) → IsNamed k ≡ true → others named (put k d ms) ≡ others named ms
  others-put k d no_members in_it = rw in_it
  others-put k d (member l e ms) in_it = others-put_at _ k l d e ms refl in_it (others-put k d ms in_it)

  again_either : (b : Bool) (k : List ℕ) (d : Data) (rest : Members) → IsNamed k ≡ b → others named rest ≡ rest → others named (cond b rest (member k d rest)) ≡ cond b rest (member k d rest)
  again_either true k d rest is ih = ih
  again_either false k d rest is ih = rw is (ap (member k d) ih)

  -- what is left of the others is all of them
  pub others-others : (ms : Members) → others named (others named ms) ≡ others named ms
  others-others no_members = refl
  others-others (member k d ms) = again_either (IsNamed k) k d (others named ms) refl (others-others ms)

-- ---- what is readable

pub before_trans : (k l : List ℕ) (ms : Members) → slice_cmp nat_cmp k l ≡ Less → StandsBefore l ms → StandsBefore k ms
before_trans k l no_members less h = tt
before_trans k l (member q d ms) less h = (nat_list_cmp_total.trans k l q less h.0, before_trans k l ms less h.1)

before_put_at : (o : Ordering) (q k l : List ℕ) (d e : Data) (ms : Members) → slice_cmp nat_cmp q k ≡ Less → StandsBefore q (member l e ms) → StandsBefore q (put k d ms)
    → StandsBefore q (match_ordering o (member k d (member l e ms)) (member l d ms) (member l e (put k d ms)))
before_put_at Less q k l d e ms less h later = (less, h)
before_put_at Equal q k l d e ms less h later = h
before_put_at Greater q k l d e ms less h later = (h.0, later)

-- a key that stands before what is put
pub before_put : (q k : List ℕ) (d : Data) (ms : Members) → slice_cmp nat_cmp q k ≡ Less → StandsBefore q ms → StandsBefore q (put k d ms)
before_put q k d no_members less h = (less, tt)
before_put q k d (member l e ms) less h = before_put_at (slice_cmp nat_cmp k l) q k l d e ms less h (before_put q k d ms less h.1)

-- what the members of an object are, each of its own and all in order, they are where one more is put that is so
module _ (P : Data → Type 0) (AreSo : Members → Type 0) (none : AreSo no_members)
    (first : (k : List ℕ) (d : Data) (ms : Members) → AreSo (member k d ms) ↔ (IsUtf8 k × P d × StandsBefore k ms × AreSo ms)) where
  so_put_at : (o : Ordering) (k l : List ℕ) (d e : Data) (ms : Members) → slice_cmp nat_cmp k l ≡ o → IsUtf8 k → P d → AreSo (member l e ms) → AreSo (put k d ms)
      → AreSo (match_ordering o (member k d (member l e ms)) (member l d ms) (member l e (put k d ms)))
  so_put_at Less k l d e ms is text so h later =
      (first k d (member l e ms)).1 (text, so, (is, before_trans k l ms is ((first l e ms).0 h).2), h)
  so_put_at Equal k l d e ms is text so h later =
      let parts = (first l e ms).0 h in
      (first l d ms).1 (parts.0, so, parts.2, parts.3)
  so_put_at Greater k l d e ms is text so h later =
      let less : slice_cmp nat_cmp l k ≡ Less = nat_list_cmp_total.antisymm l k ∙ ap ordering_reverse is in
      let parts = (first l e ms).0 h in
      (first l e (put k d ms)).1 (parts.0, parts.1, before_put l k d ms less parts.2, later)

  pub so_put : (k : List ℕ) (d : Data) (ms : Members) → IsUtf8 k → P d → AreSo ms → AreSo (put k d ms)
  so_put k d no_members text so all = (first k d no_members).1 (text, so, tt, none)
  so_put k d (member l e ms) text so all =
      so_put_at (slice_cmp nat_cmp k l) k l d e ms refl text so all (so_put k d ms text so ((first l e ms).0 all).3)

-- an object stays readable where a readable value is put
pub HasReadable-put : (k : List ℕ) (d : Data) (ms : Members) → IsUtf8 k → IsReadable d → HasReadable ms → HasReadable (put k d ms)
HasReadable-put = so_put IsReadable HasReadable tt (λ k d ms. (λ h. h, λ h. h))

pub AreReadable-items_of : (ds : List Data) → AllByRecursion IsReadable ds → AreReadable (items_of ds)
AreReadable-items_of [] h = tt
AreReadable-items_of (d ∷ ds) h = (h.0, AreReadable-items_of ds h.1)

-- a list of readable values is readable
pub IsReadable-list_data : (ds : List Data) → AllByRecursion IsReadable ds → IsReadable (list_data ds)
IsReadable-list_data = AreReadable-items_of

ascii_all : (xs : List ℕ) → list_all (λ x. nat_lt x 128) xs ≡ true → IsAscii xs
ascii_all [] h i = omega arith
ascii_all (x ∷ xs) h zero = ltb-true x 128 (and_parts _ _ h).0
ascii_all (x ∷ xs) h (suc i) = ascii_all xs (and_parts (nat_lt x 128) _ h).1 i

-- the text of an id is readable
pub IsReadable-id_data : (id : Id) → IsReadable (id_data id)
IsReadable-id_data id = IsUtf8-from_ascii _ (IsAscii-encode_with lower_digits id.0 (ascii_all lower_digits refl))
