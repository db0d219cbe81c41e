-- What a node says can stand in any node: each member is a scalar, and none has one of a node's own keys.
use Rattle.std.proofs.Common.{◌≡◌, ℕ, ◌<◌, ◌^◌, ◌==◌, Bool, true, false, cond, not, List, [], ◌∷◌, Option, None, Some, IfSome, IsUtf8, Ordering, Less, Equal, Greater, String, refl, ap, arith}
use Rattle.std.proofs.lemmas.Bool.{and_parts}
use Rattle.std.proofs.lemmas.Str.{IsUtf8-string_bytes}
use Rattle.std.specs.Cmp.Lexicographic.{slice_cmp}
use Rattle.std.specs.List.{AllByRecursion, list_all, list_any}
use Rattle.std.specs.Ordering.{nat_cmp, match_ordering}
use Rattle.std.specs.Str.{bytes_eq}
use Rattle.std.specs.declared.alloc.Global.{Global}
use Rattle.json.proofs.Printed.Utf8.{IsUtf8-are_ascii}
use Rattle.serde_json.specs.Data.{Data, Members, no_members, member, put, depth, members_depth}
use Rattle.keep_docs.specs.Fields.{others}
use Rattle.keep_docs.specs.Readable.{HasReadable, IsReadable}
use Rattle.keep_docs.proofs.Built.{HasReadable-put}
use Rattle.keep_snap.specs.Written.{put_if, text_data, with_fields}
use Rattle.keep_tree.specs.Tree.{KindData, dir, file, other, own_keys}
use Rattle.keep_members.specs.Carried.{StandsAnywhere, TimeTexts, counted_data, fields, whole_data}
use Rattle.keep_members.specs.Members.{IsSaid, MembersData, text_view}
use Rattle.keep_members.specs.Texts.{texts_view}
use Rattle.keep_members.specs.declared.time_texts.TimeTexts.{TimeTexts as HeldTexts}

-- ---- scalars

-- members without parts of which none has a named key
module _ (named : List (List ℕ)) where
  abbrev IsNamed : List ℕ → Bool
  IsNamed k = list_any (λ name. bytes_eq name k) named

  abbrev AreFree : Members → Type 0
  AreFree no_members = Unit {0}
  AreFree (member k d ms) = (IsNamed k ≡ false) × (depth d ≡ 0) × AreFree ms

  free-put_at : (o : Ordering) (k l : List ℕ) (d e : Data) (ms : Members) → IsNamed k ≡ false → depth d ≡ 0 → AreFree (member l e ms) → AreFree (put k d ms)
      → AreFree (match_ordering o (member k d (member l e ms)) (member l d ms) (member l e (put k d ms)))
  free-put_at Less k l d e ms out flat all later = (out, flat, all)
  free-put_at Equal k l d e ms out flat all later = (all.0, flat, all.2)
  free-put_at Greater k l d e ms out flat all later = (all.0, all.1, later)

  free-put : (k : List ℕ) (d : Data) (ms : Members) → IsNamed k ≡ false → depth d ≡ 0 → AreFree ms → AreFree (put k d ms)
  free-put k d no_members out flat all = (out, flat, tt)
  free-put k d (member l e ms) out flat all = free-put_at (slice_cmp nat_cmp k l) k l d e ms out flat all (free-put k d ms out flat all.2)

  free-put_if : (k : List ℕ) (o : Option Data) (ms : Members) → IsNamed k ≡ false → IfSome o (λ d. IsReadable d × (depth d ≡ 0)) → AreFree ms → AreFree (put_if k o ms)
  free-put_if k None ms out flat all = all
  free-put_if k (Some d) ms out flat all = free-put k d ms out flat.1 all

  abbrev AreUnnamed : List (List ℕ × Option Data) → Bool
  AreUnnamed fs = list_all (λ f. not (IsNamed f.0)) fs

  not_named : (b : Bool) → not b ≡ true → b ≡ false
  not_named true e = cc
  not_named false e = refl

  free-with_fields : (fs : List (List ℕ × Option Data)) (ms : Members) → AreUnnamed fs ≡ true → AllByRecursion (λ f. IsUtf8 f.0 × IfSome f.1 (λ d. IsReadable d × (depth d ≡ 0))) fs → AreFree ms → AreFree (with_fields fs ms)
  free-with_fields [] ms out flat all = all
  free-with_fields (f ∷ fs) ms out flat all =
      let parts = and_parts (not (IsNamed f.0)) (AreUnnamed fs) out in
      free-with_fields fs (put_if f.0 f.1 ms) parts.1 flat.1 (free-put_if f.0 f.1 ms (not_named (IsNamed f.0) parts.0) flat.0.1 all)

  others-free : (ms : Members) → AreFree ms → others named ms ≡ ms
  others-free no_members all = refl
  others-free (member k d ms) all = rw all.0 (ap (member k d) (others-free ms all.2))

  depth-free : (ms : Members) → AreFree ms → members_depth ms ≡ 0
  depth-free no_members all = refl
  depth-free (member k d ms) all = rw (all.1, depth-free ms all.2)

readable-put_if : (k : List ℕ) (o : Option Data) (ms : Members) → IsUtf8 k → IfSome o (λ d. IsReadable d × (depth d ≡ 0)) → HasReadable ms → HasReadable (put_if k o ms)
readable-put_if k None ms key one all = all
readable-put_if k (Some d) ms key one all = HasReadable-put k d ms key one.0 all

readable-with_fields : (fs : List (List ℕ × Option Data)) (ms : Members) → AllByRecursion (λ f. IsUtf8 f.0 × IfSome f.1 (λ d. IsReadable d × (depth d ≡ 0))) fs → HasReadable ms → HasReadable (with_fields fs ms)
readable-with_fields [] ms each all = all
readable-with_fields (f ∷ fs) ms each all = readable-with_fields fs (put_if f.0 f.1 ms) each.1 (readable-put_if f.0 f.1 ms each.0.0 each.0.1 all)

-- ---- the fields

counted_scalar_at : (b : Bool) (n : ℕ) → n < 2 ^ 64 → IfSome (cond b None (Some (whole_data n))) (λ d. IsReadable d × (depth d ≡ 0))
counted_scalar_at true n small = tt
counted_scalar_at false n small = (small, refl)

counted_scalar : (n : ℕ) → n < 2 ^ 64 → IfSome (counted_data n) (λ d. IsReadable d × (depth d ≡ 0))
counted_scalar n small = counted_scalar_at (n == 0) n small

text_scalar : (text : Option (List ℕ)) → IfSome text IsUtf8 → IfSome (text_data text) (λ d. IsReadable d × (depth d ≡ 0))
text_scalar None utf8 = tt
text_scalar (Some text) utf8 = (utf8, refl)

wide : (n : ℕ) → n < 2 ^ 32 → n < 2 ^ 64
wide n small = omega arith

-- the texts of times are texts
pub record AreTexts (t : TimeTexts) : Type 0 where
  pub modified : IsUtf8 t.modified
  pub accessed : IsUtf8 t.accessed
  pub changed : IsUtf8 t.changed

pub held_texts : (texts : HeldTexts) → AreTexts (texts_view texts)
held_texts texts = record {
  modified = IsUtf8-string_bytes texts.modified;
  accessed = IsUtf8-string_bytes texts.accessed;
  changed = IsUtf8-string_bytes texts.changed;
}

pub text_said : (text : Option (String Global)) → IfSome (text_view text) IsUtf8
text_said None = tt
text_said (Some text) = IsUtf8-string_bytes text

fields_scalar : (m : MembersData) (t : TimeTexts) → IsSaid m → AreTexts t → AllByRecursion (λ f. IsUtf8 f.0 × IfSome f.1 (λ d. IsReadable d × (depth d ≡ 0))) (fields m t)
fields_scalar m t h texts = (
  (IsUtf8-are_ascii _ refl, counted_scalar m.mode (wide m.mode h.mode)),
  (
    (IsUtf8-are_ascii _ refl, (texts.modified, refl)),
    (
      (IsUtf8-are_ascii _ refl, (texts.accessed, refl)),
      (
        (IsUtf8-are_ascii _ refl, (texts.changed, refl)),
        (
          (IsUtf8-are_ascii _ refl, (wide m.uid h.uid, refl)),
          (
            (IsUtf8-are_ascii _ refl, (wide m.gid h.gid, refl)),
            (
              (IsUtf8-are_ascii _ refl, text_scalar m.user h.user),
              (
                (IsUtf8-are_ascii _ refl, text_scalar m.group h.group),
                (
                  (IsUtf8-are_ascii _ refl, counted_scalar m.inode h.inode),
                  (
                    (IsUtf8-are_ascii _ refl, counted_scalar m.device_id h.device_id),
                    (
                      (IsUtf8-are_ascii _ refl, counted_scalar m.size h.size),
                      (
                        (IsUtf8-are_ascii _ refl, counted_scalar m.links h.links),
                        (
                          (IsUtf8-are_ascii _ refl, text_scalar m.link_target h.link_target),
                          ((IsUtf8-are_ascii _ refl, counted_scalar m.device h.device), tt),
                        ),
                      ),
                    ),
                  ),
                ),
              ),
            ),
          ),
        ),
      ),
    ),
  ),
)

unnamed : (m : MembersData) (t : TimeTexts) (kind : KindData) → list_all (λ f. not (list_any (λ name. bytes_eq name f.0) (own_keys kind))) (fields m t) ≡ true
unnamed m t (dir subtree) = refl
unnamed m t (file content) = refl
unnamed m t (other type_name) = refl

pub fields_stand : (m : MembersData) (t : TimeTexts) → IsSaid m → AreTexts t → StandsAnywhere (with_fields (fields m t) no_members)
fields_stand m t h texts name kind named utf8 kinded =
    let scalars = fields_scalar m t h texts in
    let free = free-with_fields (own_keys kind) (fields m t) no_members (unnamed m t kind) scalars tt in
    let flat : members_depth (with_fields (fields m t) no_members) ≡ 0 = depth-free (own_keys kind) (with_fields (fields m t) no_members) free in
    record {
      named = named;
      text = utf8;
      kind = kinded;
      carried = readable-with_fields (fields m t) no_members scalars tt;
      nests = omega (arith, flat);
      apart = others-free (own_keys kind) (with_fields (fields m t) no_members) free;
    }
