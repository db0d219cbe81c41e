-- What can stand in a document that is written: whole numbers, nested not too deep.
use Rattle.std.proofs.Common.{◌≡◌, ℕ, ◌<◌, ◌≤◌, max, Bool, true, false, ◌||◌, List, [], ◌∷◌, map, Option, None, Some, option_map, IfSome, Ordering, Less, Equal, Greater, refl, ap, arith}
use Rattle.std.specs.Cmp.Lexicographic.{slice_cmp}
use Rattle.std.specs.List.{AllByRecursion}
use Rattle.std.specs.Ordering.{nat_cmp, match_ordering}
use Rattle.serde_json.specs.Data.{Data, string, object, Members, no_members, member, put, depth, items_depth, members_depth}
use Rattle.serde_json.specs.Read.{max_depth}
use Rattle.serde_json.specs.View.{items_of}
use Rattle.serde_json.specs.Written.{has_float, items_have_float, members_have_float}
use Rattle.keep_names.specs.declared.id.Id.{Id}
use Rattle.keep_docs.specs.Fields.{id_data}
use Rattle.keep_docs.specs.Lists.{texts_data}
use Rattle.keep_docs.specs.Readable.{IsReadable}
use Rattle.keep_docs.proofs.ReadBack.{has_float-IsReadable}
use Rattle.keep_snap.specs.Shape.{IsSnap}
use Rattle.keep_snap.specs.Snap.{SnapData}
use Rattle.keep_snap.specs.Written.{CanStand, CanStandAmong, IsCarried, fields, put_if, snap_data, tags_data, text_data, with_fields}

-- ---- members

or_false : (a b : Bool) → (a || b) ≡ false → (a ≡ false) × (b ≡ false)
or_false true b e = (e, cc)
or_false false b e = (refl, e)

neither : (a b : Bool) → a ≡ false → b ≡ false → (a || b) ≡ false
neither true b e f = cc
neither false b e f = f

max_below : (a b n : ℕ) → a < n → b < n → max a b < n
max_below a b n h k = omega arith

below_max : (a b n : ℕ) → max a b < n → (a < n) × (b < n)
below_max a b n h = (omega arith, omega arith)

joined : (k : List ℕ) (d : Data) (ms : Members) → CanStand d → CanStandAmong ms → CanStandAmong (member k d ms)
joined k d ms one all = (neither (has_float d) (members_have_float ms) one.0 all.0, max_below (depth d) (members_depth ms) max_depth one.1 all.1)

parted : (k : List ℕ) (d : Data) (ms : Members) → CanStandAmong (member k d ms) → CanStand d × CanStandAmong ms
parted k d ms all =
    let whole = or_false (has_float d) (members_have_float ms) all.0 in
    let shallow = below_max (depth d) (members_depth ms) max_depth all.1 in
    ((whole.0, shallow.0), (whole.1, shallow.1))

put_at : (o : Ordering) (k l : List ℕ) (d e : Data) (ms : Members) → CanStand d → CanStandAmong (member l e ms) → CanStandAmong (put k d ms)
    → CanStandAmong (match_ordering o (member k d (member l e ms)) (member l d ms) (member l e (put k d ms)))
put_at Less k l d e ms one all later = joined k d (member l e ms) one all
put_at Equal k l d e ms one all later = joined l d ms one (parted l e ms all).1
put_at Greater k l d e ms one all later = joined l e (put k d ms) (parted l e ms all).0 later

stand-put : (k : List ℕ) (d : Data) (ms : Members) → CanStand d → CanStandAmong ms → CanStandAmong (put k d ms)
stand-put k d no_members one all = joined k d no_members one all
stand-put k d (member l e ms) one all = put_at (slice_cmp nat_cmp k l) k l d e ms one all (stand-put k d ms one (parted l e ms all).1)

stand-put_if : (k : List ℕ) (o : Option Data) (ms : Members) → IfSome o CanStand → CanStandAmong ms → CanStandAmong (put_if k o ms)
stand-put_if k None ms one all = all
stand-put_if k (Some d) ms one all = stand-put k d ms one all

stand-with_fields : (fs : List (List ℕ × Option Data)) (ms : Members) → AllByRecursion (λ f. IfSome f.1 CanStand) fs → CanStandAmong ms → CanStandAmong (with_fields fs ms)
stand-with_fields [] ms each all = all
stand-with_fields (f ∷ fs) ms each all = stand-with_fields fs (put_if f.0 f.1 ms) each.1 (stand-put_if f.0 f.1 ms each.0 all)

-- ---- what is written of a field

texts_whole : (texts : List (List ℕ)) → items_have_float (items_of (map (λ text. string text) texts)) ≡ false
texts_whole [] = refl
texts_whole (text ∷ texts) = texts_whole texts

texts_flat : (texts : List (List ℕ)) → items_depth (items_of (map (λ text. string text) texts)) ≡ 0
texts_flat [] = refl
texts_flat (text ∷ texts) = ap (max 0) (texts_flat texts)

texts_stand : (texts : List (List ℕ)) → CanStand (texts_data texts)
texts_stand texts = let flat = texts_flat texts in (texts_whole texts, omega (arith, flat))

string_stands : (text : List ℕ) → CanStand (string text)
string_stands text = (refl, omega arith)

text_stands : (text : Option (List ℕ)) → IfSome (text_data text) CanStand
text_stands None = tt
text_stands (Some text) = string_stands text

id_stands : (id : Option Id) → IfSome (option_map id_data id) CanStand
id_stands None = tt
id_stands (Some id) = (refl, omega arith)

tags_stand : (tags : List (List ℕ)) → IfSome (tags_data tags) CanStand
tags_stand [] = tt
tags_stand (tag ∷ tags) = texts_stand (tag ∷ tags)

members_stand : (s : SnapData) → IsCarried s → CanStandAmong (with_fields (fields s) s.others)
members_stand s carried =
    stand-with_fields (fields s) s.others
    (carried.dir_stands, (text_stands s.hostname, (id_stands s.original, (texts_stand s.paths, (tags_stand s.tags, (string_stands s.time, ((refl, omega arith), (text_stands s.username, tt))))))))
    carried.others_stand

-- what is written of a snapshot whose carried members can stand has no float
pub whole_from_carried : (s : SnapData) → IsCarried s → has_float (snap_data s) ≡ false
whole_from_carried s carried = (members_stand s carried).0

-- and isn't nested too deep
pub shallow_from_carried : (s : SnapData) → IsCarried s → depth (snap_data s) ≤ max_depth
shallow_from_carried s carried = let shallow = (members_stand s carried).1 in omega arith

-- what a snapshot carries that a document can hold
dir_stands : (o : Option Data) → IfSome o (λ d. IsReadable d × (depth d < max_depth)) → IfSome o CanStand
dir_stands None h = tt
dir_stands (Some d) h = (has_float-IsReadable d h.0, h.1)

pub IsCarried-IsSnap : (s : SnapData) → IsSnap s → IsCarried s
IsCarried-IsSnap s h = record {
  apart = h.apart;
  dir_stands = dir_stands s.dir h.dir;
  others_stand = (has_float-IsReadable (object s.others) h.carried, h.nests);
}
