-- The document of a snapshot, read back.
use Rattle.std.proofs.Common.{◌≡◌, ℕ, ◌<◌, ◌≤◌, All, IsUtf8, Bool, true, false, cond, List, [], ◌∷◌, map, Option, None, Some, option_map, option_and_then, IfSome, Ok, Err, ok_or, Ordering, Less, Equal, Greater, codes, refl, sym, ap, ◌∙◌, subst}
use Rattle.std.proofs.lemmas.Bool.{and_parts}
use Rattle.std.proofs.lemmas.List.Elements.{recursion_from_All}
use Rattle.std.proofs.lemmas.Map.Text.{is_eq-slice_cmp}
use Rattle.std.proofs.lemmas.Slice.Eq.{bytes_eq-Decides}
use Rattle.std.specs.Cmp.Lexicographic.{slice_cmp}
use Rattle.std.specs.List.{AllByRecursion, list_all, list_any}
use Rattle.std.specs.Option.{option_or}
use Rattle.std.specs.Ordering.{nat_cmp, match_ordering, is_eq}
use Rattle.std.specs.Str.{bytes_eq}
use Rattle.json.proofs.Printed.Utf8.{IsUtf8-are_ascii}
use Rattle.serde_json.specs.Data.{Data, string, Members, no_members, member, depth}
use Rattle.serde_json.specs.Find.{as_str, get, get_member}
use Rattle.serde_json.specs.Read.{max_depth}
use Rattle.serde_json.specs.Written.{compact_text, has_float}
use Rattle.keep_names.specs.Id.{IsDigest}
use Rattle.keep_names.specs.declared.id.Id.{Id}
use Rattle.keep_docs.specs.Doc.{doc_of, shaped}
use Rattle.keep_docs.specs.Fields.{as_id, as_list_or_null, field, id_data, if_there, optional, or_null, other_members, others}
use Rattle.keep_docs.specs.Lists.{texts_data, texts_in}
use Rattle.keep_docs.specs.Readable.{HasReadable, IsReadable}
use Rattle.keep_docs.proofs.Built.{HasReadable-put, IsReadable-id_data, IsReadable-list_data, as_id-id_data, get_member-put_at, others-put, values_of-items_of}
use Rattle.keep_docs.proofs.ReadBack.{doc_of-compact_text}
use Rattle.keep_snap.proofs.Standing.{IsCarried-IsSnap, shallow_from_carried, whole_from_carried}
use Rattle.keep_snap.specs.Shape.{IsSnap}
use Rattle.keep_snap.specs.Snap.{SnapData, named, paths_in, snap_in, snap_of, tags_in, timed}
use Rattle.keep_snap.specs.Written.{IsCarried, fields, put_if, snap_data, tags_data, text_data, with_fields}
use Rattle.keep_snap.specs.declared.snap.SnapError.TheVariants.{BadSnapshot, BadTime, Doc}

-- ---- the other members have no key of a field

abbrev IsNamed : List ℕ → Bool
IsNamed k = list_any (λ name. bytes_eq name k) named

lack_at : (o : Ordering) (q k : List ℕ) (d : Data) (rest : Members) → slice_cmp nat_cmp q k ≡ o → IsNamed q ≡ true → IsNamed k ≡ false → get_member q rest ≡ None
    → match_ordering o (get_member q rest) (Some d) (get_member q rest) ≡ None
lack_at Less q k d rest is in_it out none = none
lack_at Equal q k d rest is in_it out none =
    let same : q ≡ k = (bytes_eq-Decides q k).0 (sym (is_eq-slice_cmp q k) ∙ ap is_eq is) in
    let no : IsNamed q ≡ false = ap IsNamed same ∙ out in
    cc
lack_at Greater q k d rest is in_it out none = none

lack_either : (b : Bool) (q k : List ℕ) (d : Data) (rest : Members) → IsNamed k ≡ b → IsNamed q ≡ true → get_member q rest ≡ None → get_member q (cond b rest (member k d rest)) ≡ None
lack_either true q k d rest is in_it none = none
lack_either false q k d rest is in_it none = lack_at (slice_cmp nat_cmp q k) q k d rest refl in_it is none

lack : (q : List ℕ) (ms : Members) → IsNamed q ≡ true → get_member q (others named ms) ≡ None
lack q no_members in_it = refl
lack q (member k d ms) in_it = lack_either (IsNamed k) q k d (others named ms) refl in_it (lack q ms in_it)

-- ---- the members of fields

cond_same : {A : Type 0} (b : Bool) (x : A) → x ≡ cond b x x
cond_same true x = refl
cond_same false x = refl

or_none : {A : Type 0} (o : Option A) → option_or o None ≡ o
or_none None = refl
or_none (Some x) = refl

get-put_if : (q k : List ℕ) (o : Option Data) (ms : Members) → get_member q (put_if k o ms) ≡ cond (bytes_eq q k) (option_or o (get_member q ms)) (get_member q ms)
get-put_if q k None ms = cond_same (bytes_eq q k) (get_member q ms)
get-put_if q k (Some d) ms = get_member-put_at q k d ms

-- what the fields, one after the other, leave at a key
abbrev found_in : List ℕ → List (List ℕ × Option Data) → Option Data → Option Data
found_in q [] found = found
found_in q (f ∷ fs) found = found_in q fs (cond (bytes_eq q f.0) (option_or f.1 found) found)

get-with_fields : (q : List ℕ) (fs : List (List ℕ × Option Data)) (ms : Members) → get_member q (with_fields fs ms) ≡ found_in q fs (get_member q ms)
get-with_fields q [] ms = refl
get-with_fields q (f ∷ fs) ms = get-with_fields q fs (put_if f.0 f.1 ms) ∙ ap (found_in q fs) (get-put_if q f.0 f.1 ms)

others-put_if : (k : List ℕ) (o : Option Data) (ms : Members) → IsNamed k ≡ true → others named (put_if k o ms) ≡ others named ms
others-put_if k None ms in_it = refl
others-put_if k (Some d) ms in_it = others-put named k d ms in_it

others-with_fields : (fs : List (List ℕ × Option Data)) (ms : Members) → list_all (λ f. IsNamed f.0) fs ≡ true → others named (with_fields fs ms) ≡ others named ms
others-with_fields [] ms all = refl
others-with_fields (f ∷ fs) ms all =
    let parts = and_parts (IsNamed f.0) (list_all (λ (g : List ℕ × Option Data). IsNamed g.0) fs) all in
    others-with_fields fs (put_if f.0 f.1 ms) parts.1 ∙ others-put_if f.0 f.1 ms parts.0

-- ---- each field read back

texts_back : (texts : List (List ℕ)) → texts_in (map (λ text. string text) texts) ≡ Some texts
texts_back [] = refl
texts_back (text ∷ texts) = rw (texts_back texts)

paths_back : (d : Data) (paths : List (List ℕ)) → get (codes "paths") d ≡ Some (texts_data paths) → paths_in d ≡ Some paths
paths_back d paths e = rw e (ap texts_in (values_of-items_of (map (λ text. string text) paths)) ∙ texts_back paths)

text_back : (text : Option (List ℕ)) → if_there as_str (text_data text) ≡ Some text
text_back None = refl
text_back (Some text) = refl

tags_back : (tags : List (List ℕ)) → option_and_then texts_in (as_list_or_null (or_null (tags_data tags))) ≡ Some tags
tags_back [] = refl
tags_back (tag ∷ tags) = ap texts_in (values_of-items_of (map (λ text. string text) (tag ∷ tags))) ∙ texts_back (tag ∷ tags)

original_back : (original : Option Id) → IfSome original IsDigest → if_there as_id (option_map id_data original) ≡ Some original
original_back None h = refl
original_back (Some id) h = ap (option_map (λ v. Some v)) (as_id-id_data id h)

-- what reads back field by field is the snapshot
assembled : (d : Data) (s : SnapData) → field (codes "time") as_str d ≡ Some s.time → field (codes "tree") as_id d ≡ Some s.tree → paths_in d ≡ Some s.paths
    → optional (codes "hostname") as_str d ≡ Some s.hostname → optional (codes "username") as_str d ≡ Some s.username → tags_in d ≡ Some s.tags
    → optional (codes "original") as_id d ≡ Some s.original → get (codes "dir") d ≡ s.dir → other_members named d ≡ s.others → snap_in d ≡ Some s
assembled d s time tree paths hostname username tags original dir rest = rw (time, tree, paths, hostname, username, tags, original, dir, rest)

pub snap_back : (s : SnapData) → IsDigest s.tree → IfSome s.original IsDigest → others named s.others ≡ s.others → snap_in (snap_data s) ≡ Some s
snap_back s tree_is original_is apart =
    let at = λ (q : List ℕ). get-with_fields q (fields s) s.others in
    let none = λ (q : List ℕ) (in_it : IsNamed q ≡ true). ap (get_member q) (sym apart) ∙ lack q s.others in_it in
    let dir = at (codes "dir") ∙ ap (option_or s.dir) (none (codes "dir") refl) ∙ or_none s.dir in
    let hostname = at (codes "hostname") ∙ ap (option_or (text_data s.hostname)) (none (codes "hostname") refl) ∙ or_none (text_data s.hostname) in
    let original = at (codes "original") ∙ ap (option_or (option_map id_data s.original)) (none (codes "original") refl) ∙ or_none (option_map id_data s.original) in
    let tags = at (codes "tags") ∙ ap (option_or (tags_data s.tags)) (none (codes "tags") refl) ∙ or_none (tags_data s.tags) in
    let username = at (codes "username") ∙ ap (option_or (text_data s.username)) (none (codes "username") refl) ∙ or_none (text_data s.username) in
    assembled (snap_data s) s (ap (option_and_then as_str) (at (codes "time"))) (ap (option_and_then as_id) (at (codes "tree")) ∙ as_id-id_data s.tree tree_is)
    (paths_back (snap_data s) s.paths (at (codes "paths"))) (ap (if_there as_str) hostname ∙ text_back s.hostname) (ap (if_there as_str) username ∙ text_back s.username)
    (ap (λ o. option_and_then texts_in (as_list_or_null (or_null o))) tags ∙ tags_back s.tags) (ap (if_there as_id) original ∙ original_back s.original original_is) dir
    (others-with_fields (fields s) s.others refl ∙ apart)

-- ---- what is written is readable

readable-put_if : (k : List ℕ) (o : Option Data) (ms : Members) → IsUtf8 k → IfSome o IsReadable → HasReadable ms → HasReadable (put_if k o ms)
readable-put_if k None ms text one all = all
readable-put_if k (Some d) ms text one all = HasReadable-put k d ms text one all

-- a field that can be read
abbrev IsField : List ℕ × Option Data → Type 0
IsField f = IsUtf8 f.0 × IfSome f.1 IsReadable

readable-with_fields : (fs : List (List ℕ × Option Data)) (ms : Members) → AllByRecursion IsField fs → HasReadable ms → HasReadable (with_fields fs ms)
readable-with_fields [] ms each all = all
readable-with_fields (f ∷ fs) ms each all = readable-with_fields fs (put_if f.0 f.1 ms) each.1 (readable-put_if f.0 f.1 ms each.0.0 each.0.1 all)

strings_readable : (texts : List (List ℕ)) → AllByRecursion IsUtf8 texts → AllByRecursion IsReadable (map (λ text. string text) texts)
strings_readable [] h = tt
strings_readable (text ∷ texts) h = (h.0, strings_readable texts h.1)

texts_readable : (texts : List (List ℕ)) → All IsUtf8 texts → IsReadable (texts_data texts)
texts_readable texts h = IsReadable-list_data (map (λ text. string text) texts) (strings_readable texts (recursion_from_All IsUtf8 texts h))

tags_readable : (tags : List (List ℕ)) → All IsUtf8 tags → IfSome (tags_data tags) IsReadable
tags_readable [] h = tt
tags_readable (tag ∷ tags) h = texts_readable (tag ∷ tags) h

text_readable : (text : Option (List ℕ)) → IfSome text IsUtf8 → IfSome (text_data text) IsReadable
text_readable None h = tt
text_readable (Some text) h = h

id_readable : (id : Option Id) → IfSome (option_map id_data id) IsReadable
id_readable None = tt
id_readable (Some id) = IsReadable-id_data id

dir_readable : (o : Option Data) → IfSome o (λ d. IsReadable d × (depth d < max_depth)) → IfSome o IsReadable
dir_readable None h = tt
dir_readable (Some d) h = h.0

IsReadable-snap_data : (s : SnapData) → IsSnap s → IsReadable (snap_data s)
IsReadable-snap_data s h =
    readable-with_fields (fields s) s.others (
      (IsUtf8-are_ascii _ refl, dir_readable s.dir h.dir),
      (
        (IsUtf8-are_ascii _ refl, text_readable s.hostname h.hostname),
        (
          (IsUtf8-are_ascii _ refl, id_readable s.original),
          (
            (IsUtf8-are_ascii _ refl, texts_readable s.paths h.paths),
            (
              (IsUtf8-are_ascii _ refl, tags_readable s.tags h.tags),
              (
                (IsUtf8-are_ascii _ refl, h.time),
                ((IsUtf8-are_ascii _ refl, IsReadable-id_data s.tree), ((IsUtf8-are_ascii _ refl, text_readable s.username h.username), tt)),
              ),
            ),
          ),
        ),
      ),
    )
    h.carried

-- ---- and is read back

of_document : (bytes : List ℕ) (s : SnapData) → doc_of bytes ≡ Ok (snap_data s) → IsSnap s → snap_of bytes ≡ Ok s
of_document bytes s document h =
    ap (λ r. timed (shaped Doc (λ e. ok_or (snap_in e) BadSnapshot) r)) document
    ∙ ap (λ o. timed (ok_or o BadSnapshot)) (snap_back s h.tree h.original h.apart)
    ∙ ap (λ b. cond b (Ok s) (Err BadTime)) h.timed

pub snap_of-compact_text : (s : SnapData) → IsSnap s → snap_of (compact_text (snap_data s)) ≡ Ok s
snap_of-compact_text s h =
    of_document (compact_text (snap_data s)) s
    (doc_of-compact_text (snap_data s) (IsReadable-snap_data s h) (shallow_from_carried s (IsCarried-IsSnap s h))) h

-- a text that is a snapshot's document is read as the snapshot
pub written_back : (bytes : List ℕ) (d : Data) (s : SnapData) → d ≡ snap_data s → (has_float d ≡ false → depth d ≤ max_depth → doc_of bytes ≡ Ok d) → IsSnap s → snap_of bytes ≡ Ok s
written_back bytes d s is back h =
    let P : Data → Type 0 = λ e. has_float e ≡ false → depth e ≤ max_depth → doc_of bytes ≡ Ok e in
    let carried = IsCarried-IsSnap s h in
    of_document bytes s (subst P is back (whole_from_carried s carried) (shallow_from_carried s carried)) h

-- and it is just that document
pub written_text : (bytes : List ℕ) (d : Data) (s : SnapData) → d ≡ snap_data s → (has_float d ≡ false → bytes ≡ compact_text d) → IsCarried s → bytes ≡ compact_text (snap_data s)
written_text bytes d s is text carried =
    let P : Data → Type 0 = λ e. has_float e ≡ false → bytes ≡ compact_text e in
    subst P is text (whole_from_carried s carried)
