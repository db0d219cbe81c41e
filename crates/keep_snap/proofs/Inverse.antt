-- What is read as a snapshot is one that a document can hold.
use Rattle.std.proofs.Common.{◌≡◌, ℕ, ◌<◌, ◌≤◌, All, Bool, true, false, cond, List, [], ◌∷◌, Option, None, Some, option_map, option_and_then, ok_or, Result, Ok, Err, IfOk, IfSome, IsSome, IsUtf8, codes, refl, sym, subst, arith}
use Rattle.std.proofs.lemmas.List.Elements.{All-from_recursion}
use Rattle.std.proofs.lemmas.Option.{option_and_then_some, same_Some}
use Rattle.std.specs.List.{AllByRecursion}
use Rattle.std.specs.Option.{is_none, is_some}
use Rattle.serde_json.specs.Data.{Data, depth, members_depth}
use Rattle.serde_json.specs.Find.{as_str, get}
use Rattle.serde_json.specs.Read.{max_depth}
use Rattle.keep_names.specs.Id.{IsDigest}
use Rattle.keep_names.specs.declared.id.Id.{Id}
use Rattle.keep_docs.specs.Doc.{Answers, doc_of, shaped}
use Rattle.keep_docs.specs.Fields.{as_id, as_list, field, if_there, list_field, optional, other_members}
use Rattle.keep_docs.specs.Lists.{texts_in}
use Rattle.keep_docs.specs.Readable.{IsReadable}
use Rattle.keep_docs.specs.declared.doc.DocError.{DocError}
use Rattle.keep_docs.specs.declared.doc.DocError.TheVariants.{Memory}
use Rattle.keep_docs.proofs.Answered.{found_from_ok}
use Rattle.keep_docs.proofs.Parts.{HasReadable-other_members, IsDigest-as_id, IsDigest-field, IsReadable-get, IsUtf8-as_str, IsUtf8-field, depth-get, depth-other_members}
use Rattle.keep_docs.proofs.Parts.{each_read, map_parts, others-other_members, readable-list, readable-list_field, then_parts}
use Rattle.keep_docs.proofs.Reading.{document-doc_of}
use Rattle.keep_snap.specs.Shape.{IsSnap}
use Rattle.keep_snap.specs.Snap.{SnapData, named, paths_in, shape_of, snap_in, snap_of, snap_view, tags_in, timed}
use Rattle.keep_snap.specs.Time.{time_in}
use Rattle.keep_snap.specs.declared.snap.Snap.{Snap}
use Rattle.keep_snap.specs.declared.snap.SnapError.{SnapError}
use Rattle.keep_snap.specs.declared.snap.SnapError.TheVariants.{BadSnapshot, BadTime, Doc}

-- ---- fields

texts_utf8 : (vs : List Data) (texts : List (List ℕ)) → AllByRecursion IsReadable vs → texts_in vs ≡ Some texts → All IsUtf8 texts
texts_utf8 vs texts h e = All-from_recursion IsUtf8 texts (each_read IsReadable IsUtf8 as_str IsUtf8-as_str vs texts h e)

paths_at : (b : Bool) (d : Data) (paths : List (List ℕ)) → IsReadable d
    → cond b (option_map (λ dir. dir ∷ []) (field (codes "dir") as_str d)) (option_and_then texts_in (field (codes "paths") as_list d)) ≡ Some paths → All IsUtf8 paths
paths_at true d paths readable e =
    let parts = map_parts (field (codes "dir") as_str d) (λ dir. dir ∷ []) paths e in
    subst (All IsUtf8) parts.2 (All-from_recursion IsUtf8 (parts.0 ∷ []) (IsUtf8-field (codes "dir") d parts.0 readable parts.1, tt))
paths_at false d paths readable e =
    let parts = then_parts (field (codes "paths") as_list d) texts_in paths e in
    let found = then_parts (get (codes "paths") d) as_list parts.0 parts.1 in
    texts_utf8 parts.0 paths (readable-list found.0 parts.0 (IsReadable-get (codes "paths") d found.0 readable found.1) found.2) parts.2

paths_utf8 : (d : Data) (paths : List (List ℕ)) → IsReadable d → paths_in d ≡ Some paths → All IsUtf8 paths
paths_utf8 d paths readable e = paths_at (is_none (get (codes "paths") d)) d paths readable e

tags_utf8 : (d : Data) (tags : List (List ℕ)) → IsReadable d → tags_in d ≡ Some tags → All IsUtf8 tags
tags_utf8 d tags readable e =
    let parts = then_parts (list_field (codes "tags") d) texts_in tags e in
    texts_utf8 parts.0 tags (readable-list_field (codes "tags") d parts.0 readable parts.1) parts.2

text_there : (o : Option Data) (text : Option (List ℕ)) → ((x : Data) → o ≡ Some x → IsReadable x) → if_there as_str o ≡ Some text → IfSome text IsUtf8
text_there None text h e = let same : None ≡ text = cc in subst (λ t. IfSome t IsUtf8) same tt
text_there (Some x) text h e =
    let parts = map_parts (as_str x) (λ v. Some v) text e in
    subst (λ t. IfSome t IsUtf8) parts.2 (IsUtf8-as_str x parts.0 (h x refl) parts.1)

text_utf8 : (k : List ℕ) (d : Data) (text : Option (List ℕ)) → IsReadable d → optional k as_str d ≡ Some text → IfSome text IsUtf8
text_utf8 k d text readable e = text_there (get k d) text (λ x is. IsReadable-get k d x readable is) e

id_there : (o : Option Data) (id : Option Id) → if_there as_id o ≡ Some id → IfSome id IsDigest
id_there None id e = let same : None ≡ id = cc in subst (λ t. IfSome t IsDigest) same tt
id_there (Some x) id e =
    let parts = map_parts (as_id x) (λ v. Some v) id e in
    subst (λ t. IfSome t IsDigest) parts.2 (IsDigest-as_id x parts.0 parts.1)

-- a value at a key, readable and nested less than its document
abbrev IsMember : Data → Type 0
IsMember d = IsReadable d × (depth d < max_depth)

if_member : (o : Option Data) → ((x : Data) → o ≡ Some x → IsMember x) → IfSome o IsMember
if_member None h = tt
if_member (Some x) h = h x refl

member_at : (k : List ℕ) (d : Data) → IsReadable d → depth d ≤ 127 → IfSome (get k d) IsMember
member_at k d readable nests =
    if_member (get k d) (λ x is. let low : depth x ≤ 126 = depth-get k d x 126 nests is in (IsReadable-get k d x readable is, omega arith))

-- ---- snapshots

made_whole : (d : Data) (s : SnapData) → IsReadable d → depth d ≤ 127 → IsSome (time_in s.time) → snap_in d ≡ Some s → IsSnap s
made_whole d s readable nests is_time e =
    option_and_then_some _ (field (codes "time") as_str d) s e (λ time has_time e1.
    option_and_then_some _ (field (codes "tree") as_id d) s e1 (λ tree has_tree e2.
    option_and_then_some _ (paths_in d) s e2 (λ paths has_paths e3.
    option_and_then_some _ (optional (codes "hostname") as_str d) s e3 (λ hostname has_hostname e4.
    option_and_then_some _ (optional (codes "username") as_str d) s e4 (λ username has_username e5.
    option_and_then_some _ (tags_in d) s e5 (λ tags has_tags e6.
    option_and_then_some _ (optional (codes "original") as_id d) s e6 (λ original has_original e7.
    let same = same_Some _ s e7 in
    let low : members_depth (other_members named d) ≤ 126 = depth-other_members named d 126 nests in
    subst IsSnap same (record {
      timed = subst (λ (x : SnapData). IsSome (time_in x.time)) (sym same) is_time;
      time = IsUtf8-field (codes "time") d time readable has_time;
      tree = IsDigest-field (codes "tree") d tree has_tree;
      paths = paths_utf8 d paths readable has_paths;
      hostname = text_utf8 (codes "hostname") d hostname readable has_hostname;
      username = text_utf8 (codes "username") d username readable has_username;
      tags = tags_utf8 d tags readable has_tags;
      original = id_there (get (codes "original") d) original has_original;
      dir = member_at (codes "dir") d readable nests;
      carried = HasReadable-other_members named d readable;
      nests = omega arith;
      apart = others-other_members named d;
    }))))))))

of_document : (bytes : List ℕ) (s : SnapData) (r : Result Data DocError) → doc_of bytes ≡ r → IsSome (time_in s.time)
    → shaped Doc (λ d. ok_or (snap_in d) BadSnapshot) r ≡ Ok s → IsSnap s
of_document bytes s (Ok d) is is_time e =
    let document = document-doc_of bytes d is in
    made_whole d s document.0 document.1 is_time (found_from_ok (snap_in d) BadSnapshot s e)
of_document bytes s (Err x) is is_time e = cc

timed_at : (x s : SnapData) (b : Bool) → is_some (time_in x.time) ≡ b → cond b (Ok x) (Err BadTime) ≡ Ok s → (x ≡ s) × IsSome (time_in x.time)
timed_at x s true is e = (cc, is)
timed_at x s false is e = cc

of_shape : (bytes : List ℕ) (r : Result SnapData SnapError) (s : SnapData) → shape_of bytes ≡ r → timed r ≡ Ok s → IsSnap s
of_shape bytes (Ok x) s is e =
    let parts = timed_at x s (is_some (time_in x.time)) refl e in
    subst IsSnap parts.0 (of_document bytes x (doc_of bytes) refl parts.1 is)
of_shape bytes (Err x) s is e = cc

-- what is read of any bytes
pub IsSnap-snap_of : (bytes : List ℕ) (s : SnapData) → snap_of bytes ≡ Ok s → IsSnap s
IsSnap-snap_of bytes s e = of_shape bytes (shape_of bytes) s refl e

-- and so an answer is
pub answer_is_snap : (r : Result Snap SnapError) (bytes : List ℕ) → Answers (Doc Memory) snap_view (snap_of bytes) r → IfOk r (λ snap. IsSnap (snap_view snap))
answer_is_snap (Ok snap) bytes due = IsSnap-snap_of bytes (snap_view snap) due
answer_is_snap (Err e) bytes due = tt
