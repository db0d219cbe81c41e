-- What is due once a catalog is made.
use Rattle.std.proofs.Common.{◌≡◌, Bool, true, false, cond, List, [], Option, None, Some, Result, Ok, Err, option_map, slice_get, refl, sym, ap, ◌∙◌, ◌++◌, ◌∷◌, ℕ}
use Rattle.std.specs.List.{find}
use Rattle.keep_names.specs.declared.blob.BlobId.{BlobId}
use Rattle.keep_names.specs.declared.blob.BlobType.TheVariants.{Tree}
use Rattle.keep_names.specs.declared.id.Id.{Id}
use Rattle.keep_repo.specs.Repository.{Repository}
use Rattle.keep_catalog.specs.Files.{unread_in}
use Rattle.keep_catalog.specs.declared.unread.Unread.{Unread}
use Rattle.keep_plan.specs.Refusal.{unless, unread_first}
use Rattle.keep_plan.specs.declared.plan_error.PlanError.{PlanError}
use Rattle.keep_plan.specs.declared.plan_error.PlanError.TheVariants as the_error
use Rattle.keep_plan.specs.declared.stored.Stored.{Stored}
use Rattle.keep_plan.specs.declared.unreached.Unreached.TheVariants.{MissingBlob}
use Rattle.keep_plan.specs.Storing.{is_there}
use Rattle.keep_change.specs.NamedBytes.{NamedBytes}
use Rattle.keep_change.specs.declared.change.Change.{Change}
use Rattle.keep_backup.specs.Backup.{FactsData, bad_time, change_of, planned, tagged_file}
use Rattle.keep_build.specs.Blobs.{BlobData, id_of, is_full, tree_blob}
use Rattle.keep_build.specs.Stored.{stored_of, stored_with}
use Rattle.keep_archive.specs.Archive.{ArchiveData}
use Rattle.keep_archive.specs.Steps.{full_refusal}
use Rattle.keep_archive.specs.Plans.{has_no_place, is_idle, last_blobs, last_change, last_stored, missing_first, part_change, part_if_any, part_of, planned_of, unclosed}

pub when_read : {X : Type 0} (r : Repository) (due : Result X PlanError) → unread_in r ≡ [] → unless (unread_first r) due ≡ due
when_read r due none = ap (λ (us : List Unread). unless (option_map the_error.Unread (slice_get us 0)) due) none

unless_map : {X Y : Type 0} (f : X → Y) (o : Option PlanError) (x y : X) → unless o (Ok x) ≡ Ok y → unless o (Ok (f x)) ≡ Ok (f y)
unless_map f (Some error) x y is = cc is
unless_map f None x y is = let same : x ≡ y = cc is in ap (λ z. Ok (f z)) same

part_is : (r : Repository) (a : ArchiveData) (stored : Stored) → unless (unread_first r) (Ok (stored_of r a.blobs.held)) ≡ Ok stored → part_change r a ≡ Ok (part_if_any stored)
part_is r a stored is = unless_map part_if_any (unread_first r) (stored_of r a.blobs.held) stored is

pub part_made : (r : Repository) (a : ArchiveData) (stored : Stored) → unless (unread_first r) (Ok (stored_of r a.blobs.held)) ≡ Ok stored → is_idle stored ≡ false → part_change r a ≡ Ok (Some (part_of stored))
part_made r a stored is busy = part_is r a stored is ∙ ap (λ (t : Bool). Ok (cond t None (Some (part_of stored)))) busy

pub part_none : (r : Repository) (a : ArchiveData) (stored : Stored) → unless (unread_first r) (Ok (stored_of r a.blobs.held)) ≡ Ok stored → is_idle stored ≡ true → part_change r a ≡ Ok None
part_none r a stored is idle = part_is r a stored is ∙ ap (λ (t : Bool). Ok (cond t None (Some (part_of stored)))) idle

-- no blob is missed
pub none_of : {X : Type 0} (o : Option X) → ((x : X) → o ≡ Some x → ⊥) → o ≡ None
none_of None never = refl
none_of (Some x) never = absurd (never x refl)

-- what is left is stored
pub last_made : (r : Repository) (a : ArchiveData) (text : List ℕ) (tree : Id) (stored : Stored) → unread_in r ≡ [] → (Tree, text) ≡ tree_blob a.place.nodes
    → is_full (Tree, text) ≡ false → None ≡ find (has_no_place r) a.blobs.named → tree ≡ id_of (Tree, text)
    → stored ≡ stored_with r a.blobs.named (a.blobs.held ++ (Tree, text) ∷ []) → last_stored r a ≡ Ok (tree, stored)
last_made r a text tree stored none text_is short placed tree_is stored_is =
    let fits : is_full (tree_blob a.place.nodes) ≡ false = ap is_full (sym text_is) ∙ short in
    let name : id_of (tree_blob a.place.nodes) ≡ tree = ap id_of (sym text_is) ∙ sym tree_is in
    let whole : stored_with r a.blobs.named (last_blobs a) ≡ stored = ap (λ (b : BlobData). stored_with r a.blobs.named (a.blobs.held ++ b ∷ [])) (sym text_is) ∙ sym stored_is in
    when_read r _ none
    ∙ (λ i. unless (cond (fits i) (Some the_error.Full) None)
    (unless (option_map (λ (blob : BlobId). the_error.Reach (MissingBlob blob.id)) (sym placed i)) (Ok (name i, whole i))))

when_ok : {X : Type 0} (o : Option PlanError) (due : Result X PlanError) (made : X) → unless o due ≡ Ok made → due ≡ Ok made
when_ok (Some error) due made is = cc is
when_ok None due made is = is

-- what is stored of what is left
pub last_is : (r : Repository) (a : ArchiveData) (made : Id × Stored) → last_stored r a ≡ Ok made → stored_with r a.blobs.named (last_blobs a) ≡ made.1
last_is r a made is =
    let whole = when_ok (missing_first r a.blobs.named) _ made (when_ok (full_refusal a.place) _ made (when_ok (unread_first r) _ made is)) in
    let same : (id_of (tree_blob a.place.nodes), stored_with r a.blobs.named (last_blobs a)) ≡ made = cc whole in
    ap (λ (m : Id × Stored). m.1) same

-- what is planned of it
pub last_planned : (r : Repository) (facts : FactsData) (tags : List (List ℕ)) (a : ArchiveData) (made : Id × Stored) (file : NamedBytes) (change : Change)
    → unclosed a.place ≡ None → bad_time facts ≡ None → last_stored r a ≡ Ok made → file ≡ tagged_file facts tags made.0 → is_there r file.name ≡ false
    → change ≡ change_of made.1 file → last_change r facts tags a ≡ Ok change
last_planned r facts tags a made file change closed timed stored file_is absent change_is =
    (λ i. unless (closed i) (unless (timed i) (planned_of r facts tags (stored i))))
    ∙ ap (planned r made.1) (sym file_is)
    ∙ (λ i. cond (absent i) (Err the_error.SnapshotThere) (Ok (sym change_is i)))
