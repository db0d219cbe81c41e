-- A mark that is planned is safe.
use Rattle.std.proofs.Common.{◌≡◌, ◌⊎◌, ◌↔◌, inl, inr, ℤ, Bool, true, false, not, ◌&&◌, List, [], ◌∷◌, map, Option, None, Some, Ok, refl, sym, ap, subst, ◌∙◌}
use Rattle.std.specs.FinMap.{get}
use Rattle.std.specs.FinSet as set
use Rattle.std.specs.List.{list_any}
use Rattle.std.specs.Option.{option_map}
use Rattle.std.specs.Ordering.{eq_by_cmp}
use Rattle.std.proofs.lemmas.Bool.{or_left, or_right}
use Rattle.keep_names.proofs.Orders.{id_total}
use Rattle.keep_names.specs.FileName.{named}
use Rattle.keep_names.specs.Laws.{TellsApart}
use Rattle.keep_names.specs.Orders.{blob_cmp, id_cmp}
use Rattle.keep_names.specs.declared.blob.BlobId.{BlobId}
use Rattle.keep_names.specs.declared.file_name.Kind.TheVariants.{Snapshot}
use Rattle.keep_names.specs.declared.id.Id.{Id}
use Rattle.keep_repo.specs.Facet.{Stored}
use Rattle.keep_repo.specs.Repository.{Repository, is_filled}
use Rattle.keep_change.specs.Filling.{asks_empty, has_name}
use Rattle.keep_change.specs.Form.{IsWellFormed}
use Rattle.keep_change.specs.NamedBytes.{NamedBytes}
use Rattle.keep_change.specs.declared.change.Change.{Change}
use Rattle.keep_catalog.proofs.Ordered.{in_order-same}
use Rattle.keep_catalog.specs.Orders.{blob_eq}
use Rattle.keep_catalog.specs.Places.{chosen_listing}
use Rattle.keep_reach.specs.Reach.{HasBlob}
use Rattle.keep_reach.specs.Snapshots.{IsUsed, Owes}
use Rattle.keep_reach.specs.Used.{used_in}
use Rattle.keep_catalog.specs.declared.spot.Spot.{Spot}
use Rattle.keep_plan.proofs.StoredFiles.{filled_there}
use Rattle.keep_plan.specs.Storing.{RecordsUse, is_there, stored_built}
use Rattle.keep_sound.specs.Careful.{IsSafe}
use Rattle.keep_sound.specs.Met.{HasOneText, IsPartOf}
use Rattle.keep_sound.specs.Plans.{MarkingIsSafe, MarksIn, Records, RecordsReuse}
use Rattle.keep_sound.specs.Standing.{file_facet}
use Rattle.keep_safety.specs.SafeMark.{MarkIsStrict}
use Rattle.keep_upkeep.specs.Mark.{gone_snapshots, mark_change, not_there, unneeded_packs}
use Rattle.keep_upkeep.proofs.MarkAsked.{gone_among}
use Rattle.keep_upkeep.proofs.MarkLists.{named_among}
use Rattle.keep_upkeep.proofs.MarkMade.{mark_of, mark_so}

-- ---- absence

-- a known snapshot that isn't there is one of those that are recorded as absent
gone_recorded : (r : Repository) (known : set.FinSet id_cmp) (snapshot : Id) → set.contains known snapshot ≡ true → is_there r (named Snapshot snapshot) ≡ false
    → has_name (map (named Snapshot) (gone_snapshots r known)) (named Snapshot snapshot) ≡ true
unfolding gone_snapshots
gone_recorded r known snapshot is_known gone =
    named_among snapshot (gone_snapshots r known)
    ∙ in_order-same id_total snapshot (not_there r (set.items known))
    ∙ gone_among r snapshot (set.items known)
    ∙ ap (λ b. not b && list_any (eq_by_cmp id_cmp snapshot) (set.items known)) gone
    ∙ sym (set.contains-items known snapshot) ∙ is_known

-- ---- uses

has_blob_any : TellsApart blob_cmp → (blobs : List BlobId) (blob : BlobId) → HasBlob blobs blob → list_any (blob_eq blob) blobs ≡ true
has_blob_any apart [] blob h = absurd h
has_blob_any apart (b ∷ blobs) blob (inl same) = or_left (blob_eq blob b) (list_any (blob_eq blob) blobs) ((apart blob b).1 (sym same))
has_blob_any apart (b ∷ blobs) blob (inr later) = or_right (blob_eq blob b) (list_any (blob_eq blob) blobs) (has_blob_any apart blobs blob later)

-- what the used blobs are, and that each use of one is recorded
abbrev pub UsedAreListed : Type 0
UsedAreListed = (r : Repository) (blob : BlobId) → HasBlob (used_in r) blob ↔ IsUsed r blob

abbrev pub UsesAreRecorded : Type 0
UsesAreRecorded =
    (r : Repository) (used : List BlobId) (built : List NamedBytes) (blob : BlobId) (place : Spot × Id)
    → list_any (blob_eq blob) used ≡ true → chosen_listing r blob ≡ Some place → RecordsUse (stored_built r used built) place

module _ (apart : TellsApart blob_cmp) (listed : UsedAreListed) (recorded : UsesAreRecorded) (r : Repository) (known : set.FinSet id_cmp) (moment : ℤ) where
  abbrev planned : Change
  planned = mark_of r known moment (unneeded_packs r)

  used : (snapshot : Id) (blob : BlobId) → Owes r snapshot blob → RecordsReuse r planned blob
  used snapshot blob owes pair is = cases (chosen_listing r blob) refl is where
    among : list_any (blob_eq blob) (used_in r) ≡ true
    among = has_blob_any apart (used_in r) blob ((listed r blob).1 (snapshot, owes))

    Recorded : Id × Id → Type 0
    Recorded p = Records planned p.0 p.1

    cases : (o : Option (Spot × Id)) → chosen_listing r blob ≡ o → option_map (λ (e : Spot × Id). (e.0.pack, e.1)) o ≡ Some pair → Recorded pair
    cases None chosen h = cc h
    cases (Some place) chosen h =
        let same : (place.0.pack, place.1) ≡ pair = cc h in
        let uses = recorded r (used_in r) [] blob place among chosen in
        subst Recorded same (record { has_pack = uses.pack; has_index = uses.index; free = uses.mark })

  absent : (snapshot : Id) → set.contains known snapshot ≡ true
      → (is_filled r (file_facet Snapshot snapshot) ≡ true) ⊎ (asks_empty planned (file_facet Snapshot snapshot) ≡ true)
  absent snapshot is_known = cases (is_there r (named Snapshot snapshot)) refl where
    cases : (b : Bool) → is_there r (named Snapshot snapshot) ≡ b → (is_filled r (file_facet Snapshot snapshot) ≡ true) ⊎ (asks_empty planned (file_facet Snapshot snapshot) ≡ true)
    cases true there = inl (filled_there Stored (get r.files (named Snapshot snapshot)) ∙ there)
    cases false gone = inr (gone_recorded r known snapshot is_known gone)

  marks_in : MarksIn r (set.contains known) planned
  marks_in = record { no_adds = refl; no_drops = refl; absent = absent; used = used }

  pub mark_safe : ((c : Change) → mark_change r known moment ≡ Ok c → IsWellFormed c) → MarkingIsSafe
      → (all : Repository) (c : Change) → mark_change r known moment ≡ Ok c → HasOneText all → IsPartOf r all → IsSafe all (set.contains known) c
  mark_safe well law all c is one part =
      mark_so r known moment (λ d. mark_change r known moment ≡ Ok d → IsSafe all (set.contains known) d)
      (λ whole some now. law r all (set.contains known) planned one (well planned now).once part whole marks_in) c is is

pub mark_strict : MarkIsStrict
mark_strict r known moment c is = mark_so r known moment (λ d. d.strict ≡ true) (λ whole some. refl) c is
