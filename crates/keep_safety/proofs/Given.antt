-- Each blob that is stored is given.
use Rattle.std.proofs.Common.{◌≡◌, inl, inr, Bool, true, false, ◌||◌, cond, List, [], ◌∷◌, ◌++◌, map, filter, All, Some, is_some, ℕ, zero, suc, refl, sym, ap, subst, ◌∙◌}
use Rattle.std.proofs.lemmas.Bool.{or_left, or_right}
use Rattle.std.proofs.lemmas.List.Elements.{recursion_from_All}
use Rattle.std.specs.Cmp.{tied_itself}
use Rattle.std.specs.List.{AllByRecursion, list_any, slice_get}
use Rattle.std.specs.Option.{option_map}
use Rattle.std.specs.Ordering.{eq_by_cmp, is_eq}
use Rattle.keep_names.specs.FileName.{named}
use Rattle.keep_names.specs.Orders.{id_cmp, name_cmp}
use Rattle.keep_names.specs.contracts.file_name.KindOrd.TheImpl.Laws as the_kind_laws
use Rattle.keep_names.specs.declared.blob.BlobId.{BlobId}
use Rattle.keep_names.specs.declared.file_name.FileName.{FileName}
use Rattle.keep_names.specs.declared.file_name.Kind.TheVariants.{Index, Pack}
use Rattle.keep_names.specs.declared.id.Id.{Id}
use Rattle.keep_repo.specs.Kinds.{ids_among, kind_eq}
use Rattle.keep_repo.specs.Repository.{Repository}
use Rattle.keep_repo.specs.declared.facet.Facet.TheVariants.{File, Mark}
use Rattle.keep_change.specs.Filling.{has_name, has_pack, leaves_empty, leaves_filled}
use Rattle.keep_change.specs.Lists.{file_names, marked_packs}
use Rattle.keep_change.specs.NamedBytes.{NamedBytes}
use Rattle.keep_change.specs.declared.change.Change.{Change}
use Rattle.keep_index.specs.Reading as index_reading
use Rattle.keep_catalog.specs.Orders.{blob_eq}
use Rattle.keep_catalog.specs.Places.{chosen_listing}
use Rattle.keep_catalog.specs.declared.spot.Spot.{Spot}
use Rattle.keep_plan.specs.Storing.{RecordsUse, StoresBuilt, packs_among}
use Rattle.keep_sound.specs.Careful.{GivesPlace}
use Rattle.keep_sound.specs.Met.{IsIn, IsPartOf}
use Rattle.keep_sound.specs.Plans.{Records, RecordsReuse}
use Rattle.keep_sound.specs.Standing.{file_facet}
use Rattle.keep_build.specs.Blobs.{BlobData, blob_id_of, is_full, names_once}
use Rattle.keep_safety.specs.Kept.{IsKept, is_built}
use Rattle.keep_safety.specs.SafeBackup.{StoringGives, Takes}
use Rattle.keep_build.specs.Stored.{built, index_file, pack_file, pack_listed, packs_and_index, packs_built, stored_of}
use Rattle.keep_safety.proofs.Entries.{HasSpot, IsBuilt, index_bytes, index_name, pack_name, spot_in}
use Rattle.keep_safety.proofs.KeptBlobs.{kept_so}
use Rattle.keep_safety.proofs.Known.{Known}
use Rattle.keep_safety.proofs.Packed.{IsPackable, fits_all, packs_packable}
use Rattle.keep_safety.proofs.Positions.{Found, found, one_at}

-- ---- the files that are built

-- where there is a pack, there are packs and an index
with_index : (packs : List (List BlobData)) (k : ℕ) (pack : List BlobData) → slice_get packs k ≡ Some pack → packs_and_index packs ≡ map pack_file packs ++ index_file packs ∷ []
with_index [] k pack here = cc here
with_index (p ∷ ps) k pack here = refl

-- what is made of the elements of a list, with one more behind
module _ {X Y : Type 0} (f : X → Y) (y : Y) where
  each_front : (P : Y → Type 0) (xs : List X) → AllByRecursion P (map f xs ++ y ∷ []) → AllByRecursion (λ x. P (f x)) xs
  each_front P [] all = tt
  each_front P (x ∷ xs) all = (all.0, each_front P xs all.1)

  last_one : (P : Y → Type 0) (xs : List X) → AllByRecursion P (map f xs ++ y ∷ []) → P y
  last_one P [] all = all.0
  last_one P (x ∷ xs) all = last_one P xs all.1

  module _ {Z : Type 0} (g : Y → Z) (test : Z → Bool) where
    -- a test of what is made of an element finds it, and one of what is made of the last
    any_front : (xs : List X) (k : ℕ) (x : X) → slice_get xs k ≡ Some x → test (g (f x)) ≡ true → list_any test (map g (map f xs ++ y ∷ [])) ≡ true
    any_front [] k x here is = cc here
    any_front (z ∷ zs) zero x here is =
        let same : z ≡ x = cc here in
        or_left (test (g (f z))) (list_any test (map g (map f zs ++ y ∷ []))) (ap (λ w. test (g (f w))) same ∙ is)
    any_front (z ∷ zs) (suc k) x here is = or_right (test (g (f z))) (list_any test (map g (map f zs ++ y ∷ []))) (any_front zs k x here is)

    any_last : (xs : List X) → test (g y) ≡ true → list_any test (map g (map f xs ++ y ∷ [])) ≡ true
    any_last [] is = or_left (test (g y)) false is
    any_last (x ∷ xs) is = or_right (test (g (f x))) (list_any test (map g (map f xs ++ y ∷ []))) (any_last xs is)

-- a pack whose name is among names is among their packs
module _ (known : Known) (id : Id) where
  same_pack : kind_eq Pack Pack ≡ true
  same_pack = the_kind_laws.matches_eq-law Pack Pack ∙ ap is_eq (tied_itself the_kind_laws.total-law Pack)

  pack_among : (names : List FileName) → has_name names (named Pack id) ≡ true → has_pack (ids_among Pack names) id ≡ true
  pack_among [] h = cc h
  pack_among (n ∷ ns) h = cases (pack_among ns) (eq_by_cmp name_cmp (named Pack id) n) refl h (kind_eq n.kind Pack) refl where
    others : List FileName
    others = filter (λ (m : FileName). kind_eq m.kind Pack) ns

    cases : (has_name ns (named Pack id) ≡ true → has_pack (ids_among Pack ns) id ≡ true) → (t : Bool) → eq_by_cmp name_cmp (named Pack id) n ≡ t → (t || has_name ns (named Pack id)) ≡ true
        → (b : Bool) → kind_eq n.kind Pack ≡ b → has_pack (map (λ (m : FileName). m.id) (cond b (n ∷ others) others)) id ≡ true
    cases later true same _ true is =
        let named_so : named Pack id ≡ n = (known.names (named Pack id) n).0 same in
        or_left (eq_by_cmp id_cmp id n.id) (has_pack (map (λ (m : FileName). m.id) others) id) ((known.ids id n.id).1 (ap (λ (m : FileName). m.id) named_so))
    cases later true same _ false other =
        let named_so : named Pack id ≡ n = (known.names (named Pack id) n).0 same in
        let is : kind_eq n.kind Pack ≡ true = ap (λ (m : FileName). kind_eq m.kind Pack) (sym named_so) ∙ same_pack in
        absurd (cc (is, other))
    cases later false apart rest true is = or_right (eq_by_cmp id_cmp id n.id) (has_pack (map (λ (m : FileName). m.id) others) id) (later rest)
    cases later false apart rest false other = later rest

-- ---- what the change has of them

-- one of two holds where one of two others does
either_of : (a b x y : Bool) → (a ≡ true → x ≡ true) → (b ≡ true → y ≡ true) → (a || b) ≡ true → (x || y) ≡ true
either_of true b x y f g h = or_left x y (f refl)
either_of false b x y f g h = or_right x y (g h)

-- what is stored settles the built files
stored_settles : Known → (r : Repository) (blobs : List BlobData) → StoresBuilt (built r blobs) (stored_of r blobs)
unfolding stored_of
stored_settles known r blobs = known.settles r (names_once blobs) (built r blobs)

module _ (known : Known) (r all : Repository) (blobs : List BlobData) (c : Change) (takes : Takes c (stored_of r blobs)) where
  -- each built file is there after the change
  file_left : (name : FileName) → has_name (file_names (built r blobs)) name ≡ true → leaves_filled c (File name) ≡ true
  file_left name among =
      either_of (has_name (file_names (stored_of r blobs).adds) name) (has_name (stored_of r blobs).present name) (has_name (file_names c.adds) name) (has_name c.present name)
      (takes.adds name) (takes.present name) ((stored_settles known r blobs).files name among)

  -- and each pack is without a mark
  pack_left : (pack : Id) → has_pack (packs_among (built r blobs)) pack ≡ true → leaves_empty c (Mark pack) ≡ true
  pack_left pack among =
      either_of (has_pack (marked_packs (stored_of r blobs).clears) pack) (has_pack (stored_of r blobs).unmarked pack) (has_pack (marked_packs c.clears) pack) (has_pack c.unmarked pack)
      (takes.clears pack) (takes.unmarked pack) ((stored_settles known r blobs).packs pack among)

  -- ---- a blob that is used where it is

  module _ (part : IsPartOf r all) (name : BlobId) (place : Spot × Id) (chosen : chosen_listing r name ≡ Some place) (use_is : RecordsUse (stored_of r blobs) place) where
    place_recorded : Records c place.0.pack place.1
    place_recorded = record {
      has_pack = or_right (has_name (file_names c.adds) (named Pack place.0.pack)) (has_name c.present (named Pack place.0.pack)) (takes.present (named Pack place.0.pack) use_is.pack);
      has_index = or_right (has_name (file_names c.adds) (named Index place.1)) (has_name c.present (named Index place.1)) (takes.present (named Index place.1) use_is.index);
      free = or_right (has_pack (marked_packs c.clears) place.0.pack) (has_pack c.unmarked place.0.pack) (takes.unmarked place.0.pack use_is.mark);
    }

    -- all that the use of the blob rests on
    recorded : RecordsReuse r c name
    recorded pair is =
        let some : Some (place.0.pack, place.1) ≡ Some pair = sym (ap (option_map (λ (e : Spot × Id). (e.0.pack, e.1))) chosen) ∙ is in
        let same : (place.0.pack, place.1) ≡ pair = cc some in
        subst (λ (p : Id × Id). Records c p.0 p.1) same place_recorded

    used_given : GivesPlace all c name
    used_given = known.reused r all c name part (ap is_some chosen) recorded

  -- ---- a blob in a built pack

  module _ (packs : List (List BlobData)) (k : ℕ) (pack : List BlobData) (here : slice_get packs k ≡ Some pack) (built_is : built r blobs ≡ map pack_file packs ++ index_file packs ∷ []) where
    has_pack_name : has_name (file_names (built r blobs)) (pack_file pack).name ≡ true
    has_pack_name =
        ap (λ (files : List NamedBytes). has_name (file_names files) (pack_file pack).name) built_is
        ∙ any_front pack_file (index_file packs) (λ (f : NamedBytes). f.name) (eq_by_cmp name_cmp (pack_file pack).name) packs k pack here ((known.names (pack_file pack).name (pack_file pack).name).1 refl)

    has_index_name : has_name (file_names (built r blobs)) (index_file packs).name ≡ true
    has_index_name =
        ap (λ (files : List NamedBytes). has_name (file_names files) (index_file packs).name) built_is
        ∙ any_last pack_file (index_file packs) (λ (f : NamedBytes). f.name) (eq_by_cmp name_cmp (index_file packs).name) packs ((known.names (index_file packs).name (index_file packs).name).1 refl)

    -- after the change the pack and the index are there, and the pack has no mark
    pack_filled : leaves_filled c (file_facet Pack (pack_file pack).name.id) ≡ true
    pack_filled = ap (λ (n : FileName). leaves_filled c (File n)) (sym (pack_name pack)) ∙ file_left (pack_file pack).name has_pack_name

    index_filled : leaves_filled c (file_facet Index (index_file packs).name.id) ≡ true
    index_filled = ap (λ (n : FileName). leaves_filled c (File n)) (sym (index_name packs)) ∙ file_left (index_file packs).name has_index_name

    mark_emptied : leaves_empty c (Mark (pack_file pack).name.id) ≡ true
    mark_emptied =
        pack_left (pack_file pack).name.id
        (pack_among known (pack_file pack).name.id (file_names (built r blobs)) (ap (has_name (file_names (built r blobs))) (sym (pack_name pack)) ∙ has_pack_name))

    -- so the spot is given
    spot_given : (name : BlobId) → HasSpot all packs pack name → GivesPlace all c name
    spot_given name s = (
      s.spot,
      (index_file packs).name.id,
      record {
        supports = s.supports;
        has_pack = ap (λ (id : Id). leaves_filled c (file_facet Pack id)) s.pack_is ∙ pack_filled;
        has_index = index_filled;
        free = ap (λ (id : Id). leaves_empty c (Mark id)) s.pack_is ∙ mark_emptied;
      },
    )

    pack_built : AllByRecursion (IsIn all) (built r blobs) → AllByRecursion IsPackable packs → IsBuilt all packs pack
    pack_built met can =
        let files : AllByRecursion (IsIn all) (map pack_file packs ++ index_file packs ∷ []) = subst (λ (fs : List NamedBytes). AllByRecursion (IsIn all) fs) built_is met in
        record {
          can = one_at IsPackable packs k pack can here;
          met = one_at (λ (p : List BlobData). IsIn all (pack_file p)) packs k pack (each_front pack_file (index_file packs) (IsIn all) packs files) here;
          position = k;
          here = here;
          index = last_one pack_file (index_file packs) (IsIn all) packs files;
          index_is = ap index_reading.index_of (index_bytes packs) ∙ known.index (map pack_listed packs) (fits_all known.digests packs can);
        }

  -- a blob in a built pack is given
  built_given : list_any is_full blobs ≡ false → All (IsIn all) (built r blobs) → (name : BlobId) → is_built r blobs name ≡ true → GivesPlace all c name
  built_given short met name is = at_pack (found (list_any is_it) (packs_built r blobs) is) where
    is_it : BlobData → Bool
    is_it b = blob_eq name (blob_id_of b)

    at_pack : Found (list_any is_it) (packs_built r blobs) → GivesPlace all c name
    at_pack f =
        let packs = packs_built r blobs in
        let files = with_index packs f.position f.item f.here in
        spot_given packs f.position f.item f.here files name
        (spot_in known all packs f.item
        (pack_built packs f.position f.item f.here files (recursion_from_All (IsIn all) (built r blobs) met) (packs_packable r blobs short))
        name f.passes)

-- each blob is given, in one way or the other
pub given_so : Known → StoringGives
given_so known r all blobs c part short met takes name among = cases (kept_so r blobs name among) where
  cases : IsKept r blobs name → GivesPlace all c name
  cases (inl is) = built_given known r all blobs c takes short met name is
  cases (inr place) = used_given known r all blobs c takes part name place.0 place.1 place.2
