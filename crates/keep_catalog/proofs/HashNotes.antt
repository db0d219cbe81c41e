-- What is noted of the hashes of a batch.
use Rattle.std.proofs.Common.{◌≡◌, ℕ, ◌<◌, false, List, [], ◌∷◌, ◌++◌, map, length, get_or, Option, None, Some, option_map, refl, sym, ap, ◌∙◌}
use Rattle.std.proofs.lemmas.List.{get_or-map, map-append}
use Rattle.std.specs.Option.{option_map_or}
use Rattle.keep_names.specs.Sha256.{sha256}
use Rattle.keep_names.specs.declared.id.Id.{Id}
use Rattle.keep_repo.specs.Repository.{Repository}
use Rattle.keep_catalog.specs.Kept.{HaveIds}
use Rattle.keep_catalog.specs.Orders.{id_eq}
use Rattle.keep_catalog.specs.Places.{bytes_at, has_id, id_at, id_of, is_honest}
use Rattle.keep_catalog.specs.declared.spot.PackedBlob.{PackedBlob}

-- an id that the bytes have tells whether they are a blob's
of_bytes : (bytes : Option (List ℕ)) (id blob : Id) → option_map id_of bytes ≡ Some id → id_eq id blob ≡ option_map_or (has_id blob) bytes false
of_bytes None id blob e = cc e
of_bytes (Some bytes) id blob e =
    let same : id_of bytes ≡ id = cc e in
    ap (λ i. id_eq i blob) (sym same)

module _ {P : Type 0} (bytes_of : P → List ℕ) where
  -- the digests are the pieces' ids
  pub ids_are : (ids : List Id) (pieces : List P) → map (λ (id : Id). id.0) ids ≡ map (λ piece. sha256 (bytes_of piece)) pieces → map Some ids ≡ map (λ piece. Some (id_of (bytes_of piece))) pieces
  ids_are [] [] e = refl
  ids_are [] (piece ∷ pieces) e = cc e
  ids_are (id ∷ ids) [] e = cc e
  ids_are (id ∷ ids) (piece ∷ pieces) e =
      let first : id.0 ≡ sha256 (bytes_of piece) = cc e in
      let rest : map (λ (id : Id). id.0) ids ≡ map (λ piece. sha256 (bytes_of piece)) pieces = cc e in
      let one : id ≡ id_of (bytes_of piece) = ap (λ digest. let made : Id = record { 0 = digest } in made) first in
      ap (λ (i : Id). Some i ∷ map Some ids) one ∙ ap (λ is. Some (id_of (bytes_of piece)) ∷ is) (ids_are ids pieces rest)

  module _ (r : Repository) (there : List PackedBlob) (pieces : List P) where
    -- a place with its bytes is added
    pub one_more : (place : PackedBlob) (piece : P) → map (id_at r) there ≡ map (λ piece. Some (id_of (bytes_of piece))) pieces → Some (bytes_of piece) ≡ bytes_at r place.spot → map (id_at r) (there ++ place ∷ []) ≡ map (λ piece. Some (id_of (bytes_of piece))) (pieces ++ piece ∷ [])
    one_more place piece so is =
        map-append (id_at r) there (place ∷ [])
        ∙ ap (λ ids. ids ++ id_at r place ∷ []) so
        ∙ ap (λ id. map (λ piece. Some (id_of (bytes_of piece))) pieces ++ id ∷ []) (sym (ap (option_map id_of) is))
        ∙ sym (map-append (λ piece. Some (id_of (bytes_of piece))) pieces (piece ∷ []))

    -- ids of the pieces are ids of what is at the places
    pub have_ids : (ids : List Id) → map (id_at r) there ≡ map (λ piece. Some (id_of (bytes_of piece))) pieces → map (λ (id : Id). id.0) ids ≡ map (λ piece. sha256 (bytes_of piece)) pieces → HaveIds r there ids
    have_ids ids so e = so ∙ sym (ids_are ids pieces e)

-- where ids are of the bytes at the places, each tells whether its place is honest
pub told_right : (r : Repository) (places : List PackedBlob) (ids : List Id) (k : ℕ) (place : PackedBlob) (id : Id) → HaveIds r places ids → k < length places → k < length ids → place ≡ get_or places k place → id ≡ get_or ids k id → id_eq id place.blob.id ≡ is_honest r place.blob place.spot
told_right r places ids k place id have in_places in_ids at_place at_id =
    let here : id_at r place ≡ Some id =
    ap (id_at r) at_place ∙ sym (get_or-map (id_at r) places k place None in_places)
    ∙ ap (λ found. get_or found k None) have ∙ get_or-map Some ids k id None in_ids ∙ ap Some (sym at_id) in
    of_bytes (bytes_at r place.spot) id place.blob.id here
