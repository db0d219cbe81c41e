-- Where the pieces of files are.
use Rattle.std.proofs.Common.{◌≡◌, ℕ, Bool, true, false, List, [], Option, None, Some, Result, Ok, Err, sym, ap, subst, ◌∙◌}
use Rattle.std.specs.Option.{ok_or, option_and_then, option_map_or}
use Rattle.keep_names.specs.BlobId.{piece_of}
use Rattle.keep_names.specs.Sha256.{sha256}
use Rattle.keep_names.specs.declared.id.Id.{Id}
use Rattle.keep_repo.proofs.Same.{id_eq-Decides}
use Rattle.keep_repo.specs.Repository.{Repository}
use Rattle.keep_catalog.proofs.Least.{chosen_so}
use Rattle.keep_catalog.specs.Chosen.{IsChosen, IsLeastPlace}
use Rattle.keep_catalog.specs.Naming.{missing, named_at, named_by}
use Rattle.keep_catalog.specs.Places.{bytes_at, chosen_listing, has_id, is_honest}
use Rattle.keep_catalog.specs.declared.reach_error.ReachError.{ReachError}
use Rattle.keep_catalog.specs.declared.spot.Spot.{Spot}
use Rattle.keep_nodes.specs.Pieces.{piece_due}

module _ (r : Repository) (id : Id) where
  missing_by : (o : Option (Spot × Id)) (why : ReachError) → named_at r (piece_of id) o ≡ Err why → ok_or (option_and_then (λ (e : Spot × Id). bytes_at r e.0) o) (missing r (piece_of id)) ≡ Err why
  missing_by None why h = let same : missing r (piece_of id) ≡ why = cc in ap Err same
  missing_by (Some e) why h = cc

  pub piece_missing : (why : ReachError) → named_by r (piece_of id) ≡ Err why → piece_due r id ≡ Err why
  unfolding named_by
  piece_missing why h = missing_by (chosen_listing r (piece_of id)) why h

  module _ (spot : Spot) (index : Id) (chosen : chosen_listing r (piece_of id) ≡ Some (spot, index)) where
    honest : is_honest r (piece_of id) spot ≡ true
    honest =
        let place : IsLeastPlace r (piece_of id) spot index = subst (IsChosen r (piece_of id)) chosen (chosen_so r (piece_of id)) in
        place.place.honest

    hashed : (o : Option (List ℕ)) → bytes_at r spot ≡ o → option_map_or (has_id id) o false ≡ true
    hashed o is = sym (ap (λ (p : Option (List ℕ)). option_map_or (has_id id) p false) is) ∙ honest

    pub some_bytes : bytes_at r spot ≡ None → ⊥
    some_bytes none = let e : false ≡ true = hashed None none in cc

    pub own_hash : (bytes : List ℕ) → bytes_at r spot ≡ Some bytes → sha256 bytes ≡ id.0
    own_hash bytes is = ap (λ (x : Id). x.0) ((id_eq-Decides (record { 0 = sha256 bytes }) id).0 (hashed (Some bytes) is))
