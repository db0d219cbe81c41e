-- What trees name among all files: those of a repository what they name there, and new ones what their nodes name.
use Rattle.std.proofs.Common.{◌≡◌, true, List, Option, None, Some, Ok, Err, is_some, refl, sym, ap, subst, ◌∙◌}
use Rattle.std.specs.List.{flat_map}
use Rattle.serde_json.specs.Written.{compact_text}
use Rattle.keep_names.specs.BlobId.{tree_at}
use Rattle.keep_names.specs.declared.blob.BlobId.{BlobId}
use Rattle.keep_names.specs.declared.blob.BlobType.TheVariants.{Tree}
use Rattle.keep_names.specs.declared.file_name.Kind.TheVariants.{Pack}
use Rattle.keep_names.specs.declared.id.Id.{Id}
use Rattle.keep_repo.specs.Repository.{Repository, is_filled}
use Rattle.keep_tree.proofs.ReadBack.{tree_of-compact_text}
use Rattle.keep_tree.specs.Shape.{IsTree}
use Rattle.keep_tree.specs.Tree.{NodeData, tree_of}
use Rattle.keep_tree.specs.Written.{tree_data}
use Rattle.keep_change.specs.declared.change.Change.{Change}
use Rattle.keep_catalog.specs.Chosen.{IsUsablePlace}
use Rattle.keep_catalog.specs.Naming.{blobs_named, missing, named_by, named_of, nodes_read, read_tree_of}
use Rattle.keep_catalog.specs.Places.{bytes_at, chosen_listing, is_honest}
use Rattle.keep_catalog.specs.declared.spot.Spot.{Spot}
use Rattle.keep_sound.proofs.Owing.{named_where, names_by_bytes, names_of_bytes}
use Rattle.keep_sound.proofs.Parts.{bytes_by, filled_from, has_blob_at, honest_by, same_file, slice_at}
use Rattle.keep_sound.proofs.Places.{LeastIsChosen, chosen_of_support, open_of_chosen, supports_from}
use Rattle.keep_sound.specs.Careful.{Gives, GivesPlace}
use Rattle.keep_sound.specs.Met.{HasOneText, IsPartOf}
use Rattle.keep_sound.specs.Standing.{file_facet}
use Rattle.keep_build.specs.Blobs.{blob_id_of, id_of, tree_blob}
use Rattle.keep_safety.specs.SafeRewrite.{IsOneText}

-- a blob that can be had has a chosen place
chosen_of_named : (r : Repository) (a : BlobId) (bs : List BlobId) → named_by r a ≡ Ok bs → is_some (chosen_listing r a) ≡ true
chosen_of_named r a bs is = cases (chosen_listing r a) refl where
  cases : (o : Option (Spot × Id)) → chosen_listing r a ≡ o → is_some o ≡ true
  cases None none = let no : Err (missing r a) ≡ Ok bs = sym (named_where r a None none) ∙ is in (cc no)
  cases (Some e) some = refl

module _ (least : LeastIsChosen) (r all : Repository) (part : IsPartOf r all) (one : HasOneText all) where
  same_names : (a : BlobId) → is_some (chosen_listing r a) ≡ true → named_by r a ≡ named_by all a
  same_names a there = cases (chosen_listing r a) refl there where
    both : (e d : Spot × Id) → chosen_listing r a ≡ Some e → chosen_listing all a ≡ Some d → named_by r a ≡ named_by all a
    both e d here among =
        let place : IsUsablePlace r a e.0 e.1 = open_of_chosen least r a e here in
        let all_place : IsUsablePlace all a d.0 d.1 = open_of_chosen least all a d among in
        let filled : is_filled r (file_facet Pack e.0.pack) ≡ true = filled_from r (has_blob_at a e.0) refl Pack e.0.pack (sym (honest_by r a e.0) ∙ place.honest) in
        let same : bytes_at r e.0 ≡ bytes_at all e.0 = bytes_by r e.0 ∙ ap (slice_at e.0) (same_file r all part Pack e.0.pack filled) ∙ sym (bytes_by all e.0) in
        let text : bytes_at r e.0 ≡ bytes_at all d.0 = same ∙ one.one a e.0 d.0 (supports_from r all part a e.0 e.1 place).honest all_place.honest in
        named_where r a (Some e) here ∙ names_by_bytes r a.blob_type e.0 ∙ ap (names_of_bytes a.blob_type) text
        ∙ sym (names_by_bytes all a.blob_type d.0) ∙ sym (named_where all a (Some d) among)

    among : (e : Spot × Id) → chosen_listing r a ≡ Some e → (o : Option (Spot × Id)) → chosen_listing all a ≡ o → is_some o ≡ true → named_by r a ≡ named_by all a
    among e here None is none = cc none
    among e here (Some d) is _ = both e d here is

    cases : (o : Option (Spot × Id)) → chosen_listing r a ≡ o → is_some o ≡ true → named_by r a ≡ named_by all a
    cases None is none = cc none
    cases (Some e) is _ =
        among e is (chosen_listing all a) refl (chosen_of_support least all one a e.0 e.1 (supports_from r all part a e.0 e.1 (open_of_chosen least r a e is)))

  -- what can be had in the repository names the same among all files
  pub named_among : (a : BlobId) (bs : List BlobId) → named_by r a ≡ Ok bs → named_by all a ≡ Ok bs
  named_among a bs is = sym (same_names a (chosen_of_named r a bs is)) ∙ is

-- ---- a tree that is written anew

tree_read : (nodes : List NodeData) → tree_of (compact_text (tree_data nodes)) ≡ Ok nodes → read_tree_of (tree_blob nodes).1 ≡ Ok nodes
unfolding read_tree_of tree_blob
tree_read nodes read = read

-- the name of the tree, as of a blob
pub tree_name : (nodes : List NodeData) → tree_at (id_of (tree_blob nodes)) ≡ blob_id_of (tree_blob nodes)
unfolding tree_blob
tree_name nodes = refl

module _ (least : LeastIsChosen) (all : Repository) (one : HasOneText all) (c : Change) where
  pub named_anew : (nodes : List NodeData) → IsTree nodes → GivesPlace all c (blob_id_of (tree_blob nodes)) → IsOneText all (tree_blob nodes)
      → named_by all (tree_at (id_of (tree_blob nodes))) ≡ Ok (flat_map named_of nodes)
  named_anew nodes is place met = cases (chosen_listing all a) refl (chosen_of_support least all one a place.0 place.1 (subst (λ (b : BlobId). Gives all c b place.0 place.1) (sym (tree_name nodes)) place.2).supports) where
    a : BlobId
    a = tree_at (id_of (tree_blob nodes))

    cases : (o : Option (Spot × Id)) → chosen_listing all a ≡ o → is_some o ≡ true → named_by all a ≡ Ok (flat_map named_of nodes)
    cases None _ none = cc none
    cases (Some e) chosen _ =
        let honest = (open_of_chosen least all a e chosen).honest in
        let text = met e.0 (ap (λ (b : BlobId). is_honest all b e.0) (sym (tree_name nodes)) ∙ honest) in
        named_where all a (Some e) chosen ∙ names_by_bytes all Tree e.0 ∙ ap (names_of_bytes Tree) text
        ∙ ap (λ t. blobs_named (nodes_read t)) (tree_read nodes (tree_of-compact_text nodes is))
