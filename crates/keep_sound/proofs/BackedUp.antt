-- What a snapshot that a backup adds reaches is among the blobs of the walk, and so it is given.
use Rattle.std.proofs.Common.{◌≡◌, inl, inr, ℕ, zero, suc, true, List, Option, None, Some, Result, Ok, Err, refl, sym, ap, subst, ◌∙◌}
use Rattle.std.specs.Prelude.{IsOkAnd, IsSome, is_some}
use Rattle.std.specs.FinMap as finite
use Rattle.std.specs.List.{AllByRecursion}
use Rattle.std.specs.Option.{IsSomeAnd}
use Rattle.std.specs.Result.{result_ok}
use Rattle.std.proofs.lemmas.List.Elements.{All-from_recursion, recursion_from_All}
use Rattle.keep_names.specs.BlobId.{tree_at}
use Rattle.keep_names.specs.FileName.{named}
use Rattle.keep_names.specs.Laws.{TellsApart}
use Rattle.keep_names.specs.Orders.{name_cmp}
use Rattle.keep_names.specs.declared.blob.BlobId.{BlobId}
use Rattle.keep_names.specs.declared.blob.BlobType.{BlobType}
use Rattle.keep_names.specs.declared.blob.BlobType.TheVariants.{Content, Tree}
use Rattle.keep_names.specs.declared.file_name.FileName.{FileName}
use Rattle.keep_names.specs.declared.file_name.Kind.TheVariants.{Snapshot}
use Rattle.keep_names.specs.declared.id.Id.{Id}
use Rattle.keep_repo.specs.Repository.{Repository}
use Rattle.keep_snap.specs.Snap.{SnapData}
use Rattle.keep_snap.specs.declared.snap.SnapError.{SnapError}
use Rattle.keep_tree.specs.Tree.{NodeData}
use Rattle.keep_tree.specs.declared.tree.TreeError.{TreeError}
use Rattle.keep_change.specs.Filling.{fills}
use Rattle.keep_change.specs.NamedBytes.{NamedBytes}
use Rattle.keep_change.specs.declared.change.Change.{Change}
use Rattle.keep_catalog.specs.Files.{snap_read, file_in, snap_in, snap_of}
use Rattle.keep_catalog.specs.Naming.{blobs_named, named_by, nodes_read, read_tree_of}
use Rattle.keep_catalog.specs.Places.{chosen_listing}
use Rattle.keep_reach.specs.Reach.{HasBlob, Names, Reaches, most_levels}
use Rattle.keep_reach.specs.Snapshots.{Owes, root_of}
use Rattle.keep_catalog.specs.declared.reach_error.ReachError.{ReachError}
use Rattle.keep_catalog.specs.declared.spot.Spot.{Spot}
use Rattle.keep_sound.specs.Careful.{CarefulIsSafe, GivesPlace}
use Rattle.keep_sound.specs.Forms.{AreOf, CoveringIsCareful}
use Rattle.keep_sound.specs.Met.{HasOneText, IsIn}
use Rattle.keep_sound.specs.Plans.{AreMet, BackingUpIsSafe, IsClosed, Texts}
use Rattle.keep_sound.specs.Standing.{file_facet}
use Rattle.keep_sound.proofs.Covering.{file_of_name}
use Rattle.keep_sound.proofs.Owing.{named_where, names_by_bytes, names_of_bytes}
use Rattle.keep_sound.proofs.Parts.{snap_by}
use Rattle.keep_sound.proofs.Places.{LeastIsChosen, chosen_of_support, open_of_chosen}

-- what a text names, as the type says, is among the blobs, if they are closed
closed_names : (texts : Texts) → IsClosed texts → (a b : BlobId) (text : List ℕ) → texts a ≡ Some text → (t : BlobType) → a.blob_type ≡ t → IsOkAnd (names_of_bytes t (Some text)) (λ blobs. HasBlob blobs b) → IsSome (texts b)
closed_names texts closed a b text is Content of names = absurd names
closed_names texts closed a b text is Tree of names = cases (read_tree_of text) refl names where
  cases : (t : Result (List NodeData) TreeError) → read_tree_of text ≡ t → IsOkAnd (blobs_named (nodes_read t)) (λ blobs. HasBlob blobs b) → IsSome (texts b)
  cases (Ok nodes) read among = closed a b text nodes of is read among
  cases (Err refusal) read among = absurd among

module _ (least : LeastIsChosen) (all : Repository) (one : HasOneText all) (texts : Texts) (met : AreMet all texts) where
  -- a blob that stands somewhere names what its text does
  names_of_text : (a : BlobId) (text : List ℕ) → texts a ≡ Some text → is_some (chosen_listing all a) ≡ true → named_by all a ≡ names_of_bytes a.blob_type (Some text)
  names_of_text a text is there = cases (chosen_listing all a) refl there where
    cases : (o : Option (Spot × Id)) → chosen_listing all a ≡ o → is_some o ≡ true → named_by all a ≡ names_of_bytes a.blob_type (Some text)
    cases None _ none = cc none
    cases (Some e) chosen _ =
        named_where all a (Some e) chosen ∙ names_by_bytes all a.blob_type e.0
        ∙ ap (names_of_bytes a.blob_type) (met a text is e.0 (open_of_chosen least all a e chosen).honest)

  module _ (c : Change) (closed : IsClosed texts) (given : (b : BlobId) → IsSome (texts b) → GivesPlace all c b) where
    named_among : (a b : BlobId) → IsSome (texts a) → Names (named_by all) a b → IsSome (texts b)
    named_among a b among names = cases (texts a) refl among where
      supported : GivesPlace all c a → is_some (chosen_listing all a) ≡ true
      supported place = chosen_of_support least all one a place.0 place.1 place.2.supports

      cases : (o : Option (List ℕ)) → texts a ≡ o → is_some o ≡ true → IsSome (texts b)
      cases None _ none = cc none
      cases (Some text) is _ =
          let N : Result (List BlobId) ReachError → Type 0 = λ t. IsOkAnd t (λ blobs. HasBlob blobs b) in
          closed_names texts closed a b text is a.blob_type refl (subst N (names_of_text a text is (supported (given a among))) names)

    reached_among_texts : (levels : ℕ) (a b : BlobId) → IsSome (texts a) → Reaches (named_by all) levels a b → IsSome (texts b)
    reached_among_texts zero a b among reaches = subst (λ x. IsSome (texts x)) reaches.1 among
    reached_among_texts (suc levels) a b among (inl same) = subst (λ x. IsSome (texts x)) same among
    reached_among_texts (suc levels) a b among (inr through) = reached_among_texts levels through.0 b (named_among a through.0 among through.1) through.2

-- ---- the added snapshot

file_is_in : (all : Repository) (f : NamedBytes) (snapshot : Id) → IsIn all f → f.name ≡ named Snapshot snapshot → file_in all Snapshot snapshot ≡ Some f.bytes
unfolding file_in
file_is_in all f snapshot is_in same = sym (ap (finite.get all.files) same) ∙ is_in

root_reaches : (all : Repository) (snapshot root : Id) (blob : BlobId) (bytes : List ℕ) → snap_in all snapshot ≡ snap_read (Some bytes) → ((snap : SnapData) → snap_of bytes ≡ Ok snap → snap.tree ≡ root) → Owes all snapshot blob → Reaches (named_by all) most_levels (tree_at root) blob
root_reaches all snapshot root blob bytes is rooted owes =
    let O : Option SnapData → Type 0 = λ o. IsSomeAnd o (λ s. Reaches (named_by all) most_levels (root_of s) blob) in
    cases (snap_of bytes) refl (subst O is owes)
  where
    cases : (t : Result SnapData SnapError) → snap_of bytes ≡ t → IsSomeAnd (result_ok t) (λ s. Reaches (named_by all) most_levels (root_of s) blob) → Reaches (named_by all) most_levels (tree_at root) blob
    cases (Ok snap) read reaches = let R : Id → Type 0 = λ id. Reaches (named_by all) most_levels (tree_at id) blob in subst R (rooted snap read) reaches
    cases (Err refusal) read reaches = absurd reaches

pub backing_up_is_safe : TellsApart name_cmp → LeastIsChosen → CoveringIsCareful → CarefulIsSafe → BackingUpIsSafe
backing_up_is_safe apart least covering safe all known c texts root one once adds met backs =
    safe all known c one once adds (covering all known c (record {
      no_marks = backs.no_marks;
      drops = nothing_dropped;
      covers = λ snapshot added blob owes. inl (backs.given blob (among snapshot blob added owes));
    }))
  where
    nothing_dropped : AreOf Snapshot c.drops
    nothing_dropped = All-from_recursion (λ f. f.name.kind ≡ Snapshot) c.drops (subst (AllByRecursion (λ f. f.name.kind ≡ Snapshot)) (sym backs.no_drops) tt)

    IsAdded : NamedBytes → Type 0
    IsAdded f = IsIn all f × (f.name.kind ≡ Snapshot → (snap : SnapData) → snap_of f.bytes ≡ Ok snap → snap.tree ≡ root)

    each_added : AllByRecursion IsAdded c.adds
    each_added = recursion_from_All IsAdded c.adds (λ k d within. (adds k d within, backs.snapshots k d within))

    among : (snapshot : Id) (blob : BlobId) → fills c (file_facet Snapshot snapshot) ≡ true → Owes all snapshot blob → IsSome (texts blob)
    among snapshot blob added owes =
        let f = file_of_name apart IsAdded c.adds (named Snapshot snapshot) each_added added in
        let is : snap_in all snapshot ≡ snap_read (Some f.0.bytes) = snap_by all snapshot ∙ ap snap_read (file_is_in all f.0 snapshot f.2.0 f.1) in
        let rooted : (snap : SnapData) → snap_of f.0.bytes ≡ Ok snap → snap.tree ≡ root = f.2.1 (ap (λ (n : FileName). n.kind) f.1) in
        reached_among_texts least all one texts met c backs.closed backs.given most_levels (tree_at root) blob backs.top (root_reaches all snapshot root blob f.0.bytes is rooted owes)
