-- The blobs that an archive keeps, from one step to the next.
use Rattle.std.proofs.Common.{◌≡◌, ℕ, inl, inr, List, [], ◌∷◌, ◌++◌, map, refl, sym, ap, subst, ◌∙◌, append_assoc}
use Rattle.std.proofs.lemmas.List.{map-append}
use Rattle.std.proofs.lemmas.List.Elements.{All-cons, All-contains_itself, All-head, All-nil, All-tail, All-weaker, Contains-append_cases, Contains-append_left, Contains-append_right}
use Rattle.std.specs.List.{All, Contains}
use Rattle.keep_names.specs.BlobId.{piece_of, tree_at}
use Rattle.keep_names.specs.declared.blob.BlobId.{BlobId}
use Rattle.keep_names.specs.declared.id.Id.{Id}
use Rattle.keep_archive.specs.Archive.{BlobsData}
use Rattle.keep_archive.specs.Steps.{holding, naming, piece}
use Rattle.keep_build.specs.Blobs.{BlobData, blob_id_of, id_of, tree_blob}
use Rattle.keep_sources.specs.Given.{Given}
use Rattle.keep_tree.specs.Tree.{NodeData}
use Rattle.keep_backups.specs.Taken.{Gives, TakenData, kept_in}

-- each of the blobs is among the others
abbrev pub Grows : List BlobId → List BlobId → Type 0
Grows kept more = (blob : BlobId) → Contains kept blob → Contains more blob

pub grows_same : (kept more : List BlobId) → kept ≡ more → Grows kept more
grows_same kept more same blob h = subst (λ (blobs : List BlobId). Contains blobs blob) same h

-- blobs are held besides
pub kept_holding : (more : List BlobData) (blobs : BlobsData) → kept_in (holding more blobs) ≡ kept_in blobs ++ map blob_id_of more
kept_holding more blobs =
    ap (λ (ids : List BlobId). blobs.named ++ ids) (map-append blob_id_of blobs.held more)
    ∙ sym (append_assoc blobs.named (map blob_id_of blobs.held) (map blob_id_of more))

pub held_more : (more : List BlobData) (blobs : BlobsData) → All (Contains (kept_in (holding more blobs))) (map blob_id_of more)
held_more more blobs =
    All-weaker (Contains (map blob_id_of more)) (Contains (kept_in (holding more blobs)))
    (λ blob h. grows_same (kept_in blobs ++ map blob_id_of more) (kept_in (holding more blobs)) (sym (kept_holding more blobs)) blob
    (Contains-append_right (kept_in blobs) (map blob_id_of more) blob h))
    (map blob_id_of more) (All-contains_itself (map blob_id_of more))

pub held_grows : (more : List BlobData) (blobs : BlobsData) → Grows (kept_in blobs) (kept_in (holding more blobs))
held_grows more blobs blob h =
    grows_same (kept_in blobs ++ map blob_id_of more) (kept_in (holding more blobs)) (sym (kept_holding more blobs)) blob
    (Contains-append_left (kept_in blobs) (map blob_id_of more) blob h)

-- blobs are named besides
pub named_more : (content : List Id) (blobs : BlobsData) → All (Contains (kept_in (naming content blobs))) (map piece_of content)
named_more content blobs =
    All-weaker (Contains (map piece_of content)) (Contains (kept_in (naming content blobs)))
    (λ blob h. Contains-append_left (blobs.named ++ map piece_of content) (map blob_id_of blobs.held) blob
    (Contains-append_right blobs.named (map piece_of content) blob h))
    (map piece_of content) (All-contains_itself (map piece_of content))

pub named_grows : (content : List Id) (blobs : BlobsData) → Grows (kept_in blobs) (kept_in (naming content blobs))
named_grows content blobs blob h =
    elim (Contains-append_cases blobs.named (map blob_id_of blobs.held) blob h) [
      | inl named ↦ Contains-append_left (blobs.named ++ map piece_of content) (map blob_id_of blobs.held) blob
          (Contains-append_left blobs.named (map piece_of content) blob named)
      | inr held ↦ Contains-append_right (blobs.named ++ map piece_of content) (map blob_id_of blobs.held) blob held
    ]

-- the pieces of these ids are kept
abbrev pub ArePieces : List BlobId → List Id → Type 0
ArePieces kept ids = All (λ (id : Id). Contains kept (piece_of id)) ids

pub are_pieces : (kept : List BlobId) (pieces : List (List ℕ)) → All (Contains kept) (map blob_id_of (map piece pieces))
    → ArePieces kept (map id_of (map piece pieces))
are_pieces kept [] all = All-nil (λ (id : Id). Contains kept (piece_of id))
are_pieces kept (p ∷ pieces) all =
    All-cons (λ (id : Id). Contains kept (piece_of id)) (id_of (piece p)) (map id_of (map piece pieces))
    (All-head (Contains kept) (blob_id_of (piece p)) (map blob_id_of (map piece pieces)) all)
    (are_pieces kept pieces (All-tail (Contains kept) (blob_id_of (piece p)) (map blob_id_of (map piece pieces)) all))

pub still_pieces : (kept more : List BlobId) (ids : List Id) → Grows kept more → ArePieces kept ids → ArePieces more ids
still_pieces kept more ids grows all =
    All-weaker (λ (id : Id). Contains kept (piece_of id)) (λ (id : Id). Contains more (piece_of id)) (λ id h. grows (piece_of id) h) ids all

-- a tree is kept under its own name
pub tree_named : (nodes : List NodeData) → blob_id_of (tree_blob nodes) ≡ tree_at (id_of (tree_blob nodes))
unfolding tree_blob
tree_named nodes = refl

-- what a step keeps is kept behind it
module _ (before : TakenData) (given : Given) (after : TakenData) (g : Gives before given after) where
  pub step_place : (made_is : g.made.place ≡ g.old.place) → after.place ≡ before.place
  step_place made_is = ap (λ (t : TakenData). t.place) g.is ∙ made_is ∙ sym (ap (λ (t : TakenData). t.place) g.was)

  pub step_grows : Grows (kept_in g.old.blobs) (kept_in g.made.blobs) → Grows before.kept after.kept
  step_grows grows blob h =
      grows_same (kept_in g.made.blobs) after.kept (sym (ap (λ (t : TakenData). t.kept) g.is)) blob
      (grows blob (grows_same before.kept (kept_in g.old.blobs) (ap (λ (t : TakenData). t.kept) g.was) blob h))

  pub step_same : g.made.blobs ≡ g.old.blobs → Grows before.kept after.kept
  step_same same = step_grows (grows_same (kept_in g.old.blobs) (kept_in g.made.blobs) (ap kept_in (sym same)))

  pub step_holds : (more : List BlobData) → g.made.blobs ≡ holding more g.old.blobs → Grows before.kept after.kept
  step_holds more is = step_grows
      (λ blob h. grows_same (kept_in (holding more g.old.blobs)) (kept_in g.made.blobs) (ap kept_in (sym is)) blob (held_grows more g.old.blobs blob h))

  pub step_held : (more : List BlobData) → g.made.blobs ≡ holding more g.old.blobs → All (Contains after.kept) (map blob_id_of more)
  step_held more is =
      subst (λ (kept : List BlobId). All (Contains kept) (map blob_id_of more)) (ap kept_in (sym is) ∙ sym (ap (λ (t : TakenData). t.kept) g.is))
      (held_more more g.old.blobs)

  pub step_names : (content : List Id) → g.made.blobs ≡ naming content g.old.blobs → Grows before.kept after.kept
  step_names content is = step_grows
      (λ blob h. grows_same (kept_in (naming content g.old.blobs)) (kept_in g.made.blobs) (ap kept_in (sym is)) blob (named_grows content g.old.blobs blob h))

  pub step_named : (content : List Id) → g.made.blobs ≡ naming content g.old.blobs → All (Contains after.kept) (map piece_of content)
  step_named content is =
      subst (λ (kept : List BlobId). All (Contains kept) (map piece_of content)) (ap kept_in (sym is) ∙ sym (ap (λ (t : TakenData). t.kept) g.is))
      (named_more content g.old.blobs)
