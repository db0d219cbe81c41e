-- The nodes that an archive has more once something that was met was given to it.
use Rattle.std.proofs.Common.{◌≡◌, ℕ, ◌<◌, List, [], ◌∷◌, ◌++◌, map, refl, sym, ap, subst, ◌∙◌, append_assoc, append-nil}
use Rattle.std.proofs.lemmas.List.{same_from_push}
use Rattle.std.proofs.lemmas.List.Elements.{All-append, All-map, All-nil, All-weaker}
use Rattle.std.specs.List.{All, Contains, flat_map}
use Rattle.keep_names.specs.BlobId.{piece_of, tree_at}
use Rattle.keep_names.specs.declared.blob.BlobId.{BlobId}
use Rattle.keep_names.specs.declared.id.Id.{Id}
use Rattle.keep_archive.specs.Archive.{ArchiveData, AroundData, BegunData, PlaceData}
use Rattle.keep_archive.specs.Steps.{Closes, content_of, ended, holding, last_of, naming, opened, piece, with_node}
use Rattle.keep_build.specs.Blobs.{blob_id_of, id_of, tree_blob}
use Rattle.keep_backup.specs.Walk.{pieces_of}
use Rattle.keep_catalog.specs.Naming.{named_in}
use Rattle.keep_members.specs.Carried.{IsCarried}
use Rattle.keep_quoted.specs.Quote.{quoted}
use Rattle.keep_sources.proofs.GivenAll.{gives-split}
use Rattle.keep_sources.specs.Given.{GivesAll, ClosedFolder, DroppedFile, EndedFile, GotOther, GotSame, OpenedFolder, Wrote}
use Rattle.keep_sources.specs.Met.{Leaf, Excluded, Missed, Other, Same, Whole, Broken, Met, End, Then, Inside, given_of, given_of_leaf, sized, total}
use Rattle.keep_sources.specs.declared.stat.Stat.{Stat}
use Rattle.keep_tree.specs.Tree.{KindData, NodeData, dir, file, other}
use Rattle.keep_backups.specs.Sighted.{sighted, type_name_of}
use Rattle.keep_backups.specs.Taken.{Gives, TakenData}
use Rattle.keep_backups.specs.Trees.{AreNodesOf, AreNodesOfLeaf, IsOne}
use Rattle.keep_backups.proofs.Kept.{Grows, grows_same, ArePieces, are_pieces, still_pieces, tree_named, step_place, step_same, step_holds, step_held, step_names, step_named}
use Rattle.keep_backups.proofs.Written.{idle, HasWritten, wrote_none, wrote_all, content_is, ended_idle}

-- the folder that is open has these nodes more
abbrev pub grown : PlaceData → List NodeData → PlaceData
grown place nodes = record { around = place.around; nodes = place.nodes ++ nodes }

-- nodes that are so were added, and nothing else, wherever blobs that were kept are kept
pub record Adds (cut : ℕ) (Are : List BlobId → List NodeData → Type 0) (before after : TakenData) : Type 0 where
  pub nodes : List NodeData
  pub are : (kept : List BlobId) → Grows after.kept kept → Are kept nodes
  pub place : after.place ≡ grown before.place nodes
  pub begun : after.begun ≡ idle cut
  pub grows : Grows before.kept after.kept

-- no nodes were added
abbrev pub NoNodes : List BlobId → List NodeData → Type 0
NoNodes kept nodes = nodes ≡ []

module _ (cut : ℕ) where
  pub add_none : (before after : TakenData) → after.place ≡ before.place → after.begun ≡ idle cut → Grows before.kept after.kept
      → Adds cut NoNodes before after
  add_none before after same begun grows = record {
    nodes = [];
    are = λ kept more. refl;
    place = same ∙ (λ i. record { around = before.place.around; nodes = (sym (append-nil before.place.nodes)) i });
    begun = begun;
    grows = grows;
  }

  pub add_nothing : (before after : TakenData) → before.begun ≡ idle cut → after ≡ before → Adds cut NoNodes before after
  add_nothing before after waits same =
      add_none before after (ap (λ (t : TakenData). t.place) same) (ap (λ (t : TakenData). t.begun) same ∙ waits)
      (grows_same before.kept after.kept (ap (λ (t : TakenData). t.kept) (sym same)))

  pub add_one : (name : List ℕ) (kind : KindData) (sight : Stat) (node : NodeData) (before after : TakenData) → node.name ≡ quoted name
      → node.kind ≡ kind → IsCarried (sighted sight) node.others → All (Contains after.kept) (named_in kind)
      → after.place ≡ with_node node before.place → after.begun ≡ idle cut → Grows before.kept after.kept
      → Adds cut (λ kept. IsOne kept name kind sight) before after
  add_one name kind sight node before after named is says blobs place begun grows = record {
    nodes = node ∷ [];
    are = λ kept more. record {
      node = node;
      alone = refl;
      named = named;
      is = is;
      says = says;
      blobs = All-weaker (Contains after.kept) (Contains kept) more (named_in kind) blobs;
    };
    place = place;
    begun = begun;
    grows = grows;
  }

  -- these nodes were added, and then those
  pub add_both : (P Q : List BlobId → List NodeData → Type 0) (before between after : TakenData) (a : Adds cut P before between)
      (b : Adds cut Q between after) → after.place ≡ grown before.place (a.nodes ++ b.nodes)
  add_both P Q before between after a b =
      b.place ∙ ap (λ (p : PlaceData). grown p b.nodes) a.place
      ∙ (λ i. record { around = before.place.around; nodes = (append_assoc before.place.nodes a.nodes b.nodes) i })

  module _ (pos : 0 < cut) where
    pub file_ends : (name bytes : List ℕ) (sight : Stat) (before between after : TakenData) → HasWritten cut bytes before between
        → Gives between (EndedFile name sight) after
        → Adds cut (λ kept. IsOne kept name (file (map id_of (pieces_of cut bytes))) sight) before after
    file_ends name bytes sight before between after h g =
        let others = g.does.0 in
        let made = g.does.2 in
        let from : g.old.begun ≡ between.begun = sym (ap (λ (t : TakenData). t.begun) g.was) in
        let at : g.old.place ≡ before.place = sym (ap (λ (t : TakenData). t.place) g.was) ∙ h.place in
        let content : content_of g.old.begun ≡ map id_of (pieces_of cut bytes) = ap content_of from ∙ content_is cut pos bytes before between h in
        let lasts : List (List ℕ) = last_of g.old.begun.rest in
        let holds : g.made.blobs ≡ holding (map piece lasts) g.old.blobs = ap (λ (a : ArchiveData). a.blobs) made in
        let grows : Grows between.kept after.kept = step_holds between (EndedFile name sight) after g (map piece lasts) holds in
        let held : All (Contains after.kept) (map blob_id_of (map piece lasts)) = step_held between (EndedFile name sight) after g (map piece lasts) holds in
        let front : ArePieces after.kept g.old.begun.content =
        subst (λ (b : BegunData). ArePieces after.kept b.content) (sym from) (still_pieces between.kept after.kept between.begun.content grows h.pieces) in
        let whole : ArePieces after.kept (content_of g.old.begun) =
        All-append (λ (id : Id). Contains after.kept (piece_of id)) g.old.begun.content (map id_of (map piece lasts)) front (are_pieces after.kept lasts held) in
        let pieces : ArePieces after.kept (map id_of (pieces_of cut bytes)) = subst (ArePieces after.kept) content whole in
        let node : NodeData = record { name = quoted name; kind = file (content_of g.old.begun); others = others } in
        add_one name (file (map id_of (pieces_of cut bytes))) sight node before after refl (ap file content) g.does.1
        (All-map (Contains after.kept) piece_of (map id_of (pieces_of cut bytes)) pieces)
        (ap (λ (t : TakenData). t.place) g.is ∙ ap (λ (a : ArchiveData). a.place) made ∙ ap (with_node node) at)
        (ap (λ (t : TakenData). t.begun) g.is ∙ ap (λ (a : ArchiveData). a.begun) made ∙ ap ended from ∙ ended_idle cut pos bytes before between h)
        (λ blob is. grows blob (h.grows blob is))

    pub file_dropped : (bytes : List ℕ) (before between after : TakenData) → HasWritten cut bytes before between → Gives between DroppedFile after
        → Adds cut NoNodes before after
    file_dropped bytes before between after h g =
        let from : g.old.begun ≡ between.begun = sym (ap (λ (t : TakenData). t.begun) g.was) in
        add_none before after
        (step_place between DroppedFile after g (ap (λ (a : ArchiveData). a.place) g.does) ∙ h.place)
        (ap (λ (t : TakenData). t.begun) g.is ∙ ap (λ (a : ArchiveData). a.begun) g.does ∙ ap ended from ∙ ended_idle cut pos bytes before between h)
        (λ blob is. step_same between DroppedFile after g (ap (λ (a : ArchiveData). a.blobs) g.does) blob (h.grows blob is))

    pub same_given : (name : List ℕ) (content : List Id) (sight : Stat) (before after : TakenData) → before.begun ≡ idle cut
        → Gives before (GotSame name content sight) after → Adds cut (λ kept. IsOne kept name (file content) sight) before after
    same_given name content sight before after waits g =
        let node : NodeData = record { name = quoted name; kind = file content; others = g.does.0 } in
        let names : g.made.blobs ≡ naming content g.old.blobs = ap (λ (a : ArchiveData). a.blobs) g.does.2 in
        add_one name (file content) sight node before after refl refl g.does.1
        (step_named before (GotSame name content sight) after g content names)
        (ap (λ (t : TakenData). t.place) g.is ∙ ap (λ (a : ArchiveData). a.place) g.does.2 ∙ ap (λ (t : TakenData). with_node node t.place) (sym g.was))
        (ap (λ (t : TakenData). t.begun) g.is ∙ ap (λ (a : ArchiveData). a.begun) g.does.2 ∙ ap (λ (t : TakenData). t.begun) (sym g.was) ∙ waits)
        (step_names before (GotSame name content sight) after g content names)

    pub other_given : (name : List ℕ) (sight : Stat) (before after : TakenData) → before.begun ≡ idle cut
        → Gives before (GotOther name sight) after → Adds cut (λ kept. IsOne kept name (other (type_name_of sight.kind)) sight) before after
    other_given name sight before after waits g =
        let node : NodeData = record { name = quoted name; kind = other (type_name_of sight.kind); others = g.does.0 } in
        add_one name (other (type_name_of sight.kind)) sight node before after refl refl g.does.1 (All-nil (Contains after.kept))
        (ap (λ (t : TakenData). t.place) g.is ∙ ap (λ (a : ArchiveData). a.place) g.does.2 ∙ ap (λ (t : TakenData). with_node node t.place) (sym g.was))
        (ap (λ (t : TakenData). t.begun) g.is ∙ ap (λ (a : ArchiveData). a.begun) g.does.2 ∙ ap (λ (t : TakenData). t.begun) (sym g.was) ∙ waits)
        (step_same before (GotOther name sight) after g (ap (λ (a : ArchiveData). a.blobs) g.does.2))

    -- how the nodes of a leaf are
    abbrev pub OfLeaf : List ℕ → Leaf → List BlobId → List NodeData → Type 0
    OfLeaf name leaf kept nodes = AreNodesOfLeaf cut kept name leaf nodes

    pub leaf_given : (name : List ℕ) (leaf : Leaf) (before after : TakenData) → before.begun ≡ idle cut
        → GivesAll Gives before (given_of_leaf name leaf) after → Adds cut (OfLeaf name leaf) before after
    leaf_given name Excluded before after waits all = add_nothing before after waits all
    leaf_given name (Missed why) before after waits all = add_nothing before after waits all
    leaf_given name (Other sight) before after waits (next, one, same) =
        subst (Adds cut (OfLeaf name (Other sight)) before) (sym same) (other_given name sight before next waits one)
    leaf_given name (Same sight content) before after waits (next, one, same) =
        subst (Adds cut (OfLeaf name (Same sight content)) before) (sym same) (same_given name content sight before next waits one)
    leaf_given name (Whole sight pieces) before after waits all =
        let parts = gives-split Gives before after (map Wrote pieces) (EndedFile name (sized sight (total pieces)) ∷ []) all in
        let h = wrote_all cut pos pieces [] before before parts.0 (wrote_none cut pos before waits) parts.1 in
        subst (Adds cut (OfLeaf name (Whole sight pieces)) before) (sym parts.2.2)
        (file_ends name (flat_map (λ (p : List ℕ). p) pieces) (sized sight (total pieces)) before parts.0 parts.2.0 h parts.2.1)
    leaf_given name (Broken sight pieces why) before after waits all =
        let parts = gives-split Gives before after (map Wrote pieces) (DroppedFile ∷ []) all in
        let h = wrote_all cut pos pieces [] before before parts.0 (wrote_none cut pos before waits) parts.1 in
        subst (Adds cut (OfLeaf name (Broken sight pieces why)) before) (sym parts.2.2)
        (file_dropped (flat_map (λ (p : List ℕ). p) pieces) before parts.0 parts.2.0 h parts.2.1)

    pub folder_given : (name : List ℕ) (sight : Stat) (Are : List BlobId → List NodeData → Type 0) (before entered full after : TakenData)
        → Gives before (OpenedFolder name) entered → (a : Adds cut Are entered full) → Gives full (ClosedFolder sight) after
        → Adds cut (λ kept. IsOne kept name (dir (id_of (tree_blob a.nodes))) sight) before after
    folder_given name sight Are before entered full after opens a closes =
        let others = closes.does.0 in
        let c : Closes others closes.old closes.made = closes.does.2 in
        let here : AroundData = record { name = quoted name; nodes = before.place.nodes } in
        let inside : entered.place ≡ opened (quoted name) before.place =
        ap (λ (t : TakenData). t.place) opens.is ∙ ap (λ (x : ArchiveData). x.place) opens.does
        ∙ ap (λ (t : TakenData). opened (quoted name) t.place) (sym opens.was) in
        let filled : closes.old.place ≡ record { around = before.place.around ++ here ∷ []; nodes = a.nodes } =
        sym (ap (λ (t : TakenData). t.place) closes.was) ∙ a.place ∙ ap (λ (p : PlaceData). grown p a.nodes) inside in
        let lasts = same_from_push c.outer before.place.around c.around here (sym c.inside ∙ ap (λ (p : PlaceData). p.around) filled) in
        let node : NodeData = record { name = quoted name; kind = dir (id_of (tree_blob a.nodes)); others = others } in
        let tree : blob_id_of (tree_blob closes.old.place.nodes) ≡ tree_at (id_of (tree_blob a.nodes)) =
        ap (λ (p : PlaceData). blob_id_of (tree_blob p.nodes)) filled ∙ tree_named a.nodes in
        let held = step_held full (ClosedFolder sight) after closes (tree_blob closes.old.place.nodes ∷ []) c.blobs in
        let entering : Grows before.kept entered.kept = step_same before (OpenedFolder name) entered opens (ap (λ (x : ArchiveData). x.blobs) opens.does) in
        let leaving : Grows full.kept after.kept = step_holds full (ClosedFolder sight) after closes (tree_blob closes.old.place.nodes ∷ []) c.blobs in
        add_one name (dir (id_of (tree_blob a.nodes))) sight node before after refl refl closes.does.1
        (subst (λ (blob : BlobId). All (Contains after.kept) (blob ∷ [])) tree held)
        (ap (λ (t : TakenData). t.place) closes.is ∙ c.place ∙ (λ i. record {
          around = lasts.0 i;
          nodes = (lasts.1 i).nodes ++ record { name = (lasts.1 i).name; kind = dir (id_of (tree_blob (filled i).nodes)); others = others } ∷ [];
        }))
        (ap (λ (t : TakenData). t.begun) closes.is ∙ c.begun ∙ sym (ap (λ (t : TakenData). t.begun) closes.was) ∙ a.begun)
        (λ blob is. leaving blob (a.grows blob (entering blob is)))

    pub entered_idle : (name : List ℕ) (before entered : TakenData) → before.begun ≡ idle cut → Gives before (OpenedFolder name) entered
        → entered.begun ≡ idle cut
    entered_idle name before entered waits opens =
        ap (λ (t : TakenData). t.begun) opens.is ∙ ap (λ (x : ArchiveData). x.begun) opens.does ∙ ap (λ (t : TakenData). t.begun) (sym opens.was) ∙ waits

    pub leaving_grows : (sight : Stat) (full after : TakenData) → Gives full (ClosedFolder sight) after → Grows full.kept after.kept
    leaving_grows sight full after closes =
        step_holds full (ClosedFolder sight) after closes (tree_blob closes.old.place.nodes ∷ []) closes.does.2.blobs

    -- how the nodes of what was met are
    abbrev pub OfMet : Met → List BlobId → List NodeData → Type 0
    OfMet met kept nodes = AreNodesOf cut kept met nodes

    pub all_given : (met : Met) (before after : TakenData) → before.begun ≡ idle cut → GivesAll Gives before (given_of met) after
        → Adds cut (OfMet met) before after
    all_given End before after waits all = add_nothing before after waits all
    all_given (Then name leaf rest) before after waits all =
        let parts = gives-split Gives before after (given_of_leaf name leaf) (given_of rest) all in
        let a = leaf_given name leaf before parts.0 waits parts.1 in
        let b = all_given rest parts.0 after a.begun parts.2 in
        record {
          nodes = a.nodes ++ b.nodes;
          are = λ kept more. (a.nodes, b.nodes, refl, a.are kept (λ blob is. more blob (b.grows blob is)), b.are kept more);
          place = add_both (OfLeaf name leaf) (OfMet rest) before parts.0 after a b;
          begun = b.begun;
          grows = λ blob is. b.grows blob (a.grows blob is);
        }
    all_given (Inside name sight unsayable inside rest) before after waits (entered, opens, all) =
        let parts = gives-split Gives entered after (given_of inside) (ClosedFolder sight ∷ given_of rest) all in
        let closed = parts.2.0 in
        let inner = all_given inside entered parts.0 (entered_idle name before entered waits opens) parts.1 in
        let One : List BlobId → List NodeData → Type 0 = λ kept. IsOne kept name (dir (id_of (tree_blob inner.nodes))) sight in
        let a : Adds cut One before closed = folder_given name sight (OfMet inside) before entered parts.0 closed opens inner parts.2.1 in
        let b = all_given rest closed after a.begun parts.2.2 in
        let leaving = leaving_grows sight parts.0 closed parts.2.1 in
        record {
          nodes = a.nodes ++ b.nodes;
          are = λ kept more. (
            a.nodes,
            b.nodes,
            inner.nodes,
            refl,
            inner.are kept (λ blob is. more blob (b.grows blob (leaving blob is))),
            a.are kept (λ blob is. more blob (b.grows blob is)),
            b.are kept more,
          );
          place = add_both One (OfMet rest) before closed after a b;
          begun = b.begun;
          grows = λ blob is. b.grows blob (a.grows blob is);
        }
