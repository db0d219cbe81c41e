-- The bytes of a file that were given one after another.
use Rattle.std.proofs.Common.{◌≡◌, ℕ, ◌<◌, List, [], ◌∷◌, ◌++◌, map, refl, sym, ap, subst, ◌∙◌, append_assoc, append-nil}
use Rattle.std.proofs.lemmas.List.{map-append}
use Rattle.std.proofs.lemmas.List.Elements.{All-append, All-nil, All-same}
use Rattle.std.specs.List.{All, Contains, flat_map}
use Rattle.keep_names.specs.BlobId.{piece_of}
use Rattle.keep_names.specs.declared.id.Id.{Id}
use Rattle.keep_archive.specs.Archive.{BegunData, BlobsData}
use Rattle.keep_archive.specs.Steps.{Writes, content_of, ended, holding, last_of, piece}
use Rattle.keep_archive.proofs.Cuts.{both_written, none_written}
use Rattle.keep_archive.proofs.Given.{cut_pieces}
use Rattle.keep_build.specs.Blobs.{blob_id_of, id_of}
use Rattle.keep_backup.specs.Walk.{pieces_of}
use Rattle.keep_sources.specs.Given.{GivesAll, Wrote}
use Rattle.keep_backups.specs.Taken.{Gives, TakenData}
use Rattle.keep_backups.proofs.Kept.{Grows, ArePieces, are_pieces, still_pieces, step_place, step_holds, step_held}

-- no file is being read
abbrev pub idle : ℕ → BegunData
idle cut = record { cut = cut; content = []; rest = [] }

-- these bytes of a file were written, and nothing else was given
pub record HasWritten (cut : ℕ) (bytes : List ℕ) (before after : TakenData) : Type 0 where
  pub place : after.place ≡ before.place
  pub more : BlobsData
  pub writes : Writes bytes (idle cut) after.begun (record { named = []; held = [] }) more
  pub pieces : ArePieces after.kept after.begun.content
  pub grows : Grows before.kept after.kept

module _ (cut : ℕ) (pos : 0 < cut) where
  pub wrote_none : (before : TakenData) → before.begun ≡ idle cut → HasWritten cut [] before before
  wrote_none before waits = record {
    place = refl;
    more = record { named = []; held = [] };
    writes = subst (λ (b : BegunData). Writes [] (idle cut) b (record { named = []; held = [] }) (record { named = []; held = [] })) (sym waits)
        (none_written (idle cut) (record { named = []; held = [] }) pos);
    pieces = subst (λ (b : BegunData). ArePieces before.kept b.content) (sym waits) (All-nil (λ (id : Id). Contains before.kept (piece_of id)));
    grows = λ blob h. h;
  }

  -- what was written is written so whatever blobs were there before
  pub over : (bytes : List ℕ) (old made : BegunData) (blobs after others : BlobsData) (w : Writes bytes old made blobs after)
      → Writes bytes old made others (holding (map piece w.pieces) others)
  over bytes old made blobs after others w = record { pieces = w.pieces; cut_so = w.cut_so; cut = w.cut; content = w.content; holds = refl }

  pub wrote_more : (bytes more : List ℕ) (before between after : TakenData) → HasWritten cut bytes before between → Gives between (Wrote more) after
      → HasWritten cut (bytes ++ more) before after
  wrote_more bytes more before between after h g =
      let w : Writes more g.old.begun g.made.begun g.old.blobs g.made.blobs = g.does.1 in
      let most : BlobsData = holding (map piece w.pieces) h.more in
      let from : g.old.begun ≡ between.begun = sym (ap (λ (t : TakenData). t.begun) g.was) in
      let to : g.made.begun ≡ after.begun = sym (ap (λ (t : TakenData). t.begun) g.is) in
      let anew : Writes more g.old.begun g.made.begun h.more most = over more g.old.begun g.made.begun g.old.blobs g.made.blobs h.more w in
      let there : Writes more between.begun g.made.begun h.more most = subst (λ (b : BegunData). Writes more b g.made.begun h.more most) from anew in
      let next : Writes more between.begun after.begun h.more most = subst (λ (b : BegunData). Writes more between.begun b h.more most) to there in
      let grows : Grows between.kept after.kept = step_holds between (Wrote more) after g (map piece w.pieces) w.holds in
      let held : All (Contains after.kept) (map blob_id_of (map piece w.pieces)) = step_held between (Wrote more) after g (map piece w.pieces) w.holds in
      let content : after.begun.content ≡ between.begun.content ++ map id_of (map piece w.pieces) =
      sym (ap (λ (b : BegunData). b.content) to) ∙ w.content ∙ ap (λ (b : BegunData). b.content ++ map id_of (map piece w.pieces)) from in
      record {
        place = step_place between (Wrote more) after g g.does.0 ∙ h.place;
        more = most;
        writes = both_written bytes more (idle cut) between.begun after.begun (record { named = []; held = [] }) h.more most h.writes next;
        pieces = All-same (λ (id : Id). Contains after.kept (piece_of id)) after.begun.content (between.begun.content ++ map id_of (map piece w.pieces)) content
            (All-append (λ (id : Id). Contains after.kept (piece_of id)) between.begun.content (map id_of (map piece w.pieces))
            (still_pieces between.kept after.kept between.begun.content grows h.pieces) (are_pieces after.kept w.pieces held));
        grows = λ blob is. grows blob (h.grows blob is);
      }

  pub wrote_all : (pieces : List (List ℕ)) (bytes : List ℕ) (before between after : TakenData) → HasWritten cut bytes before between
      → GivesAll Gives between (map Wrote pieces) after → HasWritten cut (bytes ++ flat_map (λ (p : List ℕ). p) pieces) before after
  wrote_all [] bytes before between after h same =
      subst (λ (all : List ℕ). HasWritten cut all before after) (sym (append-nil bytes)) (subst (HasWritten cut bytes before) (sym same) h)
  wrote_all (p ∷ pieces) bytes before between after h (next, one, more) =
      subst (λ (all : List ℕ). HasWritten cut all before after) (append_assoc bytes p (flat_map (λ (q : List ℕ). q) pieces))
      (wrote_all pieces (bytes ++ p) before next after (wrote_more bytes p before between next h one) more)

  -- the pieces of a file that was written are those of its bytes
  pub content_is : (bytes : List ℕ) (before after : TakenData) → HasWritten cut bytes before after → content_of after.begun ≡ map id_of (pieces_of cut bytes)
  content_is bytes before after h =
      let w = h.writes in
      let lasts = map piece (last_of after.begun.rest) in
      ap (λ (ids : List Id). ids ++ map id_of lasts) w.content
      ∙ sym (map-append id_of (map piece w.pieces) lasts)
      ∙ ap (map id_of) (sym (cut_pieces cut bytes w.pieces after.begun.rest pos w.cut_so.whole w.cut_so.each w.cut_so.short))

  pub ended_idle : (bytes : List ℕ) (before after : TakenData) → HasWritten cut bytes before after → ended after.begun ≡ idle cut
  ended_idle bytes before after h = ap idle h.writes.cut
