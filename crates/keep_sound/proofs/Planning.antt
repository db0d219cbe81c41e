-- The changes of planners are careful: those that forget, retag, reindex and mark.
use Rattle.std.proofs.Common.{◌≡◌, ◌⊎◌, inl, inr, true, [], Option, None, Some, sym, subst}
use Rattle.std.specs.Prelude.{option_map}
use Rattle.std.specs.List.{AllByRecursion}
use Rattle.std.specs.Option.{IsSomeAnd}
use Rattle.std.proofs.lemmas.List.Elements.{All-from_recursion}
use Rattle.keep_names.specs.declared.blob.BlobId.{BlobId}
use Rattle.keep_names.specs.declared.file_name.Kind.TheVariants.{Pack, Index, Snapshot}
use Rattle.keep_names.specs.declared.id.Id.{Id}
use Rattle.keep_repo.specs.Repository.{Repository, is_filled}
use Rattle.keep_repo.specs.declared.facet.Facet.TheVariants.{Mark}
use Rattle.keep_snap.specs.Snap.{SnapData}
use Rattle.keep_change.specs.Filling.{asks_empty, finds_filled, leaves_filled}
use Rattle.keep_change.specs.declared.change.Change.{Change}
use Rattle.keep_catalog.specs.Files.{snap_in}
use Rattle.keep_catalog.specs.Naming.{named_by}
use Rattle.keep_catalog.specs.Places.{at, is_among, listed_in}
use Rattle.keep_reach.specs.Reach.{Reaches, most_levels}
use Rattle.keep_reach.specs.Snapshots.{Owes, broken_in, root_of}
use Rattle.keep_reach.specs.Sound.{IsSound}
use Rattle.keep_sound.specs.Careful.{CarefulIsSafe, GivesPlace, ListedElsewhere, Relists}
use Rattle.keep_sound.specs.Forms.{CoveringIsCareful, MarkingIsCareful, RelistingIsCareful}
use Rattle.keep_sound.specs.Met.{AddsPart, IsIn}
use Rattle.keep_sound.specs.Plans.{ForgettingIsSafe, MarkingIsSafe, ReindexingIsSafe, RelistsPlaces, RetaggingIsSafe, ReusedIsGiven, root_in}
use Rattle.keep_sound.specs.Standing.{file_facet}
use Rattle.keep_sound.proofs.Covering.{none_added}
use Rattle.keep_sound.proofs.Owing.{owes_back}
use Rattle.keep_sound.proofs.Places.{LeastIsChosen, chosen_listed}

-- what adds nothing adds what is met
nothing_added : (all : Repository) (c : Change) → c.adds ≡ [] → AddsPart all c
nothing_added all c none = All-from_recursion (IsIn all) c.adds (subst (AllByRecursion (IsIn all)) (sym none) tt)

pub forgetting_is_safe : CoveringIsCareful → CarefulIsSafe → ForgettingIsSafe
forgetting_is_safe covering safe all known c one once no_adds no_marks drops =
    safe all known c one once (nothing_added all c no_adds) (covering all known c (record {
      no_marks = no_marks;
      drops = drops;
      covers = λ snapshot added blob owes. absurd (none_added c Snapshot snapshot no_adds added);
    }))

-- ---- what a snapshot reaches, by its root

pub reached_by_root : (all : Repository) (snapshot : Id) (blob : BlobId) → Owes all snapshot blob → IsSomeAnd (root_in all snapshot) (λ root. Reaches (named_by all) most_levels root blob)
reached_by_root all snapshot blob owes = cases (snap_in all snapshot) owes where
  cases : (o : Option SnapData) → IsSomeAnd o (λ s. Reaches (named_by all) most_levels (root_of s) blob) → IsSomeAnd (option_map root_of o) (λ root. Reaches (named_by all) most_levels root blob)
  cases None h = absurd h
  cases (Some s) h = h

pub owed_by_root : (all : Repository) (snapshot : Id) (blob : BlobId) → IsSomeAnd (root_in all snapshot) (λ root. Reaches (named_by all) most_levels root blob) → Owes all snapshot blob
owed_by_root all snapshot blob reaches = cases (snap_in all snapshot) reaches where
  cases : (o : Option SnapData) → IsSomeAnd (option_map root_of o) (λ root. Reaches (named_by all) most_levels root blob) → IsSomeAnd o (λ s. Reaches (named_by all) most_levels (root_of s) blob)
  cases None h = absurd h
  cases (Some s) h = h

pub retagging_is_safe : CoveringIsCareful → CarefulIsSafe → RetaggingIsSafe
retagging_is_safe covering safe all known c one once adds no_marks drops keeps =
    safe all known c one once adds (covering all known c (record {
      no_marks = no_marks;
      drops = drops;
      covers = λ snapshot added blob owes. same_root snapshot blob (keeps snapshot added) owes;
    }))
  where
    same_root : (snapshot : Id) (blob : BlobId) → (old : Id) × (finds_filled c (file_facet Snapshot old) ≡ true) × (root_in all snapshot ≡ root_in all old) → Owes all snapshot blob → GivesPlace all c blob ⊎ ((needed : Id) × (finds_filled c (file_facet Snapshot needed) ≡ true) × Owes all needed blob)
    same_root snapshot blob old owes =
        let R : Option BlobId → Type 0 = λ o. IsSomeAnd o (λ root. Reaches (named_by all) most_levels root blob) in
        inr (old.0, old.1, owed_by_root all old.0 blob (subst R old.2 (reached_by_root all snapshot blob owes)))

-- ---- reindexing

relists_from : (all : Repository) (c : Change) → RelistsPlaces all c → Relists all c
relists_from all c relists index dropped blob spot supports = cases (relists index dropped (at blob spot) supports.listed supports.stored) where
  cases : (asks_empty c (file_facet Pack spot.pack) ≡ true) ⊎ ((finds_filled c (Mark spot.pack) ≡ true) ⊎ ((other : Id) × (leaves_filled c (file_facet Index other) ≡ true) × (is_among (listed_in all other) (at blob spot) ≡ true))) → (asks_empty c (file_facet Pack spot.pack) ≡ true) ⊎ ((finds_filled c (Mark spot.pack) ≡ true) ⊎ ListedElsewhere all c blob spot)
  cases (inl absent) = inl absent
  cases (inr (inl marked)) = inr (inl marked)
  cases (inr (inr other)) = inr (inr (other.0, other.1, record { listed = other.2; stored = supports.stored; honest = supports.honest }))

pub reindexing_is_safe : RelistingIsCareful → CarefulIsSafe → ReindexingIsSafe
reindexing_is_safe relisting safe all known c one once adds reindexes =
    safe all known c one once adds (relisting all known c (record {
      no_marks = reindexes.no_marks;
      adds = reindexes.adds;
      packs = reindexes.packs;
      relists = relists_from all c reindexes.relists;
    }))

-- ---- marking

pub marking_is_safe : LeastIsChosen → ((r : Repository) → broken_in r ≡ [] → IsSound r) → ReusedIsGiven → MarkingIsCareful → CarefulIsSafe → MarkingIsSafe
marking_is_safe least unbroken reused marking safe view all known c one once part none marks =
    safe all known c one once (nothing_added all c marks.no_adds) (marking all known c (record {
      no_adds = marks.no_adds;
      no_drops = marks.no_drops;
      gives = λ snapshot is_known. cases snapshot (marks.absent snapshot is_known);
    }))
  where
    sound : IsSound view
    sound = unbroken view none

    given : (snapshot : Id) → is_filled view (file_facet Snapshot snapshot) ≡ true → (blob : BlobId) → Owes all snapshot blob → GivesPlace all c blob
    given snapshot there blob owes =
        let here : Owes view snapshot blob = owes_back least view all part one sound snapshot there blob owes in
        reused view all c blob part (chosen_listed view blob (sound snapshot blob here)) (marks.used snapshot blob here)

    cases : (snapshot : Id) → (is_filled view (file_facet Snapshot snapshot) ≡ true) ⊎ (asks_empty c (file_facet Snapshot snapshot) ≡ true) → (asks_empty c (file_facet Snapshot snapshot) ≡ true) ⊎ ((blob : BlobId) → Owes all snapshot blob → GivesPlace all c blob)
    cases snapshot (inl there) = inr (given snapshot there)
    cases snapshot (inr absent) = inl absent
