-- An edit of tags that is planned is safe.
use Rattle.std.proofs.Common.{◌≡◌, ◌≢◌, ℕ, Bool, true, false, ◌||◌, cond, List, [], ◌∷◌, filter, not, All, IsSome, IsUtf8, Option, None, Some, Ok, option_map, ok_or, refl, sym, ap, subst, ◌∙◌}
use Rattle.std.proofs.lemmas.List.Elements.{recursion_from_All}
use Rattle.std.specs.FinMap.{entries, get}
use Rattle.std.specs.List.{AllByRecursion, cons_option, filter_map}
use Rattle.std.specs.Result.{result_ok}
use Rattle.serde_json.specs.Written.{compact_text}
use Rattle.keep_names.proofs.Orders.{id_exact, id_total}
use Rattle.keep_names.specs.FileName.{named}
use Rattle.keep_names.specs.Id.{IsDigest}
use Rattle.keep_names.specs.Laws.{TellsApart}
use Rattle.keep_names.specs.Orders.{name_cmp}
use Rattle.keep_names.specs.declared.file_name.Kind.TheVariants.{Snapshot}
use Rattle.keep_names.specs.declared.id.Id.{Id}
use Rattle.keep_repo.specs.Repository.{Repository}
use Rattle.keep_change.specs.Filling.{has_name}
use Rattle.keep_change.specs.Lists.{SortedListsAreWellFormed, file_names}
use Rattle.keep_change.specs.NamedBytes.{NamedBytes}
use Rattle.keep_change.specs.declared.change.Change.{Change}
use Rattle.keep_snap.specs.Facts.{FactsData, facts_at}
use Rattle.keep_snap.specs.Relabel.{retagged}
use Rattle.keep_snap.specs.Shape.{IsSnap}
use Rattle.keep_snap.specs.Snap as reading
use Rattle.keep_snap.specs.Snap.{SnapData}
use Rattle.keep_snap.specs.Time.{time_in}
use Rattle.keep_snap.specs.Written.{snap_data}
use Rattle.keep_snap.specs.declared.snap.SnapError.TheVariants.{BadTime}
use Rattle.keep_snap.specs.declared.time.Time.{Time}
use Rattle.keep_catalog.specs.Files.{ids_in, named_snap, snap_in, snaps_in}
use Rattle.keep_reach.specs.Snapshots.{root_of}
use Rattle.keep_plan.specs.Picks.{picks}
use Rattle.keep_plan.specs.Taking.{named_facts, taken_in}
use Rattle.keep_plan.specs.declared.pick.Pick.{Pick}
use Rattle.keep_plan.proofs.Made.{added_so}
use Rattle.keep_plan.proofs.Ordered.{All-entries}
use Rattle.keep_plan.specs.Storing.{absent_files}
use Rattle.keep_sound.specs.Careful.{IsSafe}
use Rattle.keep_sound.specs.Met.{IsIn, IsPartOf}
use Rattle.keep_sound.specs.Plans.{KeepsRoots, RetaggingIsSafe, root_in}
use Rattle.keep_labels.specs.Edits.{EditData, Tags, are_same, edited}
use Rattle.keep_safety.specs.SafeLabels.{HasTexts, TaggingIsSafe}
use Rattle.keep_safety.specs.Met.{AreFiles}
use Rattle.keep_plan.specs.FilesThere.{file_there, files_there}
use Rattle.keep_labels.specs.Swapping.{swapping}
use Rattle.keep_labels.specs.Tagging.{retagged_file, tagged_file}
use Rattle.keep_plan.proofs.Carried.{ReadIsSnap, snap_so}
use Rattle.keep_labels.proofs.Lists.{all_both}
use Rattle.keep_safety.proofs.Rooted.{Found, IsThere, each_dropped, found_so, said_in, snap_part, snap_there, tagged_says}
use Rattle.keep_labels.proofs.Tagged.{WhatIsStoredCanBeMade, changed, new_files, old_files, tag_so, tag_well_formed}
use Rattle.keep_labels.proofs.Taken.{files_are_snapshots, names_of}
use Rattle.keep_safety.proofs.Texts.{edited_texts}

-- ---- the tags of taken snapshots are texts

module _ (law : ReadIsSnap) (r : Repository) where
  each_named : (ids : List Id) → AllByRecursion (λ (e : Id × SnapData). IsSnap e.1) (filter_map (named_snap r) ids)
  each_named [] = tt
  each_named (id ∷ ids) = cases (each_named ids) (snap_in r id) refl where
    cases : AllByRecursion (λ (e : Id × SnapData). IsSnap e.1) (filter_map (named_snap r) ids) → (o : Option SnapData) → snap_in r id ≡ o
        → AllByRecursion (λ (e : Id × SnapData). IsSnap e.1) (cons_option (option_map (λ snap. (id, snap)) o) (filter_map (named_snap r) ids))
    cases rest None is = rest
    cases rest (Some snap) is = (snap_so law r id snap is, rest)

  each_read : AllByRecursion (λ (e : Id × SnapData). IsSnap e.1) (entries (snaps_in r))
  unfolding snaps_in
  each_read = All-entries id_total id_exact (λ (e : Id × SnapData). IsSnap e.1) (filter_map (named_snap r) (ids_in r Snapshot)) (each_named (ids_in r Snapshot))

  abbrev HasTextTags : FactsData → Type 0
  HasTextTags s = All IsUtf8 s.tags

  same_tags : (e : Id × SnapData) (s : FactsData) → named_facts e ≡ Some s → e.1.tags ≡ s.tags
  same_tags e s = cases (time_in e.1.time) where
    cases : (o : Option Time) → result_ok (ok_or (option_map (facts_at e.0 e.1) o) BadTime) ≡ Some s → e.1.tags ≡ s.tags
    cases None is = (cc is)
    cases (Some time) is =
        let same : facts_at e.0 e.1 time ≡ s = cc is in
        ap (λ (t : FactsData). t.tags) same

  facts_texts : (es : List (Id × SnapData)) → AllByRecursion (λ (e : Id × SnapData). IsSnap e.1) es → AllByRecursion HasTextTags (filter_map named_facts es)
  facts_texts [] h = tt
  facts_texts (e ∷ es) h = cases (facts_texts es h.1) (named_facts e) refl where
    cases : AllByRecursion HasTextTags (filter_map named_facts es) → (o : Option FactsData) → named_facts e ≡ o → AllByRecursion HasTextTags (cons_option o (filter_map named_facts es))
    cases rest None is = rest
    cases rest (Some s) is = (subst (λ (tags : Tags). All IsUtf8 tags) (same_tags e s is) h.0.tags, rest)

  kept_texts : (p : FactsData → Bool) (all : List FactsData) → AllByRecursion HasTextTags all → AllByRecursion HasTextTags (filter p all)
  kept_texts p [] h = tt
  kept_texts p (s ∷ all) h = cases (kept_texts p all h.1) (p s) where
    cases : AllByRecursion HasTextTags (filter p all) → (b : Bool) → AllByRecursion HasTextTags (cond b (s ∷ filter p all) (filter p all))
    cases rest true = (h.0, rest)
    cases rest false = rest

  taken_texts : (rule : Pick) → AllByRecursion HasTextTags (taken_in rule r)
  unfolding taken_in
  taken_texts rule = kept_texts (picks rule) (filter_map named_facts (entries (snaps_in r))) (facts_texts (entries (snaps_in r)) each_read)

-- ---- new snapshots

-- the laws on snapshots, and on names
pub record Laws : Type 0 where
  pub apart : TellsApart name_cmp
  pub settling : WhatIsStoredCanBeMade
  pub sorted : SortedListsAreWellFormed
  pub read : ReadIsSnap
  pub written : (s : SnapData) → IsSnap s → reading.snap_of (compact_text (snap_data s)) ≡ Ok s
  pub retagging : (s : SnapData) (old : Id) (tags : Tags) → IsSnap s → IsDigest old → All IsUtf8 tags → IsSnap (retagged s old tags)
  pub safe : RetaggingIsSafe

module _ (laws : Laws) (r : Repository) (rule : Pick) (edit : EditData) where
  -- a new file is that of an old snapshot with edited tags
  record IsNew (f : NamedBytes) : Type 0 where
    pub s : FactsData
    pub snap : SnapData
    pub said : snap_in r s.name ≡ Some snap
    pub old : has_name (file_names (old_files r rule edit)) (named Snapshot s.name) ≡ true
    pub texts : All IsUtf8 s.tags
    pub same : tagged_file snap s.name (edited edit s.tags) ≡ f

  abbrev IsOld : FactsData → Type 0
  IsOld s = IsThere laws.apart r s.name → has_name (file_names (old_files r rule edit)) (named Snapshot s.name) ≡ true

  new_of : (s : FactsData) → IsOld s → All IsUtf8 s.tags → (o : Option SnapData) → snap_in r s.name ≡ o → (f : NamedBytes)
      → option_map (λ snap. tagged_file snap s.name (edited edit s.tags)) o ≡ Some f → IsNew f
  new_of s old texts None said f is = (cc is)
  new_of s old texts (Some snap) said f is = record {
    s = s;
    snap = snap;
    said = said;
    old = old (snap_there r s.name snap said);
    texts = texts;
    same = cc is;
  }

  each_new : (ss : List FactsData) → AllByRecursion IsOld ss → AllByRecursion (λ s. All IsUtf8 s.tags) ss → AllByRecursion IsNew (filter_map (retagged_file r edit) ss)
  each_new [] old texts = tt
  each_new (s ∷ ss) old texts = cases (each_new ss old.1 texts.1) (retagged_file r edit s) refl where
    cases : AllByRecursion IsNew (filter_map (retagged_file r edit) ss) → (o : Option NamedBytes) → retagged_file r edit s ≡ o
        → AllByRecursion IsNew (cons_option o (filter_map (retagged_file r edit) ss))
    cases rest None is = rest
    cases rest (Some f) is = (new_of s old.0 texts.0 (snap_in r s.name) refl f is, rest)

  all_old : (ss : List FactsData) → ss ≡ changed r rule edit → AllByRecursion IsOld ss
  unfolding files_there
  all_old ss same =
      subst (λ (all : List FactsData). AllByRecursion (λ s. IsThere laws.apart r s.name → has_name (file_names (filter_map (λ id. file_there r (named Snapshot id)) (names_of all))) (named Snapshot s.name) ≡ true) ss) same
      (each_dropped laws.apart r ss)

  all_new : AllByRecursion IsNew (new_files r rule edit)
  all_new =
      each_new (changed r rule edit) (all_old (changed r rule edit) refl)
      (kept_texts laws.read r (λ s. not (are_same s.tags (edited edit s.tags))) (taken_in rule r) (taken_texts laws.read r rule))

  module _ (all : Repository) (part : IsPartOf r all) (files : AreFiles r) (texts : HasTexts edit) where
    its_digest : (name : Id) → IsSome (get r.files (named Snapshot name)) → IsDigest name
    its_digest name = cases (get r.files (named Snapshot name)) refl where
      cases : (o : Option (List ℕ)) → get r.files (named Snapshot name) ≡ o → IsSome o → IsDigest name
      cases None is h = cc h
      cases (Some bytes) is h = (files (named Snapshot name) bytes is).digest

    -- the root of a new snapshot is that of the old one
    same_root : (snapshot : Id) (f : NamedBytes) → named Snapshot snapshot ≡ f.name → (n : IsNew f) → IsIn all f → root_in all snapshot ≡ root_in all n.s.name
    same_root snapshot f named_so n there =
        let tags = edited edit n.s.tags in
        let made = retagged n.snap n.s.name tags in
        let digest : IsDigest n.s.name = its_digest n.s.name (snap_there r n.s.name n.snap n.said) in
        let whole : IsSnap made = laws.retagging n.snap n.s.name tags (snap_so laws.read r n.s.name n.snap n.said) digest (edited_texts edit n.s.tags texts n.texts) in
        let says : reading.snap_of f.bytes ≡ Ok made = subst (λ (g : NamedBytes). reading.snap_of g.bytes ≡ Ok made) n.same (tagged_says laws.written n.snap n.s.name tags whole) in
        let new : snap_in all snapshot ≡ Some made = said_in all snapshot f.bytes made (ap (get all.files) named_so ∙ there) says in
        let old : snap_in all n.s.name ≡ Some n.snap = snap_part r all part n.s.name n.snap n.said in
        ap (option_map root_of) new ∙ sym (ap (option_map root_of) old)

    keeps_roots : (adds : List NamedBytes) → AllByRecursion IsNew adds → AllByRecursion (IsIn all) adds → KeepsRoots all (swapping (old_files r rule edit) adds)
    keeps_roots adds new there snapshot h =
        let found : Found laws.apart (λ f. IsNew f × IsIn all f) (named Snapshot snapshot) =
        found_so laws.apart (λ f. IsNew f × IsIn all f) (named Snapshot snapshot) adds (all_both IsNew (IsIn all) (λ f. IsNew f × IsIn all f) (λ f a b. (a, b)) adds new there) h in
        let n = found.so.0 in (
          n.s.name,
          ap (λ b. b || false) n.old,
          same_root snapshot found.file found.same n found.so.1,
        )

pub tagging_safe : Laws → TaggingIsSafe
tagging_safe laws r all known rule edit c is texts met files added =
    tag_so r rule edit (λ d. d ≡ c → IsSafe all known d) so c is refl
  where
    so : old_files r rule edit ≢ [] → swapping (old_files r rule edit) (absent_files r (new_files r rule edit)) ≡ c
        → IsSafe all known (swapping (old_files r rule edit) (absent_files r (new_files r rule edit)))
    so some same =
        let adds = absent_files r (new_files r rule edit) in
        let d = swapping (old_files r rule edit) adds in
        let formed = tag_well_formed r rule edit laws.apart laws.settling laws.sorted d (is ∙ ap Ok (sym same)) in
        let there : All (IsIn all) adds = subst (λ (e : Change). All (IsIn all) e.adds) (sym same) added in
        laws.safe all known d met.one_text formed.once there refl (files_are_snapshots r (names_of (changed r rule edit)))
        (keeps_roots laws r rule edit all met.part files texts adds (added_so r (IsNew laws r rule edit) (new_files r rule edit) (all_new laws r rule edit)) (recursion_from_All (IsIn all) adds there))
