-- A rewrite that is planned is safe.
use Rattle.std.proofs.Common.{◌≡◌, ◌⊎◌, inl, inr, ℕ, Bool, true, false, ◌||◌, cond, not, List, [], ◌∷◌, ◌++◌, map, IsSome, Option, None, Some, Ok, option_map, refl, sym, ap, subst, ◌∙◌}
use Rattle.std.proofs.lemmas.Bool.{or_left, or_right}
use Rattle.std.proofs.lemmas.List.Elements.{All-from_recursion, recursion_from_All}
use Rattle.std.proofs.lemmas.List.Folds.{list_any-append}
use Rattle.std.specs.Cmp.{eq_by_cmp_equiv}
use Rattle.std.specs.FinMap.{get}
use Rattle.std.specs.List.{AllByRecursion, cons_option, list_any}
use Rattle.std.specs.Ordering.{eq_by_cmp}
use Rattle.std.specs.Result.{result_ok}
use Rattle.keep_names.proofs.Orders.{blob_total}
use Rattle.keep_names.specs.BlobId.{tree_at}
use Rattle.keep_names.specs.FileName.{named}
use Rattle.keep_names.specs.Id.{IsDigest}
use Rattle.keep_names.specs.Laws.{TellsApart}
use Rattle.keep_names.specs.Orders.{name_cmp}
use Rattle.keep_names.specs.declared.file_name.FileName.{FileName}
use Rattle.keep_names.specs.declared.file_name.Kind.TheVariants.{Snapshot}
use Rattle.keep_names.specs.declared.id.Id.{Id}
use Rattle.keep_repo.specs.Repository.{Repository}
use Rattle.keep_snap.proofs.Inverse.{IsSnap-snap_of}
use Rattle.keep_snap.proofs.Relabelled.{IsSnap-retreed}
use Rattle.keep_snap.proofs.RoundTrip.{snap_of-compact_text}
use Rattle.keep_snap.specs.Facts.{FactsData}
use Rattle.keep_snap.specs.Relabel.{retreed}
use Rattle.keep_snap.specs.Shape.{IsSnap}
use Rattle.keep_snap.specs.Snap as reading
use Rattle.keep_snap.specs.Snap.{SnapData}
use Rattle.keep_patterns.specs.Parsing.{PatternData}
use Rattle.keep_change.specs.Filling.{has_name}
use Rattle.keep_change.specs.Lists.{file_names}
use Rattle.keep_change.specs.NamedBytes.{NamedBytes}
use Rattle.keep_change.specs.declared.change.Change.{Change}
use Rattle.keep_catalog.specs.Files.{file_in, snap_in, snap_of, snap_read}
use Rattle.keep_catalog.specs.Orders.{blob_eq}
use Rattle.keep_reach.specs.Reach.{most_levels}
use Rattle.keep_reach.specs.Snapshots.{refusal_from, root_of}
use Rattle.keep_plan.specs.Taking.{taken_in}
use Rattle.keep_plan.specs.declared.pick.Pick.{Pick}
use Rattle.keep_plan.proofs.Made.{added_so}
use Rattle.keep_sound.proofs.Covering.{file_of_name}
use Rattle.keep_sound.specs.Careful.{IsSafe}
use Rattle.keep_sound.specs.Forms.{AreOf}
use Rattle.keep_sound.specs.Met.{AddsPart, IsIn, IsPartOf}
use Rattle.keep_sound.specs.Retreeing.{Retrees, RetreesOne, Rewrites, RewritingIsSafe}
use Rattle.keep_build.specs.Blobs.{BlobData, blob_id_of}
use Rattle.keep_safety.specs.SafeBackup.{StoringGives, Takes}
use Rattle.keep_build.specs.Stored.{stored_of}
use Rattle.keep_rewrite.specs.Finishing.{HasBlobData}
use Rattle.keep_rewrite.specs.Leaving.{finished, tree_left}
use Rattle.keep_rewrite.specs.Rewriting.{Retreed, finished_for, new_file, new_files, old_file, old_files, old_names, retreed_file}
use Rattle.keep_safety.specs.Met.{AreFiles, IsMet}
use Rattle.keep_safety.specs.SafeRewrite.{IsOneText, MeetsRewrite, RewriteIsSafe}
use Rattle.keep_rewrite.specs.Walking.{AreReached}
use Rattle.keep_plan.proofs.Carried.{snap_so}
use Rattle.keep_rewrite.proofs.Finished.{in_first, in_second}
use Rattle.keep_rewrite.proofs.Kept.{left_ids}
use Rattle.keep_rewrite.proofs.Listed.{IsBefore, IsOfSnapshot, adds_before, all_append, all_by, names_both, never_both}
use Rattle.keep_rewrite.proofs.Made.{IsThere, olds_of_snapshots, snap_there}
use Rattle.keep_rewrite.proofs.Picked.{IsPicked, all_picked}
use Rattle.keep_rewrite.proofs.Planned.{IsDue, change_so, each_retreed, made, news, retreed as retreed_all, trees, well_formed}
use Rattle.keep_safety.proofs.Retreeing.{AreFine, TreeLaws, tree_retrees}
use Rattle.keep_rewrite.proofs.Several.{finished_more, finished_one}

-- the laws on names, storing, trees and snapshots
pub record Laws : Type 0 where
  pub apart : TellsApart name_cmp
  pub storing : StoringGives
  pub on_trees : TreeLaws
  pub rewriting : RewritingIsSafe

-- ---- names in lists

or_true : (b : Bool) → (b || true) ≡ true
or_true true = refl
or_true false = refl

has_first : (names more : List FileName) (name : FileName) → has_name names name ≡ true → has_name (names ++ more) name ≡ true
has_first names more name h = list_any-append (eq_by_cmp name_cmp name) names more ∙ or_left (has_name names name) (has_name more name) h

has_second : (names more : List FileName) (name : FileName) → has_name more name ≡ true → has_name (names ++ more) name ≡ true
has_second names more name h = list_any-append (eq_by_cmp name_cmp name) names more ∙ or_right (has_name names name) (has_name more name) h

-- a blob is among these by its name
by_name : (trees : List BlobData) (b : BlobData) → HasBlobData trees b → list_any (blob_eq (blob_id_of b)) (map blob_id_of trees) ≡ true
by_name [] b h = absurd h
by_name (x ∷ xs) b (inl here) =
    ap (λ t. t || list_any (blob_eq (blob_id_of b)) (map blob_id_of xs))
    (ap (λ (y : BlobData). blob_eq (blob_id_of b) (blob_id_of y)) here ∙ (eq_by_cmp_equiv blob_total).refl (blob_id_of b))
by_name (x ∷ xs) b (inr there) = ap (λ t. blob_eq (blob_id_of b) (blob_id_of x) || t) (by_name xs b there) ∙ or_true (blob_eq (blob_id_of b) (blob_id_of x))

each_among : (P : BlobData → Type 0) (trees : List BlobData) → AllByRecursion P trees → (b : BlobData) → HasBlobData trees b → P b
each_among P [] h b none = absurd none
each_among P (x ∷ xs) h b (inl here) = subst P here h.0
each_among P (x ∷ xs) h b (inr there) = each_among P xs h.1 b there

-- ---- the old snapshots are dropped, or have to be present

module _ (apart : TellsApart name_cmp) (r : Repository) where
  own_name : (name : FileName) → eq_by_cmp name_cmp name name ≡ true
  own_name name = (apart name name).1 refl

  all_named : (ids ks : List Retreed) → AllByRecursion (λ (k : Retreed). has_name (old_names ids) (named Snapshot k.0) ≡ true) ks → (id : Retreed) → AllByRecursion (λ (k : Retreed). has_name (old_names (id ∷ ids)) (named Snapshot k.0) ≡ true) ks
  all_named ids [] h id = tt
  all_named ids (k ∷ ks) h id = (ap (λ b. eq_by_cmp name_cmp (named Snapshot k.0) (named Snapshot id.0) || b) h.0 ∙ or_true (eq_by_cmp name_cmp (named Snapshot k.0) (named Snapshot id.0)), all_named ids ks h.1 id)

  each_named : (ids : List Retreed) → AllByRecursion (λ (k : Retreed). has_name (old_names ids) (named Snapshot k.0) ≡ true) ids
  each_named [] = tt
  each_named (id ∷ ids) = (ap (λ b. b || has_name (old_names ids) (named Snapshot id.0)) (own_name (named Snapshot id.0)), all_named ids ids (each_named ids) id)

  abbrev IsDropped : List Retreed → Retreed → Type 0
  IsDropped ids k = IsThere r k.0 → has_name (file_names (old_files r ids)) (named Snapshot k.0) ≡ true

  has_more : (name : FileName) (o : Option NamedBytes) (fs : List NamedBytes) → has_name (file_names fs) name ≡ true → has_name (file_names (cons_option o fs)) name ≡ true
  has_more name None fs h = h
  has_more name (Some f) fs h = ap (λ b. eq_by_cmp name_cmp name f.name || b) h ∙ or_true (eq_by_cmp name_cmp name f.name)

  first_dropped : (id : Retreed) (ids : List Retreed) → IsDropped (id ∷ ids) id
  first_dropped id ids = cases (get r.files (named Snapshot id.0)) where
    cases : (o : Option (List ℕ)) → IsSome o → has_name (file_names (cons_option (option_map (λ bytes. record { name = named Snapshot id.0; bytes = bytes }) o) (old_files r ids))) (named Snapshot id.0) ≡ true
    cases None h = (cc h)
    cases (Some bytes) h = ap (λ b. b || has_name (file_names (old_files r ids)) (named Snapshot id.0)) (own_name (named Snapshot id.0))

  all_dropped : (id : Retreed) (ids ks : List Retreed) → AllByRecursion (IsDropped ids) ks → AllByRecursion (IsDropped (id ∷ ids)) ks
  all_dropped id ids [] h = tt
  all_dropped id ids (k ∷ ks) h = (λ there. has_more (named Snapshot k.0) (old_file r id) (old_files r ids) (h.0 there), all_dropped id ids ks h.1)

  each_dropped : (ids : List Retreed) → AllByRecursion (IsDropped ids) ids
  each_dropped [] = tt
  each_dropped (id ∷ ids) = (first_dropped id ids, all_dropped id ids ids (each_dropped ids))

-- ---- what the new files say

bytes_say : (bytes : List ℕ) (s : SnapData) → reading.snap_of bytes ≡ Ok s → snap_of bytes ≡ Ok s
unfolding snap_of
bytes_say bytes s h = h

said_in : (all : Repository) (name : Id) (bytes : List ℕ) (s : SnapData) → get all.files (named Snapshot name) ≡ Some bytes → reading.snap_of bytes ≡ Ok s → snap_in all name ≡ Some s
unfolding snap_in file_in
said_in all name bytes s is h = ap snap_read is ∙ ap result_ok (bytes_say bytes s h)

snap_part : (r all : Repository) → IsPartOf r all → (name : Id) (snap : SnapData) → snap_in r name ≡ Some snap → snap_in all name ≡ Some snap
unfolding snap_in file_in
snap_part r all part name snap h = cases (get r.files (named Snapshot name)) refl h where
  cases : (o : Option (List ℕ)) → get r.files (named Snapshot name) ≡ o → snap_read o ≡ Some snap → snap_read (get all.files (named Snapshot name)) ≡ Some snap
  cases None is g = (cc g)
  cases (Some bytes) is g = ap snap_read (part (named Snapshot name) bytes is) ∙ g

retreed_says : (forget : Bool) (snap : SnapData) (new : Retreed) → IsSnap (retreed snap new.0 new.1 (not forget)) → reading.snap_of (retreed_file forget snap new).bytes ≡ Ok (retreed snap new.0 new.1 (not forget))
unfolding retreed_file
retreed_says forget snap new h = snap_of-compact_text (retreed snap new.0 new.1 (not forget)) h

-- ---- the change

module _ (laws : Laws) (r all : Repository) (rule : Pick) (patterns : List PatternData) (forget : Bool) where
  abbrev d : Change
  d = made r rule patterns forget

  -- what is known of each snapshot from which something goes
  record IsRewritten (new : Retreed) : Type 0 where
    pub snap : SnapData
    pub said : snap_in r new.0 ≡ Some snap
    pub left : new.1 ≡ tree_left r patterns most_levels [] snap.tree
    pub had : refusal_from r (tree_at snap.tree) ≡ None
    pub part : (b : BlobData) → HasBlobData (finished r patterns most_levels [] snap.tree) b → HasBlobData (trees r rule patterns forget) b

  finished_among : (ss : List FactsData) → AllByRecursion (λ (s : FactsData). (b : BlobData) → HasBlobData (finished r patterns most_levels [] s.tree) b → HasBlobData (finished_for r patterns ss) b) ss
  finished_among [] = tt
  finished_among (s ∷ ss) = (
    λ b h. subst (λ (ts : List BlobData). HasBlobData ts b) (finished_more r patterns s ss)
        (in_first (finished_for r patterns (s ∷ [])) (finished_for r patterns ss) b (subst (λ (ts : List BlobData). HasBlobData ts b) (finished_one r patterns s) h)),
    all_by (λ (t : FactsData). (b : BlobData) → HasBlobData (finished r patterns most_levels [] t.tree) b → HasBlobData (finished_for r patterns ss) b)
        (λ (t : FactsData). (b : BlobData) → HasBlobData (finished r patterns most_levels [] t.tree) b → HasBlobData (finished_for r patterns (s ∷ ss)) b)
        (λ t k b h. subst (λ (ts : List BlobData). HasBlobData ts b) (finished_more r patterns s ss) (in_second (finished_for r patterns (s ∷ [])) (finished_for r patterns ss) b (k b h))) ss (finished_among ss),
  )

  all_rewritten : (ss : List FactsData) → AllByRecursion (IsPicked r) ss → AreReached r ss
      → AllByRecursion (λ (s : FactsData). (b : BlobData) → HasBlobData (finished r patterns most_levels [] s.tree) b → HasBlobData (trees r rule patterns forget) b) ss
      → AllByRecursion (λ (s : FactsData). IsRewritten (s.name, tree_left r patterns most_levels [] s.tree)) ss
  all_rewritten [] picked reached among = tt
  all_rewritten (s ∷ ss) picked reached among = (
    record {
      snap = picked.0.snap;
      said = picked.0.said;
      left = ap (λ (id : Id). tree_left r patterns most_levels [] id) (sym picked.0.tree);
      had = ap (λ (id : Id). refusal_from r (tree_at id)) picked.0.tree ∙ reached.0;
      part = λ b h. among.0 b (subst (λ (id : Id). HasBlobData (finished r patterns most_levels [] id) b) picked.0.tree h);
    },
    all_rewritten ss picked.1 reached.1 among.1,
  )

  each_rewritten : AreReached r (taken_in rule r) → AllByRecursion IsRewritten (retreed_all r rule patterns forget)
  each_rewritten reached =
      each_retreed r rule patterns forget IsRewritten
      (all_rewritten (taken_in rule r) (all_picked r rule) reached (finished_among (taken_in rule r)))

  -- ---- what is stored

  takes : Takes d (stored_of r (trees r rule patterns forget))
  takes = record {
    adds = λ name h. ap (λ (names : List FileName). has_name names name) (names_both (stored_of r (trees r rule patterns forget)).adds (news r rule patterns forget))
        ∙ has_first (file_names (stored_of r (trees r rule patterns forget)).adds) (file_names (news r rule patterns forget)) name h;
    present = λ name h. still forget name h;
    clears = λ pack h. h;
    unmarked = λ pack h. h;
  } where
    still : (b : Bool) (name : FileName) → has_name (stored_of r (trees r rule patterns forget)).present name ≡ true
        → has_name (cond b (stored_of r (trees r rule patterns forget)).present ((stored_of r (trees r rule patterns forget)).present ++ old_names (retreed_all r rule patterns forget))) name ≡ true
    still true name h = h
    still false name h = has_first (stored_of r (trees r rule patterns forget)).present (old_names (retreed_all r rule patterns forget)) name h

  -- the old snapshot is dropped or has to be present
  abbrev IsNeeded : Retreed → Type 0
  IsNeeded new = (has_name (file_names d.drops) (named Snapshot new.0) || has_name d.present (named Snapshot new.0)) ≡ true

  all_needed : (b : Bool) (ks : List Retreed) → AllByRecursion IsRewritten ks
      → AllByRecursion (IsDropped laws.apart r (retreed_all r rule patterns forget)) ks
      → AllByRecursion (λ (k : Retreed). has_name (old_names (retreed_all r rule patterns forget)) (named Snapshot k.0) ≡ true) ks
      → AllByRecursion (λ (k : Retreed). (has_name (file_names (cond b (old_files r (retreed_all r rule patterns forget)) [])) (named Snapshot k.0)
      || has_name (cond b (stored_of r (trees r rule patterns forget)).present ((stored_of r (trees r rule patterns forget)).present ++ old_names (retreed_all r rule patterns forget))) (named Snapshot k.0)) ≡ true) ks
  all_needed b [] rewritten drop name = tt
  all_needed true (k ∷ ks) rewritten drop name = (or_left _ _ (drop.0 (snap_there r k.0 rewritten.0.snap rewritten.0.said)), all_needed true ks rewritten.1 drop.1 name.1)
  all_needed false (k ∷ ks) rewritten drop name =
      (has_second (stored_of r (trees r rule patterns forget)).present (old_names (retreed_all r rule patterns forget)) (named Snapshot k.0) name.0, all_needed false ks rewritten.1 drop.1 name.1)

  each_needed : AllByRecursion IsRewritten (retreed_all r rule patterns forget) → AllByRecursion IsNeeded (retreed_all r rule patterns forget)
  each_needed rewritten = all_needed forget (retreed_all r rule patterns forget) rewritten (each_dropped laws.apart r (retreed_all r rule patterns forget)) (each_named laws.apart r (retreed_all r rule patterns forget))

  -- ---- the new files

  record IsNew (f : NamedBytes) : Type 0 where
    pub new : Retreed
    pub rewritten : IsRewritten new
    pub needed : IsNeeded new
    pub same : retreed_file forget rewritten.snap new ≡ f

  new_of : (new : Retreed) (rewritten : IsRewritten new) → IsNeeded new → (f : NamedBytes) → new_file r forget new ≡ Some f → IsNew f
  new_of new rewritten needed f is =
      let made_is : Some (retreed_file forget rewritten.snap new) ≡ Some f = sym (ap (option_map (λ snap. retreed_file forget snap new)) rewritten.said) ∙ is in
      record { new = new; rewritten = rewritten; needed = needed; same = cc made_is }

  each_new : (ks : List Retreed) → AllByRecursion IsRewritten ks → AllByRecursion IsNeeded ks → AllByRecursion IsNew (new_files r forget ks)
  each_new [] rewritten needed = tt
  each_new (k ∷ ks) rewritten needed = cases (each_new ks rewritten.1 needed.1) (new_file r forget k) refl where
    cases : AllByRecursion IsNew (new_files r forget ks) → (o : Option NamedBytes) → new_file r forget k ≡ o → AllByRecursion IsNew (cons_option o (new_files r forget ks))
    cases rest None is = rest
    cases rest (Some f) is = (new_of k rewritten.0 needed.0 f is, rest)

  module _ (met : IsMet all r) (files : AreFiles r) (added : AddsPart all d) (meets : MeetsRewrite all r rule patterns) (due : IsDue r rule patterns forget) where
    its_digest : (name : Id) → IsSome (get r.files (named Snapshot name)) → IsDigest name
    its_digest name = cases (get r.files (named Snapshot name)) refl where
      cases : (o : Option (List ℕ)) → get r.files (named Snapshot name) ≡ o → IsSome o → IsDigest name
      cases None is h = cc h
      cases (Some bytes) is h = (files (named Snapshot name) bytes is).digest

    fine : AreFine laws.on_trees r all met.part met.one_text d patterns (trees r rule patterns forget)
    fine b among = record {
      given = laws.storing r all (trees r rule patterns forget) d met.part due.short meets.built takes (blob_id_of b) (by_name (trees r rule patterns forget) b among);
      met = each_among (IsOneText all) (trees r rule patterns forget) (recursion_from_All (IsOneText all) (trees r rule patterns forget) meets.trees) b among;
    }

    retrees_one : (snapshot : Id) (f : NamedBytes) → f.name ≡ named Snapshot snapshot → IsIn all f → IsNew f → RetreesOne all d snapshot
    retrees_one snapshot f name_is there n =
        let new = n.new in
        let snap = n.rewritten.snap in
        let old_snap : IsSnap snap = snap_so IsSnap-snap_of r new.0 snap n.rewritten.said in
        let old_id : IsDigest new.0 = its_digest new.0 (snap_there r new.0 snap n.rewritten.said) in
        let new_id : IsDigest new.1 = subst IsDigest (sym n.rewritten.left) (left_ids r patterns most_levels [] snap.tree old_snap.tree) in
        let whole : IsSnap (retreed snap new.0 new.1 (not forget)) = IsSnap-retreed snap new.0 new.1 (not forget) old_snap old_id new_id in
        let says : reading.snap_of f.bytes ≡ Ok (retreed snap new.0 new.1 (not forget)) =
        subst (λ (g : NamedBytes). reading.snap_of g.bytes ≡ Ok (retreed snap new.0 new.1 (not forget))) n.same (retreed_says forget snap new whole) in
        record {
          snapshot = new.0;
          old = tree_at snap.tree;
          new = tree_at new.1;
          needed = n.needed;
          old_is = ap (option_map root_of) (snap_part r all met.part new.0 snap n.rewritten.said);
          new_is = ap (option_map root_of) (said_in all snapshot f.bytes (retreed snap new.0 new.1 (not forget)) (ap (get all.files) (sym name_is) ∙ there) says);
          retrees = subst (λ (id : Id). Retrees all d most_levels (tree_at snap.tree) (tree_at id)) (sym n.rewritten.left)
              (tree_retrees laws.on_trees r all met.part met.one_text d patterns most_levels [] snap.tree n.rewritten.had (λ b h. fine b (n.rewritten.part b h)));
        }

    abbrev IsAdded : NamedBytes → Type 0
    IsAdded f = IsIn all f × (IsBefore f.name ⊎ IsNew f)

    both : (fs : List NamedBytes) → AllByRecursion (IsIn all) fs → AllByRecursion (λ (f : NamedBytes). IsBefore f.name ⊎ IsNew f) fs → AllByRecursion IsAdded fs
    both [] h g = tt
    both (f ∷ fs) h g = ((h.0, g.0), both fs h.1 g.1)

    each_added : AllByRecursion IsAdded d.adds
    each_added =
        let rewritten = each_rewritten due.reached in
        both d.adds (recursion_from_All (IsIn all) d.adds added)
        (all_append (λ (f : NamedBytes). IsBefore f.name ⊎ IsNew f) (stored_of r (trees r rule patterns forget)).adds (news r rule patterns forget)
        (all_by (λ (f : NamedBytes). IsBefore f.name) (λ (f : NamedBytes). IsBefore f.name ⊎ IsNew f) (λ f h. inl h) (stored_of r (trees r rule patterns forget)).adds (adds_before r (trees r rule patterns forget)))
        (all_by IsNew (λ (f : NamedBytes). IsBefore f.name ⊎ IsNew f) (λ f h. inr h) (news r rule patterns forget)
        (added_so r IsNew (new_files r forget (retreed_all r rule patterns forget)) (each_new (retreed_all r rule patterns forget) rewritten (each_needed rewritten)))))

    each_retrees : (snapshot : Id) → has_name (file_names d.adds) (named Snapshot snapshot) ≡ true → RetreesOne all d snapshot
    each_retrees snapshot h =
        let found = file_of_name laws.apart IsAdded d.adds (named Snapshot snapshot) each_added h in
        elim found.2.1 [
          | inl before ↦ absurd (never_both found.0.name before (snapshot, found.1))
          | inr n ↦ retrees_one snapshot found.0 found.1 found.2.0 n
        ]

    drops_snapshots : (b : Bool) → AreOf Snapshot (cond b (old_files r (retreed_all r rule patterns forget)) [])
    drops_snapshots true =
        All-from_recursion (λ (f : NamedBytes). f.name.kind ≡ Snapshot) (old_files r (retreed_all r rule patterns forget))
        (all_by (λ (f : NamedBytes). IsOfSnapshot f.name) (λ (f : NamedBytes). f.name.kind ≡ Snapshot) (λ f is. ap (λ (n : FileName). n.kind) is.1) (old_files r (retreed_all r rule patterns forget))
        (olds_of_snapshots r (retreed_all r rule patterns forget)))
    drops_snapshots false = All-from_recursion (λ (f : NamedBytes). f.name.kind ≡ Snapshot) [] tt

    rewrites : Rewrites all d
    rewrites = record { no_marks = refl; drops = drops_snapshots forget; trees = each_retrees }

pub rewrite_safe : Laws → RewriteIsSafe
rewrite_safe laws r all known rule patterns forget c is met files added meets =
    change_so r rule patterns forget (λ e. e ≡ c → IsSafe all known e) so c is refl
  where
    so : IsDue r rule patterns forget → made r rule patterns forget ≡ c → IsSafe all known (made r rule patterns forget)
    so due same =
        let here : AddsPart all (made r rule patterns forget) = subst (λ (e : Change). AddsPart all e) (sym same) added in
        let formed = well_formed r rule patterns forget (made r rule patterns forget) (is ∙ ap (λ e. Ok e) (sym same)) in
        laws.rewriting all known (made r rule patterns forget) met.one_text formed.once here (rewrites laws r all rule patterns forget met files here meets due)
