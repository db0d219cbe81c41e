-- The snapshots that a rewrite takes.
use Rattle.std.proofs.Common.{◌≡◌, List, [], ◌∷◌, map, Option, None, Some, option_map, ok_or, refl, sym, ap, ◌∙◌}
use Rattle.std.specs.FinMap.{entries}
use Rattle.std.specs.List.{AllByRecursion, cons_option, filter_map}
use Rattle.std.specs.List.Sorted.{IsStrictlySortedBy}
use Rattle.std.specs.Option.{option_and_then}
use Rattle.std.specs.Result.{result_ok}
use Rattle.keep_names.proofs.Orders.{id_exact, id_total}
use Rattle.keep_names.specs.BlobId.{tree_at}
use Rattle.keep_names.specs.Orders.{id_cmp}
use Rattle.keep_names.specs.declared.file_name.Kind.TheVariants.{Snapshot}
use Rattle.keep_names.specs.declared.id.Id.{Id}
use Rattle.keep_repo.specs.Repository.{Repository}
use Rattle.keep_snap.specs.Facts.{FactsData, facts_at}
use Rattle.keep_snap.specs.Snap.{SnapData}
use Rattle.keep_snap.specs.Time.{time_in}
use Rattle.keep_snap.specs.declared.snap.SnapError.TheVariants.{BadTime}
use Rattle.keep_snap.specs.declared.time.Time.{Time}
use Rattle.keep_repo.proofs.Rising.{keys_in_order}
use Rattle.keep_catalog.specs.Files.{ids_in, named_snap, snap_in, snaps_in}
use Rattle.keep_reach.specs.Snapshots.{refusal_from, refusal_of, refusals_of, root_of}
use Rattle.keep_catalog.specs.declared.reach_error.ReachError.{ReachError}
use Rattle.keep_plan.specs.Picks.{picks}
use Rattle.keep_plan.specs.Taking.{named_facts, taken_in}
use Rattle.keep_plan.specs.declared.pick.Pick.{Pick}
use Rattle.keep_plan.proofs.Ordered.{All-entries}
use Rattle.keep_rewrite.specs.Walking.{AreReached}
use Rattle.keep_rewrite.proofs.Kept.{passed}
use Rattle.keep_plan.proofs.Rising.{rise_kept, rise_made}

-- what the snapshot of these facts says
pub record IsPicked (r : Repository) (s : FactsData) : Type 0 where
  pub snap : SnapData
  pub said : snap_in r s.name ≡ Some snap
  pub tree : snap.tree ≡ s.tree

-- what the facts keep of a snapshot
record Told (e : Id × SnapData) (s : FactsData) : Type 0 where
  pub name : s.name ≡ e.0
  pub tree : e.1.tree ≡ s.tree

told : (e : Id × SnapData) (s : FactsData) → named_facts e ≡ Some s → Told e s
told e s = cases (time_in e.1.time) where
  cases : (o : Option Time) → result_ok (ok_or (option_map (facts_at e.0 e.1) o) BadTime) ≡ Some s → Told e s
  cases None is = (cc is)
  cases (Some time) is =
      let same : facts_at e.0 e.1 time ≡ s = cc is in
      record { name = sym (ap (λ (t : FactsData). t.name) same); tree = ap (λ (t : FactsData). t.tree) same }

module _ (r : Repository) where
  abbrev IsSaid : Id × SnapData → Type 0
  IsSaid e = snap_in r e.0 ≡ Some e.1

  each_named : (ids : List Id) → AllByRecursion IsSaid (filter_map (named_snap r) ids)
  each_named [] = tt
  each_named (id ∷ ids) = cases (each_named ids) (snap_in r id) refl where
    cases : AllByRecursion IsSaid (filter_map (named_snap r) ids) → (o : Option SnapData) → snap_in r id ≡ o
        → AllByRecursion IsSaid (cons_option (option_map (λ snap. (id, snap)) o) (filter_map (named_snap r) ids))
    cases rest None is = rest
    cases rest (Some snap) is = (is, rest)

  each_said : AllByRecursion IsSaid (entries (snaps_in r))
  unfolding snaps_in
  each_said = All-entries id_total id_exact IsSaid (filter_map (named_snap r) (ids_in r Snapshot)) (each_named (ids_in r Snapshot))

  facts_picked : (es : List (Id × SnapData)) → AllByRecursion IsSaid es → AllByRecursion (IsPicked r) (filter_map named_facts es)
  facts_picked [] h = tt
  facts_picked (e ∷ es) h = cases (facts_picked es h.1) (named_facts e) refl where
    cases : AllByRecursion (IsPicked r) (filter_map named_facts es) → (o : Option FactsData) → named_facts e ≡ o → AllByRecursion (IsPicked r) (cons_option o (filter_map named_facts es))
    cases rest None is = rest
    cases rest (Some s) is =
        let t = told e s is in
        (record { snap = e.1; said = ap (snap_in r) t.name ∙ h.0; tree = t.tree }, rest)

  pub all_picked : (rule : Pick) → AllByRecursion (IsPicked r) (taken_in rule r)
  unfolding taken_in
  all_picked rule = passed (picks rule) (IsPicked r) (filter_map named_facts (entries (snaps_in r))) (facts_picked (entries (snaps_in r)) each_said)

  pub picked_rise : (rule : Pick) → IsStrictlySortedBy id_cmp (map (λ (s : FactsData). s.name) (taken_in rule r))
  unfolding taken_in
  picked_rise rule =
      rise_kept id_cmp (λ (s : FactsData). s.name) (picks rule) (filter_map named_facts (entries (snaps_in r)))
      (rise_made id_cmp (λ (e : Id × SnapData). e.0) (λ (s : FactsData). s.name) named_facts (λ e s is. (told e s is).name) (entries (snaps_in r)) (keys_in_order id_cmp (snaps_in r)))

  -- ---- what they reach

  one_reached : (s : FactsData) → IsPicked r s → refusal_of r s.name ≡ None → refusal_from r (tree_at s.tree) ≡ None
  one_reached s picked none =
      ap (λ id. refusal_from r (tree_at id)) (sym picked.tree)
      ∙ sym (ap (λ o. option_and_then (λ (snap : SnapData). refusal_from r (root_of snap)) o) picked.said) ∙ none

  pub all_reached : (ss : List FactsData) → AllByRecursion (IsPicked r) ss → refusals_of r (map (λ (s : FactsData). s.name) ss) ≡ [] → AreReached r ss
  all_reached [] picked none = tt
  all_reached (s ∷ ss) picked none = cases (all_reached ss picked.1) (refusal_of r s.name) refl none where
    cases : (refusals_of r (map (λ (t : FactsData). t.name) ss) ≡ [] → AreReached r ss) → (o : Option ReachError) → refusal_of r s.name ≡ o
        → cons_option o (refusals_of r (map (λ (t : FactsData). t.name) ss)) ≡ [] → AreReached r (s ∷ ss)
    cases rest None is h = (one_reached s picked.0 is, rest h)
    cases rest (Some why) is h = (cc h)
