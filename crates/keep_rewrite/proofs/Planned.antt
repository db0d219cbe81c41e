-- What is planned, step by step, and what is answered.
use Rattle.std.proofs.Common.{◌≡◌, ◌≢◌, ◌≤◌, suc, Bool, true, false, cond, List, [], ◌∷◌, ◌++◌, length, map, filter, nat_lt, IfOk, Option, None, Some, option_map, Result, Ok, Err, refl, sym, ap, ap₂, subst, ◌∙◌, true≢false, arith}
use Rattle.std.proofs.lemmas.Bool.{ltb-false}
use Rattle.std.specs.List.{AllByRecursion, cons_option, list_any}
use Rattle.std.specs.List.Sorted.{IsStrictlySortedBy}
use Rattle.keep_names.specs.Orders.{id_cmp}
use Rattle.keep_names.specs.declared.id.Id.{Id}
use Rattle.keep_repo.specs.Repository.{Repository, held}
use Rattle.keep_patterns.specs.Matching.{is_nil}
use Rattle.keep_patterns.specs.Parsing.{PatternData}
use Rattle.keep_snap.specs.Facts.{FactsData}
use Rattle.keep_snap.specs.Snap.{SnapData}
use Rattle.keep_change.specs.Change.{is_met}
use Rattle.keep_change.specs.Form.{IsWellFormed}
use Rattle.keep_change.specs.NamedBytes.{NamedBytes}
use Rattle.keep_change.specs.declared.change.Change.{Change}
use Rattle.keep_change.specs.declared.change.Planned.{Planned}
use Rattle.keep_docs.specs.Doc.{Answers}
use Rattle.keep_catalog.specs.Files.{snap_in}
use Rattle.keep_reach.specs.Reach.{most_levels}
use Rattle.keep_view.specs.Planned.{IsPlannedOn}
use Rattle.keep_view.specs.Shown.{Shown}
use Rattle.keep_reach.specs.Snapshots.{refusals_of}
use Rattle.keep_catalog.specs.declared.reach_error.ReachError.{ReachError}
use Rattle.keep_plan.specs.Taking.{taken_in}
use Rattle.keep_plan.specs.declared.pick.Pick.{Pick}
use Rattle.keep_plan.specs.Refusal.{unless, unreached_first, unread_first}
use Rattle.keep_plan.proofs.Taken.{fewer_so}
use Rattle.keep_plan.specs.Storing.{absent_files, is_any_taken}
use Rattle.keep_plan.specs.declared.plan_error.PlanError.{PlanError}
use Rattle.keep_plan.specs.declared.plan_error.PlanError.TheVariants.{Full, Memory, NothingToDo, SnapshotThere}
use Rattle.keep_plan.specs.declared.stored.Stored.{Stored}
use Rattle.keep_names.specs.declared.blob.BlobType.TheVariants.{Content, Tree}
use Rattle.keep_plan.specs.Storing.{stored_built}
use Rattle.keep_build.specs.Blobs.{BlobData, blob_id_of, is_full, is_new, is_of, new_of}
use Rattle.keep_build.specs.Packs.{packs_of}
use Rattle.keep_build.specs.Stored.{packs_and_index, store_of, stored_of}
use Rattle.keep_rewrite.specs.Finishing.{StandsFor}
use Rattle.keep_rewrite.specs.Leaving.{tree_left}
use Rattle.keep_rewrite.specs.Rewriting.{Retreed, change_of, finished_for, new_files, retreed_file, retreed_of, rewrite_change, rewrite_of, rewriting, rewriting_of, snapshot_loses}
use Rattle.keep_rewrite.specs.Walking.{AreReached}
use Rattle.keep_rewrite.proofs.Kept.{passed}
use Rattle.keep_rewrite.proofs.Listed.{all_by}
use Rattle.keep_rewrite.proofs.Made.{AreOld, IsThere, rewrite_met, rewrite_well_formed, snap_there}
use Rattle.keep_plan.proofs.Rising.{rise_kept}
use Rattle.keep_rewrite.proofs.Picked.{IsPicked, all_picked, all_reached, picked_rise}

-- ---- what is stored of trees is stored of those that stand for them

firsts_stored : (r : Repository) (all once : List BlobData) → StandsFor all once → stored_of r all ≡ stored_of r once
unfolding stored_of new_of
firsts_stored r all once stands =
    ap (λ (bs : List BlobData). settled_by bs) stands.firsts
  where
    settled_by : List BlobData → Stored
    settled_by bs = stored_built r (map blob_id_of bs) (packs_and_index (packs_of (filter (is_of Content) (filter (is_new r) bs)) ++ packs_of (filter (is_of Tree) (filter (is_new r) bs))))

pub store_same : (r : Repository) (all once : List BlobData) → StandsFor all once → store_of r all ≡ store_of r once
unfolding store_of
store_same r all once stands =
    ap₂ (λ full stored. unless (unread_first r) (cond full (Err Full) (Ok stored))) stands.full (firsts_stored r all once stands)

-- the change of what is stored, by what a walk has found
module _ (r cat : Repository) (patterns : List PatternData) (forget : Bool) (taken : List FactsData) (once : List BlobData) (cat_is : cat ≡ r) (stands : StandsFor (finished_for cat patterns taken) once) where
  pub stored_alike : (trees : List BlobData) → trees ≡ once → store_of r (finished_for r patterns taken) ≡ store_of r trees
  stored_alike trees same =
      store_same r (finished_for r patterns taken) once (subst (λ (q : Repository). StandsFor (finished_for q patterns taken) once) cat_is stands)
      ∙ ap (store_of r) (sym same)

  pub plan_due : (repo : Repository) (rs : List Retreed) (trees : List BlobData) (stored : Stored) → repo ≡ r → rs ≡ retreed_of cat patterns taken → trees ≡ once → store_of r trees ≡ Ok stored
      → rewriting repo forget rs stored ≡ rewriting_of r forget (retreed_of r patterns taken) (store_of r (finished_for r patterns taken))
  plan_due repo rs trees stored repo_is rs_is same is =
      ap (λ (q : Repository). rewriting q forget rs stored) repo_is
      ∙ ap (λ (ns : List Retreed). rewriting r forget ns stored) (rs_is ∙ ap (λ (q : Repository). retreed_of q patterns taken) cat_is)
      ∙ ap (rewriting_of r forget (retreed_of r patterns taken)) (sym (stored_alike trees same ∙ is))

-- ---- the answers

-- an answer is planned on what is shown, where the change that is due can be made
pub planned_so : (shown : Shown) (due : Result Change PlanError) → ((change : Change) → due ≡ Ok change → IsWellFormed change)
    → ((change : Change) → due ≡ Ok change → is_met (held shown.repo) change ≡ true) → (result : Result Planned PlanError)
    → Answers Memory (λ (p : Planned). p.change) due result → IfOk result (λ p. p.seen ≡ shown.length) → IfOk result (IsPlannedOn shown)
planned_so shown due formed met (Ok planned) is seen =
    record { well_formed = formed planned.change is; met = met planned.change is; seen = seen }
planned_so shown due formed met (Err error) is seen = tt

module _ (r : Repository) (rule : Pick) (patterns : List PatternData) (forget : Bool) where
  pub read_refused : (error : PlanError) → (error ≢ Memory → unread_first r ≡ Some error) → error ≢ Memory → rewrite_change r rule patterns forget ≡ Err error
  unfolding rewrite_change
  read_refused error why other = ap (λ o. unless o (rewrite_of r patterns forget (taken_in rule r))) (why other)

  pub reach_refused : (taken : List FactsData) (error : PlanError) → unread_first r ≡ None → taken ≡ taken_in rule r → (error ≢ Memory → unreached_first (refusals_of r (map (λ (s : FactsData). s.name) taken)) ≡ Some error) → error ≢ Memory
      → rewrite_change r rule patterns forget ≡ Err error
  unfolding rewrite_change
  reach_refused taken error none same why other =
      ap (λ o. unless o (rewrite_of r patterns forget (taken_in rule r))) none
      ∙ ap (λ (ts : List FactsData). rewrite_of r patterns forget ts) (sym same)
      ∙ ap (λ o. unless o (rewriting_of r forget (retreed_of r patterns taken) (store_of r (finished_for r patterns taken)))) (why other)

  due : (taken : List FactsData) → unread_first r ≡ None → taken ≡ taken_in rule r → refusals_of r (map (λ (s : FactsData). s.name) taken) ≡ []
      → rewriting_of r forget (retreed_of r patterns taken) (store_of r (finished_for r patterns taken)) ≡ rewrite_change r rule patterns forget
  unfolding rewrite_change
  due taken none same had =
      sym (ap (λ (es : List ReachError). unless (unreached_first es) (rewriting_of r forget (retreed_of r patterns taken) (store_of r (finished_for r patterns taken)))) had)
      ∙ ap (λ (ts : List FactsData). rewrite_of r patterns forget ts) same
      ∙ sym (ap (λ o. unless o (rewrite_of r patterns forget (taken_in rule r))) none)

  pub answered : (taken : List FactsData) (result : Result Planned PlanError) → unread_first r ≡ None → taken ≡ taken_in rule r → refusals_of r (map (λ (s : FactsData). s.name) taken) ≡ []
      → Answers Memory (λ (p : Planned). p.change) (rewriting_of r forget (retreed_of r patterns taken) (store_of r (finished_for r patterns taken))) result
      → Answers Memory (λ (p : Planned). p.change) (rewrite_change r rule patterns forget) result
  answered taken result none same had h =
      subst (λ (d : Result Change PlanError). Answers Memory (λ (p : Planned). p.change) d result) (due taken none same had) h

  -- ---- a change that is due

  abbrev pub taken : List FactsData
  taken = taken_in rule r

  abbrev pub retreed : List Retreed
  retreed = retreed_of r patterns taken

  abbrev pub trees : List BlobData
  trees = finished_for r patterns taken

  abbrev pub news : List NamedBytes
  news = absent_files r (new_files r forget retreed)

  -- what is known where it is
  pub record IsDue : Type 0 where
    pub reached : AreReached r taken
    pub short : list_any is_full trees ≡ false
    pub some : news ≢ []

  as_many : (xs ys : List NamedBytes) → nat_lt (length xs) (length ys) ≡ false → ys ≢ [] → xs ≢ []
  as_many [] [] h g e = g refl
  as_many [] (y ∷ ys) h g e = let least : suc (length ys) ≤ 0 = ltb-false 0 (suc (length ys)) h in absurd (omega arith)
  as_many (x ∷ xs) ys h g e = (cc e)

  abbrev IsRead : Retreed → Type 0
  IsRead new = (snap : SnapData) × (snap_in r new.0 ≡ Some snap)

  some_new : (ids : List Retreed) → AllByRecursion IsRead ids → is_nil ids ≡ false → new_files r forget ids ≢ []
  some_new [] h some e = true≢false some
  some_new (new ∷ ids) h some e = bad (ap (λ o. cons_option (option_map (λ snap. retreed_file forget snap new) o) (new_files r forget ids)) (sym h.0.1) ∙ e) where
    bad : retreed_file forget h.0.0 new ∷ new_files r forget ids ≡ [] → ⊥
    bad g = (cc g)

  -- ---- the snapshots

  all_mapped : {A B : Type 0} (f : A → B) (Q : B → Type 0) (xs : List A) → AllByRecursion (λ x. Q (f x)) xs → AllByRecursion Q (map f xs)
  all_mapped f Q [] h = tt
  all_mapped f Q (x ∷ xs) h = (h.0, all_mapped f Q xs h.1)

  -- what holds of each taken snapshot with the tree that is left holds of each from which something goes
  pub each_retreed : (Q : Retreed → Type 0) → AllByRecursion (λ (s : FactsData). Q (s.name, tree_left r patterns most_levels [] s.tree)) taken → AllByRecursion Q retreed
  unfolding retreed_of
  each_retreed Q h =
      all_mapped (λ (s : FactsData). (s.name, tree_left r patterns most_levels [] s.tree)) Q (filter (snapshot_loses r patterns) taken)
      (passed (snapshot_loses r patterns) (λ (s : FactsData). Q (s.name, tree_left r patterns most_levels [] s.tree)) taken h)

  names_mapped : (ss : List FactsData) → map (λ (new : Retreed). new.0) (map (λ (s : FactsData). (s.name, tree_left r patterns most_levels [] s.tree)) ss) ≡ map (λ (s : FactsData). s.name) ss
  names_mapped [] = refl
  names_mapped (s ∷ ss) = ap (λ (names : List Id). s.name ∷ names) (names_mapped ss)

  retreed_rise : IsStrictlySortedBy id_cmp (map (λ (new : Retreed). new.0) retreed)
  unfolding retreed_of
  retreed_rise =
      subst (λ (names : List Id). IsStrictlySortedBy id_cmp names) (sym (names_mapped (filter (snapshot_loses r patterns) taken)))
      (rise_kept id_cmp (λ (s : FactsData). s.name) (snapshot_loses r patterns) taken (picked_rise r rule))

  all_read : AllByRecursion IsRead retreed
  all_read = each_retreed IsRead (all_by (IsPicked r) (λ (s : FactsData). IsRead (s.name, tree_left r patterns most_levels [] s.tree)) (λ s picked. (picked.snap, picked.said)) taken (all_picked r rule))

  are_old : AreOld r retreed
  are_old = record {
    there = all_by IsRead (λ (new : Retreed). IsThere r new.0) (λ new read. snap_there r new.0 read.0 read.1) retreed all_read;
    rise = retreed_rise;
  }

  -- ---- each change that is due

  abbrev pub made : Change
  made = change_of r forget (stored_of r trees) retreed news

  module _ (P : Change → Type 0) (so : IsDue → P made) (c : Change) where
    some_so : AreReached r taken → list_any is_full trees ≡ false → nat_lt (length news) (length (new_files r forget retreed)) ≡ false
        → (b : Bool) → is_nil retreed ≡ b → cond b (Err NothingToDo) (Ok made) ≡ Ok c → P c
    some_so reached short many true none h = (cc h)
    some_so reached short many false some h =
        let same : made ≡ c = cc h in
        subst P same (so (record { reached = reached; short = short; some = as_many news (new_files r forget retreed) many (some_new retreed all_read some) }))

    placed_so : AreReached r taken → list_any is_full trees ≡ false
        → (b : Bool) → is_any_taken r (new_files r forget retreed) ≡ b → cond b (Err SnapshotThere) (cond (is_nil retreed) (Err NothingToDo) (Ok made)) ≡ Ok c → P c
    placed_so reached short true there h = (cc h)
    placed_so reached short false free h = some_so reached short (fewer_so r (new_files r forget retreed) news refl ∙ free) (is_nil retreed) refl h

    short_so : AreReached r taken → (b : Bool) → list_any is_full trees ≡ b → rewriting_of r forget retreed (cond b (Err Full) (Ok (stored_of r trees))) ≡ Ok c → P c
    short_so reached true full h = (cc h)
    short_so reached false short h = placed_so reached short (is_any_taken r (new_files r forget retreed)) refl h

    stored_so : AreReached r taken → (why : Option PlanError) → rewriting_of r forget retreed (unless why (cond (list_any is_full trees) (Err Full) (Ok (stored_of r trees)))) ≡ Ok c → P c
    stored_so reached (Some error) h = (cc h)
    stored_so reached None h = short_so reached (list_any is_full trees) refl h

    store_so : AreReached r taken → rewriting_of r forget retreed (store_of r trees) ≡ Ok c → P c
    unfolding store_of
    store_so reached h = stored_so reached (unread_first r) h

    reach_so : (es : List ReachError) → refusals_of r (map (λ (s : FactsData). s.name) taken) ≡ es → unless (unreached_first es) (rewriting_of r forget retreed (store_of r trees)) ≡ Ok c → P c
    reach_so [] had h = store_so (all_reached r taken (all_picked r rule) had) h
    reach_so (e ∷ es) had h = (cc h)

    read_so : (why : Option PlanError) → unless why (rewrite_of r patterns forget taken) ≡ Ok c → P c
    read_so (Some error) h = (cc h)
    read_so None h = reach_so (refusals_of r (map (λ (s : FactsData). s.name) taken)) refl h

    pub change_so : rewrite_change r rule patterns forget ≡ Ok c → P c
    unfolding rewrite_change
    change_so h = read_so (unread_first r) h

  pub well_formed : (c : Change) → rewrite_change r rule patterns forget ≡ Ok c → IsWellFormed c
  well_formed c is = change_so IsWellFormed (λ is_due. rewrite_well_formed r forget trees retreed are_old is_due.some) c is

  pub met : (c : Change) → rewrite_change r rule patterns forget ≡ Ok c → is_met (held r) c ≡ true
  met c is = change_so (λ d. is_met (held r) d ≡ true) (λ is_due. rewrite_met r forget trees retreed are_old is_due.some) c is
