-- Which refusal of a mark is due, and which change.
use Rattle.std.proofs.Common.{◌≡◌, ◌≢◌, ℕ, ℤ, Bool, true, false, not, ◌&&◌, ◌==◌, List, [], ◌∷◌, length, map, Option, None, Some, Result, Ok, Err, eqb-true, refl, sym, ap, subst, ◌∙◌, arith}
use Rattle.std.specs.BTreeSet.{contains}
use Rattle.std.specs.FinSet as set
use Rattle.std.specs.List.{list_any, slice_get}
use Rattle.std.specs.List.Sorted.{IsStrictlySortedBy}
use Rattle.std.specs.Option.{option_map, option_or}
use Rattle.std.specs.Ordering.{eq_by_cmp}
use Rattle.std.proofs.lemmas.List.Kept.{IsStrictlySortedBy-filter}
use Rattle.std.proofs.lemmas.Map.Views.{any-filter_same, tells_apart}
use Rattle.keep_names.proofs.Orders.{id_exact, id_total}
use Rattle.keep_names.specs.FileName.{named}
use Rattle.keep_names.specs.Orders.{id_cmp}
use Rattle.keep_names.specs.declared.file_name.FileName.{FileName}
use Rattle.keep_names.specs.declared.file_name.Kind.TheVariants.{Snapshot}
use Rattle.keep_names.specs.declared.id.Id.{Id}
use Rattle.keep_repo.specs.Repository.{Repository}
use Rattle.keep_change.specs.declared.change.Change.{Change}
use Rattle.keep_change.specs.declared.change.PackMark.{PackMark}
use Rattle.keep_catalog.specs.Files.{unread_in}
use Rattle.keep_reach.specs.Snapshots.{broken_in}
use Rattle.keep_reach.specs.Used.{used_in}
use Rattle.keep_catalog.specs.declared.catalog_error.CatalogError.{CatalogError}
use Rattle.keep_catalog.specs.declared.catalog_error.CatalogError.TheVariants as catalog
use Rattle.keep_catalog.specs.declared.reach_error.ReachError.{ReachError}
use Rattle.keep_catalog.specs.declared.reach_error.ReachError.TheVariants as reach
use Rattle.keep_plan.specs.Refusal.{of_catalog, of_reach, unless, unreached_first}
use Rattle.keep_plan.specs.Reuse.{RestOn}
use Rattle.keep_plan.specs.Storing.{is_there}
use Rattle.keep_plan.specs.declared.plan_error.PlanError.{PlanError}
use Rattle.keep_plan.specs.declared.plan_error.PlanError.TheVariants as plan
use Rattle.keep_plan.specs.declared.reuses.Reuses.{Reuses}
use Rattle.keep_plan.specs.declared.stored.Stored.{Stored}
use Rattle.keep_plan.proofs.Refused.{none_unread, unread_refused}
use Rattle.keep_upkeep.specs.Mark.{gone_snapshots, mark_at, mark_change, marking, marking_of, needed_in, not_there, unneeded_but, unneeded_packs, why_unknown}
use Rattle.keep_upkeep.proofs.MarkLists.{rising_are}
use Rattle.keep_upkeep.proofs.MarkMade.{mark_of}

-- ---- refusals

abbrev refusals : List (Id × ReachError) → List ReachError
refusals broken = map (λ b. b.1) broken

same_reach : (error : ReachError) (broken : List (Id × ReachError)) → option_map (λ (b : Id × ReachError). b.1) (slice_get broken 0) ≡ Some error
    → unreached_first (refusals broken) ≡ Some (of_reach error)
same_reach error [] h = cc h
same_reach error (b ∷ broken) h =
    let same : b.1 ≡ error = cc h in
    ap (λ (e : ReachError). Some (of_reach e)) same

module _ (r : Repository) where
  pub unread_unknown : (error : CatalogError) → (error ≢ catalog.Memory → option_map catalog.Unread (slice_get (unread_in r) 0) ≡ Some error)
      → of_catalog error ≢ plan.Memory → why_unknown r ≡ Some (of_catalog error)
  unread_unknown error why other =
      ap (λ (o : Option PlanError). option_or o (unreached_first (refusals (broken_in r)))) (unread_refused r error why other)

  all_read : unread_in r ≡ [] → why_unknown r ≡ unreached_first (refusals (broken_in r))
  all_read none = ap (λ (o : Option PlanError). option_or o (unreached_first (refusals (broken_in r)))) (none_unread r none)

  pub reach_refused : (catalog : Repository) (error : ReachError) → catalog ≡ r → unread_in r ≡ []
      → (error ≢ reach.Memory → option_map (λ (b : Id × ReachError). b.1) (slice_get (broken_in catalog) 0) ≡ Some error)
      → of_reach error ≢ plan.Memory → why_unknown r ≡ Some (of_reach error)
  reach_refused catalog error same read why other =
      all_read read ∙ ap (λ (x : Repository). unreached_first (refusals (broken_in x))) (sym same)
      ∙ same_reach error (broken_in catalog) (why (λ e. other (ap of_reach e)))

  pub none_unknown : (catalog : Repository) → catalog ≡ r → unread_in r ≡ [] → broken_in catalog ≡ [] → why_unknown r ≡ None
  none_unknown catalog same read whole =
      all_read read ∙ ap (λ (x : Repository). unreached_first (refusals (broken_in x))) (sym same)
      ∙ ap (λ (broken : List (Id × ReachError)). unreached_first (refusals broken)) whole

  pub mark_refused : (known : set.FinSet id_cmp) (moment : ℤ) (error : PlanError) → (error ≢ plan.Memory → why_unknown r ≡ Some error) → error ≢ plan.Memory
      → mark_change r known moment ≡ Err error
  unfolding mark_change
  mark_refused known moment error why other = ap (λ (o : Option PlanError). unless o (marking_of r known moment (unneeded_packs r))) (why other)

  pub mark_due : (known : set.FinSet id_cmp) (moment : ℤ) → why_unknown r ≡ None → mark_change r known moment ≡ marking_of r known moment (unneeded_packs r)
  unfolding mark_change
  mark_due known moment none = ap (λ (o : Option PlanError). unless o (marking_of r known moment (unneeded_packs r))) none

  -- ---- the packs

  pub unneeded_are : (reuses : Reuses) → RestOn r (used_in r) reuses → unneeded_but r (contains id_cmp reuses.unmarked) ≡ unneeded_packs r
  unfolding unneeded_packs
  unneeded_are reuses rests = (λ i. unneeded_but r (λ pack. rests.packs pack i))

-- a list that is counted as empty is, and another isn't
pub no_items : {X : Type 0} (count : ℕ) (xs : List X) → count ≡ length xs → (count == 0) ≡ true → xs ≡ []
no_items count [] same h = refl
no_items count (x ∷ xs) same h = let none : count ≡ 0 = eqb-true count 0 h in absurd (omega arith)

pub some_items : {X : Type 0} (count : ℕ) (xs : List X) → count ≡ length xs → (count == 0) ≡ false → xs ≢ []
some_items count xs same h e =
    let none : (count == 0) ≡ true = ap (λ n. n == 0) (same ∙ ap length e) in
    cc (none, h)

module _ (r : Repository) (known : set.FinSet id_cmp) (moment : ℤ) where
  some_marked : (packs : List Id) → packs ≢ [] → marking_of r known moment packs ≡ Ok (mark_of r known moment packs)
  some_marked [] some = absurd (some refl)
  some_marked (pack ∷ packs) some = refl

  pub none_marked : (packs : List Id) → packs ≡ unneeded_packs r → packs ≡ [] → marking_of r known moment (unneeded_packs r) ≡ Err plan.NothingToDo
  none_marked packs same none = ap (marking_of r known moment) (sym same ∙ none)

  pub mark_made : (packs : List Id) (marks : List PackMark) (needed : Stored) (gone : List Id) (names : List FileName) (change : Change)
      → packs ≡ unneeded_packs r → packs ≢ [] → marks ≡ map (mark_at moment) packs → needed ≡ needed_in r → gone ≡ gone_snapshots r known → names ≡ map (named Snapshot) gone
      → change ≡ marking marks needed names → marking_of r known moment (unneeded_packs r) ≡ Ok change
  mark_made packs marks needed gone names change same some marks_are needed_is gone_are names_are is =
      some_marked (unneeded_packs r) (subst IsSome same some) ∙ ap Ok (sym (is ∙ (λ i. marking (ms i) (needed_is i) (ns i)))) where
        IsSome : List Id → Type 0
        IsSome ps = ps ≢ []

        ms : marks ≡ map (mark_at moment) (unneeded_packs r)
        ms = marks_are ∙ ap (map (mark_at moment)) same

        ns : names ≡ map (named Snapshot) (gone_snapshots r known)
        ns = names_are ∙ ap (map (named Snapshot)) gone_are

-- ---- the snapshots that are gone

abbrev same_id : Id → Id → Bool
same_id = eq_by_cmp id_cmp

module _ (r : Repository) where
  abbrev is_gone : Id → Bool
  is_gone snapshot = not (is_there r (named Snapshot snapshot))

  pub gone_among : (q : Id) (snapshots : List Id) → list_any (same_id q) (not_there r snapshots) ≡ (is_gone q && list_any (same_id q) snapshots)
  gone_among q snapshots = any-filter_same (same_id q) is_gone (is_gone q) (λ k tied. ap is_gone (sym (tells_apart id_exact q k tied))) snapshots

  pub gone_are : (keys : List Id) (known : set.FinSet id_cmp) → IsStrictlySortedBy id_cmp keys → set.from_list keys ≡ known → not_there r keys ≡ gone_snapshots r known
  unfolding gone_snapshots
  gone_are keys known rise same =
      rising_are id_total id_exact (not_there r keys) (not_there r (set.items known)) (IsStrictlySortedBy-filter id_cmp is_gone keys rise)
      (λ q. gone_among q keys ∙ ap (λ b. is_gone q && b) (members q) ∙ sym (gone_among q (set.items known))) where
        members : (q : Id) → list_any (same_id q) keys ≡ list_any (same_id q) (set.items known)
        members q = sym (set.contains-from_list id_total keys q) ∙ ap (λ (s : set.FinSet id_cmp). set.contains s q) same ∙ set.contains-items known q
