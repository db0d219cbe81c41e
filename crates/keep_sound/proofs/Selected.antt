-- What selections of safe changes make of a sound opening.
use Rattle.std.proofs.Common.{◌≡◌, Bool, true, false, ◌||◌, cond, List, [], ◌∷◌, ◌++◌, None, Some, refl}
use Rattle.std.specs.List.{filter}
use Rattle.keep_names.specs.declared.file_name.Kind.TheVariants.{Snapshot}
use Rattle.keep_names.specs.declared.id.Id.{Id}
use Rattle.keep_repo.specs.Repository.{Repository, held, is_filled}
use Rattle.keep_change.specs.Change.{is_met}
use Rattle.keep_change.specs.Filling.{FacetsFollow, FilesComeFrom, fills}
use Rattle.keep_change.specs.Fold.{Numbered, first_break, fold_of}
use Rattle.keep_change.specs.Form.{HasNoFacetTwice}
use Rattle.keep_change.specs.Result.{result_of}
use Rattle.keep_reach.specs.Sound.{IsSound}
use Rattle.keep_sound.specs.Careful.{AreKnown, IsSafe, Keeps}
use Rattle.keep_sound.specs.Met.{AddsPart, IsPartOf}
use Rattle.keep_sound.specs.Selection.{AllKeep, AreSafe, CommitsStaySound, EmptyingsStaySound, FiltersAreSelections, IsSelection, SelectionsAreSound, has_snapshot, known_by, known_in, nothing, passed, taken, with_added}
use Rattle.keep_sound.specs.Standing.{file_facet}
use Rattle.keep_sound.proofs.Keeping.{part_after}

pub filters_are_selections : FiltersAreSelections
filters_are_selections test [] = nothing
filters_are_selections test (n ∷ ns) = cases (filters_are_selections test ns) (test n) where
  cases : IsSelection (filter test ns) ns → (b : Bool) → IsSelection (cond b (n ∷ filter test ns) (filter test ns)) (n ∷ ns)
  cases later true = taken n (filter test ns) ns later
  cases later false = passed n (filter test ns) ns later

or_left : (a b : Bool) → a ≡ true → (a || b) ≡ true
or_left true b _ = refl
or_left false b h = cc h

or_right : (a b : Bool) → b ≡ true → (a || b) ≡ true
or_right true b _ = refl
or_right false b h = h

-- the repository that was reached is so, its files are all met, and its snapshots all known
pub record IsReached (IsSo : Repository → Type 0) (all : Repository) (known : Id → Bool) (r : Repository) : Type 0 where
  pub part : IsPartOf r all
  pub are_known : AreKnown known r
  pub so : IsSo r

unbroken : (n : Numbered) (ms : List Numbered) (r : Repository) → first_break (n ∷ ms) r ≡ None → (is_met (held r) n.change ≡ true) × (first_break ms (result_of n.change r) ≡ None)
unbroken n ms r none = cases (is_met (held r) n.change) refl none where
  cases : (b : Bool) → is_met (held r) n.change ≡ b → cond b (first_break ms (result_of n.change r)) (Some n.number) ≡ None → (is_met (held r) n.change ≡ true) × (first_break ms (result_of n.change r) ≡ None)
  cases true met rest = (met, rest)
  cases false _ broken = cc broken

module _ (follow : FacetsFollow) (come : FilesComeFrom) (IsSo : Repository → Type 0) (all : Repository) where
  -- a change that is met leads on
  made : (known : Id → Bool) (n : Numbered) (r : Repository) → HasNoFacetTwice n.change → AddsPart all n.change → Keeps IsSo all known n.change → is_met (held r) n.change ≡ true → IsReached IsSo all known r → IsReached IsSo all (with_added known n) (result_of n.change r)
  made known n r once adds keeps met reached = record {
    part = part_after come all n.change r adds reached.part;
    are_known = λ snapshot there. cases snapshot there (is_filled r (file_facet Snapshot snapshot)) refl;
    so = keeps r reached.part reached.are_known met reached.so;
  } where
    cases : (snapshot : Id) → is_filled (result_of n.change r) (file_facet Snapshot snapshot) ≡ true → (b : Bool) → is_filled r (file_facet Snapshot snapshot) ≡ b → with_added known n snapshot ≡ true
    cases snapshot there true old = or_left (known snapshot) (fills n.change (file_facet Snapshot snapshot)) (reached.are_known snapshot old)
    cases snapshot there false new = or_right (known snapshot) (fills n.change (file_facet Snapshot snapshot)) ((follow n.change r once met).new (file_facet Snapshot snapshot) new there)

  -- one that is passed over adds to what is known
  passed_over : (known : Id → Bool) (n : Numbered) (r : Repository) → IsReached IsSo all known r → IsReached IsSo all (with_added known n) r
  passed_over known n r reached = record {
    part = reached.part;
    are_known = λ snapshot there. or_left (known snapshot) (fills n.change (file_facet Snapshot snapshot)) (reached.are_known snapshot there);
    so = reached.so;
  }

  selected : (known : Id → Bool) (ns ms : List Numbered) (r : Repository) → IsReached IsSo all known r → AllKeep IsSo all known ns → IsSelection ms ns → first_break ms r ≡ None → IsReached IsSo all (known_by known ns) (fold_of ms r)
  selected known _ _ r reached keep nothing none = reached
  selected known _ _ r reached keep (taken n ms ns later) none =
      let due = unbroken n ms r none in
      selected (with_added known n) ns ms (result_of n.change r) (made known n r keep.0 keep.1 keep.2 due.0 reached) keep.3 later due.1
  selected known _ _ r reached keep (passed n ms ns later) none =
      selected (with_added known n) ns ms r (passed_over known n r reached) keep.3 later none

  -- what is so of an opening is so of what a selection makes of it
  pub from_opening : (opening : Repository) (kept ms : List Numbered) → IsPartOf opening all → IsSo opening → AllKeep IsSo all (has_snapshot opening) kept → IsSelection ms kept → first_break ms opening ≡ None → IsReached IsSo all (known_in opening kept) (fold_of ms opening)
  from_opening opening kept ms part so keep chosen none =
      selected (has_snapshot opening) kept ms opening (record { part = part; are_known = λ snapshot there. there; so = so }) keep chosen none

pub selections_are_sound : FacetsFollow → FilesComeFrom → SelectionsAreSound
selections_are_sound follow come all opening kept ms history chosen none =
    let reached = from_opening follow come IsSound all opening kept ms history.part history.sound history.safe chosen none in
    record { sound = reached.so; part = reached.part }

-- ---- commits and emptyings

appended : (all : Repository) (known : Id → Bool) (ns : List Numbered) (n : Numbered) → AreSafe all known ns → HasNoFacetTwice n.change → AddsPart all n.change → IsSafe all (known_by known ns) n.change → AreSafe all known (ns ++ n ∷ [])
appended all known [] n safe once adds last = (once, adds, last, tt)
appended all known (m ∷ ms) n safe once adds last = (safe.0, safe.1, safe.2, appended all (with_added known m) ms n safe.3 once adds last)

pub commits_stay_sound : CommitsStaySound
commits_stay_sound all opening kept n history once adds safe = record {
  part = history.part;
  sound = history.sound;
  safe = appended all (has_snapshot opening) kept n history.safe once adds safe;
}

front_safe : (all : Repository) (known : Id → Bool) (ns ms : List Numbered) → AreSafe all known (ns ++ ms) → AreSafe all known ns
front_safe all known [] ms safe = tt
front_safe all known (n ∷ ns) ms safe = (safe.0, safe.1, safe.2, front_safe all (with_added known n) ns ms safe.3)

rest_safe : (all : Repository) (known : Id → Bool) (ns ms : List Numbered) → AreSafe all known (ns ++ ms) → AreSafe all (known_by known ns) ms
rest_safe all known [] ms safe = safe
rest_safe all known (n ∷ ns) ms safe = rest_safe all (with_added known n) ns ms safe.3

or_more : (a b c : Bool) → (a ≡ true → b ≡ true) → (a || c) ≡ true → (b || c) ≡ true
or_more true b c more _ = or_left b c (more refl)
or_more false b c more h = or_right b c h

-- what is safe where more is known is safe where less is
less_known : (all : Repository) (known fewer : Id → Bool) (ns : List Numbered) → ((snapshot : Id) → fewer snapshot ≡ true → known snapshot ≡ true) → AreSafe all known ns → AreSafe all fewer ns
less_known all known fewer [] more safe = tt
less_known all known fewer (n ∷ ns) more safe = (
  safe.0,
  safe.1,
  λ r part are_known met sound. safe.2 r part (λ snapshot there. more snapshot (are_known snapshot there)) met sound,
  less_known all (with_added known n) (with_added fewer n) ns (λ snapshot. or_more (fewer snapshot) (known snapshot) (fills n.change (file_facet Snapshot snapshot)) (more snapshot)) safe.3,
)

pub emptyings_stay_sound : FacetsFollow → FilesComeFrom → EmptyingsStaySound
emptyings_stay_sound follow come all opening final rest ms history chosen none =
    let front : AreSafe all (has_snapshot opening) final = front_safe all (has_snapshot opening) final rest history.safe in
    let reached = from_opening follow come IsSound all opening final ms history.part history.sound front chosen none in
    record {
      part = reached.part;
      sound = reached.so;
      safe = less_known all (known_in opening final) (has_snapshot (fold_of ms opening)) rest reached.are_known (rest_safe all (has_snapshot opening) final rest history.safe);
    }
