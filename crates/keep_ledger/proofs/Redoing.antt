-- When a change can be made again at its place, and what is left then.
use Rattle.std.proofs.Common.{◌≡◌, ℕ, ◌<◌, Bool, true, false, ◌∷◌, ◌++◌, Some, None, refl, sym, ap, ◌∙◌, subst, arith}
use Rattle.std.specs.Prelude.{nat_le, if◌then◌else◌}
use Rattle.keep_repo.specs.Repository.{Repository, held}
use Rattle.keep_change.specs.Change.{is_ready, is_met}
use Rattle.keep_change.specs.Fold.{fold_of, first_break, first_leaning}
use Rattle.keep_change.specs.Holdings.{value_at}
use Rattle.keep_change.specs.Law.{HaveNoFacetTwice, WithIt}
use Rattle.keep_change.specs.Result.{result_of}
use Rattle.keep_change.specs.declared.change.Change.{Change}
use Rattle.keep_change.proofs.History.{redo_is_exact_lem}
use Rattle.keep_journal.specs.History.{change_of, is_change, is_in_force, final_number, length_of, Fits, IsNumbered}
use Rattle.keep_journal.specs.Kept.{is_kept, kept_with, earlier, later}
use Rattle.keep_journal.specs.Journal.{Journal, posted}
use Rattle.keep_journal.specs.Event.{redoing}
use Rattle.keep_journal.proofs.Commits.{committed-Redo, last_marks-push, some_change, IsLegal-push, IsNumbered-push}
use Rattle.keep_journal.proofs.Numbers.{is_change_parts}
use Rattle.keep_journal.proofs.Kept.{kept_around_undone, kept_with_around, kept-Redo}
use Rattle.keep_ledger.specs.Dependents.{blocked_by}
use Rattle.keep_journal.specs.Opening.{IsOpen}
use Rattle.keep_ledger.specs.Reply.{is_full, redo_refusal}
use Rattle.keep_journal.proofs.Later.{no_facet_twice}
use Rattle.keep_ledger.proofs.Undoing.{above_final_lt}

-- a change that isn't final is one of the journal's
pub undone_is_there : (j : Journal) (n : ℕ) → IsNumbered j → is_change j n ≡ true → final_number j < n → (c : Change) × (change_of j n ≡ Some c)
undone_is_there j n numbered change above = some_change j n numbered (omega (arith, numbered.first_final)) (is_change_parts j n change).1

-- what a redo that isn't refused early knows
pub record CanRedo (j : Journal) (n : ℕ) : Type 0 where
  pub change : is_change j n ≡ true
  pub above : final_number j < n
  pub not_in_force : is_in_force j n ≡ false
  pub out : is_kept j n ≡ false
  pub room : is_full j ≡ false

pub can_redo : (j : Journal) (n : ℕ) → redo_refusal j n ≡ None → CanRedo j n
can_redo j n none = split (is_change j n) refl (nat_le n (final_number j)) refl (is_in_force j n) refl (is_full j) refl where
  split : (k : Bool) → is_change j n ≡ k → (f : Bool) → nat_le n (final_number j) ≡ f → (i : Bool) → is_in_force j n ≡ i → (u : Bool) → is_full j ≡ u → CanRedo j n
  split false k f fe i ie u ue = cc (rw k at none)
  split true k true fe i ie u ue = cc (rw (k, fe) at none)
  split true k false fe true ie u ue = cc (rw (k, fe, ie) at none)
  split true k false fe false ie true ue = cc (rw (k, fe, ie, ue) at none)
  split true k false fe false ie false ue = record {
    change = k;
    above = above_final_lt (final_number j) n fe;
    not_in_force = ie;
    out = rw ie refl;
    room = ue;
  }

module _ (opening : Repository) (j : Journal) (live : Repository) (is : IsOpen opening j live) (n : ℕ) where
  module _ (c : Change) (found : change_of j n ≡ Some c) (out : is_kept j n ≡ false) where
    -- the law, on the changes in force round this one's place
    pub with_it : WithIt (earlier j n) (record { number = n; change = c }) (later j n) opening
    with_it =
        redo_is_exact_lem (earlier j n) (record { number = n; change = c }) (later j n) opening
        (subst HaveNoFacetTwice (kept_with_around j n c is.numbered found) (no_facet_twice _ j is.formed))
        (subst (λ ns. first_break ns opening ≡ None) (kept_around_undone j n c is.numbered found out) is.unbroken)

    pub whole : fold_of (earlier j n ++ later j n) opening ≡ live
    whole = ap (λ ns. fold_of ns opening) (sym (kept_around_undone j n c is.numbered found out)) ∙ sym is.state

    pub broken_with : first_break (kept_with j n) opening ≡ blocked_by j live n
    broken_with =
        ap (λ ns. first_break ns opening) (kept_with_around j n c is.numbered found)
        ∙ with_it.break
        ∙ ap (λ r. if is_met (value_at (later j n) (held r)) c then first_leaning c (later j n) else Some n) whole
        ∙ sym (rw found refl)

  -- the first break with it at its place is told by the live repository and the later changes
  pub same_blocked : is_change j n ≡ true → final_number j < n → is_kept j n ≡ false → first_break (kept_with j n) opening ≡ blocked_by j live n
  same_blocked change above out =
      let found = undone_is_there j n is.numbered change above in
      broken_with found.0 found.1 out

-- what making a change again finds and leaves
pub record Redone (opening : Repository) (j : Journal) (live : Repository) (n : ℕ) (c : Change) : Type 0 where
  pub ready : is_ready (held live) c ≡ true
  pub is : (k : ℕ) → length_of j < k → IsOpen opening (posted j k (redoing n)) (result_of c live)

pub redone : (opening : Repository) (j : Journal) (live : Repository) (n : ℕ) (c : Change) → IsOpen opening j live → change_of j n ≡ Some c
    → redo_refusal j n ≡ None → blocked_by j live n ≡ None → Redone opening j live n c
redone opening j live n c is found none met =
    let can = can_redo j n none in
    let law = with_it opening j live is n c found can.out in
    let around = kept_with_around j n c is.numbered found in
    let unbroken : first_break (kept_with j n) opening ≡ None = broken_with opening j live is n c found can.out ∙ met in
    let there : first_break (earlier j n ++ record { number = n; change = c } ∷ later j n) opening ≡ None =
    subst (λ ns. first_break ns opening ≡ None) around unbroken in
    let fits : Fits j (redoing n) = (can.above, (is_change_parts j n can.change).1, can.not_in_force) in
    record {
      ready = subst (λ r. is_ready (held r) c ≡ true) (whole opening j live is n c found can.out) (law.ready there);
      is = λ k above.
          let left = kept-Redo j k n can.above in
          record {
            numbered = IsNumbered-push j (record { at = k; event = redoing n }) is.numbered (record { above = above; fits = fits });
            legal = IsLegal-push j (record { at = k; event = redoing n }) is.legal (record { above = above; fits = fits });
            formed = rw (committed-Redo j k n) is.formed;
            within = rw (committed-Redo j k n) is.within;
            unbroken = rw left unbroken;
            state = rw left (
                ap (result_of c) (sym (whole opening j live is n c found can.out)) ∙ sym (law.made there)
                ∙ ap (λ ns. fold_of ns opening) (sym around));
            marks = rw (last_marks-push j k (redoing n)) is.marks;
          };
    }
