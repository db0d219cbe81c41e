-- When a change can be taken back, and what is left then.
use Rattle.std.proofs.Common.{◌≡◌, ℕ, ◌<◌, Bool, true, false, ◌∷◌, ◌++◌, Option, Some, None, refl, sym, ap, ◌∙◌, subst, arith}
use Rattle.std.specs.Prelude.{nat_lt, nat_le}
use Rattle.std.specs.Cmp.{first_so}
use Rattle.std.specs.Option.{option_map}
use Rattle.std.proofs.lemmas.Bool.Decides.{nat_tests}
use Rattle.keep_repo.specs.Repository.{Repository, held}
use Rattle.keep_change.specs.Change.{is_ready}
use Rattle.keep_change.specs.Fold.{Numbered, fold_of, first_break, first_leaning}
use Rattle.keep_change.specs.Law.{HaveNoFacetTwice, WithoutIt}
use Rattle.keep_change.specs.Result.{result_of, reverse_of}
use Rattle.keep_change.specs.declared.change.Change.{Change}
use Rattle.keep_change.proofs.History.{undo_is_exact_lem}
use Rattle.keep_change.proofs.Records.{and_second}
use Rattle.keep_journal.specs.History.{change_of, is_change, is_in_force, final_number, length_of, Fits, IsNumbered}
use Rattle.keep_journal.specs.Kept.{is_kept, others, earlier, later}
use Rattle.keep_journal.specs.Journal.{Journal, posted}
use Rattle.keep_journal.specs.Event.{undoing}
use Rattle.keep_journal.proofs.Commits.{committed-Undo, last_marks-push, some_change, IsLegal-push, IsNumbered-push}
use Rattle.keep_journal.proofs.Numbers.{is_change_parts}
use Rattle.keep_journal.proofs.Kept.{kept_around, others_around, kept-Undo}
use Rattle.keep_ledger.specs.Dependents.{leaned_on}
use Rattle.keep_journal.specs.Opening.{IsOpen}
use Rattle.keep_ledger.specs.Reply.{undo_refusal, is_full}
use Rattle.keep_ledger.specs.declared.reply.Refusal.TheVariants.{LeanedOn}
use Rattle.keep_journal.proofs.Later.{no_facet_twice}

pub above_final : (f n : ℕ) → nat_le n f ≡ false → nat_lt f n ≡ true
above_final f n h = grind (arith, nat_tests)

pub above_final_lt : (f n : ℕ) → nat_le n f ≡ false → f < n
above_final_lt f n h = grind (arith, nat_tests)

-- a kept change is one of the journal's
pub kept_is_there : (j : Journal) (n : ℕ) → IsNumbered j → is_change j n ≡ true → is_kept j n ≡ true → (c : Change) × (change_of j n ≡ Some c)
kept_is_there j n numbered change in_it =
    let above : nat_lt (final_number j) n ≡ true = and_second (is_in_force j n) (nat_lt (final_number j) n) in_it in
    some_change j n numbered (grind (arith, nat_tests, numbered.first_final)) (is_change_parts j n change).1

module _ (opening : Repository) (j : Journal) (live : Repository) (is : IsOpen opening j live) (n : ℕ) where
  module _ (c : Change) (found : change_of j n ≡ Some c) (in_it : is_kept j n ≡ true) where
    it : Numbered
    it = record { number = n; change = c }

    -- the law, on the changes in force round this one
    pub without : WithoutIt (earlier j n) (record { number = n; change = c }) (later j n) opening
    without =
        let around = kept_around j n c is.numbered found in_it in
        undo_is_exact_lem (earlier j n) (record { number = n; change = c }) (later j n) opening
        (subst HaveNoFacetTwice around (no_facet_twice (is_kept j) j is.formed))
        (subst (λ ns. first_break ns opening ≡ None) around is.unbroken)

    pub broken_without : first_break (others j n) opening ≡ leaned_on j n
    broken_without =
        ap (λ ns. first_break ns opening) (others_around j n c is.numbered found) ∙ without.break ∙ sym (rw found refl)

  same_broken : is_change j n ≡ true → is_kept j n ≡ true → first_break (others j n) opening ≡ leaned_on j n
  same_broken change in_it =
      let found = kept_is_there j n is.numbered change in_it in
      broken_without found.0 found.1 in_it

  -- the first break of the others is the first later change that leans on it, wherever that is asked
  pub same_undo_refusal : undo_refusal j n (first_break (others j n) opening) ≡ undo_refusal j n (leaned_on j n)
  same_undo_refusal = split (is_change j n) refl (nat_le n (final_number j)) refl (is_in_force j n) refl where
    split : (k : Bool) → is_change j n ≡ k → (f : Bool) → nat_le n (final_number j) ≡ f → (i : Bool) → is_in_force j n ≡ i → undo_refusal j n (first_break (others j n) opening) ≡ undo_refusal j n (leaned_on j n)
    split false k f fe i ie = rw k refl
    split true k true fe i ie = rw (k, fe) refl
    split true k false fe false ie = rw (k, fe, ie) refl
    split true k false fe true ie =
        let in_it : is_kept j n ≡ true = rw (ie, above_final (final_number j) n fe) refl in
        ap (undo_refusal j n) (same_broken k in_it)

-- what an undo that isn't refused knows
pub record CanUndo (j : Journal) (n : ℕ) (broken : Option ℕ) : Type 0 where
  pub change : is_change j n ≡ true
  pub above : final_number j < n
  pub in_it : is_kept j n ≡ true
  pub room : is_full j ≡ false
  pub unbroken : broken ≡ None

nothing_mapped : (broken : Option ℕ) → option_map LeanedOn broken ≡ None → broken ≡ None
nothing_mapped None h = refl
nothing_mapped (Some m) h = cc h

pub can_undo : (j : Journal) (n : ℕ) (broken : Option ℕ) → undo_refusal j n broken ≡ None → CanUndo j n broken
can_undo j n broken none = split (is_change j n) refl (nat_le n (final_number j)) refl (is_in_force j n) refl (is_full j) refl where
  split : (k : Bool) → is_change j n ≡ k → (f : Bool) → nat_le n (final_number j) ≡ f → (i : Bool) → is_in_force j n ≡ i → (u : Bool) → is_full j ≡ u → CanUndo j n broken
  split false k f fe i ie u ue = cc (rw k at none)
  split true k true fe i ie u ue = cc (rw (k, fe) at none)
  split true k false fe false ie u ue = cc (rw (k, fe, ie) at none)
  split true k false fe true ie true ue = cc (rw (k, fe, ie, ue) at none)
  split true k false fe true ie false ue = record {
    change = k;
    above = above_final_lt (final_number j) n fe;
    in_it = rw (ie, above_final (final_number j) n fe) refl;
    room = ue;
    unbroken = nothing_mapped broken (rw (k, fe, ie, ue) at none);
  }

-- what taking a change back finds and leaves
pub record Undone (opening : Repository) (j : Journal) (live : Repository) (n : ℕ) (c : Change) : Type 0 where
  pub ready : is_ready (held live) (reverse_of c) ≡ true
  pub is : (k : ℕ) → length_of j < k → IsOpen opening (posted j k (undoing n)) (result_of (reverse_of c) live)

pub undone : (opening : Repository) (j : Journal) (live : Repository) (n : ℕ) (c : Change) → IsOpen opening j live → change_of j n ≡ Some c
    → undo_refusal j n (leaned_on j n) ≡ None → Undone opening j live n c
undone opening j live n c is found none =
    let can = can_undo j n (leaned_on j n) none in
    let law = without opening j live is n c found can.in_it in
    let nobody : first_leaning c (later j n) ≡ None = rw found at can.unbroken in
    let around = kept_around j n c is.numbered found can.in_it in
    let whole : fold_of (earlier j n ++ record { number = n; change = c } ∷ later j n) opening ≡ live =
    ap (λ ns. fold_of ns opening) (sym around) ∙ sym is.state in
    let fits : Fits j (undoing n) = (can.above, (is_change_parts j n can.change).1, first_so _ _ can.in_it) in
    record {
      ready = subst (λ r. is_ready (held r) (reverse_of c) ≡ true) whole (law.ready nobody);
      is = λ k above.
          let left = kept-Undo j k n in
          record {
            numbered = IsNumbered-push j (record { at = k; event = undoing n }) is.numbered (record { above = above; fits = fits });
            legal = IsLegal-push j (record { at = k; event = undoing n }) is.legal (record { above = above; fits = fits });
            formed = rw (committed-Undo j k n) is.formed;
            within = rw (committed-Undo j k n) is.within;
            unbroken = rw left (broken_without opening j live is n c found can.in_it ∙ can.unbroken);
            state = rw left (
                ap (result_of (reverse_of c)) (sym whole) ∙ sym (law.made nobody)
                ∙ ap (λ ns. fold_of ns opening) (sym (others_around j n c is.numbered found)));
            marks = rw (last_marks-push j k (undoing n)) is.marks;
          };
    }
