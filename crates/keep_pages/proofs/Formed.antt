-- Whether a change is well formed can be tested, so it is where it isn't not.
use Rattle.std.proofs.Common.{◌≡◌, ◌∙◌, ℕ, ◌≤◌, Bool, true, false, List, [], ◌∷◌, inl, inr, refl, sym, arith}
use Rattle.std.specs.List.{All, AllByRecursion}
use Rattle.std.specs.List.Sorted.{IsStrictlySortedBy}
use Rattle.std.specs.Str.{bytes_eq}
use Rattle.std.specs.declared.cmp.Ordering.{Ordering}
use Rattle.std.specs.declared.cmp.Ordering.TheVariants.{Less, Equal, Greater}
use Rattle.std.proofs.lemmas.Bool.{cases_lt}
use Rattle.std.proofs.lemmas.Slice.Eq.{bytes_eq-Decides}
use Rattle.keep_names.specs.Sha256.{sha256}
use Rattle.keep_change.specs.Form.{IsWellFormed}
use Rattle.keep_change.specs.declared.change.Change.{Change}
use Rattle.keep_ledger.specs.Reply.{IsFormed}
use Rattle.keep_journal.specs.declared.request.Request.{Request}
use Rattle.keep_journal.specs.declared.request.Request.TheVariants.{Commit, Undo, Redo, Empty}

module _ {A : Type 0} (P : A → Type 0) (settle : (x : A) → ¬ (¬ P x) → P x) where
  all : (xs : List A) → ¬ (¬ All P xs) → All P xs
  all xs doubt k d within = settle _ (λ no. doubt (λ is. no (is k d within)))

  each : (xs : List A) → ¬ (¬ AllByRecursion P xs) → AllByRecursion P xs
  each [] doubt = tt
  each (x ∷ xs) doubt = (settle x (λ no. doubt (λ is. no is.0)), each xs (λ no. doubt (λ is. no is.1)))

at_most : (m n : ℕ) → ¬ (¬ (m ≤ n)) → m ≤ n
at_most m n doubt = elim (cases_lt n m) [ inl above ↦ absurd (doubt (λ within. omega arith)) | inr within ↦ within ]

below : (o : Ordering) → ¬ (¬ (o ≡ Less)) → o ≡ Less
below Less doubt = refl
below Equal doubt = absurd (doubt (λ e. cc e))
below Greater doubt = absurd (doubt (λ e. cc e))

same_bytes : (xs ys : List ℕ) → ¬ (¬ (xs ≡ ys)) → xs ≡ ys
same_bytes xs ys doubt = by (bytes_eq xs ys) refl where
  by : (b : Bool) → bytes_eq xs ys ≡ b → xs ≡ ys
  by true is = (bytes_eq-Decides xs ys).0 is
  by false is = absurd (doubt (λ same. cc (sym is ∙ (bytes_eq-Decides xs ys).1 same)))

sorted : {K : Type 0} (cmp : K → K → Ordering) (ks : List K) → ¬ (¬ IsStrictlySortedBy cmp ks) → IsStrictlySortedBy cmp ks
unfolding IsStrictlySortedBy
sorted cmp [] doubt = tt
sorted cmp (k ∷ ks) doubt = (
  each (λ l. cmp k l ≡ Less) (λ l. below (cmp k l)) ks (λ no. doubt (λ is. no is.0)),
  sorted cmp ks (λ no. doubt (λ is. no is.1)),
)

-- a change that isn't not well formed is well formed
pub well_formed : (c : Change) → ¬ (¬ IsWellFormed c) → IsWellFormed c
well_formed c doubt = record {
  in_order = record {
    adds = sorted _ _ (λ no. doubt (λ is. no is.in_order.adds));
    drops = sorted _ _ (λ no. doubt (λ is. no is.in_order.drops));
    sets = sorted _ _ (λ no. doubt (λ is. no is.in_order.sets));
    clears = sorted _ _ (λ no. doubt (λ is. no is.in_order.clears));
    present = sorted _ _ (λ no. doubt (λ is. no is.in_order.present));
    absent = sorted _ _ (λ no. doubt (λ is. no is.in_order.absent));
    marked = sorted _ _ (λ no. doubt (λ is. no is.in_order.marked));
    unmarked = sorted _ _ (λ no. doubt (λ is. no is.in_order.unmarked));
  };
  once = λ q. at_most _ _ (λ no. doubt (λ is. no (is.once q)));
  named = all (λ f. f.name.id.0 ≡ sha256 f.bytes) (λ f. same_bytes f.name.id.0 (sha256 f.bytes)) c.adds (λ no. doubt (λ is. no is.named));
  writes = λ none. doubt (λ is. is.writes none);
}

-- nor is there a request of which that is open
pub formed : (request : Request) → ¬ (¬ IsFormed request) → IsFormed request
formed (Commit p) doubt = well_formed p.change doubt
formed (Undo n) doubt = tt
formed (Redo n) doubt = tt
formed (Empty n) doubt = tt
