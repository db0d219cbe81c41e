-- What a shelf says is what a ledger over it keeps.
use Rattle.std.proofs.Common.{◌≡◌, ℕ, ◌+◌, ◌<◌, ◌==◌, nat_lt, Bool, true, false, cond, List, [], ◌∷◌, ◌++◌, length, map, Option, Some, None, is_some, refl, sym, ap, ◌∙◌, arith, subst, append-nil, append_assoc}
use Rattle.std.specs.FinMap as finite
use Rattle.std.specs.List.{AllByRecursion, cons_option, filter}
use Rattle.std.specs.Option.{option_to_list}
use Rattle.std.proofs.lemmas.Bool.{eq-eqb, lt-ltb}
use Rattle.std.proofs.lemmas.Grind.{fold-append}
use Rattle.keep_repo.specs.Repository.{Repository}
use Rattle.keep_change.specs.Fold.{Numbered}
use Rattle.keep_journal.specs.History.{committed, final_number, CountsFrom, IsNumbered}
use Rattle.keep_journal.specs.Journal.{Journal}
use Rattle.keep_journal.specs.Kept.{above}
use Rattle.keep_journal.specs.Opening.{IsOpen, opening_under}
use Rattle.keep_journal.specs.declared.event.Entry as the_entry
use Rattle.keep_journal.specs.Lasting.{entry_at, lasts, lasting_among, lasting}
use Rattle.keep_journal.proofs.KeptTold.{told_is_told}
use Rattle.keep_shelf.specs.Shelved.{Content, Shelved, called}
use Rattle.keep_shelf.specs.declared.key.Key.TheVariants.{Live, Trash, Entry}
use Rattle.keep_moves.specs.Behind.{IsBehind}
use Rattle.keep_moves.specs.Calls.{Make, left_by, looks, played}
use Rattle.keep_moves.specs.Laws.{EntriesStand}
use Rattle.keep_moves.specs.Move.{Stand}
use Rattle.keep_moves.specs.declared.moves.Move.{Move}
use Rattle.keep_moves.proofs.Erased.{all_filtered, all_weaker}
use Rattle.keep_reading.specs.Lists.{IsListed}
use Rattle.keep_reading.specs.Reads.{Reads, all_of}
use Rattle.keep_reading.specs.Due.{IsMoveOf, IsRead}
use Rattle.keep_opening.specs.Remaining.{IsDue, due_in}
use Rattle.keep_opening.proofs.Resting.{due_leads}
use Rattle.keep_touch.specs.Mentions.{AreNoted}
use Rattle.keep_touch.specs.declared.mention.Mention.{Mention}
use Rattle.keep_touch.specs.declared.touch.Touch.{Touch}
use Rattle.keep_ledger.specs.OnShelf.{IsKept, OnShelf, ledger_on, settled}
use Rattle.keep_ledger.specs.Opened.{IsOpened, IsReadOf}
use Rattle.keep_ledger.proofs.Steps.{open_under, opening_told}

-- ---- the entries that are still told stand there

each_found : (es : List the_entry.Entry) → AllByRecursion (λ e. is_some (entry_at es e.at) ≡ true) es
each_found [] = tt
each_found (e ∷ es) = (
  ap (λ b. is_some (cond b (Some e) (entry_at es e.at))) (eq-eqb e.at e.at refl),
  all_weaker (λ d. is_some (entry_at es d.at) ≡ true) (λ d. is_some (entry_at (e ∷ es) d.at) ≡ true) (λ d found. by (e.at == d.at) (entry_at es d.at) found) es (each_found es),
)
  where
    by : (b : Bool) (o : Option the_entry.Entry) → is_some o ≡ true → is_some (cond b (Some e) o) ≡ true
    by true o found = refl
    by false o found = found

filled : (o : Option (List ℕ)) (a : Option the_entry.Entry) → IsListed o a → is_some a ≡ true → is_some o ≡ true
filled None None listed found = cc found
filled None (Some e) listed found = absurd listed
filled (Some bytes) a listed found = refl

pub told_stand : (stand : Stand) (opening : Repository) (j : Journal) → Reads stand opening (lasting j) → EntriesStand j stand
told_stand stand opening j r =
    let f = final_number (all_of r.entries) in
    let all = all_weaker (λ (e : the_entry.Entry). is_some (entry_at r.entries e.at) ≡ true) (λ e. is_some (stand (Entry e.at)) ≡ true)
    (λ e found. filled (stand (Entry e.at)) (entry_at r.entries e.at) (r.lists.listed e.at) found) r.entries (each_found r.entries) in
    subst (λ (i : Journal). AllByRecursion (λ (e : the_entry.Entry). is_some (stand (Entry e.at)) ≡ true) i.entries) (sym r.tells)
    (all_weaker (λ (e : the_entry.Entry). (is_some (stand (Entry e.at)) ≡ true) × (lasts f e.event ≡ true)) (λ e. is_some (stand (Entry e.at)) ≡ true) (λ e both. both.0) (lasting_among f r.entries)
    (all_filtered (λ (e : the_entry.Entry). is_some (stand (Entry e.at)) ≡ true) (λ e. lasts f e.event) r.entries all))

-- ---- what is read

module _ (content : Content) (opening : Repository) (j : Journal) (live : Repository) (reads : Reads (finite.get content) opening j) (is : IsOpen opening j live) where
  told_again : lasting j ≡ j
  told_again = ap lasting reads.tells ∙ told_is_told (all_of reads.entries) ∙ sym reads.tells

  -- nothing of it is final that it wasn't when it began
  pub begins_final : j.base ≡ final_number j
  begins_final = sym (ap (λ (i : Journal). i.base) told_again)

  leads : IsDue j (due_in j content) (finite.get content)
  leads = due_leads content opening j reads

  same_live : reads.live ≡ live
  same_live = reads.is_open.state ∙ sym is.state

  behind_it : IsBehind j live (due_in j content) (finite.get content)
  behind_it = record {
    can = leads.can;
    rest = record {
      files = λ name. leads.files (Live name) refl ∙ reads.files name ∙ ap (λ (r : Repository). finite.get r.files name) same_live;
      trash = λ n name. leads.files (Trash n name) refl ∙ reads.trash n name;
    };
  }

  says_it : IsRead (opening_under j live) j (due_in j content) (finite.get content)
  says_it = record {
    reads = subst (λ o. Reads (finite.get content) o (lasting j)) (sym (opening_told opening j live is)) (subst (Reads (finite.get content) opening) (sym told_again) reads);
    belong = subst (λ i. AllByRecursion (IsMoveOf i) (due_in j content)) (sym told_again) leads.belong;
  }

  -- a ledger keeps it, with these moves due
  pub kept_of : (touch : Touch) (moves : List Move) (s : Shelved) → AreNoted touch j → moves ≡ due_in j content → s.content ≡ content → IsKept j live touch moves 0 s
  kept_of touch moves s noted due same = record {
    consistent = record { is_open = open_under opening j live is; noted = noted };
    within = omega arith;
    behind = subst (λ ms. IsBehind j live ms (finite.get s.content)) (sym due) (subst (λ d. IsBehind j live (due_in j content) (finite.get d)) (sym same) behind_it);
    reads = subst (λ ms. IsRead (opening_under j live) j ms (finite.get s.content)) (sym due) (subst (λ d. IsRead (opening_under j live) j (due_in j content) (finite.get d)) (sym same) says_it);
  }

-- ---- the changes of a history in which none is final

pub all_above : (j : Journal) → IsNumbered j → above j j.base ≡ committed j
all_above j numbered = by (j.base + 1) (committed j) numbered.commits (omega arith)
  where
    by : (k : ℕ) (cs : List Numbered) → CountsFrom k cs → j.base < k → filter (λ c. nat_lt j.base c.number) cs ≡ cs
    by k [] h low = refl
    by k (c ∷ cs) h low =
        let first : c.number ≡ k = h.0 in
        rw (lt-ltb j.base c.number (omega arith)) (ap (λ ds. c ∷ ds) (by (k + 1) cs h.1 (omega arith)))

-- one more is noted, or none
pub one_noted : (old new all rest : List Mention) (o : Option Mention) → new ≡ old ++ option_to_list o → old ++ cons_option o rest ≡ all → new ++ rest ≡ all
one_noted old new all rest None more so_far = ap (λ ms. ms ++ rest) (more ∙ append-nil old) ∙ so_far
one_noted old new all rest (Some m) more so_far = ap (λ ms. ms ++ rest) more ∙ append_assoc old (m ∷ []) rest ∙ so_far

-- ---- what is opened

pub read_of : (s left : Shelved) (opening : Repository) (j : Journal) (live after : Repository) (due : List Move) → Reads (finite.get s.content) opening j → IsOpen opening j live → after ≡ live
    → due ≡ due_in j s.content → left ≡ played (looks (1 + length (finite.keys s.content))) s → IsReadOf s (ledger_on j after due left)
read_of s left opening j live after due reads is same due_is looked_on = record {
  reads = subst (λ r. Reads (finite.get s.content) (opening_under j r) j) (sym same) (subst (λ o. Reads (finite.get s.content) o j) (sym (opening_told opening j live is)) reads);
  is_open = subst (λ (r : Repository). IsOpen (opening_under j r) j r) (sym same) (open_under opening j live is);
  due = due_is;
  shelf = looked_on;
}

-- once the moves that were left are made
pub opened_of : (s : Shelved) (b after : OnShelf) → IsReadOf s b → after ≡ settled b → IsOpened s after
opened_of s b after is all =
    let reads = looks (1 + length (finite.keys s.content)) in
    let moves = map Make (due_in b.state.events s.content) in
    let whole : played (map Make b.due) b.shelf ≡ played (reads ++ moves) s =
    ap (λ ms. played (map Make ms) b.shelf) is.due ∙ ap (played moves) is.shelf
    ∙ sym (fold-append (λ (t : Shelved) call. called t (left_by t.content call)) s reads moves) in
    subst (IsOpened s) (sym all) (record { reads = is.reads; is_open = is.is_open; due = refl; shelf = whole })
