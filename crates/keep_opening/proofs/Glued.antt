-- What was tested of a shelf makes its reading, or keeps it from having one.
use Rattle.std.proofs.Common.{◌≡◌, ℕ, cond, List, [], ◌∷◌, Option, Some, None, refl, sym, ap, ◌∙◌, subst}
use Rattle.std.specs.Prelude.{Result, Ok, Err, IfOk, IfErr, unwrap_or}
use Rattle.std.specs.FinMap as finite
use Rattle.std.specs.List.{list_any}
use Rattle.std.specs.Option.{option_or}
use Rattle.std.proofs.lemmas.List.Elements.{All-weaker}
use Rattle.keep_names.proofs.Orders.{name_exact, name_total}
use Rattle.keep_names.specs.Orders.{name_cmp}
use Rattle.keep_names.specs.declared.file_name.FileName.{FileName}
use Rattle.keep_change.specs.Fold.{fold_of}
use Rattle.keep_change.specs.Form.{IsWellFormed}
use Rattle.keep_journal.specs.History.{committed, length_of}
use Rattle.keep_journal.specs.Journal.{Journal}
use Rattle.keep_journal.specs.Kept.{kept}
use Rattle.keep_journal.specs.Opening.{AreWellFormed, IsOpen, unfold_of}
use Rattle.keep_journal.specs.declared.event.Entry as the_entry
use Rattle.keep_journal.proofs.Long.{as_long}
use Rattle.keep_moves.specs.Move.{Stand, key_eq}
use Rattle.keep_moves.proofs.Keys.{key_eq_same}
use Rattle.keep_opening.specs.Filing.{live_into, with_live}
use Rattle.keep_opening.specs.Opened.{IsRefused, IsRight, live_with, marks_alone, opening_in}
use Rattle.keep_opening.proofs.Joined.{either, join, or_none}
use Rattle.keep_opening.proofs.Whole.{found_there}
use Rattle.keep_reading.specs.Bad.{first_bad}
use Rattle.keep_reading.specs.Checks.{AreLive, Files, Passes, TellAJournal, opening_from}
use Rattle.keep_reading.specs.Leaves.{AreLeaves, entries_of}
use Rattle.keep_reading.specs.Reads.{Reads, all_of, told}
use Rattle.keep_reading.specs.Settled.{settled}
use Rattle.keep_reading.specs.declared.leaf.Leaf.{Leaf}
use Rattle.keep_reading.proofs.Bad.{none_is_bad, one_is_bad}
use Rattle.keep_reading.proofs.Checked.{IsProperChange, told_proper, what_passes_is_read_lem, what_reads_passes_lem}
use Rattle.keep_reading.proofs.Openings.{files_under}
use Rattle.keep_repo.specs.Repository.{Repository}
use Rattle.keep_shelf.specs.Shelved.{Content}
use Rattle.keep_shelf.specs.declared.key.Key.{Key}
use Rattle.keep_shelf.specs.declared.key.Key.TheVariants.{Live, Trash, Entry}

-- ---- what holds of results

pub if_ok_two : {A E : Type 0} (r : Result A E) (P Q S : A → Type 0) → IfOk r P → IfOk r Q → ((x : A) → P x → Q x → S x) → IfOk r S
if_ok_two (Ok x) P Q S p q so = so x p q
if_ok_two (Err e) P Q S p q so = tt

pub if_ok_three : {A E : Type 0} (r : Result A E) (P Q R S : A → Type 0) → IfOk r P → IfOk r Q → IfOk r R → ((x : A) → P x → Q x → R x → S x) → IfOk r S
if_ok_three (Ok x) P Q R S p q t so = so x p q t
if_ok_three (Err e) P Q R S p q t so = tt

pub if_err_two : {A E : Type 0} (r : Result A E) (P Q S : E → Type 0) → IfErr r P → IfErr r Q → ((x : E) → P x → Q x → S x) → IfErr r S
if_err_two (Ok x) P Q S p q so = tt
if_err_two (Err e) P Q S p q so = so e p q

-- ---- live files

live_step : (key : Key) (found : Option (List ℕ)) (r : Repository) (name : FileName)
    → finite.get (with_live key found r).files name ≡ cond (key_eq (Live name) key) (option_or found (finite.get r.files name)) (finite.get r.files name)
live_step (Live other) (Some bytes) r name = finite.get-insert name_total r.files other bytes name
live_step (Live other) None r name = either (key_eq (Live name) (Live other)) (finite.get r.files name)
live_step (Trash n other) found r name = refl
live_step (Entry k) found r name = refl

live_at : (content : Content) (keys : List Key) (r : Repository) (name : FileName)
    → finite.get (live_into content keys r).files name ≡ option_or (cond (list_any (key_eq (Live name)) keys) (finite.get content (Live name)) None) (finite.get r.files name)
live_at content [] r name = refl
live_at content (key ∷ keys) r name =
    live_at content keys (with_live key (finite.get content key) r) name
    ∙ ap (option_or (cond (list_any (key_eq (Live name)) keys) (finite.get content (Live name)) None)) (live_step key (finite.get content key) r name)
    ∙ join (key_eq (Live name) key) (list_any (key_eq (Live name)) keys) (finite.get content (Live name)) (finite.get content key) (finite.get r.files name)
    (λ same. ap (finite.get content) (sym (key_eq_same (Live name) key same)))

same_marks : (key : Key) (found : Option (List ℕ)) (r : Repository) → (with_live key found r).marks ≡ r.marks
same_marks (Live name) (Some bytes) r = refl
same_marks (Live name) None r = refl
same_marks (Trash n name) found r = refl
same_marks (Entry k) found r = refl

marks_stay : (content : Content) (keys : List Key) (r : Repository) → (live_into content keys r).marks ≡ r.marks
marks_stay content [] r = refl
marks_stay content (key ∷ keys) r = marks_stay content keys (with_live key (finite.get content key) r) ∙ same_marks key (finite.get content key) r

pub live_found : (content : Content) (r : Repository) (name : FileName) → r.files ≡ finite.empty → finite.get (live_with content r).files name ≡ finite.get content (Live name)
live_found content r name bare =
    live_at content (finite.keys content) r name
    ∙ ap (option_or (cond (list_any (key_eq (Live name)) (finite.keys content)) (finite.get content (Live name)) None)) (ap (λ (files : Files). finite.get files name) bare ∙ finite.get-empty name_cmp name)
    ∙ or_none (cond (list_any (key_eq (Live name)) (finite.keys content)) (finite.get content (Live name)) None)
    ∙ found_there content (Live name)

-- ---- a leaf with which something is wrong

pub refused_first : (stand : Stand) (leaves : List Leaf) (k : ℕ) → AreLeaves stand leaves → first_bad leaves ≡ Some k → IsRefused stand k
refused_first stand leaves k are bad = record {
  leaves = leaves;
  are = are;
  which = sym (ap (λ o. unwrap_or o (length_of (all_of (entries_of leaves)))) bad);
  unread = λ o j reads. one_is_bad stand leaves k o j are bad reads;
}

-- ---- no leaf with which something is wrong

module _ (stand : Stand) (leaves : List Leaf) (are : AreLeaves stand leaves) (none : first_bad leaves ≡ None) where
  es : List the_entry.Entry
  es = entries_of leaves

  journal : TellAJournal stand (entries_of leaves)
  journal = none_is_bad stand leaves are none

  pub tells_formed : (j : Journal) → j ≡ told (entries_of leaves) → AreWellFormed j
  tells_formed j tells =
      subst AreWellFormed (sym tells)
      (All-weaker IsProperChange (λ n. IsWellFormed n.change) (λ n h. h.0) (committed (told (entries_of leaves))) (told_proper (entries_of leaves) journal.lists.each))

  module _ (j : Journal) (tells : j ≡ told (entries_of leaves)) (marked : Repository) (alone : marked ≡ marks_alone leaves) (content : Content) (made : finite.get content ≡ settled j stand) where
    found : (name : FileName) → finite.get (live_with content marked).files name ≡ finite.get content (Live name)
    found name = live_found content marked name (ap (λ (r : Repository). r.files) alone)

    are_live : AreLive (told (entries_of leaves)) stand (live_with content marked).files
    are_live name =
        ap (λ (i : Journal). settled i stand (Live name)) (sym tells) ∙ ap (λ (g : Stand). g (Live name)) (sym made) ∙ sym (found name)

    same_opening : opening_in j content marked ≡ opening_from (live_with content marked).files (entries_of leaves)
    same_opening =
        let live = live_with content marked in
        let files = files_under (kept j) live (record { files = live.files; marks = finite.empty }) refl
        ∙ ap (λ (i : Journal). (unfold_of (kept i) (record { files = live.files; marks = finite.empty })).files) tells in
        let marks = marks_stay content (finite.keys content) marked ∙ ap (λ (r : Repository). r.marks) alone in
        λ i. record { files = files i; marks = marks i }

    passes : IsRight j content (opening_in j content marked) → Passes stand (entries_of leaves) (live_with content marked).files
    passes right =
        let right_told : IsRight (told (entries_of leaves)) content (opening_from (live_with content marked).files (entries_of leaves)) =
        subst (λ (o : Repository). IsRight (told (entries_of leaves)) content o) same_opening (subst (λ (i : Journal). IsRight i content (opening_in j content marked)) tells right) in
        record {
          journal = journal;
          live = are_live;
          unbroken = right_told.unbroken;
          same = finite.same_map name_total name_exact _ _ (λ name. sym (right_told.live name) ∙ sym (found name));
          trash = λ n name. ap (λ (i : Journal). settled i stand (Trash n name)) (sym tells) ∙ ap (λ (g : Stand). g (Trash n name)) (sym made) ∙ right_told.trash n name;
        }

    reads_told : IsRight j content (opening_in j content marked) → Reads stand (opening_from (live_with content marked).files (entries_of leaves)) (told (entries_of leaves))
    reads_told right = what_passes_is_read_lem stand (entries_of leaves) (live_with content marked).files (passes right)

    -- what is right is read
    pub right_reads : IsRight j content (opening_in j content marked) → Reads stand (opening_in j content marked) j
    right_reads right =
        subst (λ (i : Journal). Reads stand (opening_in j content marked) i) (sym tells)
        (subst (λ (o : Repository). Reads stand o (told (entries_of leaves))) (sym same_opening) (reads_told right))

    pub right_open : (live : Repository) → IsRight j content (opening_in j content marked) → live ≡ fold_of (kept j) (opening_in j content marked) → IsOpen (opening_in j content marked) j live
    right_open live right is =
        let reads = right_reads right in
        subst (λ (r : Repository). IsOpen (opening_in j content marked) j r) (reads.is_open.state ∙ sym is) reads.is_open

    -- and what isn't has no reading
    pub wrong_refused : (k : ℕ) → k ≡ length_of j → (IsRight j content (opening_in j content marked) → ⊥) → IsRefused stand k
    wrong_refused k number wrong = record {
      leaves = leaves;
      are = are;
      which = number ∙ ap length_of tells ∙ as_long (entries_of leaves) journal.follow
          ∙ sym (ap (λ o. unwrap_or o (length_of (all_of (entries_of leaves)))) none);
      unread = λ o i reads.
          let passed = what_reads_passes_lem stand o i (entries_of leaves) (live_with content marked).files reads journal.lists are_live in
          wrong (subst (λ (x : Journal). IsRight x content (opening_in j content marked)) (sym tells)
          (subst (λ (p : Repository). IsRight (told (entries_of leaves)) content p) (sym same_opening) (record {
            unbroken = passed.unbroken;
            live = λ name. sym (found name) ∙ ap (λ (files : Files). finite.get files name) (sym passed.same);
            trash = λ n name. ap (λ (g : Stand). g (Trash n name)) made ∙ ap (λ (x : Journal). settled x stand (Trash n name)) tells ∙ passed.trash n name;
          })));
    }
