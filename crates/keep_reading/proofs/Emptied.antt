-- The entry of an emptying makes a shelf say that the emptying is in, and what it erases is over.
use Rattle.std.proofs.Common.{◌≡◌, ℕ, ◌<◌, ◌==◌, nat_le, Bool, true, false, cond, ◌||◌, inl, inr, List, [], ◌∷◌, ◌++◌, map, Option, Some, None, IfSome, refl, sym, ap, ◌∙◌, arith, subst}
use Rattle.std.specs.List.{All, AllByRecursion, filter, find, flat_map}
use Rattle.std.specs.Option.{option_and_then, option_map, option_map_or, unwrap_or}
use Rattle.std.proofs.lemmas.Bool.{cases_eq, cases_lt, le-leb, lt-leb}
use Rattle.std.proofs.lemmas.List.Folds.{list_any-append}
use Rattle.keep_names.specs.declared.file_name.FileName.{FileName}
use Rattle.keep_repo.specs.Repository.{Repository}
use Rattle.keep_repo.specs.declared.facet.Facet.TheVariants.{File}
use Rattle.keep_change.specs.Fold.{Numbered}
use Rattle.keep_change.specs.Form.{IsWellFormed}
use Rattle.keep_change.specs.Law.{HaveNoFacetTwice}
use Rattle.keep_change.specs.Marks.{marks_of}
use Rattle.keep_change.specs.Touch.{after_of, before_of}
use Rattle.keep_change.specs.declared.change.Change.{Change}
use Rattle.keep_change.specs.declared.change.PackMark.{PackMark}
use Rattle.keep_change.proofs.Records.{or_later, or_neither}
use Rattle.keep_journal.specs.Event.{emptying}
use Rattle.keep_journal.specs.History.{change_of, committed, final_number, is_in_force, ComesNext, IsLegal, IsNumbered}
use Rattle.keep_journal.specs.Journal.{Journal, posted}
use Rattle.keep_journal.specs.Opening.{AreWellFormed, IsOpen}
use Rattle.keep_journal.specs.declared.event.Entry as the_entry
use Rattle.keep_journal.specs.declared.event.Event.{Event}
use Rattle.keep_journal.proofs.Commits.{committed-Empty, final_number-push, is_in_force-push, last_marks-push}
use Rattle.keep_journal.specs.Lasting.{entry_at, lasting_among, lasting}
use Rattle.keep_journal.proofs.KeptTold.{is_open, told_shrinks}
use Rattle.keep_journal.proofs.Legal.{legal_numbered}
use Rattle.keep_journal.proofs.Within.{IsWithin, follow_within, told_deep, turns_within}
use Rattle.keep_entries.specs.Entry.{Fits}
use Rattle.keep_entries.specs.Spelling.{entry_text}
use Rattle.keep_shelf.specs.declared.key.Key.{Key}
use Rattle.keep_shelf.specs.declared.key.Key.TheVariants.{Live, Trash, Entry}
use Rattle.keep_moves.specs.Course.{with_entry}
use Rattle.keep_moves.specs.Laws.{IsSettled}
use Rattle.keep_moves.specs.Lists.{entry_keys, is_silenced, made_final, swept_keys, trash_of}
use Rattle.keep_moves.specs.Move.{Stand, key_eq}
use Rattle.keep_moves.specs.Standing.{file_bytes, trashed}
use Rattle.keep_moves.specs.declared.moves.Move.TheVariants.{Erase}
use Rattle.keep_moves.proofs.Begun.{trashed_same}
use Rattle.keep_moves.proofs.Erased.{all_mapped, all_weaker, is_in}
use Rattle.keep_moves.proofs.Keys.{key_eq_refl}
use Rattle.keep_moves.proofs.Silenced.{in_no_entries, in_past, left_standing}
use Rattle.keep_moves.proofs.Trash.{in_no_trash, kept_trash}
use Rattle.keep_reading.specs.Reads.{Reads, all_of, marks_in, told}
use Rattle.keep_reading.specs.Settled.{last_event, settled, settled_by}
use Rattle.keep_reading.specs.Due.{BelongsTo, IsMoveOf, IsOver, IsRead}
use Rattle.keep_reading.specs.Laws.{EmptyingBegins}
use Rattle.keep_reading.proofs.Begins.{follow_more, lists_more, same_final, trash_told}
use Rattle.keep_reading.proofs.Entering.{entry_old, last_event-push, the_new}

-- each of some keys is among them
all_in : (keys : List Key) → AllByRecursion (λ q. is_in q keys ≡ true) keys
all_in [] = tt
all_in (key ∷ keys) = (
  ap (λ b. b || is_in key keys) (key_eq_refl key),
  all_weaker (λ q. is_in q keys ≡ true) (λ q. is_in q (key ∷ keys) ≡ true) (λ q there. or_later (key_eq q key) (is_in q keys) there) keys (all_in keys),
)

none_mapped : {X Y : Type 0} (f : X → Y) (o : Option X) → None ≡ option_map f o → o ≡ None
none_mapped f None e = refl
none_mapped f (Some x) e = cc e

the_second : (a b : Bool) → a ≡ false → (a || b) ≡ true → b ≡ true
the_second true b off e = cc off
the_second false b off e = e

module _ (opening next live : Repository) (j : Journal) (k n : ℕ) (marks : List PackMark) (stand : Stand) (legal : IsLegal j)
    (comes : ComesNext j (record { at = k; event = emptying n marks })) (below : final_number j < n) (fits : Fits (emptying n marks))
    (opens : IsOpen next (posted j k (emptying n marks)) live) (is : IsSettled j live stand) (reads : Reads stand opening (lasting j)) where
  abbrev e : Event
  e = emptying n marks

  abbrev after : Journal
  after = lasting (posted j k (emptying n marks))

  abbrev f : ℕ
  f = final_number j

  abbrev es : List the_entry.Entry
  es = reads.entries

  numbered : IsNumbered j
  numbered = legal_numbered j legal

  within : AllByRecursion (IsWithin (final_number j)) j.entries
  within = turns_within (final_number j) (record { base = j.base; entries = [] }) j.entries legal (omega arith)

  formed : AreWellFormed j
  formed = subst (λ (cs : List Numbered). All (λ c. IsWellFormed c.change) cs) (committed-Empty j k n marks) opens.formed

  once : HaveNoFacetTwice (committed j)
  once i d there = (formed i d there).once

  es_final : final_number (all_of es) ≡ final_number j
  es_final = same_final opening j stand reads

  -- ---- what it tells

  same_told : lasting_among f j.entries ≡ lasting_among f es
  same_told = ap (λ (i : Journal). i.entries) reads.tells ∙ ap (λ g. lasting_among g es) es_final

  same_later : lasting_among n j.entries ≡ lasting_among n es
  same_later =
      sym (told_deep f n below j.entries within) ∙ ap (lasting_among n) same_told
      ∙ told_deep f n below es (follow_within f 0 es reads.follow (omega (arith, es_final)))

  shrinks : after ≡ posted (record { base = n; entries = lasting_among n j.entries }) k (emptying n marks)
  shrinks = told_shrinks j k n marks

  tells : after ≡ told (es ++ the_new k (emptying n marks) ∷ [])
  tells =
      shrinks ∙ ap (λ xs. posted (record { base = n; entries = xs }) k (emptying n marks)) same_later
      ∙ sym (told_shrinks (all_of es) k n marks)

  has_marks : marks_of next ≡ marks_in (es ++ the_new k (emptying n marks) ∷ [])
  has_marks =
      let own : marks ≡ marks_of next = subst (λ (o : Option (List PackMark)). IfSome o (λ ms. ms ≡ marks_of next)) (last_marks-push j k (emptying n marks)) opens.marks in
      sym own ∙ sym (ap (λ o. unwrap_or o []) (last_marks-push (all_of es) k (emptying n marks)))

  last : last_event after ≡ Some (emptying n marks)
  last = ap last_event shrinks ∙ last_event-push (record { base = n; entries = lasting_among n j.entries }) k (emptying n marks)

  -- ---- what stands there

  settles : (q : Key) → settled after (with_entry k (emptying n marks) stand) q ≡ settled_by after n (emptying n marks).kind (with_entry k (emptying n marks) stand) q
  settles q = ap (λ o. option_map_or (λ (d : Event). settled_by after d.number d.kind (with_entry k (emptying n marks) stand)) o (with_entry k (emptying n marks) stand) q) last

  trash_after : (m : ℕ) (name : FileName) → cond (nat_le m n) None (stand (Trash m name)) ≡ trashed (posted j k (emptying n marks)) m name
  trash_after m name =
      ap (cond (nat_le m n) None) (is.trash m name)
      ∙ elim (cases_lt n m) [
        | inl above ↦
            ap (λ b. cond b None (trashed j m name)) (lt-leb m n above)
            ∙ sym (trashed_same j (posted j k (emptying n marks)) m name (ap (nat_le m) final ∙ lt-leb m n above ∙ sym (lt-leb m (final_number j) (omega arith))) (is_in_force-push j k (emptying n marks) m) (same_change m))
        | inr upto ↦
            ap (λ b. cond b None (trashed j m name)) (le-leb m n upto)
            ∙ sym (ap (λ b. cond b None (option_and_then (λ (d : Change). file_bytes (cond (is_in_force (posted j k (emptying n marks)) m) (before_of d (File name)) (after_of d (File name)))) (change_of (posted j k (emptying n marks)) m))) (ap (nat_le m) final ∙ le-leb m n upto))
      ]
    where
      final : final_number (posted j k (emptying n marks)) ≡ n
      final = final_number-push j k (emptying n marks)

      same_change : (i : ℕ) → change_of (posted j k (emptying n marks)) i ≡ change_of j i
      same_change i = ap (λ cs. option_map (λ (d : Numbered). d.change) (find (λ (d : Numbered). d.number == i) cs)) (committed-Empty j k n marks)

  -- ---- what it erases

  abbrev trash : List Key
  trash = flat_map (trash_of j) (made_final j (final_number j) n)

  abbrev out : the_entry.Entry → Bool
  out x = is_silenced (final_number j) n x.event

  abbrev gone : List Key
  gone = entry_keys (filter (λ x. is_silenced (final_number j) n x.event) j.entries)

  in_both : (q : Key) → is_in q (swept_keys j n) ≡ (is_in q trash || is_in q gone)
  in_both q = list_any-append (key_eq q) trash gone

  over : (q : Key) → is_in q (swept_keys j n) ≡ true → IsOver n after q
  over (Live name) there =
      let none = or_neither (is_in (Live name) trash) (is_in (Live name) gone) (in_no_trash (Live name) (λ m x. refl) j (made_final j (final_number j) n)) (in_no_entries (Live name) (λ i. refl) (filter out j.entries)) in
      cc (sym there ∙ in_both (Live name) ∙ none)
  over (Trash m name) there = elim (cases_lt n m) [
    | inl above ↦
        let none = or_neither (is_in (Trash m name) trash) (is_in (Trash m name) gone) (kept_trash j n numbered once m name above) (in_no_entries (Trash m name) (λ i. refl) (filter out j.entries)) in
        cc (sym there ∙ in_both (Trash m name) ∙ none)
    | inr upto ↦ upto
  ]
  over (Entry i) there =
      let among : is_in (Entry i) gone ≡ true = the_second (is_in (Entry i) trash) (is_in (Entry i) gone) (in_no_trash (Entry i) (λ m name. refl) j (made_final j (final_number j) n)) (sym (in_both (Entry i)) ∙ there) in
      elim (cases_eq i k) [
        | inl same ↦ cc (sym among ∙ ap (λ x. is_in (Entry x) gone) same ∙ in_past out 0 k j.entries numbered.events comes.above)
        | inr other ↦
            let left = left_standing (final_number j) n below 0 i j.entries numbered.events within in
            let none = none_mapped (λ (x : the_entry.Entry). entry_text x.event) (entry_at (lasting_among n j.entries) i) (sym (ap (λ b. cond b None (option_map (λ (x : the_entry.Entry). entry_text x.event) (entry_at (lasting_among (final_number j) j.entries) i))) among) ∙ left) in
            ap (λ (d : Journal). entry_at d.entries i) shrinks ∙ entry_old k (emptying n marks) (lasting_among n j.entries) i other ∙ none
      ]

  belong : AllByRecursion (IsMoveOf after) (map Erase (swept_keys j n))
  belong =
      all_mapped (IsMoveOf after) Erase (swept_keys j n)
      (all_weaker (λ q. is_in q (swept_keys j n) ≡ true) (λ q. IsMoveOf after (Erase q))
      (λ q there. subst (λ o. BelongsTo after o (Erase q)) (sym last) (over q there)) (swept_keys j n) (all_in (swept_keys j n)))

  begins : IsRead next (posted j k (emptying n marks)) (map Erase (swept_keys j n)) (with_entry k (emptying n marks) stand)
  begins = record {
    reads = record {
      entries = es ++ the_new k (emptying n marks) ∷ [];
      lists = lists_more opening next live j k (emptying n marks) stand legal comes below fits opens (inl (last_marks-push j k (emptying n marks))) reads;
      follow = follow_more opening next live j k (emptying n marks) stand legal comes below fits opens (inl (last_marks-push j k (emptying n marks))) reads;
      tells = tells;
      marks = has_marks;
      live = live;
      is_open = is_open next (posted j k (emptying n marks)) live opens;
      files = λ name. settles (Live name) ∙ is.files name;
      trash = λ m name. settles (Trash m name) ∙ trash_after m name ∙ sym (trash_told (posted j k (emptying n marks)) m name);
    };
    belong = belong;
  }

pub emptying_begins : EmptyingBegins
emptying_begins opening next live j k n marks stand legal comes below fits opens is read =
    begins opening next live j k n marks stand legal comes below fits opens is read.reads
