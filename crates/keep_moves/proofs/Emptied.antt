-- The entry of an emptying is put: its erasures can be made, and lead to what it leaves.
use Rattle.std.proofs.Common.{◌≡◌, ℕ, ◌<◌, ◌==◌, nat_le, Bool, true, false, cond, not, ◌||◌, inl, inr, List, map, Option, Some, None, is_some, refl, sym, ap, ◌∙◌, arith, subst}
use Rattle.std.specs.List.{AllByRecursion, filter, find, flat_map}
use Rattle.std.specs.Option.{option_and_then, option_map}
use Rattle.std.proofs.lemmas.Bool.{cases_lt, le-leb, lt-leb}
use Rattle.std.proofs.lemmas.List.Folds.{list_any-append}
use Rattle.keep_names.specs.declared.file_name.FileName.{FileName}
use Rattle.keep_repo.specs.Repository.{Repository}
use Rattle.keep_repo.specs.declared.facet.Facet.TheVariants.{File}
use Rattle.keep_change.specs.Fold.{Numbered}
use Rattle.keep_change.specs.Law.{HaveNoFacetTwice}
use Rattle.keep_change.specs.Touch.{after_of, before_of}
use Rattle.keep_change.specs.declared.change.Change.{Change}
use Rattle.keep_change.specs.declared.change.PackMark.{PackMark}
use Rattle.keep_change.proofs.Records.{or_neither}
use Rattle.keep_journal.specs.Event.{emptying}
use Rattle.keep_journal.specs.History.{change_of, committed, final_number, is_in_force, ComesNext, IsLegal, IsNumbered}
use Rattle.keep_journal.specs.Journal.{Journal, posted}
use Rattle.keep_journal.specs.declared.event.Entry as the_entry
use Rattle.keep_journal.proofs.Commits.{committed-Empty, final_number-push, is_in_force-push}
use Rattle.keep_journal.specs.Lasting.{lasts, lasting_among}
use Rattle.keep_journal.proofs.Filters.{filter-filter}
use Rattle.keep_journal.proofs.Legal.{legal_numbered}
use Rattle.keep_shelf.specs.declared.key.Key.{Key}
use Rattle.keep_shelf.specs.declared.key.Key.TheVariants.{Live, Trash, Entry}
use Rattle.keep_entries.specs.Spelling.{entry_text}
use Rattle.keep_moves.specs.Course.{with_entry}
use Rattle.keep_moves.specs.Laws.{EmptyIsBegun, EntriesStand, IsSettled}
use Rattle.keep_moves.specs.Lists.{entry_keys, is_silenced, made_final, swept_keys, trash_of}
use Rattle.keep_moves.specs.Move.{Stand, key_eq, moved_all}
use Rattle.keep_moves.specs.Standing.{HoldsFiles, file_bytes, trashed}
use Rattle.keep_moves.specs.declared.moves.Move.TheVariants.{Erase}
use Rattle.keep_moves.proofs.Begun.{trashed_same}
use Rattle.keep_moves.proofs.Erased.{AllFilled, Distinct, Distinct-append, all_append, all_filtered, all_mapped, all_weaker, can_erase, erased, is_in}
use Rattle.keep_moves.proofs.Silenced.{distinct_entries, in_no_entries}
use Rattle.keep_moves.proofs.Trash.{distinct_trash, emptied_trash, filled_trash, in_no_trash, kept_trash}

module _ (j : Journal) (k n : ℕ) (marks : List PackMark) (live : Repository) (g : Stand) (legal : IsLegal j) (next : ComesNext j (record { at = k; event = emptying n marks })) (below : final_number j < n) (once : HaveNoFacetTwice (committed j)) (there : EntriesStand j g) (is : IsSettled j live g) where
  abbrev numbered : IsNumbered j
  numbered = legal_numbered j legal

  abbrev h : Stand
  h = with_entry k (emptying n marks) g

  abbrev trash : List Key
  trash = flat_map (trash_of j) (made_final j (final_number j) n)

  abbrev out : the_entry.Entry → Bool
  out x = is_silenced (final_number j) n x.event

  abbrev entries : List Key
  entries = entry_keys (filter (λ x. is_silenced (final_number j) n x.event) j.entries)

  final : final_number (posted j k (emptying n marks)) ≡ n
  final = final_number-push j k (emptying n marks)

  in_both : (q : Key) → is_in q (swept_keys j n) ≡ (is_in q trash || is_in q entries)
  in_both q = list_any-append (key_eq q) trash entries

  -- ---- they can be made

  distinct : Distinct (swept_keys j n)
  distinct = Distinct-append trash entries (distinct_trash j n numbered once) (distinct_entries out 0 j.entries numbered.events) apart
    where
      apart : (q : Key) → is_in q trash ≡ true → is_in q entries ≡ false
      apart (Live name) there = in_no_entries (Live name) (λ i. refl) (filter out j.entries)
      apart (Trash m name) there = in_no_entries (Trash m name) (λ i. refl) (filter out j.entries)
      apart (Entry i) there = cc (sym there ∙ in_no_trash (Entry i) (λ m name. refl) j (made_final j (final_number j) n))

  -- the entries that it erases stand
  silenced_stand : AllByRecursion (λ x. is_some (g (Entry x.at)) ≡ true) (filter out j.entries)
  silenced_stand =
      subst (AllByRecursion (λ (x : the_entry.Entry). is_some (g (Entry x.at)) ≡ true))
      (filter-filter (λ (x : the_entry.Entry). not (lasts n x.event)) (λ x. lasts (final_number j) x.event) j.entries)
      (all_weaker (λ (x : the_entry.Entry). (is_some (g (Entry x.at)) ≡ true) × (not (lasts n x.event) ≡ true)) (λ x. is_some (g (Entry x.at)) ≡ true) (λ x both. both.0)
      (filter (λ (x : the_entry.Entry). not (lasts n x.event)) (lasting_among (final_number j) j.entries))
      (all_filtered (λ (x : the_entry.Entry). is_some (g (Entry x.at)) ≡ true) (λ x. not (lasts n x.event)) (lasting_among (final_number j) j.entries) there))

  filled : AllFilled h (swept_keys j n)
  filled = all_append (λ key. is_some (h key) ≡ true) trash entries (filled_trash j n numbered once h is.trash)
      (all_mapped (λ key. is_some (h key) ≡ true) (λ (x : the_entry.Entry). Entry x.at) (filter out j.entries)
      (all_weaker (λ x. is_some (g (Entry x.at)) ≡ true) (λ x. is_some (h (Entry x.at)) ≡ true) (λ x e. by (key_eq (Entry x.at) (Entry k)) (g (Entry x.at)) e) (filter out j.entries) silenced_stand))
    where
      by : (b : Bool) (o : Option (List ℕ)) → is_some o ≡ true → is_some (cond b (Some (entry_text (emptying n marks))) o) ≡ true
      by true o e = refl
      by false o e = e

  -- ---- and they lead to what the emptying leaves

  -- a file in the trash
  trash_left : (m : ℕ) (name : FileName) → cond (is_in (Trash m name) (swept_keys j n)) None (h (Trash m name)) ≡ trashed (posted j k (emptying n marks)) m name
  trash_left m name =
      ap (λ b. cond b None (h (Trash m name))) (in_both (Trash m name) ∙ ap (λ b. is_in (Trash m name) trash || b) (in_no_entries (Trash m name) (λ i. refl) (filter out j.entries)) ∙ or_false (is_in (Trash m name) trash))
      ∙ ap (cond (is_in (Trash m name) trash) None) (is.trash m name)
      ∙ elim (cases_lt n m) [
        | inl above ↦
            ap (λ b. cond b None (trashed j m name)) (kept_trash j n numbered once m name above)
            ∙ sym (trashed_same j (posted j k (emptying n marks)) m name (ap (nat_le m) final ∙ lt-leb m n above ∙ sym (lt-leb m (final_number j) (omega arith))) (is_in_force-push j k (emptying n marks) m) (same_change m))
        | inr upto ↦
            gone (is_in (Trash m name) trash) (trashed j m name) (emptied_trash j n numbered once m name upto)
            ∙ sym (ap (λ b. cond b None (option_and_then (λ (d : Change). file_bytes (cond (is_in_force (posted j k (emptying n marks)) m) (before_of d (File name)) (after_of d (File name)))) (change_of (posted j k (emptying n marks)) m))) (ap (nat_le m) final ∙ le-leb m n upto))
      ]
    where
      or_false : (b : Bool) → (b || false) ≡ b
      or_false true = refl
      or_false false = refl

      gone : (b : Bool) (o : Option (List ℕ)) → (b ≡ false → o ≡ None) → cond b None o ≡ None
      gone true o empty = refl
      gone false o empty = empty refl

      same_change : (m : ℕ) → change_of (posted j k (emptying n marks)) m ≡ change_of j m
      same_change m = ap (λ cs. option_map (λ (d : Numbered). d.change) (find (λ (d : Numbered). d.number == m) cs)) (committed-Empty j k n marks)

  leads : HoldsFiles (posted j k (emptying n marks)) live (moved_all (map Erase (swept_keys j n)) h)
  leads = record {
    files = λ name.
        erased (swept_keys j n) h (Live name)
        ∙ ap (λ b. cond b None (h (Live name))) (in_both (Live name) ∙ or_neither (is_in (Live name) trash) (is_in (Live name) entries) (in_no_trash (Live name) (λ m x. refl) j (made_final j (final_number j) n)) (in_no_entries (Live name) (λ i. refl) (filter out j.entries)))
        ∙ is.files name;
    trash = λ m name. erased (swept_keys j n) h (Trash m name) ∙ trash_left m name;
  }

pub empty_begun : EmptyIsBegun
empty_begun j k n marks live g legal next below once there is = record {
  can = can_erase (with_entry k (emptying n marks) g) (swept_keys j n) (distinct j k n marks live g legal next below once there is) (filled j k n marks live g legal next below once there is);
  rest = leads j k n marks live g legal next below once there is;
}
