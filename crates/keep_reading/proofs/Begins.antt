-- The entry of a commit, an undo or a redo makes a shelf say that the event is in.
use Rattle.std.proofs.Common.{◌≡◌, ℕ, ◌<◌, nat_le, Bool, true, false, cond, List, [], ◌∷◌, ◌++◌, Some, None, refl, sym, ap, ◌∙◌, arith, subst}
use Rattle.std.specs.List.{AllByRecursion}
use Rattle.std.specs.Option.{option_and_then, option_map_or, unwrap_or}
use Rattle.std.proofs.lemmas.Bool.{leb-false, lt-ltb}
use Rattle.std.proofs.lemmas.List.Elements.{Contains-push}
use Rattle.keep_names.specs.declared.file_name.FileName.{FileName}
use Rattle.keep_repo.specs.Repository.{Repository}
use Rattle.keep_repo.specs.declared.facet.Facet.TheVariants.{File}
use Rattle.keep_change.specs.Marks.{marks_of}
use Rattle.keep_change.specs.Touch.{after_of, before_of}
use Rattle.keep_change.specs.declared.change.Change.{Change}
use Rattle.keep_journal.specs.History.{change_of, final_number, is_in_force, length_of, ComesNext, IsLegal}
use Rattle.keep_journal.specs.Journal.{Journal, posted}
use Rattle.keep_journal.specs.Opening.{IsOpen}
use Rattle.keep_journal.specs.declared.event.Entry as the_entry
use Rattle.keep_journal.specs.declared.event.Event.{Event}
use Rattle.keep_journal.proofs.Commits.{final_number-push, last_marks-push}
use Rattle.keep_journal.specs.Lasting.{Follow, lasts, lasting}
use Rattle.keep_journal.proofs.KeptTold.{change_is, final_is, force_is, is_kept_by, is_open, told_grows}
use Rattle.keep_journal.proofs.Legal.{legal_numbered}
use Rattle.keep_journal.proofs.Long.{as_long}
use Rattle.keep_entries.specs.Entry.{Fits, IsEntry, Spells}
use Rattle.keep_entries.specs.Laws.{HasMarksInOrder}
use Rattle.keep_entries.specs.Spelling.{entry_text}
use Rattle.keep_entries.proofs.OpenHistories.{events_are_entries}
use Rattle.keep_shelf.specs.declared.key.Key.{Key}
use Rattle.keep_shelf.specs.declared.key.Key.TheVariants.{Live, Trash}
use Rattle.keep_moves.specs.Course.{with_entry}
use Rattle.keep_moves.specs.Lists.{moves_by, moves_of}
use Rattle.keep_moves.specs.Behind.{IsBehind}
use Rattle.keep_moves.specs.Move.{AllApart, Stand, finished_all, moved_all}
use Rattle.keep_moves.specs.Standing.{file_bytes, trashed}
use Rattle.keep_moves.proofs.Apart.{all_made}
use Rattle.keep_moves.proofs.Begun.{trashed_same}
use Rattle.keep_moves.proofs.Erased.{all_weaker}
use Rattle.keep_reading.specs.Lists.{Lists}
use Rattle.keep_reading.specs.Reads.{Reads, all_of, marks_in, told}
use Rattle.keep_reading.specs.Settled.{last_event, settled, settled_by}
use Rattle.keep_reading.proofs.Scan.{follow_push}
use Rattle.keep_reading.specs.Due.{BelongsTo, IsAmong, IsMoveOf, IsRead}
use Rattle.keep_reading.specs.Laws.{EventBegins}
use Rattle.keep_reading.proofs.Entering.{last_event-push, lists_push, the_new}
use Rattle.keep_reading.proofs.Plain.{IsPlain, all_among, plain}

-- the trash is told by what is still told
pub trash_told : (j : Journal) (n : ℕ) (name : FileName) → trashed (lasting j) n name ≡ trashed j n name
trash_told j n name = by (nat_le n (final_number j)) refl
  where
    by : (b : Bool) → nat_le n (final_number j) ≡ b → trashed (lasting j) n name ≡ trashed j n name
    by true low =
        ap (λ f. cond (nat_le n f) None (option_and_then (λ (c : Change). file_bytes (cond (is_in_force (lasting j) n) (before_of c (File name)) (after_of c (File name)))) (change_of (lasting j) n))) (final_is j)
        ∙ ap (λ b. cond b None (option_and_then (λ (c : Change). file_bytes (cond (is_in_force (lasting j) n) (before_of c (File name)) (after_of c (File name)))) (change_of (lasting j) n))) low
        ∙ sym (ap (λ b. cond b None (option_and_then (λ (c : Change). file_bytes (cond (is_in_force j n) (before_of c (File name)) (after_of c (File name)))) (change_of j n))) low)
    by false high =
        let above : final_number j < n = leb-false n (final_number j) high in
        trashed_same j (lasting j) n name (ap (nat_le n) (final_is j)) (force_is j n above) (change_is j n above)

-- the entries on a shelf have the final number of the journal that is read
pub same_final : (opening : Repository) (j : Journal) (stand : Stand) (reads : Reads stand opening (lasting j)) → final_number (all_of reads.entries) ≡ final_number j
same_final opening j stand reads = sym (ap (λ (i : Journal). i.base) reads.tells)

-- ---- the entry of an event is put

module _ (opening next live : Repository) (j : Journal) (k : ℕ) (e : Event) (stand : Stand) (legal : IsLegal j)
    (comes : ComesNext j (record { at = k; event = e })) (above : final_number j < e.number) (fits : Fits e)
    (opens : IsOpen next (posted j k e) live) (order : HasMarksInOrder (posted j k e) e.kind)
    (reads : Reads stand opening (lasting j)) where
  abbrev entries : List the_entry.Entry
  entries = reads.entries

  same_length : length_of (all_of entries) ≡ length_of j
  same_length = sym (as_long entries reads.follow) ∙ sym (ap length_of reads.tells) ∙ (is_kept_by j legal).length_is

  spelled : IsEntry (the_new k e) × Spells (entry_text e) e
  spelled = events_are_entries next live (posted j k e) (the_new k e) opens (Contains-push j.entries (the_new k e)) fits order

  pub lists_more : Lists (with_entry k e stand) (entries ++ the_new k e ∷ [])
  lists_more = lists_push k e stand entries reads.lists (omega (arith, same_length, comes.above)) spelled.0 spelled.1

  pub follow_more : Follow 0 (entries ++ the_new k e ∷ [])
  follow_more = follow_push 0 entries (the_new k e) reads.follow (omega (arith, same_final opening j stand reads, above))

-- ---- of a commit, an undo or a redo

module _ (opening live : Repository) (j : Journal) (k : ℕ) (e : Event) (stand : Stand) (p : IsPlain e.number e.kind) (legal : IsLegal j)
    (comes : ComesNext j (record { at = k; event = e })) (opens : IsOpen opening (posted j k e) live)
    (reads : Reads stand opening (lasting j)) where
  abbrev after : Journal
  after = lasting (posted j k e)

  above : final_number j < e.number
  above = p.above j (legal_numbered j legal) comes.fits

  final : final_number (posted j k e) ≡ final_number j
  final = final_number-push j k e ∙ p.final (final_number j)

  is_new : (f : ℕ) → f < e.number → lasts f e ≡ true
  is_new f low = p.told f ∙ lt-ltb f e.number low

  grows : after ≡ posted (lasting j) k e
  grows = told_grows j k e (is_new (final_number j) above) final

  tells : after ≡ told (reads.entries ++ the_new k e ∷ [])
  tells =
      grows ∙ ap (λ i. posted i k e) reads.tells
      ∙ sym (told_grows (all_of reads.entries) k e (is_new (final_number (all_of reads.entries)) (omega (arith, same_final opening j stand reads, above)))
      (final_number-push (all_of reads.entries) k e ∙ p.final (final_number (all_of reads.entries))))

  marks : marks_of opening ≡ marks_in (reads.entries ++ the_new k e ∷ [])
  marks = reads.marks ∙ sym (ap (λ o. unwrap_or o []) (last_marks-push (all_of reads.entries) k e ∙ p.marks _))

  last : last_event after ≡ Some e
  last = ap last_event grows ∙ last_event-push (lasting j) k e

  moves_are : moves_by after e.number e.kind ≡ moves_of j e
  moves_are = p.same after j k (change_is (posted j k e) e.number (omega (arith, final, above)))

  module _ (begun : IsBehind (posted j k e) live (moves_of j e) (with_entry k e stand)) where
    settles : (q : Key) → settled after (with_entry k e stand) q ≡ moved_all (moves_of j e) (with_entry k e stand) q
    settles q =
        ap (λ o. option_map_or (λ (d : Event). settled_by after d.number d.kind (with_entry k e stand)) o (with_entry k e stand) q) last
        ∙ ap (λ (g : Stand). g q) (p.settles after (with_entry k e stand))
        ∙ ap (λ ms. finished_all ms (with_entry k e stand) q) moves_are
        ∙ ap (λ (g : Stand). g q) (all_made (moves_of j e) (with_entry k e stand) begun.can)

    belong : AllByRecursion (IsMoveOf after) (moves_of j e)
    belong =
        let ms = moves_by after e.number e.kind in
        subst (AllByRecursion (IsMoveOf after)) moves_are
        (all_weaker (IsAmong ms) (IsMoveOf after) (λ m among. subst (λ o. BelongsTo after o m) (sym last) (p.belongs after m among)) ms
        (all_among ms (subst AllApart (sym moves_are) begun.can.apart) (p.off after)))

    begins : Fits e → IsRead opening (posted j k e) (moves_of j e) (with_entry k e stand)
    begins fits = record {
      reads = record {
        entries = reads.entries ++ the_new k e ∷ [];
        lists = lists_more opening opening live j k e stand legal comes above fits opens (p.order (posted j k e)) reads;
        follow = follow_more opening opening live j k e stand legal comes above fits opens (p.order (posted j k e)) reads;
        tells = tells;
        marks = marks;
        live = live;
        is_open = is_open opening (posted j k e) live opens;
        files = λ name. settles (Live name) ∙ begun.rest.files name;
        trash = λ n name. settles (Trash n name) ∙ begun.rest.trash n name ∙ sym (trash_told (posted j k e) n name);
      };
      belong = belong;
    }

pub event_begins : EventBegins
event_begins opening live j k e stand it legal comes fits opens begun read =
    begins opening live j k e stand (plain e.number e.kind it) legal comes opens read.reads begun fits
